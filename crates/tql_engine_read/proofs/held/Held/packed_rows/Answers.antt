use Rattle.std.proofs.Common.{◌<◌, sym, subst, length}
use Rattle.std.proofs.lemmas.List.Elements.{All-weaker}
use Rattle.tql_bound.specs.Placed.{IsPlacedQuery}
use Rattle.tql_bound.specs.Queries.{bound_query_of, references_of}
use Rattle.tql_catalog.specs.Tables.{definitions_of}
use Rattle.tql_exec_pairs.specs.Bags.{GivesBag}
use Rattle.tql_store.specs.StoreModel.{StoreModel}
use Rattle.tql_engine_state.specs.Allowed.{AsksWithin}
use Rattle.tql_engine_state.specs.Showing.{CanAnswer, Shows}
use Rattle.tql_engine_state.specs.Stands.{EngineModel, StandsFor}
use Rattle.tql_engine_state.proofs.Asked.{shows_now}
use Rattle.tql_engine_state.proofs.Finding.{IsThere, meaning_is, references_there, sources_readable, sources_rows}
use Rattle.tql_engine_state.proofs.ReadersShow.{can_now}
use Rattle.tql_engine_state.proofs.Standing.{place_law}
use Rattle.tql_engine_read.proofs.held.Held.packed_rows.Goals as goal

pub plan-requires : goal.plan-requires
plan-requires g c =
    let x = c.args.query.now in
    let tables = c.self.inside.tables.now in
    let placed = subst (λ (h : EngineModel). IsPlacedQuery (definitions_of h.tables) (bound_query_of x))
    (sym c.self.view_is)
    c.requires.placed in
    record {
      there = All-weaker (IsThere (definitions_of tables)) (λ r. r.table < length tables)
          (λ r k. place_law tables r.table k.table) (references_of x)
          (references_there (definitions_of tables) x placed);
    }

pub packed_rows-requires-clause-readable : goal.packed_rows-requires-clause-readable
packed_rows-requires-clause-readable g c =
    let x = c.args.query.now in
    let q = bound_query_of x in
    let placed = subst (λ (h : EngineModel). IsPlacedQuery (definitions_of h.tables) q) (sym c.self.view_is)
    c.requires.placed in
    let within = subst (λ (h : EngineModel). AsksWithin h q) (sym c.self.view_is) c.requires.within in
    let can = can_now _ c.self.invariant.state q c.self.invariant.stands c.self.invariant.typed placed within in
    sources_readable c.self.inside.tables.now _ x c.in_ok-plan.plan placed
    (subst (λ (r : StoreModel). CanAnswer c.self.inside.tables.now r q) (sym c.now-shown.ensures) can)
    c.in_ok-plan.ensures.sources

pub returns : goal.returns
returns g c s st =
    let x = c.args.query.now in
    let q = bound_query_of x in
    let tables = c.self.inside.tables.now in
    let placed = subst (λ (h : EngineModel). IsPlacedQuery (definitions_of h.tables) q) (sym c.self.view_is)
    c.requires.placed in
    let within = subst (λ (h : EngineModel). AsksWithin h q) (sym c.self.view_is) c.requires.within in
    let can = subst (λ (r : StoreModel). CanAnswer tables r q) (sym c.now-shown.ensures)
    (can_now _ c.self.invariant.state q c.self.invariant.stands c.self.invariant.typed placed within) in
    let shows = subst (λ (r : StoreModel). Shows tables r s) (sym c.now-shown.ensures)
    (shows_now _ s (subst (λ h. StandsFor h s) (sym c.self.view_is) st)) in
    let means = meaning_is tables _ s shows x c.in_ok-plan.plan placed can.there c.in_ok-plan.ensures.means in
    let given = c.packed_rows.ensures shows.copies shows.working shows.stands
    (sources_rows tables _ x c.in_ok-plan.plan placed can c.in_ok-plan.ensures.sources s shows) in
    subst (λ o. GivesBag (λ rows. rows.items) o c.packed_rows.result) means given

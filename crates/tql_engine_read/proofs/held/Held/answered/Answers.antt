use Rattle.std.proofs.Common.{◌≡◌, ◌<◌, sym, subst, length, map}
use Rattle.std.specs.Prelude.{IfOk, string_bytes}
use Rattle.std.proofs.lemmas.List.Elements.{All-weaker}
use Rattle.tql_bound.specs.Placed.{IsPlacedQuery}
use Rattle.tql_bound.specs.Queries.{bound_query_of, references_of}
use Rattle.tql_bound.specs.declared.query.BoundQuery.{BoundQuery}
use Rattle.tql_catalog.specs.Tables.{definitions_of}
use Rattle.tql_exec_steps.specs.Steps.{ordered}
use Rattle.tql_expr.specs.Evaluated.{Evaluated}
use Rattle.tql_value.specs.Views.{rows_of}
use Rattle.tql_engine_state.specs.Showing.{CanAnswer, Shows}
use Rattle.tql_engine_state.specs.Stands.{EngineModel}
use Rattle.tql_engine_state.proofs.Finding.{IsThere, meaning_is, references_there, sources_readable, sources_rows}
use Rattle.tql_engine_state.proofs.Standing.{place_law}
use Rattle.tql_engine_read.proofs.held.Held.answered.Goals as goal

pub plan-requires : goal.plan-requires
plan-requires g c =
    let x = c.args.query.now in
    let tables = c.self.inside.tables.now in
    let placed = subst (λ (h : EngineModel). IsPlacedQuery (definitions_of h.tables) (bound_query_of x))
    (sym c.self.view_is)
    c.requires.placed in
    record {
      there = All-weaker (IsThere (definitions_of tables)) (λ r. r.table < length tables)
          (λ r k. place_law tables r.table k.table) (references_of x)
          (references_there (definitions_of tables) x placed);
    }

pub run-requires-clause-readable : goal.run-requires-clause-readable
run-requires-clause-readable g c =
    let x = c.args.query.now in
    let placed = subst (λ (h : EngineModel). IsPlacedQuery (definitions_of h.tables) (bound_query_of x))
    (sym c.self.view_is)
    c.requires.placed in
    let can = subst (λ (h : EngineModel). CanAnswer h.tables c.args.shown.now (bound_query_of x)) (sym c.self.view_is)
    c.requires.can in
    sources_readable c.self.inside.tables.now _ x c.in_ok-plan.plan placed can c.in_ok-plan.ensures.sources

pub returns-clause-rows : goal.returns-clause-rows
returns-clause-rows g c s sees =
    let x = c.args.query.now in
    let tables = c.self.inside.tables.now in
    let placed = subst (λ (h : EngineModel). IsPlacedQuery (definitions_of h.tables) (bound_query_of x))
    (sym c.self.view_is)
    c.requires.placed in
    let can = subst (λ (h : EngineModel). CanAnswer h.tables c.args.shown.now (bound_query_of x)) (sym c.self.view_is)
    c.requires.can in
    let shows = subst (λ (h : EngineModel). Shows h.tables c.args.shown.now s) (sym c.self.view_is) sees in
    let means = meaning_is tables _ s shows x c.in_ok-plan.plan placed can.there c.in_ok-plan.ensures.means in
    let given = c.run.ensures.rows shows.copies shows.working shows.stands
    (sources_rows tables _ x c.in_ok-plan.plan placed can c.in_ok-plan.ensures.sources s shows) in
    subst (λ o. Evaluated (λ rows. rows_of rows.rows.items) o c.run.result)
    (λ i. ordered (bound_query_of (c.in_ok-plan.ensures.query i)).ordering (means i)) given

pub returns-clause-headings : goal.returns-clause-headings
returns-clause-headings g c =
    subst (λ (x : BoundQuery). IfOk c.run.result (λ rows. map string_bytes rows.headings.items
    ≡ (bound_query_of x).headings)) c.in_ok-plan.ensures.query c.run.ensures.headings

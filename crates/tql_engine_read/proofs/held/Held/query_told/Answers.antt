use Rattle.std.proofs.Common.{◌<◌, sym, subst, length}
use Rattle.std.proofs.lemmas.List.Elements.{All-weaker}
use Rattle.tql_bound.specs.Placed.{IsPlacedQuery}
use Rattle.tql_bound.specs.Queries.{bound_query_of, references_of}
use Rattle.tql_catalog.specs.Tables.{definitions_of}
use Rattle.tql_engine_state.specs.Stands.{EngineModel}
use Rattle.tql_engine_state.proofs.Finding.{IsThere, references_there}
use Rattle.tql_engine_state.proofs.Standing.{place_law}
use Rattle.tql_engine_read.proofs.held.Held.query_told.Goals as goal

pub plan-requires : goal.plan-requires
plan-requires g c =
    let x = c.args.query.now in
    let tables = c.self.inside.tables.now in
    let placed = subst (λ (h : EngineModel). IsPlacedQuery (definitions_of h.tables) (bound_query_of x))
    (sym c.self.view_is)
    c.requires.placed in
    record {
      there = All-weaker (IsThere (definitions_of tables)) (λ r. r.table < length tables)
          (λ r k. place_law tables r.table k.table) (references_of x)
          (references_there (definitions_of tables) x placed);
    }

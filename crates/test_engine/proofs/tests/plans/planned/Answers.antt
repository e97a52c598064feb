use Rattle.std.proofs.Common.{◌<◌, length}
use Rattle.std.proofs.lemmas.List.Elements.{All-weaker}
use Rattle.tql_bound.specs.Queries.{references_of}
use Rattle.tql_catalog.specs.Tables.{definitions_of}
use Rattle.tql_engine_state.proofs.Finding.{IsThere, references_there}
use Rattle.tql_engine_state.proofs.Standing.{place_law}
use Rattle.test_engine.proofs.tests.plans.planned.Goals as goal

pub plan-requires : goal.plan-requires
plan-requires c =
    let x = c.args.query.now in
    let tables = c.args.tables.now in
    record {
      there = All-weaker (IsThere (definitions_of tables)) (λ r. r.table < length tables)
          (λ r k. place_law tables r.table k.table) (references_of x)
          (references_there (definitions_of tables) x c.requires);
    }

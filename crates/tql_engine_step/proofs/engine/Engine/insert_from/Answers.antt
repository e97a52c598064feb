use Rattle.std.proofs.Common.{◌∙◌, ◌<◌, ap, sym, subst, length, Ok}
use Rattle.std.specs.Prelude.{All}
use Rattle.tql_bound.specs.Changes.{query_insertion_of}
use Rattle.tql_bound.specs.Placed.{IsPlacedQuery}
use Rattle.tql_bound.specs.declared.change.QueryInsertion.{QueryInsertion}
use Rattle.tql_catalog.specs.Rows.{IsRowOf}
use Rattle.tql_catalog.specs.Tables.{definitions_of}
use Rattle.tql_catalog.specs.declared.catalog.Table.{Table}
use Rattle.tql_store.proofs.Judging.{none-removable}
use Rattle.tql_engine_state.specs.Adding.{Adds}
use Rattle.tql_engine_state.specs.Allowed.{AsksWithin}
use Rattle.tql_engine_state.specs.Stands.{EngineModel}
use Rattle.tql_bound.specs.Queries.{bound_query_of}
use Rattle.tql_engine_state.proofs.Doing.{within_law}
use Rattle.tql_engine_state.proofs.Modifying.{table_there}
use Rattle.tql_engine_state.proofs.QueryInserting.{query_errs, query_makes}
use Rattle.tql_engine_state.proofs.Standing.{place_law, some_is}
use Rattle.tql_engine_step.proofs.Reading.{stands_read, table_read}
use Rattle.tql_engine_step.proofs.engine.Engine.insert_from.Goals as goal

pub query_delta-requires-clause-within : goal.query_delta-requires-clause-within
query_delta-requires-clause-within g c =
    subst (λ (h : EngineModel). c.args.insertion.now.table < length (definitions_of h.tables)) (sym c.held.ensures)
    c.requires.within

pub query_delta-requires-clause-placed : goal.query_delta-requires-clause-placed
query_delta-requires-clause-placed g c =
    subst (λ (h : EngineModel). IsPlacedQuery (definitions_of h.tables) (bound_query_of c.args.insertion.now.query))
    (sym c.held.ensures) c.requires.placed

pub query_delta-requires-clause-asked : goal.query_delta-requires-clause-asked
query_delta-requires-clause-asked g c =
    subst (λ (h : EngineModel). AsksWithin h (bound_query_of c.args.insertion.now.query)) (sym c.held.ensures)
    c.requires.asked

pub make-requires-clause-within : goal.make-requires-clause-within
make-requires-clause-within g c = place_law c.args.self.now.tables c.args.insertion.now.table c.requires.within

pub make-requires-clause-made : goal.make-requires-clause-made
make-requires-clause-made g c =
    let x : QueryInsertion = c.args.insertion.now in
    let t = table_there c.args.self.now.tables x.table (place_law c.args.self.now.tables x.table c.requires.within) in
    record {
      change = query_insertion_of x;
      typed = c.requires.typed;
      fits = λ s st typed.
          let adds : Adds s t.0 x (Ok c.in-Ok.delta) = c.in-Ok.ensures s t.0 (stands_read _ _ s c.held.ensures st)
          (table_read _ _ x.table t.0 c.held.ensures t.1) in
          record {
            table = λ q there. adds.0.alters.table ∙ ap (λ (y : Table). y.id) (some_is t.0 q (sym t.1 ∙ there));
            removable = none-removable c.args.self.now.store c.in-Ok.delta.table c.in-Ok.delta.removed.items
                adds.0.alters.removed;
            fit = λ q there. subst (λ (y : Table). All (IsRowOf y.definition) c.in-Ok.delta.added.items)
                (some_is t.0 q (sym t.1 ∙ there)) adds.1;
          };
      makes = λ s st.
          let given : Adds s t.0 x (Ok c.in-Ok.delta) = c.in-Ok.ensures s t.0 (stands_read _ _ s c.held.ensures st)
          (table_read _ _ x.table t.0 c.held.ensures t.1) in
          query_makes c.inserts_keep_no_order.ensures c.args.self.now s t.0 x st t.1 c.requires.below
          (within_law c.args.self.now s (bound_query_of x.query) st c.requires.asked) given.0.bag
          given.0.rows given.0.answered given.0.same c.in-Ok.delta given.0.alters;
    }

pub returns-in-Err : goal.returns-in-Err
returns-in-Err g c s st =
    let x : QueryInsertion = c.args.insertion.now in
    let t = table_there c.args.self.now.tables x.table (place_law c.args.self.now.tables x.table c.requires.within) in
    query_errs c.inserts_keep_no_order.ensures c.args.self.now s t.0 x st t.1 c.requires.below
    (within_law c.args.self.now s (bound_query_of x.query) st c.requires.asked) c.in-Err.refusal
    (c.in-Err.ensures s t.0 (stands_read _ _ s c.held.ensures st) (table_read _ _ x.table t.0 c.held.ensures t.1))

pub returns-in-Ok : goal.returns-in-Ok
returns-in-Ok g c s st =
    let x : QueryInsertion = c.args.insertion.now in
    let t = table_there c.args.self.now.tables x.table (place_law c.args.self.now.tables x.table c.requires.within) in
    let given : Adds s t.0 x (Ok c.in-Ok.delta) = c.in-Ok.ensures s t.0 (stands_read _ _ s c.held.ensures st)
    (table_read _ _ x.table t.0 c.held.ensures t.1) in
    c.make.ensures s (query_insertion_of x) st
    (query_makes c.inserts_keep_no_order.ensures c.args.self.now s t.0 x st t.1 c.requires.below
    (within_law c.args.self.now s (bound_query_of x.query) st c.requires.asked) given.0.bag
    given.0.rows given.0.answered given.0.same c.in-Ok.delta given.0.alters)

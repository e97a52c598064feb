use Rattle.std.proofs.Common.{◌∙◌, ap, sym, subst, Ok}
use Rattle.std.specs.Prelude.{All}
use Rattle.tql_bound.specs.Changes.{insertion_of}
use Rattle.tql_bound.specs.declared.change.Insertion.{Insertion}
use Rattle.tql_catalog.specs.Rows.{IsRowOf}
use Rattle.tql_catalog.specs.declared.catalog.Table.{Table}
use Rattle.tql_store.proofs.Judging.{none-removable}
use Rattle.tql_engine_read.specs.Tuples.{AddsTuples}
use Rattle.tql_engine_state.proofs.Doing.{insert_makes}
use Rattle.tql_engine_state.proofs.Inserting.{insert_errs}
use Rattle.tql_engine_state.proofs.Modifying.{table_there}
use Rattle.tql_engine_state.proofs.Standing.{place_law, some_is}
use Rattle.tql_engine_step.proofs.Reading.{place_read, table_read}
use Rattle.tql_engine_step.proofs.engine.Engine.insert.Goals as goal

pub tuples_delta-requires : goal.tuples_delta-requires
tuples_delta-requires g c = place_read _ c.args.self.now c.args.insertion.now.table c.held.ensures c.requires.within

pub make-requires-clause-within : goal.make-requires-clause-within
make-requires-clause-within g c = place_law c.args.self.now.tables c.args.insertion.now.table c.requires.within

pub make-requires-clause-made : goal.make-requires-clause-made
make-requires-clause-made g c =
    let h = c.args.self.now in
    let x : Insertion = c.args.insertion.now in
    let t = table_there h.tables x.table (place_law h.tables x.table c.requires.within) in
    let p : Table = t.0 in
    let adds : AddsTuples p x (Ok c.in-Ok.delta) = c.in-Ok.ensures p (table_read _ h x.table p c.held.ensures t.1) in
    record {
      change = insertion_of x;
      typed = c.requires.typed;
      fits = λ s st typed. record {
        table = λ q there. adds.alters.table ∙ ap (λ (y : Table). y.id) (some_is p q (sym t.1 ∙ there));
        removable = none-removable h.store c.in-Ok.delta.table c.in-Ok.delta.removed.items adds.alters.removed;
        fit = λ q there. subst (λ (y : Table). All (IsRowOf y.definition) c.in-Ok.delta.added.items)
            (some_is p q (sym t.1 ∙ there)) adds.fits;
      };
      makes = λ s st. insert_makes h s p x c.in-Ok.delta st t.1 adds.alters;
    }

pub returns-in-Err : goal.returns-in-Err
returns-in-Err g c s st =
    let h = c.args.self.now in
    let x : Insertion = c.args.insertion.now in
    let t = table_there h.tables x.table (place_law h.tables x.table c.requires.within) in
    let p : Table = t.0 in
    let adds = c.in-Err.ensures p (table_read _ h x.table p c.held.ensures t.1) in
    insert_errs h s p x st t.1 c.requires.below p.id c.in-Err.refusal adds.alters

pub returns-in-Ok : goal.returns-in-Ok
returns-in-Ok g c s st =
    let h = c.args.self.now in
    let x : Insertion = c.args.insertion.now in
    let t = table_there h.tables x.table (place_law h.tables x.table c.requires.within) in
    let p : Table = t.0 in
    let adds : AddsTuples p x (Ok c.in-Ok.delta) = c.in-Ok.ensures p (table_read _ h x.table p c.held.ensures t.1) in
    c.make.ensures s (insertion_of x) st (insert_makes h s p x c.in-Ok.delta st t.1 adds.alters)

use Rattle.std.proofs.Common.{◌∙◌, ap, sym, subst, Ok, Err}
use Rattle.std.specs.Prelude.{All}
use Rattle.tql_bound.specs.Changes.{modification_of}
use Rattle.tql_bound.specs.declared.change.Modification.{Modification}
use Rattle.tql_catalog.specs.Rows.{IsRowOf}
use Rattle.tql_catalog.specs.declared.catalog.Table.{Table}
use Rattle.tql_dml.proofs.Modified.{touches}
use Rattle.tql_dml.specs.Alters.{conds_in, portion_in}
use Rattle.tql_store.specs.Represents.{Judged}
use Rattle.tql_store.specs.StoreModel.{AreRemovable}
use Rattle.tql_engine_state.specs.Modifying.{Made, Makes}
use Rattle.tql_engine_state.specs.Stands.{EngineModel}
use Rattle.tql_engine_state.proofs.Looking.{read_fit}
use Rattle.tql_engine_state.proofs.Modifying.{modify_errs, modify_makes, table_there, gone_removable, gone_judged}
use Rattle.tql_engine_state.proofs.Standing.{place_law, some_is}
use Rattle.tql_engine_state.proofs.Typed.{read_typed}
use Rattle.tql_engine_step.proofs.Reading.{place_read, table_read}
use Rattle.tql_engine_step.proofs.engine.Engine.modify.Goals as goal

pub delta_of-requires : goal.delta_of-requires
delta_of-requires g c = place_read _ c.args.self.now c.args.modification.now.table c.held.ensures c.requires.within

pub make-requires-clause-within : goal.make-requires-clause-within
make-requires-clause-within g c = place_law c.args.self.now.tables c.args.modification.now.table c.requires.within

pub make-requires-clause-made : goal.make-requires-clause-made
make-requires-clause-made g c =
    let h = c.args.self.now in
    let x : Modification = c.args.modification.now in
    let t = table_there h.tables x.table (place_law h.tables x.table c.requires.within) in
    let p : Table = t.0 in
    let made : Made h.store p x (Ok c.in-Ok.delta) =
    subst (λ (y : EngineModel). Makes y.store p x (Ok c.in-Ok.delta)) c.held.ensures
    (c.in-Ok.ensures p (table_read _ h x.table p c.held.ensures t.1)) in
    record {
      change = modification_of x;
      typed = c.requires.typed;
      fits = λ s st typed. record {
        table = λ q there. made.alters.table ∙ ap (λ (y : Table). y.id) (some_is p q (sym t.1 ∙ there));
        removable = subst (λ i. AreRemovable h.store i c.in-Ok.delta.removed.items) (sym made.alters.table)
            (gone_removable h.store p x c.in-Ok.delta made);
        fit = λ q there. subst (λ (y : Table). All (IsRowOf y.definition) c.in-Ok.delta.added.items)
            (some_is p q (sym t.1 ∙ there))
            (made.fits (read_fit h s x.table p made.looks made.seen st t.1 made.found.copies)
            (read_typed h s p x made.looks made.seen st typed c.requires.typed t.1 made.found.copies));
      };
      makes = λ s st. modify_makes c.safe_conditions.ensures c.changes_keep_no_order.ensures c.changes_by_parts.ensures
          h s p x st t.1 c.requires.below made.looks made.serves made.shown made.seen made.found.copies c.in-Ok.delta
          c.verb_of-verb.result (sym (c.verb_of-verb.ensures x.terms))
          (subst (λ i. Judged h.store i (touches p.definition (portion_in x) (conds_in x)) c.in-Ok.delta.removed.items)
          (sym made.alters.table)
          (gone_judged c.safe_conditions.ensures h s p x c.in-Ok.delta st t.1 made)) made.alters;
    }

pub returns-in-Err : goal.returns-in-Err
returns-in-Err g c s st =
    let x : Modification = c.args.modification.now in
    let t = table_there c.args.self.now.tables x.table (place_law c.args.self.now.tables x.table c.requires.within) in
    modify_errs c.safe_conditions.ensures c.changes_keep_no_order.ensures c.changes_by_parts.ensures c.args.self.now s
    t.0 x st t.1 c.requires.below c.in-Err.refusal
    (subst (λ (y : EngineModel). Makes y.store t.0 x (Err c.in-Err.refusal)) c.held.ensures
    (c.in-Err.ensures t.0 (table_read _ _ x.table t.0 c.held.ensures t.1)))

pub returns-in-Ok : goal.returns-in-Ok
returns-in-Ok g c s st =
    let h = c.args.self.now in
    let x : Modification = c.args.modification.now in
    let t = table_there h.tables x.table (place_law h.tables x.table c.requires.within) in
    let p : Table = t.0 in
    let made : Made h.store p x (Ok c.in-Ok.delta) =
    subst (λ (y : EngineModel). Makes y.store p x (Ok c.in-Ok.delta)) c.held.ensures
    (c.in-Ok.ensures p (table_read _ h x.table p c.held.ensures t.1)) in
    let judged = subst (λ i. Judged h.store i (touches p.definition (portion_in x) (conds_in x))
    c.in-Ok.delta.removed.items) (sym made.alters.table)
    (gone_judged c.safe_conditions.ensures h s p x c.in-Ok.delta st t.1 made) in
    c.make.ensures s (modification_of x) st
    (modify_makes c.safe_conditions.ensures c.changes_keep_no_order.ensures c.changes_by_parts.ensures h s p x st t.1
    c.requires.below made.looks made.serves made.shown made.seen made.found.copies c.in-Ok.delta c.verb_of-verb.result
    (sym (c.verb_of-verb.ensures x.terms)) judged made.alters)

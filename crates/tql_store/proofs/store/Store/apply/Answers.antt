use Rattle.std.proofs.Common.{map, w64, rules, sym, ap, subst, ◌∙◌}
use Rattle.std.proofs.Math.Facts.{to_z-of_z}
use Rattle.std.proofs.lemmas.List.{with_items_is}
use Rattle.tql_store.specs.StoreModel.{StoreModel}
use mir.Val.{SFits, to_z, of_z}
use Rattle.std.specs.Prelude.{Bool, List, ◌++◌, filter}
use Rattle.tql_spec.specs.Bag.{SameBag}
use Rattle.tql_spec.specs.Definition.{Stamped}
use Rattle.tql_versions.specs.Changes.{alive, closing, fresh, replaced}
use Rattle.tql_store_rows.specs.TableModel as rows
use Rattle.tql_store_rows.specs.TableModel.{InTurn, AreRemovable, IsJudged, versions, live}
use Rattle.tql_store.specs.Orderly.{table_at, HasTurned}
use Rattle.tql_store.specs.TableSlots.{slot_at, is_taken}
use Rattle.tql_store.proofs.Making.{on_err, in-moment, change-store, refused-store}
use Rattle.tql_store.proofs.Numbers.{taken-within}
use Rattle.tql_store.proofs.Storing.{shown, in_turn, removable-at, replaces-at}
use Rattle.tql_store.proofs.StoreLaws.{change-replaces}
use Rattle.tql_store.proofs.store.Store.apply.Goals as goal

pub make-requires-clause-turn : goal.make-requires-clause-turn
make-requires-clause-turn g c =
    let fits : SFits w64 c.moment-moment.result = search rules in
    let at = in-moment c.self.inside.working c.args.self.now.working (to_z w64 (of_z w64 c.moment-moment.result))
    c.moment-moment.result (ap (λ (h : StoreModel). h.working) c.self.view_is) (to_z-of_z fits)
    c.moment-moment.ensures in
    subst (λ (ts : List rows.TableModel). InTurn (to_z w64 (of_z w64 c.moment-moment.result))
    (table_at ts c.args.delta.table)) (sym c.deref_mut.ensures.value)
    ((in_turn c.self.inside.working (to_z w64 (of_z w64 c.moment-moment.result)) at c.self.invariant).ready.turn
    c.args.delta.table)

pub make-requires-clause-removable : goal.make-requires-clause-removable
make-requires-clause-removable g c =
    let fits : SFits w64 c.moment-moment.result = search rules in
    let at = in-moment c.self.inside.working c.args.self.now.working (to_z w64 (of_z w64 c.moment-moment.result))
    c.moment-moment.result (ap (λ (h : StoreModel). h.working) c.self.view_is) (to_z-of_z fits)
    c.moment-moment.ensures in
    subst (λ (ts : List rows.TableModel). AreRemovable (table_at ts c.args.delta.table) c.args.delta.removed.items)
    (sym c.deref_mut.ensures.value)
    (removable-at (to_z w64 (of_z w64 c.moment-moment.result)) c.self.inside.horizon c.self.inside.working
    c.self.inside.last
    c.self.inside.places.items c.self.inside.rows.items c.self.inside.touched.items c.args.self.now c.args.delta.table
    c.args.delta.removed.items at c.self.invariant c.self.view_is c.requires.removable)

pub invariant_of-self : goal.invariant_of-self
invariant_of-self g c =
    let fits : SFits w64 c.moment-moment.result = search rules in
    let at = in-moment c.self.inside.working c.args.self.now.working (to_z w64 (of_z w64 c.moment-moment.result))
    c.moment-moment.result (ap (λ (h : StoreModel). h.working) c.self.view_is) (to_z-of_z fits)
    c.moment-moment.ensures in
    refused-store (to_z w64 (of_z w64 c.moment-moment.result)) c.self.inside.working c.self.inside.last
    c.args.delta.table c.self.inside.places.items c.self.inside.rows.items c.deref_mut.result.now c.make.new.rows
    _ c.self.inside.touched.items c.make.new.touched.items at c.deref_mut.ensures.value
    (ap (λ (h : StoreModel). is_taken (slot_at h.tables c.args.delta.table)) c.self.view_is
    ∙ c.requires.present) c.self.invariant c.make.ensures.turned c.in_err-make.ensures.err_touched
    c.in_err-make.ensures.err_rest (with_items_is c.self.inside.rows c.make.new.rows (c.make.ensures.turned.even
    ∙ c.deref_mut.ensures.len))

pub returns-in_err-make-clause-err : goal.returns-in_err-make-clause-err
returns-in_err-make-clause-err g c =
    on_err c.from_residual.result
    (ap (λ (ts : List rows.TableModel). shown c.self.inside.places.items ts c.self.inside.working c.self.inside.last
    c.self.inside.horizon)
    (with_items_is c.self.inside.rows c.make.new.rows (c.make.ensures.turned.even ∙ c.deref_mut.ensures.len))
    ∙ ap (λ vss. record {
      tables = c.self.inside.places.items;
      versions = vss;
      working = c.self.inside.working;
      last = c.self.inside.last;
      horizon = c.self.inside.horizon;
    }) (c.in_err-make.ensures.err
    ∙ ap (λ (ts : List rows.TableModel). map versions ts) c.deref_mut.ensures.value) ∙ c.self.view_is)

pub invariant_of-self-2 : goal.invariant_of-self-2
invariant_of-self-2 g c =
    let fits : SFits w64 c.moment-moment.result = search rules in
    let at = in-moment c.self.inside.working c.args.self.now.working (to_z w64 (of_z w64 c.moment-moment.result))
    c.moment-moment.result (ap (λ (h : StoreModel). h.working) c.self.view_is) (to_z-of_z fits)
    c.moment-moment.ensures in
    change-store (to_z w64 (of_z w64 c.moment-moment.result)) c.self.inside.working c.self.inside.last
    c.args.delta.table c.self.inside.places.items c.self.inside.rows.items c.deref_mut.result.now c.make.new.rows
    _ c.self.inside.touched.items c.make.new.touched.items at c.deref_mut.ensures.value
    (ap (λ (h : StoreModel). is_taken (slot_at h.tables c.args.delta.table)) c.self.view_is
    ∙ c.requires.present)
    (taken-within c.self.inside.places.items c.self.inside.rows.items c.args.delta.table c.self.invariant.even
    (ap (λ (h : StoreModel). is_taken (slot_at h.tables c.args.delta.table)) c.self.view_is
    ∙ c.requires.present)) c.self.invariant c.make.ensures.turned c.in_ok-make.ensures.noted
    (with_items_is c.self.inside.rows c.make.new.rows (c.make.ensures.turned.even ∙ c.deref_mut.ensures.len))

pub returns-clause-ok : goal.returns-clause-ok
returns-clause-ok g c =
    let fits : SFits w64 c.moment-moment.result = search rules in
    let at = in-moment c.self.inside.working c.args.self.now.working (to_z w64 (of_z w64 c.moment-moment.result))
    c.moment-moment.result (ap (λ (h : StoreModel). h.working) c.self.view_is) (to_z-of_z fits)
    c.moment-moment.ensures in
    let value = c.deref_mut.ensures.value in
    replaces-at c.args.delta.added.items
    (to_z w64 (of_z w64 c.moment-moment.result)) c.self.inside.horizon c.self.inside.working c.self.inside.last
    c.self.inside.places.items c.self.inside.rows.items c.make.new.rows c.self.inside.touched.items
    c.args.self.now _ c.args.delta.table c.args.delta.removed.items at c.self.invariant c.self.view_is
    (sym (ap (λ (ts : List rows.TableModel). shown c.self.inside.places.items ts c.self.inside.working
    c.self.inside.last c.self.inside.horizon)
    (with_items_is c.self.inside.rows c.make.new.rows (c.make.ensures.turned.even ∙ c.deref_mut.ensures.len))))
    c.requires.removable
    (subst (λ (ts : List rows.TableModel). HasTurned (to_z w64 (of_z w64 c.moment-moment.result)) c.args.delta.table ts
    c.make.new.rows) value c.make.ensures.turned)
    (subst (λ (ts : List rows.TableModel). SameBag (live (table_at c.make.new.rows c.args.delta.table))
    (filter alive (closing (to_z w64 (of_z w64 c.moment-moment.result)) c.args.delta.removed.items
    (table_at ts c.args.delta.table).current ++ (table_at ts c.args.delta.table).closed) ++ map
    (fresh (to_z w64 (of_z w64 c.moment-moment.result))) c.args.delta.added.items)) value c.in_ok-make.ensures.versions)
    (subst (λ (ts : List rows.TableModel). (gone : Stamped → Bool)
    → IsJudged gone c.args.delta.removed.items (table_at ts c.args.delta.table)
    → SameBag (live (table_at c.make.new.rows c.args.delta.table))
    (replaced (to_z w64 (of_z w64 c.moment-moment.result)) gone
    c.args.delta.added.items (live (table_at ts c.args.delta.table)))) value c.in_ok-make.ensures.judged)

pub returns-clause-copies : goal.returns-clause-copies
returns-clause-copies g c =
    change-replaces c.args.delta.table c.args.delta.removed.items _ c.args.self.now _ (returns-clause-ok g c)

use Rattle.std.proofs.Common.{ℕ, List, length, map, None, w64, rules, sym, ap}
use Rattle.std.proofs.Common.{subst, ◌∙◌}
use Rattle.std.specs.Vec.{with_items}
use Rattle.std.proofs.Math.Facts.{to_z-of_z}
use Rattle.std.proofs.lemmas.List.{with_items_is}
use Rattle.tql_store.specs.StoreModel.{StoreModel}
use mir.Val.{SFits, to_z, of_z}
use Rattle.tql_store_rows.specs.TableModel as rows
use Rattle.tql_store_rows.specs.TableModel.{InTurn, versions}
use Rattle.tql_store.specs.Orderly.{table_at, IsOrderly, HaveEnded, IsUndone}
use Rattle.tql_store.proofs.Making.{in-moment}
use Rattle.tql_store.proofs.Turning.{rollback-orderly}
use Rattle.tql_store.proofs.Storing.{shown, in_turn, undone-versions}
use Rattle.tql_store.proofs.StoreLaws.{rollback-restores}
use Rattle.tql_store.proofs.store.Store.rollback.Goals as goal

pub undo_each-requires-clause-turn : goal.undo_each-requires-clause-turn
undo_each-requires-clause-turn g c =
    let fits : SFits w64 c.moment-moment.result = search rules in
    let at = in-moment c.self.inside.working c.args.self.now.working (to_z w64 (of_z w64 c.moment-moment.result))
    c.moment-moment.result (ap (λ (h : StoreModel). h.working) c.self.view_is) (to_z-of_z fits)
    c.moment-moment.ensures in
    λ t. subst (λ (ts : List rows.TableModel). InTurn (to_z w64 (of_z w64 c.moment-moment.result)) (table_at ts t))
    (sym c.deref_mut.ensures.value)
    ((in_turn c.self.inside.working (to_z w64 (of_z w64 c.moment-moment.result)) at c.self.invariant).ready.turn t)

pub invariant_of-self : goal.invariant_of-self
invariant_of-self g c =
    let fits : SFits w64 c.moment-moment.result = search rules in
    let at = in-moment c.self.inside.working c.args.self.now.working (to_z w64 (of_z w64 c.moment-moment.result))
    c.moment-moment.result (ap (λ (h : StoreModel). h.working) c.self.view_is) (to_z-of_z fits)
    c.moment-moment.ensures in
    let ended : HaveEnded (IsUndone (to_z w64 (of_z w64 c.moment-moment.result)))
    (length c.self.inside.touched.items) c.self.inside.touched.items c.self.inside.rows.items c.undo_each.new.rows
    = subst (λ (ts : List rows.TableModel). HaveEnded (IsUndone (to_z w64 (of_z w64 c.moment-moment.result)))
    (length c.self.inside.touched.items) c.self.inside.touched.items ts c.undo_each.new.rows)
    c.deref_mut.ensures.value
    (subst (λ (js : List ℕ). HaveEnded (IsUndone (to_z w64 (of_z w64 c.moment-moment.result))) (length js) js
    c.deref_mut.result.now c.undo_each.new.rows) c.deref.ensures.value c.undo_each.ensures) in
    subst (λ (ts : List rows.TableModel). IsOrderly c.self.inside.places.items ts c.clear.new.self.items None
    c.self.inside.last) (sym (with_items_is c.self.inside.rows c.undo_each.new.rows (c.undo_each.ensures.even
    ∙ c.deref_mut.ensures.len)))
    (rollback-orderly (to_z w64 (of_z w64 c.moment-moment.result)) c.self.inside.last c.self.inside.places.items
    c.self.inside.rows.items c.undo_each.new.rows c.self.inside.touched.items c.clear.new.self.items
    (in_turn c.self.inside.working (to_z w64 (of_z w64 c.moment-moment.result)) at c.self.invariant) ended
    c.clear.ensures.items)

pub returns-clause-versions : goal.returns-clause-versions
returns-clause-versions g c =
    let fits : SFits w64 c.moment-moment.result = search rules in
    let at = in-moment c.self.inside.working c.args.self.now.working (to_z w64 (of_z w64 c.moment-moment.result))
    c.moment-moment.result (ap (λ (h : StoreModel). h.working) c.self.view_is) (to_z-of_z fits)
    c.moment-moment.ensures in
    let ended : HaveEnded (IsUndone (to_z w64 (of_z w64 c.moment-moment.result)))
    (length c.self.inside.touched.items) c.self.inside.touched.items c.self.inside.rows.items c.undo_each.new.rows
    = subst (λ (ts : List rows.TableModel). HaveEnded (IsUndone (to_z w64 (of_z w64 c.moment-moment.result)))
    (length c.self.inside.touched.items) c.self.inside.touched.items ts c.undo_each.new.rows)
    c.deref_mut.ensures.value
    (subst (λ (js : List ℕ). HaveEnded (IsUndone (to_z w64 (of_z w64 c.moment-moment.result))) (length js) js
    c.deref_mut.result.now c.undo_each.new.rows) c.deref.ensures.value c.undo_each.ensures) in
    undone-versions (to_z w64 (of_z w64 c.moment-moment.result)) c.self.inside.horizon c.self.inside.working
    c.self.inside.last
    c.self.inside.places.items c.self.inside.rows.items c.undo_each.new.rows c.self.inside.touched.items
    c.args.self.now (shown c.self.inside.places.items (with_items c.self.inside.rows c.undo_each.new.rows).items
    None c.self.inside.last c.self.inside.horizon) at c.self.invariant ended c.self.view_is
    (ap (λ (ts : List rows.TableModel). map versions ts)
    (with_items_is c.self.inside.rows c.undo_each.new.rows (c.undo_each.ensures.even ∙ c.deref_mut.ensures.len)))

pub returns-clause-copies : goal.returns-clause-copies
returns-clause-copies g c =
    rollback-restores c.args.self.now _ (search rules) (search rules) (search rules) (search rules)
    (returns-clause-versions g c)

use Rattle.std.proofs.Common.{◌≡◌, [], List, map, w64, rules, sym, ap, subst, ◌∙◌}
use Rattle.std.specs.Prelude.{ℤ}
use Rattle.std.specs.Vec.{with_items}
use Rattle.std.proofs.Math.Facts.{to_z-of_z}
use Rattle.std.proofs.lemmas.List.{with_items_is}
use mir.Val.{to_z, of_z}
use Rattle.tql_store_rows.specs.TableModel as rows
use Rattle.tql_store_rows.specs.TableModel.{versions}
use Rattle.tql_store.specs.Orderly.{table_at, ArePruned, IsOrderly}
use Rattle.tql_store.specs.StoreModel.{StoreModel}
use Rattle.tql_store.proofs.Pruned.{none_open, prune-orderly, pruned-versions, resting}
use Rattle.tql_store.proofs.Storing.{shown}
use Rattle.tql_store.proofs.StoreLaws.{prunes-copies}
use Rattle.tql_store.proofs.store.Store.prune.Goals as goal

pub prune_each-requires : goal.prune_each-requires
prune_each-requires g c =
    let none = none_open c.args.self.now.working c.requires.closed in
    let o = resting c.self.inside.working (ap (λ (h : StoreModel). h.working) c.self.view_is ∙ none) c.self.invariant in
    λ t. subst (λ (ts : List rows.TableModel). (table_at ts t).ended ≡ []) (sym c.deref_mut.ensures.value)
    (o.ready.rest t).none_ended

pub invariant_of-self : goal.invariant_of-self
invariant_of-self g c =
    let none = none_open c.args.self.now.working c.requires.closed in
    subst (λ (ts : List rows.TableModel). IsOrderly c.self.inside.places.items ts c.self.inside.touched.items
    c.self.inside.working c.self.inside.last)
    (sym (with_items_is c.self.inside.rows c.prune_each.new.rows (c.prune_each.ensures.even
    ∙ c.deref_mut.ensures.len)))
    (prune-orderly _ c.self.inside.working c.self.inside.last c.self.inside.places.items c.self.inside.rows.items
    c.prune_each.new.rows c.self.inside.touched.items (ap (λ (h : StoreModel). h.working) c.self.view_is ∙ none)
    c.self.invariant
    (subst (λ (ts : List rows.TableModel). ArePruned (to_z w64 (of_z w64 c.args.horizon)) ts c.prune_each.new.rows)
    c.deref_mut.ensures.value c.prune_each.ensures))

pub returns-clause-versions : goal.returns-clause-versions
returns-clause-versions g c =
    let none = none_open c.args.self.now.working c.requires.closed in
    pruned-versions c.args.horizon c.self.inside.horizon c.self.inside.working c.self.inside.last
    c.self.inside.places.items c.self.inside.rows.items c.prune_each.new.rows c.self.inside.touched.items
    c.args.self.now
    (shown c.self.inside.places.items (with_items c.self.inside.rows c.prune_each.new.rows).items
    c.self.inside.working c.self.inside.last (to_z w64 (of_z w64 c.args.horizon)))
    (ap (λ (h : StoreModel). h.working) c.self.view_is ∙ none) c.self.invariant
    (subst (λ (x : ℤ). ArePruned x c.self.inside.rows.items c.prune_each.new.rows) (to_z-of_z c.ranges.horizon)
    (subst (λ (ts : List rows.TableModel). ArePruned (to_z w64 (of_z w64 c.args.horizon)) ts c.prune_each.new.rows)
    c.deref_mut.ensures.value c.prune_each.ensures)) c.self.view_is
    (ap (λ (ts : List rows.TableModel). map versions ts)
    (with_items_is c.self.inside.rows c.prune_each.new.rows (c.prune_each.ensures.even ∙ c.deref_mut.ensures.len)))

pub returns-clause-copies : goal.returns-clause-copies
returns-clause-copies g c =
    let none = none_open c.args.self.now.working c.requires.closed in
    prunes-copies c.args.horizon c.args.self.now _ none c.requires.later (search rules) (search rules) (search rules)
    (to_z-of_z c.ranges.horizon) (returns-clause-versions g c)

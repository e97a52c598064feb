use Rattle.std.proofs.Common.{◌≡◌, false, ℕ, List, map, length}
use Rattle.std.proofs.Common.{rules, refl, arith, sym, ap, subst, ◌∙◌}
use Rattle.std.specs.Vec.{with_items}
use Rattle.std.proofs.lemmas.List.{with_items_is}
use Rattle.tql_store_rows.specs.TableModel as rows
use Rattle.std.proofs.lemmas.Grind.{common_steps}
use Rattle.tql_store.specs.Orderly.{IsPut, IsOrderly}
use Rattle.tql_store.specs.Represents.{Takes}
use Rattle.tql_store.specs.declared.tables.TableSlot.{TableSlot}
use Rattle.tql_store.specs.declared.tables.TableSlot.TheVariants.{Free}
use Rattle.tql_store.proofs.Storing.{shown, put-orderly, dropped-versions}
use Rattle.tql_store.proofs.Places.{drops}
use Rattle.tql_store.proofs.TableLaws.{drop-empties}
use Rattle.tql_store.proofs.store.Store.drop_table.Goals as goal

pub invariant_of-self : goal.invariant_of-self
invariant_of-self g c =
    let takes : Takes c.args.table Free c.self.inside.places.items c.clear_place.new.places =
    subst (λ (ps : List TableSlot). Takes c.args.table Free ps c.clear_place.new.places) c.deref_mut.ensures.value
    c.clear_place.ensures.takes in
    let put : IsPut c.args.table c.new-rows.result c.self.inside.rows.items c.set_rows.new.rows =
    subst (λ (n : ℕ). IsPut n c.new-rows.result c.self.inside.rows.items c.set_rows.new.rows) (c.from.ensures
    ∙ c.number.ensures.value)
    (subst (λ (ts : List rows.TableModel). IsPut c.from.result c.new-rows.result ts c.set_rows.new.rows)
    c.deref_mut-2.ensures.value c.set_rows.ensures.put) in
    let size : length c.set_rows.new.rows ≡ length c.self.inside.rows.items = c.set_rows.ensures.len
    ∙ ap (λ (ts : List rows.TableModel). length ts) c.deref_mut-2.ensures.value in
    let places : length c.clear_place.new.places ≡ length c.self.inside.places.items = c.clear_place.ensures.len
    ∙ ap (λ (ps : List TableSlot). length ps) c.deref_mut.ensures.value in
    subst (λ (ps : List TableSlot). IsOrderly ps (with_items c.self.inside.rows c.set_rows.new.rows).items
    c.self.inside.touched.items c.self.inside.working c.self.inside.last)
    (sym (with_items_is c.self.inside.places c.clear_place.new.places (c.clear_place.ensures.len
    ∙ c.deref_mut.ensures.len)))
    (subst (λ (ts : List rows.TableModel). IsOrderly c.clear_place.new.places ts c.self.inside.touched.items
    c.self.inside.working c.self.inside.last)
    (sym (with_items_is c.self.inside.rows c.set_rows.new.rows (c.set_rows.ensures.len ∙ c.deref_mut-2.ensures.len)))
    (put-orderly false Free c.args.table c.self.inside.places.items c.clear_place.new.places c.self.inside.rows.items
    c.set_rows.new.rows c.self.inside.touched.items c.self.inside.working c.self.inside.last c.new-rows.result
    c.self.invariant refl takes
    (size ∙ c.self.invariant.even ∙ sym places) (omega (arith, size)) put c.new-rows.ensures.empty))

pub returns-clause-places : goal.returns-clause-places
returns-clause-places g c = first_of (search rules, grind (arith, common_steps))

pub returns-clause-count : goal.returns-clause-count
returns-clause-count g c = drops c.args.table _ _ c.requires.present (returns-clause-places g c)

pub returns-clause-versions : goal.returns-clause-versions
returns-clause-versions g c =
    let put : IsPut c.args.table c.new-rows.result c.self.inside.rows.items c.set_rows.new.rows =
    subst (λ (n : ℕ). IsPut n c.new-rows.result c.self.inside.rows.items c.set_rows.new.rows) (c.from.ensures
    ∙ c.number.ensures.value)
    (subst (λ (ts : List rows.TableModel). IsPut c.from.result c.new-rows.result ts c.set_rows.new.rows)
    c.deref_mut-2.ensures.value c.set_rows.ensures.put) in
    dropped-versions c.args.table c.self.inside.places.items c.self.inside.working c.self.inside.last
    c.self.inside.horizon c.self.inside.rows.items c.set_rows.new.rows c.new-rows.result c.args.self.now
    (shown (with_items c.self.inside.places c.clear_place.new.places).items
    (with_items c.self.inside.rows c.set_rows.new.rows).items c.self.inside.working c.self.inside.last
    c.self.inside.horizon)
    c.self.view_is put c.new-rows.ensures.empty
    (ap (λ (ts : List rows.TableModel). map rows.versions ts)
    (with_items_is c.self.inside.rows c.set_rows.new.rows (c.set_rows.ensures.len ∙ c.deref_mut-2.ensures.len)))

pub returns-clause-copies : goal.returns-clause-copies
returns-clause-copies g c =
    drop-empties c.args.table c.args.self.now _ (search rules) (returns-clause-places g c) (search rules)
    (search rules) (search rules) (returns-clause-versions g c)

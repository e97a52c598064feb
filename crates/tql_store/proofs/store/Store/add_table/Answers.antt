use Rattle.std.proofs.Common.{◌≡◌, ℕ, List, length, max, rules}
use Rattle.std.proofs.Common.{refl, arith, sym, ap, subst, ◌∙◌}
use Rattle.std.specs.Prelude.{◌+◌, ◌≤◌}
use Rattle.tql_store_rows.specs.TableModel as rows
use Rattle.tql_store.specs.TableSlots.{slot_at}
use Rattle.std.proofs.lemmas.Grind.{common_steps}
use Rattle.tql_store.specs.Orderly.{IsPut}
use Rattle.tql_store.specs.Represents.{Takes}
use Rattle.tql_store.specs.TableSlots.{place_for}
use Rattle.tql_store.specs.declared.tables.TableSlot.TheVariants.{Free}
use Rattle.tql_store.proofs.Storing.{shown, put-orderly, added-versions, kept_for}
use Rattle.tql_store.proofs.Places.{adds}
use Rattle.tql_store.proofs.TableLaws.{add-keeps}
use Rattle.tql_store.proofs.store.Store.add_table.Goals as goal

pub invariant_of-self-2 : goal.invariant_of-self-2
invariant_of-self-2 g c =
    let number : c.from.result ≡ c.free_table-table.result = (c.from.ensures ∙ c.number.ensures.value) in
    let free : slot_at c.self.inside.places.items c.free_table-table.result ≡ Free =
    first_of (search rules, grind (arith, common_steps)) in
    let takes : Takes c.free_table-table.result (place_for c.args.versioned) c.self.inside.places.items
    c.put_table.new.places.items = first_of (search rules, grind (arith, common_steps)) in
    let put : IsPut c.free_table-table.result c.in_ok-rows.rows c.self.inside.rows.items c.put_rows.new.rows.items =
    subst (λ (n : ℕ). IsPut n c.in_ok-rows.rows c.self.inside.rows.items c.put_rows.new.rows.items) number
    (subst (λ (ts : List rows.TableModel). IsPut c.from.result c.in_ok-rows.rows ts c.put_rows.new.rows.items)
    c.reserve.ensures.items c.put_rows.ensures.put) in
    let more : length c.self.inside.rows.items ≤ length c.put_rows.new.rows.items =
    subst (λ (ts : List rows.TableModel). length ts ≤ length c.put_rows.new.rows.items) c.reserve.ensures.items
    c.put_rows.ensures.grows in
    let size : length c.put_rows.new.rows.items ≡ max (length c.self.inside.rows.items)
    (c.free_table-table.result + 1) = c.put_rows.ensures.len
    ∙ ap (λ (ts : List rows.TableModel). max (length ts) (c.from.result + 1)) c.reserve.ensures.items
    ∙ ap (λ (n : ℕ). max (length c.self.inside.rows.items) (n + 1)) number in
    put-orderly c.args.versioned (place_for c.args.versioned) c.free_table-table.result c.self.inside.places.items
    c.put_table.new.places.items c.self.inside.rows.items c.put_rows.new.rows.items c.self.inside.touched.items
    c.self.inside.working c.self.inside.last c.in_ok-rows.rows c.self.invariant (kept_for c.args.versioned) takes
    (size ∙ ap (λ (n : ℕ). max n (c.free_table-table.result + 1)) c.self.invariant.even
    ∙ sym c.in_ok-put_table.ensures.len) more put c.in_ok-rows.ensures.empty

pub returns-clause-ok : goal.returns-clause-ok
returns-clause-ok g c =
    let number : c.from.result ≡ c.free_table-table.result = (c.from.ensures ∙ c.number.ensures.value) in
    let free : slot_at c.self.inside.places.items c.free_table-table.result ≡ Free =
    first_of (search rules, grind (arith, common_steps)) in
    let put : IsPut c.free_table-table.result c.in_ok-rows.rows c.self.inside.rows.items c.put_rows.new.rows.items =
    subst (λ (n : ℕ). IsPut n c.in_ok-rows.rows c.self.inside.rows.items c.put_rows.new.rows.items) number
    (subst (λ (ts : List rows.TableModel). IsPut c.from.result c.in_ok-rows.rows ts c.put_rows.new.rows.items)
    c.reserve.ensures.items c.put_rows.ensures.put) in
    adds c.args.versioned c.free_table-table.result c.args.self.now _
    (first_of (search rules, grind (arith, common_steps)))
    (first_of (search rules, grind (arith, common_steps)))
    (first_of (search rules, grind (arith, common_steps)))
    (first_of (search rules, grind (arith, common_steps)))
    (first_of (search rules, grind (arith, common_steps)))
    (added-versions c.args.versioned c.free_table-table.result c.self.inside.places.items c.self.inside.working
    c.self.inside.last c.self.inside.horizon c.self.inside.rows.items c.put_rows.new.rows.items c.in_ok-rows.rows
    c.args.self.now
    (shown c.put_table.new.places.items c.put_rows.new.rows.items c.self.inside.working c.self.inside.last
    c.self.inside.horizon)
    c.self.view_is (c.self.invariant.gone c.free_table-table.result free) put c.in_ok-rows.ensures.empty refl)

pub returns-clause-copies : goal.returns-clause-copies
returns-clause-copies g c = add-keeps _ _ _ _ (returns-clause-ok g c)

use Rattle.std.proofs.Common.{◌≡◌, ◌<◌, ◌≤◌, rules, tests, arith, refl, sym, ap, ◌∙◌, ℕ, ◌+◌, zero, suc, Bool, true}
use Rattle.std.proofs.Common.{false}
use Rattle.std.proofs.Common.{List, [], ◌∷◌, length, drop, get_or}
use Rattle.std.specs.Prelude.{◌&&◌, slice_set}
use Rattle.std.specs.List.{list_all}
use Rattle.tql_spec.specs.Definition.{table_at}
use Rattle.tql_spec.specs.History.{rows_in}
use Rattle.tql_spec.proofs.AtPoints.{table_in}
use Rattle.tql_spec.proofs.Constraints.{reference_test}
use Rattle.tql_catalog.specs.Referring.{referring_to}
use Rattle.tql_catalog.specs.Tables.{definitions_of}
use Rattle.tql_store.specs.Changes.{rows_after}
use Rattle.tql_keys.specs.Checked.{references_hold_of}
use Rattle.tql_key_rows.proofs.Stepping.{one_left, none_left}
use Rattle.tql_keys.proofs.Touching.{touching_decide}
use Rattle.tql_keys.proofs.WholeCopy.{as_many}
use Rattle.tql_keys.proofs.check.references_after.Goals as goal

-- within the list, the default makes no difference
any_default : (xs : List ℕ) (i a b : ℕ) → i < length xs → get_or xs i a ≡ get_or xs i b
any_default [] i a b l = absurd (omega arith)
any_default (x ∷ xs) zero a b l = refl
any_default (x ∷ xs) (suc i) a b l = any_default xs i a b (omega arith)

pub returns-then-not-own : goal.returns-then-not-own
returns-then-not-own g c copy gone is judged h =
    let D = definitions_of c.args.catalog.now in
    let t = c.args.place in
    let rows = rows_after c.args.change.now.moment gone c.args.change.now.added.now (rows_in copy t) in
    let after = slice_set copy t rows in
    let P : ℕ → Bool = references_hold_of D after in
    let n : length copy ≡ length D = is.as_many ∙ sym (as_many c.args.catalog.now) in
    let l : t < length D = omega (arith, as_many c.args.catalog.now, c.requires.within) in
    let held : references_hold_of D copy t ≡ true = table_in (reference_test D copy) D copy n h t l in
    let told : c.in_ok-own.own ≡ P t = c.in_ok-own.ensures copy gone is judged held in
    let fails : c.in_ok-own.own ≡ false = search (rules, tests) in
    sym (sym (touching_decide D copy t rows l n h)
    ∙ ap (λ b. b && list_all P (referring_to (table_at D t).name D)) (sym told ∙ fails))

pub returns-then-not-theirs : goal.returns-then-not-theirs
returns-then-not-theirs g c copy gone is judged h =
    let D = definitions_of c.args.catalog.now in
    let t = c.args.place in
    let rows = rows_after c.args.change.now.moment gone c.args.change.now.added.now (rows_in copy t) in
    let after = slice_set copy t rows in
    let P : ℕ → Bool = references_hold_of D after in
    let n : length copy ≡ length D = is.as_many ∙ sym (as_many c.args.catalog.now) in
    let l : t < length D = omega (arith, as_many c.args.catalog.now, c.requires.within) in
    let held : references_hold_of D copy t ≡ true = table_in (reference_test D copy) D copy n h t l in
    let told : c.in_ok-own.own ≡ P t = c.in_ok-own.ensures copy gone is judged held in
    let items = c.referring-child-items.result.now in
    let i = c.loop-child.child-index in
    let u = get_or items i 0 in
    let inside : i < length items = search rules in
    let below : u < length c.args.catalog.now = c.referring-child-items.ensures.within i 0 inside in
    let k : u < length D = omega (arith, as_many c.args.catalog.now, below) in
    let before : references_hold_of D copy u ≡ true = table_in (reference_test D copy) D copy n h u k in
    let met : c.in_ok-theirs.theirs ≡ P u = c.in_ok-theirs.ensures copy gone is judged before in
    let holds : c.in_ok-own.own ≡ true = search (rules, tests) in
    let fails : c.in_ok-theirs.theirs ≡ false = search (rules, tests) in
    let listed : items ≡ referring_to (table_at D t).name D = c.referring-child-items.ensures.referring in
    sym (sym (touching_decide D copy t rows l n h)
    ∙ ap (λ b. b && list_all P (referring_to (table_at D t).name D)) (sym told ∙ holds)
    ∙ ap (list_all P) (sym listed)
    ∙ sym (c.loop-child.invariant copy gone is judged h)
    ∙ one_left P items i u inside (any_default items i 0 u inside)
    ∙ ap (λ b. b && list_all P (drop (i + 1) items)) (sym met ∙ fails))

pub loop-child-preserved : goal.loop-child-preserved
loop-child-preserved g c copy gone is judged h =
    let D = definitions_of c.args.catalog.now in
    let t = c.args.place in
    let rows = rows_after c.args.change.now.moment gone c.args.change.now.added.now (rows_in copy t) in
    let after = slice_set copy t rows in
    let P : ℕ → Bool = references_hold_of D after in
    let n : length copy ≡ length D = is.as_many ∙ sym (as_many c.args.catalog.now) in
    let l : t < length D = omega (arith, as_many c.args.catalog.now, c.requires.within) in
    let held : references_hold_of D copy t ≡ true = table_in (reference_test D copy) D copy n h t l in
    let told : c.in_ok-own.own ≡ P t = c.in_ok-own.ensures copy gone is judged held in
    let items = c.referring-child-items.result.now in
    let i = c.loop-child.child-index in
    let u = get_or items i 0 in
    let inside : i < length items = search rules in
    let below : u < length c.args.catalog.now = c.referring-child-items.ensures.within i 0 inside in
    let k : u < length D = omega (arith, as_many c.args.catalog.now, below) in
    let before : references_hold_of D copy u ≡ true = table_in (reference_test D copy) D copy n h u k in
    let met : c.in_ok-theirs.theirs ≡ P u = c.in_ok-theirs.ensures copy gone is judged before in
    let holds : c.in_ok-theirs.theirs ≡ true = search (rules, tests) in
    sym (one_left P items i u inside (any_default items i 0 u inside)
    ∙ ap (λ b. b && list_all P (drop (i + 1) items)) (sym met ∙ holds))
    ∙ c.loop-child.invariant copy gone is judged h

pub returns : goal.returns
returns g c copy gone is judged h =
    let D = definitions_of c.args.catalog.now in
    let t = c.args.place in
    let rows = rows_after c.args.change.now.moment gone c.args.change.now.added.now (rows_in copy t) in
    let after = slice_set copy t rows in
    let P : ℕ → Bool = references_hold_of D after in
    let n : length copy ≡ length D = is.as_many ∙ sym (as_many c.args.catalog.now) in
    let l : t < length D = omega (arith, as_many c.args.catalog.now, c.requires.within) in
    let held : references_hold_of D copy t ≡ true = table_in (reference_test D copy) D copy n h t l in
    let told : c.in_ok-own.own ≡ P t = c.in_ok-own.ensures copy gone is judged held in
    let items = c.referring-child-items.result.now in
    let i = c.loop-child.child-index in
    let past : length items ≤ i = search rules in
    let holds : c.in_ok-own.own ≡ true = search (rules, tests) in
    let listed : items ≡ referring_to (table_at D t).name D = c.referring-child-items.ensures.referring in
    sym (none_left P items i past) ∙ c.loop-child.invariant copy gone is judged h ∙ ap (list_all P) listed
    ∙ sym (ap (λ b. b && list_all P (referring_to (table_at D t).name D)) (sym told ∙ holds))
    ∙ touching_decide D copy t rows l n h

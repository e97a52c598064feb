use Rattle.std.proofs.Common.{refl, sym, ◌∙◌, ap, ◌≡◌, ◌<◌, ◌≤◌, ◌-◌, ◌==◌, ℕ, List, [], ◌∷◌, Bool, true, false}
use Rattle.std.proofs.Common.{length, drop, arith}
use Rattle.std.proofs.Common.{length-drop}
use Rattle.std.proofs.lemmas.Bool.{eqb-true, eqb-false}
use Rattle.tql_spec.specs.Words.{is_empty}
use Rattle.tql_splitter.proofs.ready.Ready.is_empty.Goals as goal

empty_as : (xs : List ℕ) (b : Bool) → (b ≡ true → length xs ≡ 0) → (b ≡ false → 0 < length xs) → b ≡ is_empty xs
empty_as [] true f g = refl
empty_as [] false f g = absurd (let some = g refl in omega (arith, some))
empty_as (x ∷ xs) true f g = absurd (let none = f refl in omega (arith, none))
empty_as (x ∷ xs) false f g = refl

pub returns : goal.returns
returns c =
    let items = c.self.inside.bytes.items in
    let next = c.self.inside.next in
    let count = length c.as_slice-bytes.result.now in
    let view : drop next items ≡ c.args.self.now = c.self.view_is in
    let size : length c.args.self.now ≡ length items - next = ap length (sym view) ∙ length-drop next items in
    let all : count ≡ length items = ap length c.as_slice-bytes.ensures.value in
    let within : next ≤ length items = omega (arith, c.self.invariant, c.as_slice-bytes.ensures.len, all) in
    empty_as c.args.self.now (next == count)
    (λ e. omega (arith, size, all, eqb-true next count e)) (λ e. omega
    (arith, size, all, within, eqb-false next count e))

-- One more byte is read.
use Rattle.std.proofs.Common.{◌≡◌, ℕ, suc, ◌+◌, ◌-◌, ◌*◌, ◌^◌, ◌<◌, ◌≤◌, List, drop, get_or, sym, ap, subst, ◌∙◌}
use Rattle.std.proofs.Common.{add-one, arith}
use Rattle.std.proofs.Math.Nat.{pow-succ', pow-le-pow_right}
use Rattle.std.proofs.lemmas.Nat.{mul-add-lt}
use Rattle.tql_exec_sort.specs.Rank.{start_of}
use Rattle.tql_exec_sort.proofs.Ranked.{start_more}
use Rattle.tql_exec_sort.proofs.rank.start.Goals as goal

-- a number of fewer than eight bytes has room for one more
fits : (place number : ℕ) → place < 8 → number < 256 ^ place → number < 2 ^ 56
fits place number h k =
    let w : 256 ^ place ≤ 256 ^ 7 = pow-le-pow_right (omega arith) {i = place} {j = 7} (omega arith) in
    omega (arith, k, w)

pub overflow_mul-number : goal.overflow_mul-number
overflow_mul-number c =
    omega (arith, fits c.loop-place.place c.loop-place.number c.loop-place-test.true c.loop-place.invariant.0)

pub overflow_add-number : goal.overflow_add-number
overflow_add-number c =
    omega (arith, fits c.loop-place.place c.loop-place.number c.loop-place-test.true c.loop-place.invariant.0)

pub loop-place-preserved : goal.loop-place-preserved
loop-place-preserved c =
    let number = c.loop-place.number in
    let place = c.loop-place.place in
    let text : List ℕ = c.args.text.now in
    let n = 8 - (place + 1) in
    let byte : c.from.result ≡ get_or text place 0 = c.from.ensures ∙ c.byte_at.ensures in
    let next : suc place ≡ place + 1 = sym (add-one place) in
    let left : suc (8 - (place + 1)) ≡ 8 - place = omega arith in (
      subst (λ m. number * 256 + c.from.result < 256 ^ m) next
          (subst (λ m. number * 256 + c.from.result < m) (sym (pow-succ' 256 place))
          (let f : number * 256 + c.from.result < 256 * 256 ^ place
          = mul-add-lt number 256 c.from.result (256 ^ place) c.loop-place.invariant.0 (omega arith) in f)),
      ap (λ b. (number * 256 + b) * 256 ^ n + start_of n (drop (place + 1) text)) byte
          ∙ ap (λ p. (number * 256 + get_or text place 0) * 256 ^ n + start_of n (drop p text)) (sym next)
          ∙ sym (start_more n place number text)
          ∙ ap (λ m. number * 256 ^ m + start_of m (drop place text)) left
          ∙ c.loop-place.invariant.1,
    )

pub returns-clause-number : goal.returns-clause-number
unfolding start_of
returns-clause-number c =
    let number = c.loop-place.number in
    let place = c.loop-place.place in
    let text : List ℕ = c.args.text.now in
    let e : 8 - place ≡ 0 = omega arith in
    let f : number * 256 ^ (8 - place) + start_of (8 - place) (drop place text)
    ≡ number * 256 ^ 0 + start_of 0 (drop place text)
    = ap (λ m. number * 256 ^ m + start_of m (drop place text)) e in
    let g : number * 256 ^ (8 - place) + start_of (8 - place) (drop place text) ≡ number * 1 + 0 = f in
    omega (arith, g, c.loop-place.invariant.1)

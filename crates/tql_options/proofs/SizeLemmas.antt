-- Numbers from their digits.
use Rattle.std.proofs.Common.{◌≡◌, ◌∙◌, refl, sym, ap, ℕ, ◌+◌, ◌-◌, ◌*◌, ◌<◌, ◌≤◌, ◌^◌, Bool, true, false, List, []}
use Rattle.std.proofs.Common.{◌∷◌, length, get_or, drop, nat_lt, nat_eq, Some, None, ◌&&◌, if◌then◌else◌, arith}
use Rattle.std.proofs.lemmas.List.{at_drop_more, drop_all}
use Rattle.std.proofs.lemmas.Bool.Decides.{nat_tests}
use Rattle.std.specs.List.{list_all}
use Rattle.tql_spec.specs.Calendar.{is_digit, number_from}
use Rattle.tql_options.specs.Sizes.{number_behind, number_in, within_64_bits}

number_from-grows : (n : ℕ) (ds : List ℕ) → n ≤ number_from n ds
number_from-grows n [] = omega arith
number_from-grows n (d ∷ ds) = let h : 10 * n + (d - 48) ≤ number_from (10 * n + (d - 48)) ds =
    number_from-grows (10 * n + (d - 48)) ds in omega (arith, h)

is_within : (n : ℕ) → n < 2 ^ 64 → within_64_bits n ≡ Some n
is_within n h = let e : nat_lt n (2 ^ 64) ≡ true = grind (arith, nat_tests) in rw e refl

is_beyond : (n : ℕ) → within_64_bits n ≡ None → 2 ^ 64 ≤ n
is_beyond n e = grind (arith, nat_tests)

stays_beyond : (m n : ℕ) → m ≤ n → within_64_bits m ≡ None → within_64_bits n ≡ None
stays_beyond m n h e =
    let below : 2 ^ 64 ≤ m = is_beyond m e in let past : nat_lt n (2 ^ 64) ≡ false = grind (arith, nat_tests) in
    rw past refl

behind_by : (first others : Bool) (m n : ℕ) → m ≤ n → (if first && true then within_64_bits m else None) ≡ None
    → (if first && others then within_64_bits n else None) ≡ None
behind_by false others m n h e = refl
behind_by true false m n h e = refl
behind_by true true m n h e = stays_beyond m n h e

-- if one more digit gives no number, further digits give none
pub behind_none : (n d : ℕ) (ds : List ℕ) → number_behind n (d ∷ []) ≡ None → number_behind n (d ∷ ds) ≡ None
behind_none n d ds e =
    behind_by (is_digit d) (list_all is_digit ds) (10 * n + (d - 48)) (number_from (10 * n + (d - 48)) ds)
    (number_from-grows (10 * n + (d - 48)) ds) e

-- if the digit at an index gives no number, the digits give none
pub no_number : (n i : ℕ) (ds : List ℕ) → i < length ds → number_behind n (drop i ds) ≡ number_behind 0 ds
    → number_behind n (get_or ds i 0 ∷ []) ≡ None → None ≡ number_in ds
no_number n i ds h e none =
    let filled : nat_eq (length ds) 0 ≡ false = grind (arith, nat_tests) in
    rw filled (sym (behind_none n (get_or ds i 0) (drop (i + 1) ds) none)
    ∙ sym (at_drop_more (number_behind n) ds i 0 h) ∙ e)

-- after the last digit, the number is the one that all digits spell
pub whole_number : (n i : ℕ) (ds : List ℕ) → n < 2 ^ 64 → length ds ≤ i → 0 < length ds
    → number_behind n (drop i ds) ≡ number_behind 0 ds → Some n ≡ number_in ds
whole_number n i ds small past some e =
    let filled : nat_eq (length ds) 0 ≡ false = grind (arith, nat_tests) in
    rw filled (sym (is_within n small) ∙ ap (number_behind n) (sym (drop_all i ds past)) ∙ e)

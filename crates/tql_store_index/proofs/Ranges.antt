-- A number of 64 bits is the group of a row that is filed by it alone, so a range of numbers is a range of groups.
use Rattle.std.proofs.Common.{◌≡◌, ℕ, ◌^◌, ◌-◌, Bool, true, false, List, [], ◌∷◌, refl, sym, ap, subst, ◌∙◌, arith}
use Rattle.std.proofs.Common.{FitsSigned}
use Rattle.std.proofs.Math.Facts.{to_z-of_z}
use Rattle.std.proofs.lemmas.Int.{ints, clamps}
use Rattle.std.specs.Prelude.{ℤ, pos, neg_ℤ, ◌+ℤ◌, ◌*ℤ◌, ◌&&◌, ◌||◌, int_le, int_lt, Option, Some, None, if◌then◌else◌}
use Rattle.std.specs.Int.{cast_signed, cast_unsigned, int_max, int_min, w64}
use Rattle.tql_spec.proofs.Members.{both, by_bool}
use Rattle.tql_spec.specs.Datum.{Datum, Null, Int, Text, Day, Moment, Row, is_null}
use Rattle.tql_spec.specs.Definition.{cell}
use Rattle.tql_spec.specs.Period.{Period, share_a_point}
use Rattle.tql_digest.specs.Digest.{digest}
use Rattle.tql_index.specs.Spans.{groups_between, in_group}
use Rattle.tql_store_index.specs.Basis.{IsGroup, in_values, is_between}
use Rattle.tql_store_index.specs.Places.{fits, fitting_if, whole}
use Rattle.tql_store_index.specs.Standing.{passes}
use Rattle.tql_store_index.specs.Tuple.{group_of}

number_is : (n : ℤ) → IsGroup n → cast_signed w64 (cast_unsigned w64 n) ≡ n
number_is n h =
    let f : FitsSigned w64 n = omega (arith, ints, h.low, h.high) in
    to_z-of_z f

among_groups : (low high n : ℤ) → IsGroup low → IsGroup high → int_le low n ≡ true → int_le n high ≡ true → IsGroup n
among_groups low high n a b h k = record {
  low = omega (arith, ints, a.low, h);
  high = omega (arith, ints, b.high, k);
}

-- a value that is not null, whose group is from the first number to the second
record IsAmong (low high : ℤ) (d : Datum) : Type 0 where
  not_null : is_null d ≡ false
  within : int_le low (group_of (d ∷ [])) && int_le (group_of (d ∷ [])) high ≡ true

-- a number between two of 64 bits is its own group
own_group : (low high n : ℤ) → IsGroup low → IsGroup high → int_le low n && int_le n high ≡ true
    → int_le low (cast_signed w64 (cast_unsigned w64 n))
    && int_le (cast_signed w64 (cast_unsigned w64 n)) high ≡ true
own_group low high n a b h =
    let t = both (int_le low n) (int_le n high) h in
    subst (λ z. int_le low z && int_le z high ≡ true) (sym (number_is n (among_groups low high n a b t.0 t.1))) h

among : (low high : ℤ) (d : Datum) → IsGroup low → IsGroup high → is_between low high d ≡ true → IsAmong low high d
unfolding digest
among low high Null a b h = absurd (cc)
among low high (Int n) a b h = record { not_null = refl; within = own_group low high n a b h }
among low high (Text t) a b h = absurd (cc)
among low high (Day n) a b h = record { not_null = refl; within = own_group low high n a b h }
among low high (Moment n) a b h = record { not_null = refl; within = own_group low high n a b h }

pub fitting_fits : (x : Option Period) → fits (fitting_if x) ≡ true
fitting_fits None = refl
fitting_fits (Some x) = by_bool (fits x)
    (λ t. ap (λ b. fits (if b then x else whole)) t ∙ t)
    (λ f. ap (λ b. fits (if b then x else whole)) f ∙ refl)

-- a period in a group shares a point with each range of groups that has the group
in_range : (low high n : ℤ) (x : Period) → int_le low n && int_le n high ≡ true → fits x ≡ true
    → share_a_point (in_group n x) (groups_between low high) ≡ true
in_range low high n x h k =
    let a = both (int_le low n) (int_le n high) h in
    let t = both (int_le (neg_ℤ (pos (2 ^ 63))) x.start) (int_lt x.start x.end && int_le x.end (pos (2 ^ 63 - 1))) k in
    let u = both (int_lt x.start x.end) (int_le x.end (pos (2 ^ 63 - 1))) t.1 in
    shares low high n x.start x.end a.0 a.1 t.0 u.0 u.1
  where
    shares : (low high n s e : ℤ) → int_le low n ≡ true → int_le n high ≡ true
        → int_le (neg_ℤ (pos (2 ^ 63))) s ≡ true → int_lt s e ≡ true → int_le e (pos (2 ^ 63 - 1)) ≡ true
        → int_lt (int_max (n *ℤ pos (2 ^ 64) +ℤ s) (low *ℤ pos (2 ^ 64) +ℤ neg_ℤ (pos (2 ^ 63))))
        (int_min (n *ℤ pos (2 ^ 64) +ℤ e) (high *ℤ pos (2 ^ 64) +ℤ pos (2 ^ 63 - 1))) ≡ true
    shares low high n s e a b c d f = grind (arith, ints, clamps, a, b, c, d, f)

-- a row with such a value is found by the range, if it is filed by that column alone
pub in_column : (column : ℕ) (by : List ℕ) (row : Row) (low high : ℤ) (x : Period) → by ≡ column ∷ [] → IsGroup low
    → IsGroup high → is_between low high (cell row column) ≡ true → fits x ≡ true
    → passes (λ z. share_a_point z (groups_between low high)) (in_values by row x) ≡ true
in_column column by row low high x e a b h k =
    let d = cell row column in
    let m = among low high d a b h in
    ap (λ (cs : List ℕ). passes (λ z. share_a_point z (groups_between low high)) (in_values cs row x)) e
    ∙ ap (λ (c : Bool). passes (λ z. share_a_point z (groups_between low high))
    (if c || false then None else Some (in_group (group_of (d ∷ [])) x))) m.not_null
    ∙ in_range low high (group_of (d ∷ [])) x m.within k

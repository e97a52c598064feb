-- Coverage, part by part.
use Rattle.std.specs.Prelude.{◌≡◌, ◌↔◌, ◌⊎◌, refl, ℕ, zero, suc, ◌+◌, ◌-◌, ◌<◌, ◌≤◌, List, [], ◌∷◌, map, length, ℤ}
use Rattle.std.specs.Prelude.{◌≤ℤ◌, ◌<ℤ◌, Contains, IsTrue, true, false, int_le, int_lt}
use Rattle.std.specs.Int.{int_max}
use Rattle.std.proofs.Common.{arith, sym, ap, ◌∙◌, subst, inl, inr, drop, get_or, add-one, add-zero, length-drop}
use Rattle.std.proofs.Math.Seq.{drop-cons, drop-length}
use Rattle.std.proofs.lemmas.List.{get_or-drop}
use Rattle.std.proofs.lemmas.Int.{ints, clamps, by_lt_z}
use Rattle.tql_spec.specs.Period.{Period, Holds, Covers}
use Rattle.tql_period.specs.declared.period.Period as code
use Rattle.tql_period.specs.Points.{points_of, StartsRise}

-- ---- one more part

-- some part contains the point
abbrev HeldIn : List Period → ℤ → Type 0
HeldIn parts p = (part : Period) × Contains parts part × Holds part p

by_first : (a : Period) (as' : List Period) (p : ℤ) → Holds a p → HeldIn (a ∷ as') p
by_first a as' p h = (a, (zero, omega arith, refl), h)

by_others : (a : Period) (as' : List Period) (p : ℤ) → HeldIn as' p → HeldIn (a ∷ as') p
by_others a as' p (x, m, h) = (x, (suc m.0, omega (arith, m.1), m.2), h)

by_either : (a : Period) (as' : List Period) (p : ℤ) → HeldIn (a ∷ as') p → Holds a p ⊎ HeldIn as' p
by_either a as' p (x, (zero, l, e), h) = inl (subst (λ y. Holds y p) (sym e) h)
by_either a as' p (x, (suc k, l, e), h) = inr (x, (k, omega arith, e), h)

-- the part of the whole from the reach on
abbrev rest_from : ℤ → Period → Period
rest_from reach whole = record { start = reach; end = whole.end }

past_first : (a : Period) (as' : List Period) (reach : ℤ) (whole : Period) → a.start ≤ℤ reach
    → Covers (a ∷ as') (rest_from reach whole) ↔ Covers as' (rest_from (int_max reach a.end) whole)
past_first a as' reach whole s = (
  λ h p k. elim (by_either a as' p (h p (omega (arith, ints, clamps, k.0), k.1)))
      [ inl i ↦ absurd (omega (arith, ints, clamps, k.0, i.1)) | inr r ↦ r ],
  λ h p k. by_lt_z p a.end
      (λ l. by_first a as' p (omega (arith, ints, s, k.0), l))
      (λ l. by_others a as' p (h p (omega (arith, ints, clamps, k.0, l), k.1))),
)

nobody : (p : ℤ) → HeldIn [] p → ⊥
nobody p (x, m, h) = omega (arith, m.1)

-- without parts, the whole must end by the reach
past_last : (reach : ℤ) (whole : Period) → Covers [] (rest_from reach whole) ↔ (whole.end ≤ℤ reach)
past_last reach whole = (
  λ h. by_lt_z reach whole.end (λ l. absurd (nobody reach (h reach (omega (arith, ints), l)))) (λ l. l),
  λ h p k. absurd (omega (arith, ints, h, k.0, k.1)),
)

-- if each part starts after the reach, the whole must end by the reach
past_gap : (parts : List Period) (reach : ℤ) (whole : Period) → ((x : Period) → Contains parts x → reach <ℤ x.start)
    → Covers parts (rest_from reach whole) ↔ (whole.end ≤ℤ reach)
past_gap parts reach whole f = (
  λ h. by_lt_z reach whole.end
      (λ l. let r = h reach (omega (arith, ints), l) in let g = f r.0 r.1 in absurd (omega (arith, ints, g, r.2.0)))
      (λ l. l),
  λ h p k. absurd (omega (arith, ints, h, k.0, k.1)),
)

-- ---- the sweep

through : {A B C : Type 0} → A ↔ B → B ↔ C → A ↔ C
through e f = (λ a. f.0 (e.0 a), λ c. e.1 (f.1 c))

-- the first i parts are swept: the whole is covered exactly if the others cover it from the reach on
pub record Swept (parts : List code.Period) (whole : Period) (i : ℕ) (reach : ℤ) : Type 0 where
  pub is : Covers (map points_of parts) whole ↔ Covers (map points_of (drop i parts)) (rest_from reach whole)

-- the remaining parts, at the next part
opened : (parts : List code.Period) (i : ℕ) (x : code.Period) → i < length parts → x ≡ get_or parts i x
    → map points_of (drop i parts) ≡ points_of x ∷ map points_of (drop (suc i) parts)
opened parts i x l e =
    let k : drop i parts ≡ x ∷ drop (suc i) parts = drop-cons parts i x l ∙ ap (λ y. y ∷ drop (suc i) parts) (sym e) in
    ap (map points_of) k

pub swept_more : (parts : List code.Period) (whole : Period) (i : ℕ) (reach reached : ℤ) (x : code.Period)
    → Swept parts whole i reach → i < length parts → x ≡ get_or parts i x → x.start ≤ℤ reach
    → reached ≡ int_max reach x.end → Swept parts whole (i + 1) reached
swept_more parts whole i reach reached x h l e s r =
    let P : List Period → Type 0 = λ ys. Covers (map points_of parts) whole ↔ Covers ys (rest_from reach whole) in
    record {
      is = rw (add-one, r)
          (through (subst P (opened parts i x l e) h.is)
          (past_first (points_of x) (map points_of (drop (suc i) parts)) reach whole s));
    }

pub swept_all : (parts : List code.Period) (whole : Period) (i : ℕ) (reach : ℤ) → Swept parts whole i reach
    → i ≤ length parts → length parts ≤ i → Covers (map points_of parts) whole ↔ (whole.end ≤ℤ reach)
swept_all parts whole i reach h k l =
    let P : List code.Period
    → Type 0 = λ ys. Covers (map points_of parts) whole ↔ Covers (map points_of ys) (rest_from reach whole) in
    let e : i ≡ length parts = omega (arith, k, l) in
    through (subst P (ap (λ n. drop n parts) e ∙ drop-length parts) h.is) (past_last reach whole)

-- each member of a list starts after the reach
far : (xs : List code.Period) (reach : ℤ) (d : code.Period)
    → ((k : ℕ) → k < length xs → reach <ℤ (get_or xs k d).start) → (y : Period) → Contains (map points_of xs) y
    → reach <ℤ y.start
far [] reach d f y (k, m, e) = absurd (omega (arith, m))
far (x ∷ xs) reach d f y (zero, m, e) = subst (λ z. reach <ℤ z.start) e (f zero (omega arith))
far (x ∷ xs) reach d f y (suc k, m, e) = far xs reach d (λ j l. f (suc j) (omega (arith, l))) y (k, omega (arith, m), e)

-- if one part starts after the reach, the later ones do
later : (parts : List code.Period) (i : ℕ) (reach : ℤ) (x : code.Period) → StartsRise parts → x ≡ get_or parts i x
    → reach <ℤ x.start → (k : ℕ) → i + k < length parts → reach <ℤ (get_or parts (i + k) x).start
later parts i reach x rise e s zero l = rw (add-zero, ← e) s
later parts i reach x rise e s (suc k) l =
    let t = rise i (i + suc k) x (omega arith) l in
    let u : x.start ≡ (get_or parts i x).start = ap (λ (z : code.Period). z.start) e in
    omega (arith, ints, s, t, u)

behind : (parts : List code.Period) (i : ℕ) (reach : ℤ) (x : code.Period) → StartsRise parts → i < length parts
    → x ≡ get_or parts i x → reach <ℤ x.start → (y : Period) → Contains (map points_of (drop i parts)) y
    → reach <ℤ y.start
behind parts i reach x rise l e s =
    far (drop i parts) reach x
    (λ k m. rw (get_or-drop i parts k x)
    (later parts i reach x rise e s k
    (let n : length (drop i parts) ≡ length parts - i = length-drop i parts in omega (arith, n, m, l))))

pub swept_gap : (parts : List code.Period) (whole : Period) (i : ℕ) (reach : ℤ) (x : code.Period)
    → Swept parts whole i reach → StartsRise parts → i < length parts → x ≡ get_or parts i x → reach <ℤ x.start
    → Covers (map points_of parts) whole ↔ (whole.end ≤ℤ reach)
swept_gap parts whole i reach x h rise l e s =
    through h.is (past_gap (map points_of (drop i parts)) reach whole (behind parts i reach x rise l e s))

-- the result of the sweep
pub answers : (parts : List code.Period) (whole : Period) (e reach : ℤ) → e ≡ whole.end
    → Covers (map points_of parts) whole ↔ (whole.end ≤ℤ reach)
    → IsTrue (int_le e reach) ↔ Covers (map points_of parts) whole
answers parts whole e reach q h = (λ t. h.1 (grind (arith, ints)), λ k. let l = h.0 k in grind (arith, ints))

pub in_reach : (reach s t : ℤ) → int_lt reach s ≡ false → s ≡ t → t ≤ℤ reach
in_reach reach s t h e = grind (arith, ints)

pub out_of_reach : (reach s t : ℤ) → int_lt reach s ≡ true → s ≡ t → reach <ℤ t
out_of_reach reach s t h e = grind (arith, ints)

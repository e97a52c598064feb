-- The greatest end of lists that are the same bag.
use Rattle.std.specs.Prelude.{◌≡◌, refl, Bool, true, false, List, [], ◌∷◌, ◌++◌, count_by, ℤ, ◌≤ℤ◌}
use Rattle.std.specs.Prelude.{int_lt}
use Rattle.std.specs.Int.{int_max}
use Rattle.std.proofs.Common.{arith, cond, sym, ap, ◌∙◌}
use Rattle.std.proofs.lemmas.Int.{ints, clamps, by_lt_z}
use Rattle.tql_spec.specs.Bag.{SameBag}
use Rattle.tql_index.specs.Entry.{Entry, Removes}
use Rattle.tql_index.specs.Line.{first_place}
use Rattle.tql_index.specs.Tree.{greatest_end, WasGreatest}
use Rattle.tql_index.proofs.Counts.{count-cons, bit_none, bit_of_none}
use Rattle.tql_index.proofs.Branches.{least_below, greatest_end-append}

-- whether an entry ends after g
abbrev pub ends_after : ℤ → Entry → Bool
ends_after g e = int_lt g e.period.end

not_after : (g : ℤ) (e : Entry) → e.period.end ≤ℤ g → ends_after g e ≡ false
not_after g e h = grind (arith, ints)

by_then : (g : ℤ) (e : Entry) → ends_after g e ≡ false → e.period.end ≤ℤ g
by_then g e h = by_lt_z g e.period.end (λ l. absurd (grind (arith, ints))) (λ l. l)

none_ends_after : (g : ℤ) (es : List Entry) → greatest_end es ≤ℤ g → count_by (ends_after g) es ≡ 0
none_ends_after g [] h = refl
none_ends_after g (e ∷ es) h =
    let b = not_after g e (omega (arith, ints, clamps, h)) in
    omega (
      arith,
      count-cons (ends_after g) e es,
      bit_of_none (ends_after g e) b,
      none_ends_after g es (omega (arith, ints, clamps, h)),
    )

at_most : (g : ℤ) (es : List Entry) → first_place ≤ℤ g → count_by (ends_after g) es ≡ 0 → greatest_end es ≤ℤ g
at_most g [] l h = l
at_most g (e ∷ es) l h =
    let c = count-cons (ends_after g) e es in
    let b = by_then g e (bit_none (ends_after g e) (omega (arith, c, h))) in
    let t = at_most g es l (omega (arith, c, h)) in
    omega (arith, ints, clamps, b, t)

not_greater : (xs ys : List Entry) → SameBag xs ys → greatest_end xs ≤ℤ greatest_end ys
not_greater xs ys h =
    let n : count_by (ends_after (greatest_end ys)) ys ≡ 0
    = none_ends_after (greatest_end ys) ys (omega (arith, ints)) in
    let t = h.totals (λ e. cond (ends_after (greatest_end ys) e) 1 0) in
    at_most (greatest_end ys) xs (least_below ys) (omega (arith, n, t))

not_less : (xs ys : List Entry) → SameBag xs ys → greatest_end ys ≤ℤ greatest_end xs
not_less xs ys h =
    let n : count_by (ends_after (greatest_end xs)) xs ≡ 0
    = none_ends_after (greatest_end xs) xs (omega (arith, ints)) in
    let t = h.totals (λ e. cond (ends_after (greatest_end xs) e) 1 0) in
    at_most (greatest_end xs) ys (least_below xs) (omega (arith, n, t))

pub greatest_of_bag : (xs ys : List Entry) → SameBag xs ys → greatest_end xs ≡ greatest_end ys
greatest_of_bag xs ys h =
    let a = not_greater xs ys h in
    let b = not_less xs ys h in
    omega (arith, ints, a, b)

-- the greatest end before an entry is added, if it is
pub greatest_more : (e : Entry) (old new : List Entry) (g n : ℤ) → g ≡ greatest_end old → n ≡ e.period.end
    → SameBag new (e ∷ old) → int_max g n ≡ greatest_end new
greatest_more e old new g n h f s =
    let d = greatest_of_bag new (e ∷ old) s in
    omega (arith, ints, clamps, h, f, d)

-- the greatest end from before a removal
pub greatest_before : (b : Bool) (e : Entry) (old new : List Entry) (g n : ℤ) → Removes b e old new
    → g ≡ greatest_end old → n ≡ e.period.end → WasGreatest b n g new
greatest_before true e old new g n s h f = h ∙ greatest_of_bag old (e ∷ new) s ∙ rw f refl
greatest_before false e old new g n s h f = h ∙ ap greatest_end (sym s.0)

-- the greatest end before first entries are added
pub first_more : (m l k r : List Entry) (g n : ℤ) → k ≡ m ++ l → g ≡ greatest_end (l ++ r) → n ≡ greatest_end m
    → int_max g n ≡ greatest_end (k ++ r)
first_more m l k r g n e h f =
    let b = greatest_end-append (m ++ l) r in
    let c = greatest_end-append m l in
    let d = greatest_end-append l r in
    rw e (omega (arith, ints, clamps, h, b, c, d, f))

-- The order of places and spans on the line of all groups.
use Rattle.std.specs.Prelude.{◌≡◌, ◌^◌, false, ℤ, pos, neg_ℤ, int_lt, ◌<ℤ◌, ◌≤ℤ◌}
use Rattle.std.specs.declared.cmp.Ordering.{Ordering}
use Rattle.std.specs.Ordering.{int_cmp, ordering_then}
use Rattle.std.proofs.Common.{arith, sym, ap, ◌∙◌}
use Rattle.std.proofs.lemmas.Int.{ints, clamps, by_lt_z}
use Rattle.tql_spec.specs.Period.{Period, share_a_point}
use Rattle.tql_index.specs.Line.{placed}
use Rattle.tql_index.specs.Spans.{in_group}
use Rattle.tql_index.proofs.Order.{int_less, int_same, int_greater}

-- a number of 64 bits
pub record IsWord (n : ℤ) : Type 0 where
  pub low : neg_ℤ (pos (2 ^ 63)) ≤ℤ n
  pub high : n <ℤ pos (2 ^ 63)

-- each point of the lesser group is before the points of the other
less_group : (g h s t : ℤ) → g <ℤ h → IsWord s → IsWord t → placed g s <ℤ placed h t
less_group g h s t l a b = omega (arith, ints, l, a.low, a.high, b.low, b.high)

-- the order within one group
in_one : (g h s t : ℤ) → g ≡ h → int_cmp s t ≡ int_cmp (placed g s) (placed h t)
in_one g h s t e = by_lt_z s t
    (λ l. let m : placed g s <ℤ placed h t = omega (arith, ints, e, l) in
    int_less s t l ∙ sym (int_less (placed g s) (placed h t) m))
    (λ l. by_lt_z t s
    (λ m. let n : placed h t <ℤ placed g s = omega (arith, ints, e, m) in
    int_greater s t m ∙ sym (int_greater (placed g s) (placed h t) n))
    (λ m.
    let u : s ≡ t = omega (arith, ints, l, m) in
    let n : placed g s ≡ placed h t = omega (arith, ints, e, l, m) in
    int_same s t u ∙ sym (int_same (placed g s) (placed h t) n)))

-- places are ordered by group, then by point
pub place_order : (g h s t : ℤ) → IsWord s → IsWord t
    → ordering_then (int_cmp g h) (int_cmp s t) ≡ int_cmp (placed g s) (placed h t)
place_order g h s t a b = by_lt_z g h
    (λ l. ap (λ o. ordering_then o (int_cmp s t)) (int_less g h l)
    ∙ sym (int_less (placed g s) (placed h t) (less_group g h s t l a b)))
    (λ l. by_lt_z h g
    (λ m. ap (λ o. ordering_then o (int_cmp s t)) (int_greater g h m)
    ∙ sym (int_greater (placed g s) (placed h t) (less_group h g t s m b a)))
    (λ m.
    let e : g ≡ h = omega (arith, ints, l, m) in
    ap (λ o. ordering_then o (int_cmp s t)) (int_same g h e) ∙ in_one g h s t e))

-- spans with equal starts are in one group, so their ends compare as on the line
ends_order : (g h s t e f : ℤ) → IsWord s → IsWord t
    → ordering_then (int_cmp (placed g s) (placed h t)) (int_cmp e f)
    ≡ ordering_then (int_cmp (placed g s) (placed h t)) (int_cmp (placed g e) (placed h f))
ends_order g h s t e f a b =
    let x = placed g s in
    let y = placed h t in
    let p = int_cmp (placed g e) (placed h f) in
    by_lt_z x y
    (λ l. ap (λ o. ordering_then o (int_cmp e f)) (int_less x y l) ∙ sym
    (ap (λ o. ordering_then o p) (int_less x y l)))
    (λ l. by_lt_z y x
    (λ m. ap (λ o. ordering_then o (int_cmp e f)) (int_greater x y m)
    ∙ sym (ap (λ o. ordering_then o p) (int_greater x y m)))
    (λ m.
    let u : g ≡ h = omega (arith, ints, l, m, a.low, a.high, b.low, b.high) in
    ap (λ o. ordering_then (int_cmp x y) o) (in_one g h e f u)))

-- the order of spans, as the code computes it
pub span_order : (g h s t e f : ℤ) (a b c d o : Ordering) → IsWord s → IsWord t → a ≡ int_cmp g h → b ≡ int_cmp s t
    → c ≡ ordering_then a b → d ≡ int_cmp e f → o ≡ ordering_then c d
    → o ≡ ordering_then (int_cmp (placed g s) (placed h t)) (int_cmp (placed g e) (placed h f))
span_order g h s t e f a b c d o w v i j k l m =
    let n : c ≡ int_cmp (placed g s) (placed h t) =
    k ∙ ap (λ z. ordering_then z b) i ∙ ap (λ z. ordering_then (int_cmp g h) z) j ∙ place_order g h s t w v in
    m ∙ ap (λ z. ordering_then z d) n ∙ ap (λ z. ordering_then (int_cmp (placed g s) (placed h t)) z) l
    ∙ ends_order g h s t e f w v

-- ---- points that a span shares with a stretch of the line

-- nothing is shared with a stretch that does not rise, or that ends before
pub share_none : (x y : Period) → y.end ≤ℤ y.start → false ≡ share_a_point x y
share_none x y h = grind (arith, ints, clamps, h)

pub share_before : (x y : Period) → y.end ≤ℤ x.start → false ≡ share_a_point x y
share_before x y h = grind (arith, ints, clamps, h)

-- else whether something is shared is a matter of the stretch's start alone
pub share_by_start : (x y : Period) → x.start <ℤ x.end → y.start <ℤ y.end → x.start <ℤ y.end
    → int_lt y.start x.end ≡ share_a_point x y
share_by_start x y h k l = grind (arith, ints, clamps, h, k, l)

-- a period that rises does so in a group
pub rises_in : (g : ℤ) (x : Period) → x.start <ℤ x.end → (in_group g x).start <ℤ (in_group g x).end
rises_in g x h = omega (arith, ints, h)

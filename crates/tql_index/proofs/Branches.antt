-- The greatest end and the height of a branch.
use Rattle.std.specs.Prelude.{◌≡◌, refl, ℕ, zero, suc, ◌+◌, ◌*◌, ◌^◌, ◌<◌, ◌≤◌, max, List, [], ◌∷◌, ◌++◌, length, ℤ}
use Rattle.std.specs.Prelude.{◌≤ℤ◌}
use Rattle.std.specs.Int.{int_max}
use Rattle.std.proofs.Common.{◌⊎◌, arith, inl, inr, ap, ◌∙◌, add-one, length-append}
use Rattle.std.proofs.Math.Nat.{pow-suc}
use Rattle.std.proofs.Math.Pow.{pow_mono}
use Rattle.std.proofs.lemmas.Int.{ints, clamps}
use Rattle.std.proofs.lemmas.Bool.{cases_lt}
use Rattle.tql_index.specs.Entry.{Entry}
use Rattle.tql_index.specs.Line.{first_place}
use Rattle.tql_index.specs.Tree.{Contents, greatest_end, IsBranch, IsInOrder, IsShallow, DifferByAtMost}

pub least_below : (es : List Entry) → first_place ≤ℤ greatest_end es
least_below [] = omega (arith, ints)
least_below (e ∷ es) = let h = least_below es in omega (arith, ints, clamps, h)

pub greatest_end-append : (xs ys : List Entry) → greatest_end (xs ++ ys) ≡ int_max (greatest_end xs) (greatest_end ys)
greatest_end-append [] ys = let h = least_below ys in omega (arith, ints, clamps, h)
greatest_end-append (x ∷ xs) ys = let h = greatest_end-append xs ys in omega (arith, ints, clamps, h)

-- one of two counts is below half
half : (a b n : ℕ) → a + (b + 1) < 2 ^ suc n → (a < 2 ^ n) ⊎ (b < 2 ^ n)
half a b n s =
    let t = rw pow-suc at s in
    elim (cases_lt a (2 ^ n)) [ inl p ↦ inl p | inr p ↦ inr (omega (arith, t, p)) ]

shallow_more : (l r a b c : ℕ) → IsShallow l a → IsShallow r b → 0 < c → DifferByAtMost 1 l r
    → IsShallow (max l r + 1) (a + (c + b))
shallow_more l r a b c h k o d zero s = absurd (omega (arith, s))
shallow_more l r a b c h k o d (suc n) s = elim (half a b n (omega (arith, s, o))) [
  | inl p ↦ omega (arith, h n p, d.0, d.1)
  | inr p ↦ omega (arith, k n p, d.0, d.1)
]

deep_more : (l r a b c : ℕ) → a + 32 ≤ 32 * 2 ^ l → b + 32 ≤ 32 * 2 ^ r → c ≤ 32
    → a + (c + b) + 32 ≤ 32 * 2 ^ (max l r + 1)
deep_more l r a b c h k o =
    let m : 2 ^ l ≤ 2 ^ max l r = pow_mono (omega arith) in
    let n : 2 ^ r ≤ 2 ^ max l r = pow_mono (omega arith) in
    let p : 2 ^ (max l r + 1) ≡ 2 ^ max l r * 2 = ap (λ e. 2 ^ e) (add-one (max l r)) ∙ pow-suc 2 (max l r) in
    rw p (omega (arith, h, k, m, n, o))

-- the greatest end, from the greatest ends of the parts
pub greatest_of_parts : (l m r : List Entry) → greatest_end (l ++ (m ++ r))
    ≡ int_max (int_max (greatest_end l) (greatest_end m)) (greatest_end r)
greatest_of_parts l m r =
    let a = greatest_end-append l (m ++ r) in
    let b = greatest_end-append m r in
    omega (arith, ints, clamps, a, b)

pub made : (l : Contents) (m : List Entry) (r : Contents) (h : ℕ) (g : ℤ) → 0 < length m → length m ≤ 32
    → IsInOrder (l.entries ++ (m ++ r.entries)) → DifferByAtMost 1 l.height r.height
    → IsShallow l.height (length l.entries) → IsShallow r.height (length r.entries)
    → length l.entries + 32 ≤ 32 * 2 ^ l.height → length r.entries + 32 ≤ 32 * 2 ^ r.height
    → h ≡ max l.height r.height + 1 → g ≡ greatest_end (l.entries ++ (m ++ r.entries)) → IsBranch l m h g r
made l m r h g o f a d s t i j q u =
    let s' = shallow_more l.height r.height (length l.entries) (length r.entries) (length m) s t o d in
    let c : length (l.entries ++ (m ++ r.entries)) ≡ length l.entries + (length m + length r.entries) =
    omega (arith, length-append l.entries (m ++ r.entries), length-append m r.entries) in
    record {
      some = o;
      in_order = a;
      balanced = d;
      height_is = q;
      greatest_is = u;
      shallow = rw (q, c) s';
      deep = rw (q, c) (deep_more l.height r.height (length l.entries) (length r.entries) (length m) i j f);
    }

-- the greater of two numbers that are known under other names
pub greater_of : (r s a b a' b' : ℤ) → r ≡ int_max a' b' → s ≡ r → a' ≡ a → b' ≡ b → s ≡ int_max a b
greater_of r s a b a' b' h e f g = rw (e, h, f, g) refl

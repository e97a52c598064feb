-- Ranks agree with the order of their values.
use Rattle.std.proofs.Common.{◌≡◌, ℕ, zero, suc, ◌+◌, ◌*◌, ◌^◌, ◌<◌, Bool, true, false, List, [], ◌∷◌, drop}
use Rattle.std.proofs.Common.{get_or, refl, sym, ap, ◌∙◌, subst, arith}
use Rattle.std.specs.Prelude.{ℤ, ◌<ℤ◌, All}
use Rattle.std.specs.declared.cmp.Ordering.{Ordering}
use Rattle.std.specs.declared.cmp.Ordering.TheVariants.{Less, Equal, Greater}
use Rattle.std.specs.Ordering.{nat_cmp, int_cmp, ordering_then, ordering_reverse}
use Rattle.std.specs.Cmp.Lexicographic.{slice_cmp}
use Rattle.std.proofs.Math.Nat.{pow-suc}
use Rattle.std.proofs.lemmas.Int.{ints}
use Rattle.std.proofs.lemmas.Nat.{mul-add-lt}
use Rattle.std.proofs.lemmas.Cmp.{ranked, int_ranked, by_ranked, int_cmp_total, nat_cmp_total, nat_list_cmp_total}
use Rattle.std.proofs.lemmas.Cmp.{on_total, then_total}
use Rattle.std.proofs.lemmas.List.Elements.{All-tail}
use Rattle.tql_spec.specs.Datum.{Datum, Null, Int, Text, Day, Moment, Row, order, rank}
use Rattle.tql_exec_sort.specs.declared.rank.Rank.{Rank}
use Rattle.tql_spec.specs.Definition.{cell}
use Rattle.tql_spec.specs.Query.{OrderKey, directed, by_keys, by_columns, row_order}
use Rattle.tql_exec_sort.specs.Rank.{start_of, IsNumber, IsRest, IsRank, by_rank, by_rest, first_of}

-- comparing by `o` before `p` is comparing by `p`, if `o` never contradicts `p`
then_told : (o p : Ordering) → (o ≡ Less → p ≡ Less) → (o ≡ Greater → p ≡ Greater) → ordering_then o p ≡ p
then_told Less p l g = sym (l refl)
then_told Equal p l g = refl
then_told Greater p l g = sym (g refl)

-- comparing twice by the same order
then_itself : (o : Ordering) → ordering_then (ordering_then o Equal) o ≡ o
then_itself Less = refl
then_itself Equal = refl
then_itself Greater = refl

-- ---- texts

byte_first : (b : ℕ) (bs : List ℕ) → All (λ c. c < 256) (b ∷ bs) → b < 256
byte_first b bs a = a 0 b (omega arith)

bytes_rest : (b : ℕ) (bs : List ℕ) → All (λ c. c < 256) (b ∷ bs) → All (λ c. c < 256) bs
bytes_rest b bs a = All-tail (λ c. c < 256) b bs a

weight_pos : (n : ℕ) → 0 < 256 ^ n
weight_pos zero = omega arith
weight_pos (suc n) = omega (arith, pow-suc 256 n, weight_pos n)

pub start_below : (n : ℕ) (t : List ℕ) → All (λ b. b < 256) t → start_of n t < 256 ^ n
unfolding start_of
start_below zero t a = omega arith
start_below (suc n) [] a = weight_pos (suc n)
start_below (suc n) (b ∷ bs) a =
    subst (λ m. b * 256 ^ n + start_of n bs < m) (sym (pow-suc 256 n))
    (mul-add-lt b (256 ^ n) (start_of n bs) 256 (byte_first b bs a) (start_below n bs (bytes_rest b bs a)))

start_none : (n : ℕ) → start_of n [] ≡ 0
unfolding start_of
start_none zero = refl
start_none (suc n) = refl

-- the next byte, and the number of the bytes after it
start_next : (n place : ℕ) (t : List ℕ)
    → start_of (suc n) (drop place t) ≡ get_or t place 0 * 256 ^ n + start_of n (drop (suc place) t)
unfolding start_of
start_next n zero [] = omega (arith, start_none n)
start_next n zero (b ∷ bs) = refl
start_next n (suc place) [] = omega (arith, start_none n)
start_next n (suc place) (b ∷ bs) = start_next n place bs

-- one more byte is read
pub start_more : (n place number : ℕ) (t : List ℕ)
    → number * 256 ^ suc n + start_of (suc n) (drop place t)
    ≡ (number * 256 + get_or t place 0) * 256 ^ n + start_of n (drop (suc place) t)
start_more n place number t =
    let e : number * 256 ^ suc n ≡ number * (256 ^ n * 256) = ap (λ m. number * m) (pow-suc 256 n) in
    omega (arith, start_next n place t, e)

nat_less : (m n : ℕ) → nat_cmp m n ≡ Less → m < n
nat_less m n e = by_ranked _ _ _ (nat_cmp m n) (ranked m n (nat_cmp m n) refl) (λ _ h. h) (λ o h. cc) (λ o h. cc)

-- if the prefix of one text is less, so is the text
start_rises : (n : ℕ) (s t : List ℕ) → All (λ b. b < 256) s → All (λ b. b < 256) t
    → start_of n s < start_of n t → slice_cmp nat_cmp s t ≡ Less
unfolding start_of
start_rises zero s t a b h = absurd (let k : 0 < 0 = h in omega (arith, k))
start_rises (suc n) s [] a b h = absurd (let k : start_of (suc n) s < 0 = h in omega (arith, k))
start_rises (suc n) [] (y ∷ ys) a b h = refl
start_rises (suc n) (x ∷ xs) (y ∷ ys) a b h =
    let k : x * 256 ^ n + start_of n xs < y * 256 ^ n + start_of n ys = h in
    let below : start_of n ys < 256 ^ n = start_below n ys (bytes_rest y ys b) in
    let first : (o : Ordering) → nat_cmp x y ≡ o
    → ordering_then (nat_cmp x y) (slice_cmp nat_cmp xs ys) ≡ ordering_then o (slice_cmp nat_cmp xs ys)
    = λ o e. ap (λ r. ordering_then r (slice_cmp nat_cmp xs ys)) e in
    by_ranked (x < y) (x ≡ y) (y < x) (nat_cmp x y) (ranked x y (nat_cmp x y) refl)
    (λ o l. first Less o)
    (λ o e. first Equal o ∙ start_rises n xs ys (bytes_rest x xs a) (bytes_rest y ys b)
    (let f : x * 256 ^ n ≡ y * 256 ^ n = ap (λ z. z * 256 ^ n) e in omega (arith, f, k)))
    (λ o g. absurd (let f : y * 256 ^ n + start_of n ys < 256 ^ n * x = mul-add-lt y (256 ^ n) (start_of n ys) x g below
    in omega (arith, f, k)))

-- if the prefixes are equal, and the rest of one is less, so is the text
next_rises : (n m : ℕ) (s t : List ℕ) → All (λ b. b < 256) s → All (λ b. b < 256) t → start_of n s ≡ start_of n t
    → start_of m (drop n s) < start_of m (drop n t) → slice_cmp nat_cmp s t ≡ Less
unfolding start_of
next_rises zero m s t a b e h = start_rises m s t a b h
next_rises (suc n) m [] [] a b e h = absurd (let k : start_of m [] < start_of m [] = h in omega (arith, k))
next_rises (suc n) m [] (y ∷ ys) a b e h = refl
next_rises (suc n) m (x ∷ xs) [] a b e h =
    absurd (let k : start_of m (drop n xs) < start_of m [] = h in omega (arith, start_none m, k))
next_rises (suc n) m (x ∷ xs) (y ∷ ys) a b e h =
    let k : x * 256 ^ n + start_of n xs ≡ y * 256 ^ n + start_of n ys = e in
    let below : start_of n ys < 256 ^ n = start_below n ys (bytes_rest y ys b) in
    let first : (o : Ordering) → nat_cmp x y ≡ o
    → ordering_then (nat_cmp x y) (slice_cmp nat_cmp xs ys) ≡ ordering_then o (slice_cmp nat_cmp xs ys)
    = λ o e. ap (λ r. ordering_then r (slice_cmp nat_cmp xs ys)) e in
    by_ranked (x < y) (x ≡ y) (y < x) (nat_cmp x y) (ranked x y (nat_cmp x y) refl)
    (λ o l. first Less o)
    (λ o f. first Equal o ∙ next_rises n m xs ys (bytes_rest x xs a) (bytes_rest y ys b)
    (let g : x * 256 ^ n ≡ y * 256 ^ n = ap (λ z. z * 256 ^ n) f in omega (arith, g, k)) h)
    (λ o g. absurd (let f : y * 256 ^ n + start_of n ys < 256 ^ n * x = mul-add-lt y (256 ^ n) (start_of n ys) x g below
    in omega (arith, f, k)))

-- ---- values

-- a text is less if its number is less, or the numbers are equal and its rest is less
text_rises : (s t : List ℕ) (z w : ℤ) (m n : ℕ) → IsNumber (Text s) z → IsNumber (Text t) w → IsRest (Text s) m
    → IsRest (Text t) n → ordering_then (int_cmp z w) (nat_cmp m n) ≡ Less → slice_cmp nat_cmp s t ≡ Less
text_rises s t z w m n p q u v e =
    by_ranked (z <ℤ w) (z ≡ w) (w <ℤ z) (int_cmp z w) (int_ranked z w (int_cmp z w) refl)
    (λ o l. start_rises 8 s t p.1 q.1 (omega (arith, ints, l, p.0, q.0)))
    (λ o f. next_rises 8 8 s t p.1 q.1 (omega (arith, ints, f, p.0, q.0))
    (let k : nat_cmp m n ≡ Less = sym (ap (λ r. ordering_then r (nat_cmp m n)) o) ∙ e in
    omega (arith, nat_less m n k, u, v)))
    (λ o g. let k : Greater ≡ Less = sym (ap (λ r. ordering_then r (nat_cmp m n)) o) ∙ e in cc)

-- the comparison with both sides swapped
back_then : (x y : ℤ) (m n : ℕ) → ordering_then (int_cmp x y) (nat_cmp m n) ≡ Greater
    → ordering_then (int_cmp y x) (nat_cmp n m) ≡ Less
back_then x y m n e =
    (then_total (on_total (λ (p : ℤ × ℕ). p.0) int_cmp_total) (on_total (λ (p : ℤ × ℕ). p.1) nat_cmp_total)).antisymm
    (y, n) (x, m) ∙ ap ordering_reverse e

-- ranks never contradict the order of their values
told_by : (a b : Datum) (z w : ℤ) (m n : ℕ) → IsNumber a z → IsNumber b w → IsRest a m → IsRest b n
    → ordering_then (ordering_then (ordering_then (nat_cmp (rank a) (rank b)) (int_cmp z w)) (nat_cmp m n)) (order a b)
    ≡ order a b
told_by Null Null z w m n p q u v = rw (p, q, u, v) refl
told_by (Int a) (Int b) z w m n p q u v = rw (p, q, u, v) (then_itself (int_cmp a b))
told_by (Text a) (Text b) z w m n p q u v =
    then_told (ordering_then (int_cmp z w) (nat_cmp m n)) (slice_cmp nat_cmp a b)
    (λ e. text_rises a b z w m n p q u v e)
    (λ e. nat_list_cmp_total.antisymm a b ∙ ap ordering_reverse
    (text_rises b a w z n m q p v u (back_then z w m n e)))
told_by (Day a) (Day b) z w m n p q u v = rw (p, q, u, v) (then_itself (int_cmp a b))
told_by (Moment a) (Moment b) z w m n p q u v = rw (p, q, u, v) (then_itself (int_cmp a b))
told_by a b z w m n p q u v = refl

-- if ranks differ, the values are ordered in the same way
pub rank_told : (a b : Datum) (r s : Rank) → IsRank a r → IsRank b s
    → ordering_then (ordering_then (by_rank r s) (by_rest r s)) (order a b) ≡ order a b
rank_told a b r s p q =
    rw (p.kind, q.kind) (told_by a b r.number s.number r.rest s.rest p.number q.number p.rest q.rest)

-- ---- rows

pub then_joins : (o p q : Ordering) → ordering_then o (ordering_then p q) ≡ ordering_then (ordering_then o p) q
then_joins Less p q = refl
then_joins Equal p q = refl
then_joins Greater p q = refl

pub directed_then : (falls : Bool) (o p : Ordering)
    → directed falls (ordering_then o p) ≡ ordering_then (directed falls o) (directed falls p)
directed_then false o p = refl
directed_then true Less p = refl
directed_then true Equal p = refl
directed_then true Greater p = refl

-- an order that may be used before the first of two orders may be used before both
told_first : (o p q : Ordering) → ordering_then o p ≡ p → ordering_then o (ordering_then p q) ≡ ordering_then p q
told_first o p q e = then_joins o p q ∙ ap (λ r. ordering_then r q) e

-- an order that may be used before EQUAL or before LESS, which are the orders of NULL to a value, may be used before
-- LESS
before_rows : (o : Ordering) (b : Datum) → ordering_then o (order Null b) ≡ order Null b → ordering_then o Less ≡ Less
before_rows Less b e = refl
before_rows Equal b e = refl
before_rows Greater Null e = cc
before_rows Greater (Int n) e = cc
before_rows Greater (Text t) e = cc
before_rows Greater (Day d) e = cc
before_rows Greater (Moment m) e = cc

behind_rows : (o : Ordering) (a : Datum) → ordering_then o (order a Null) ≡ order a Null
    → ordering_then o Greater ≡ Greater
behind_rows Greater a e = refl
behind_rows Equal a e = refl
behind_rows Less Null e = cc
behind_rows Less (Int n) e = cc
behind_rows Less (Text t) e = cc
behind_rows Less (Day d) e = cc
behind_rows Less (Moment m) e = cc

-- an order that never contradicts that of two rows in the first sort column may be used before the order of the rows
pub row_told : (keys : List OrderKey) (a b : Row) (o : Ordering)
    → ordering_then o (order (cell a (first_of keys).column) (cell b (first_of keys).column))
    ≡ order (cell a (first_of keys).column) (cell b (first_of keys).column)
    → ordering_then (directed (first_of keys).falls o) (row_order keys a b) ≡ row_order keys a b
row_told (k ∷ ks) a b o e =
    let p : Ordering = order (cell a k.column) (cell b k.column) in
    told_first (directed k.falls o) (by_keys (k ∷ ks) a b) (by_columns a b)
    (told_first (directed k.falls o) (directed k.falls p) (by_keys ks a b)
    (sym (directed_then k.falls o p) ∙ ap (directed k.falls) e))
row_told [] [] [] o e = e
row_told [] [] (b ∷ bs) o e = before_rows o b e
row_told [] (a ∷ as') [] o e = behind_rows o a e
row_told [] (a ∷ as') (b ∷ bs) o e = told_first o (order a b) (by_columns as' bs) e

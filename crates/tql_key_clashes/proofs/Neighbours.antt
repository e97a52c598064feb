-- In rows sorted by their ranks, two rows clash exactly if two neighbours do.
use Rattle.std.proofs.Common.{◌≡◌, refl, sym, ap, subst, ◌∙◌, ℕ, Bool, true, false, cond, List, [], ◌∷◌, map, filter}
use Rattle.std.proofs.Common.{arith}
use Rattle.std.specs.Prelude.{◌&&◌, ◌||◌, not, ℤ, ◌≤ℤ◌}
use Rattle.std.specs.List.{list_all}
use Rattle.std.specs.declared.cmp.Ordering.{Ordering}
use Rattle.std.specs.declared.cmp.Ordering.TheVariants.{Less, Equal, Greater}
use Rattle.std.specs.Ordering.{int_cmp, is_gt, ordering_then, ordering_reverse}
use Rattle.std.specs.Cmp.{int_cmp_is}
use Rattle.std.proofs.lemmas.Cmp.{tied_itself, upto}
use Rattle.std.proofs.lemmas.Int.{ints, clamps, by_lt_z}
use Rattle.tql_spec.specs.Datum.{Row}
use Rattle.tql_spec.specs.Definition.{TableDef, Key, period_of}
use Rattle.tql_spec.specs.Period.{Period, rises, share_a_point}
use Rattle.tql_spec.specs.Constraint.{key_holds, clash, same_key}
use Rattle.tql_spec.specs.Query.{by_columns}
use Rattle.tql_spec.specs.Words.{all_pairs}
use Rattle.tql_spec.proofs.Constraints.{and_true}
use Rattle.tql_spec.proofs.Members.{both, by_bool}
use Rattle.tql_spec.proofs.Orders.{Ascends, by_columns-total, by_columns-ties}
use Rattle.tql_key_rows.specs.Ranks.{starts_at, rank}
use Rattle.tql_key_rows.specs.Touched.{tuple, has_tuple}
use Rattle.tql_key_clashes.specs.Rivals.{can_clash, all_neighbours}
use Rattle.tql_key_clashes.specs.Free.{collide}
use Rattle.tql_key_rows.proofs.Bools.{all_same, same_bool}
use Rattle.tql_key_rows.proofs.Ranked.{rank_by}
use Rattle.tql_key_rows.proofs.Sharing.{falling_first, falling_second}
use Rattle.tql_key_rows.proofs.Tuples.{match_is, match_tuple}
use Rattle.tql_key_rows.proofs.Wheres.{all_where}

-- ---- lexicographic orders

-- not greater in the combined order: not greater in the first one
first_upto : (o p : Ordering) → is_gt (ordering_then o p) ≡ false → is_gt o ≡ false
first_upto Less p e = refl
first_upto Equal p e = refl
first_upto Greater p e = e

level : (o : Ordering) → is_gt o ≡ false → is_gt (ordering_reverse o) ≡ false → o ≡ Equal
level Less g h = absurd (cc)
level Equal g h = refl
level Greater g h = absurd (cc)

not_above : (a b : ℤ) → is_gt (int_cmp a b) ≡ false → a ≤ℤ b
not_above a b e = by_lt_z b a
    (λ l. let h : Greater ≡ int_cmp a b = int_cmp_is a b Greater l in
    let w : true ≡ false = ap is_gt h ∙ e in absurd (cc))
    (λ h. h)

-- two tuples, neither of which is greater, are the same
pub one_tuple : (a b : Row) → is_gt (by_columns a b) ≡ false → is_gt (by_columns b a) ≡ false → a ≡ b
one_tuple a b g h =
    by_columns-ties a b (level (by_columns a b) g (sym (ap is_gt (by_columns-total.antisymm b a)) ∙ h))

-- ---- ranks

module _ (d : TableDef) (cs : List ℕ) where
  -- a row is not ranked after another
  abbrev pub Upto : Row → Row → Type 0
  Upto r s = is_gt (by_columns (rank d cs r) (rank d cs s)) ≡ false

  tuples_upto : (r s : Row) → Upto r s → is_gt (by_columns (tuple cs r) (tuple cs s)) ≡ false
  tuples_upto r s h = first_upto (by_columns (tuple cs r) (tuple cs s)) (int_cmp (starts_at d r) (starts_at d s))
      (sym (ap is_gt (rank_by cs r s (starts_at d r) (starts_at d s))) ∙ h)

  starts_upto : (r s : Row) → tuple cs r ≡ tuple cs s → Upto r s → starts_at d r ≤ℤ starts_at d s
  starts_upto r s e h =
      let o : by_columns (tuple cs r) (tuple cs s) ≡ Equal =
      ap (by_columns (tuple cs r)) (sym e) ∙ tied_itself by_columns-total (tuple cs r) in
      not_above (starts_at d r) (starts_at d s)
      (sym (ap (λ p. is_gt (ordering_then p (int_cmp (starts_at d r) (starts_at d s)))) o)
      ∙ sym (ap is_gt (rank_by cs r s (starts_at d r) (starts_at d s))) ∙ h)

  -- a row between two rows with one tuple has that tuple
  tuple_between : (x y z : Row) → Upto x y → Upto y z → tuple cs x ≡ tuple cs z → tuple cs x ≡ tuple cs y
  tuple_between x y z h i e = one_tuple (tuple cs x) (tuple cs y) (tuples_upto x y h)
      (subst (λ t. is_gt (by_columns (tuple cs y) t) ≡ false) (sym e) (tuples_upto y z i))

-- ---- a row that clashes with a later one clashes with the next

-- a period that starts between the starts of two that share a point shares one with the first of them
shares_between : (b : Bool) (x y z : Period) → not b || rises y ≡ true → x.start ≤ℤ y.start → y.start ≤ℤ z.start
    → not b || share_a_point x z ≡ true → not b || share_a_point x y ≡ true
shares_between false x y z r h i c = refl
shares_between true x y z r h i c = grind (arith, ints, clamps, r, h, i, c)

contrary : (a b : Bool) → (b ≡ true → a ≡ true) → not a ≡ true → not b ≡ true
contrary true b h n = absurd (cc)
contrary false true h n = absurd (let e : false ≡ true = h refl in cc)
contrary false false h n = refl

module _ (d : TableDef) (k : Key) where
  abbrev apart : Row → Row → Bool
  apart r s = not (clash d k r s)

  next_clashes : (x y z : Row) → can_clash d k y ≡ true → Upto d k.columns x y → Upto d k.columns y z
      → clash d k x z ≡ true → clash d k x y ≡ true
  next_clashes x y z can h i c =
      let cs = k.columns in
      let b = both (same_key k x z) (collide d k.by_period x z) c in
      let xz : tuple cs x ≡ tuple cs z = match_is cs x cs z b.0 in
      let xy : tuple cs x ≡ tuple cs y = tuple_between d cs x y z h i xz in
      let yz : tuple cs y ≡ tuple cs z = sym xy ∙ xz in
      let matched : same_key k x y ≡ true =
      match_tuple cs x cs y ∙ ap (λ t. has_tuple cs t x) yz ∙ sym (match_tuple cs x cs z) ∙ b.0 in
      and_true (same_key k x y) (collide d k.by_period x y) matched
      (shares_between k.by_period (period_of d x) (period_of d y) (period_of d z) can
      (starts_upto d cs x y xy h) (starts_upto d cs y z yz i) b.1)

  rest_apart : (x y : Row) (ys : List Row) → Upto d k.columns x y
      → Ascends by_columns (map (rank d k.columns) (y ∷ ys))
      → list_all (can_clash d k) (y ∷ ys) ≡ true → apart x y ≡ true → list_all (apart x) ys ≡ true
  rest_apart x y [] h a c n = refl
  rest_apart x y (z ∷ zs) h a c n =
      let b = both (can_clash d k y) (list_all (can_clash d k) (z ∷ zs)) c in
      let m : apart x z ≡ true = contrary (clash d k x y) (clash d k x z) (next_clashes x y z b.0 h a.0) n in
      let i : Upto d k.columns x z = upto by_columns-total (rank d k.columns x) (rank d k.columns y)
      (rank d k.columns z) h a.0 in
      and_true (apart x z) (list_all (apart x) zs) m (rest_apart x z zs i a.1 b.1 m)

  -- neighbours decide whether the key holds
  pub neighbours_decide : (rows : List Row) → Ascends by_columns (map (rank d k.columns) rows)
      → list_all (can_clash d k) rows ≡ true → all_neighbours apart rows ≡ key_holds d rows k
  neighbours_decide [] a c = refl
  neighbours_decide (x ∷ []) a c = refl
  neighbours_decide (x ∷ y ∷ ys) a c =
      let b = both (can_clash d k x) (list_all (can_clash d k) (y ∷ ys)) c in
      let first : apart x y ≡ apart x y && list_all (apart x) ys =
      same_bool (apart x y) (apart x y && list_all (apart x) ys)
      (λ e. and_true (apart x y) (list_all (apart x) ys) e (rest_apart x y ys a.0 a.1 b.1 e))
      (λ e. (both (apart x y) (list_all (apart x) ys) e).0) in
      ap (λ t. apart x y && t) (neighbours_decide (y ∷ ys) a.1 b.1) ∙ ap (λ t. t && all_pairs apart (y ∷ ys)) first

-- ---- rows that cannot clash

all_of : {A : Type 0} (p : A → Bool) (xs : List A) → ((x : A) → p x ≡ true) → list_all p xs ≡ true
all_of p [] h = refl
all_of p (x ∷ xs) h = and_true (p x) (list_all p xs) (h x) (all_of p xs h)

premised : (a b : Bool) → (a ≡ false → b ≡ true) → not a || b ≡ b
premised true b h = refl
premised false b h = sym (h refl)

-- elements that pass with all others make no difference
pairs_where : {A : Type 0} (t : A → A → Bool) (q : A → Bool) → ((x y : A) → q x ≡ false → t x y ≡ true)
    → ((x y : A) → q y ≡ false → t x y ≡ true) → (xs : List A) → all_pairs t (filter q xs) ≡ all_pairs t xs
pairs_where t q h i [] = refl
pairs_where t q h i (x ∷ xs) = by_bool (q x)
    (λ e. ap (λ b. all_pairs t (cond b (x ∷ filter q xs) (filter q xs))) e
    ∙ ap (λ b. b && all_pairs t (filter q xs)) (all_where q (t x) xs
    ∙ all_same (λ y. not (q y) || t x y) (t x) xs (λ y. premised (q y) (t x y) (i x y)))
    ∙ ap (λ b. list_all (t x) xs && b) (pairs_where t q h i xs))
    (λ e. ap (λ b. all_pairs t (cond b (x ∷ filter q xs) (filter q xs))) e
    ∙ pairs_where t q h i xs
    ∙ sym (ap (λ b. b && all_pairs t xs) (all_of (t x) xs (λ y. h x y e))))

-- the elements of a filtered list pass the test
pub all_filtered : {A : Type 0} (q : A → Bool) (xs : List A) → list_all q (filter q xs) ≡ true
all_filtered q xs = all_where q q xs ∙ all_of (λ x. not (q x) || q x) xs (λ x. either (q x))
  where
    either : (b : Bool) → not b || b ≡ true
    either true = refl
    either false = refl

no_share : (b same : Bool) (r : Bool) (s : Bool) → not b || r ≡ false → (r ≡ false → s ≡ false)
    → not (same && (not b || s)) ≡ true
no_share false same r s e h = absurd (cc)
no_share true same r s e h = ap (λ c. not (same && c)) (h e) ∙ off same
  where
    off : (b : Bool) → not (b && false) ≡ true
    off true = refl
    off false = refl

-- whether a key holds depends only on the rows that can clash
pub rivals_decide : (d : TableDef) (k : Key) (rows : List Row)
    → key_holds d (filter (can_clash d k) rows) k ≡ key_holds d rows k
rivals_decide d k rows = pairs_where (λ r s. not (clash d k r s)) (can_clash d k)
    (λ r s e. no_share k.by_period (same_key k r s) (rises (period_of d r))
    (share_a_point (period_of d r) (period_of d s)) e (falling_first (period_of d r) (period_of d s)))
    (λ r s e. no_share k.by_period (same_key k r s) (rises (period_of d s))
    (share_a_point (period_of d r) (period_of d s)) e (falling_second (period_of d r) (period_of d s)))
    rows

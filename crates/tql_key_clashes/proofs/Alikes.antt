-- Rows with the same values in some columns and, by period, the same periods. Keys read no more of them.
use Rattle.std.proofs.Common.{◌≡◌, refl, sym, ap, ◌∙◌, ℕ, Bool, true, false, List}
use Rattle.std.specs.Prelude.{◌&&◌, ◌||◌, not, ℤ}
use Rattle.std.specs.Ordering.{int_eq, is_eq}
use Rattle.std.specs.declared.cmp.Ordering.{Ordering}
use Rattle.std.specs.declared.cmp.Ordering.TheVariants.{Less, Equal, Greater}
use Rattle.std.proofs.lemmas.Bool.Decides.{Decides-int_eq}
use Rattle.tql_spec.specs.Datum.{Row}
use Rattle.tql_spec.specs.Definition.{TableDef, Key, period_of}
use Rattle.tql_spec.specs.Constraint.{clash, match_on}
use Rattle.tql_spec.specs.Period.{Period, share_a_point}
use Rattle.tql_spec.specs.Query.{by_columns}
use Rattle.tql_spec.proofs.Members.{both}
use Rattle.tql_spec.proofs.Orders.{by_columns-ties}
use Rattle.tql_key_rows.specs.Keeping.{are_alike, same_ends, same_period}
use Rattle.tql_key_rows.specs.Touched.{tuple, has_tuple}
use Rattle.tql_key_rows.proofs.Tuples.{match_tuple}
use Rattle.tql_key_clashes.proofs.KeyBags.{clash_turned}

-- the same tuple and, by period, the same period
pub record AreAlike (d : TableDef) (columns : List ℕ) (by_period : Bool) (r s : Row) : Type 0 where
  pub tuples : tuple columns r ≡ tuple columns s
  pub periods : by_period ≡ true → period_of d r ≡ period_of d s

level : (o : Ordering) → is_eq o ≡ true → o ≡ Equal
level Less e = absurd (cc)
level Equal e = refl
level Greater e = absurd (cc)

-- tuples that compare equal are the same
one_tuple : (a b : Row) → is_eq (by_columns a b) ≡ true → a ≡ b
one_tuple a b e = by_columns-ties a b (level (by_columns a b) e)

-- the period from a start to an end
abbrev between : ℤ → ℤ → Period
between start end = record { start = start; end = end }

-- periods with the same ends are the same
one_period : (x y : Period) → same_ends x y ≡ true → x ≡ y
one_period x y e =
    let b = both (int_eq x.start y.start) (int_eq x.end y.end) e in
    let s : x.start ≡ y.start = (Decides-int_eq x.start y.start).0 b.0 in
    let t : x.end ≡ y.end = (Decides-int_eq x.end y.end).0 b.1 in
    ap (λ z. between z x.end) s ∙ ap (between y.start) t

-- what `are_alike` implies
pub alike_says : (d : TableDef) (columns : List ℕ) (by_period : Bool) (r s : Row)
    → are_alike d columns by_period r s ≡ true → AreAlike d columns by_period r s
alike_says d columns by_period r s e =
    let b = both (is_eq (by_columns (tuple columns r) (tuple columns s))) (not by_period || same_period d r s) e in
    record {
      tuples = one_tuple (tuple columns r) (tuple columns s) b.0;
      periods = λ p. one_period (period_of d r) (period_of d s) (sym (ap (λ c. not c || same_period d r s) p) ∙ b.1);
    }

-- a row is alike itself
pub alike_itself : (d : TableDef) (columns : List ℕ) (by_period : Bool) (r : Row) → AreAlike d columns by_period r r
alike_itself d columns by_period r = record { tuples = refl; periods = λ p. refl }

-- a row matches two alike rows equally
pub matches_alike : (cs : List ℕ) (c : Row) (ks : List ℕ) (r s : Row) → tuple ks r ≡ tuple ks s
    → match_on cs c ks r ≡ match_on cs c ks s
matches_alike cs c ks r s e =
    match_tuple cs c ks r ∙ ap (λ vs. has_tuple cs vs c) e ∙ sym (match_tuple cs c ks s)

clash_second : (d : TableDef) (k : Key) (a r s : Row) → AreAlike d k.columns k.by_period r s
    → clash d k a r ≡ clash d k a s
clash_second d k a r s h =
    ap (λ b. b && (not k.by_period || share_a_point (period_of d a) (period_of d r)))
    (matches_alike k.columns a k.columns r s h.tuples)
    ∙ ap (λ b. match_on k.columns a k.columns s && b)
    (shared k.by_period (period_of d a) (period_of d r) (period_of d s) h.periods)
  where
    shared : (b : Bool) (x y z : Period) → (b ≡ true → y ≡ z)
        → not b || share_a_point x y ≡ not b || share_a_point x z
    shared false x y z q = refl
    shared true x y z q = ap (share_a_point x) (q refl)

-- two rows clash exactly if two rows alike them do
pub clash_alike : (d : TableDef) (k : Key) (a b r s : Row) → AreAlike d k.columns k.by_period a b
    → AreAlike d k.columns k.by_period r s → clash d k a r ≡ clash d k b s
clash_alike d k a b r s h j =
    clash_second d k a r s j ∙ clash_turned d k a s ∙ clash_second d k s a b h ∙ clash_turned d k s b

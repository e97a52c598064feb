-- Joined rows: a row so far with a row of the next reference, or with nulls, fits the wider scope.
use Rattle.std.proofs.Common.{◌≡◌, ◌≤◌, refl, sym, subst, ◌∙◌, ℕ, ◌+◌, Bool, true, false, List, [], ◌∷◌, ◌++◌, map}
use Rattle.std.proofs.Common.{length, inl, inr, arith, length-append, get_or-append-add}
use Rattle.std.specs.Prelude.{replicate, Option, Some, None}
use Rattle.std.proofs.Math.ListN.{get_or-append}
use Rattle.std.proofs.lemmas.List.{length-map}
use Rattle.tql_spec.specs.Words.{◌>>=◌, filter_all, kept_if}
use Rattle.tql_spec.specs.Bag.{In}
use Rattle.tql_spec.specs.Datum.{Null, Row}
use Rattle.tql_spec.specs.Expression.{Cond, passes}
use Rattle.tql_spec.specs.Definition.{cell}
use Rattle.tql_spec.specs.Query.{pairs, keep, or_alone, left_join}
use Rattle.tql_spec.specs.Names.{Known, kind_at}
use Rattle.tql_spec.specs.Typing.{IsOfKind, AreOfKinds}
use Rattle.tql_spec.proofs.MemberLists.{in_either, in_image}
use Rattle.tql_spec.proofs.ExprKinds.{column_kinds, FitsKnown, FitsScope, in_flat, after}
use Rattle.tql_spec.proofs.RowKinds.{cell_kind, kinds_length}
use Rattle.tql_spec.proofs.BoundKinds.{kind_at_is}

-- ---- members

-- a row that is kept is one of the rows
pub in_filter_all : {X : Type 0} (test : X → Option Bool) (xs ys : List X) → filter_all test xs ≡ Some ys → (x : X)
    → In x ys → In x xs
in_filter_all test [] ys e x m = let q : [] ≡ ys = cc in absurd (subst (In x) (sym q) m)
in_filter_all test (y ∷ xs) ys e x m = by_test (test y) (filter_all test xs) (in_filter_all test xs) e
  where
    by_test : (b : Option Bool) (rest : Option (List _))
        → ((zs : List _) → rest ≡ Some zs → (z : _) → In z zs → In z xs)
        → kept_if y b rest ≡ Some ys → In x (y ∷ xs)
    by_test None rest ih q = absurd (cc)
    by_test (Some b) None ih q = absurd (cc)
    by_test (Some true) (Some zs) ih q =
        let same : y ∷ zs ≡ ys = cc in elim (subst (In x) (sym same) m) [ inl z ↦ inl z | inr n ↦ inr (ih zs refl x n) ]
    by_test (Some false) (Some zs) ih q = let same : zs ≡ ys = cc in inr (ih zs refl x (subst (In x) (sym same) m))

-- a row made of two rows, each with its own property
pub record IsPairOf (P Q : Row → Type 0) (z : Row) : Type 0 where
  pub left : Row
  pub right : Row
  pub first : P left
  pub second : Q right
  pub whole : z ≡ left ++ right

pub in_pairs : (P Q : Row → Type 0) (xs ys : List Row) → ((x : Row) → In x xs → P x) → ((y : Row) → In y ys → Q y)
    → (z : Row) → In z (pairs xs ys) → IsPairOf P Q z
in_pairs P Q xs ys h k z m =
    let a = in_flat (λ x. map (λ y. x ++ y) ys) z xs m in
    let b = in_image (λ y. a.0 ++ y) z ys a.2 in
    record { left = a.0; right = b.0; first = h a.0 a.1; second = k b.0 b.1; whole = b.2 }

-- ---- joins

-- a row from the left, with a row of a reference or with nulls
module _ (P Q : Row → Type 0) (on : List Cond) (width : ℕ) (ys : List Row) (nulls : Q (replicate width Null))
    (right : (y : Row) → In y ys → Q y) where
  -- the rows of a LEFT join have this form
  pub left_pairs : (xs : List Row) → ((x : Row) → In x xs → P x) → (out : List Row)
      → left_join on width xs ys ≡ Some out
      → (z : Row) → In z out → IsPairOf P Q z
  left_pairs [] h out e z m = let q : [] ≡ out = cc in absurd (subst (λ (l : List Row). In z l) (sym q) m)
  left_pairs (x ∷ xs) h out e z m =
      after (keep on (pairs (x ∷ []) ys))
      (λ partners. left_join on width xs ys >>= λ rest. Some (or_alone width x partners ++ rest)) out e
      (λ partners q p. after (left_join on width xs ys) (λ rest. Some (or_alone width x partners ++ rest)) out p
      (λ rest s r. ends partners q rest (left_pairs xs (λ y n. h y (inr n)) rest s z) r))
    where
      partner : (partners : List Row) → ((y : Row) → In y partners → In y (pairs (x ∷ []) ys))
          → In z (or_alone width x partners) → IsPairOf P Q z
      partner [] k (inl q) = record {
        left = x;
        right = replicate width Null;
        first = h x
            (inl refl);
        second = nulls;
        whole = q;
      }
      partner [] k (inr n) = absurd n
      partner (p ∷ ps) k n = in_pairs P Q (x ∷ []) ys
          (λ y i. elim i [ inl q ↦ subst P (sym q) (h x (inl refl)) | inr n ↦ absurd n ]) right z (k z n)

      ends : (partners : List Row) → keep on (pairs (x ∷ []) ys) ≡ Some partners → (rest : List Row)
          → (In z rest → IsPairOf P Q z)
          → Some (or_alone width x partners ++ rest) ≡ Some out → IsPairOf P Q z
      ends partners q rest ih r =
          let same : or_alone width x partners ++ rest ≡ out = cc in
          elim (in_either z (or_alone width x partners) rest (subst (λ (l : List Row). In z l) (sym same) m)) [
            | inl n ↦ partner partners (λ y i. in_filter_all (λ r. passes [] r on) (pairs (x ∷ []) ys) partners q y i) n
            | inr n ↦ ih n
          ]

-- a row of this width that fits the scope
pub record Wide (scope : List Known) (width : ℕ) (row : Row) : Type 0 where
  pub many : length row ≡ width
  pub fits : FitsScope scope row

-- the columns of all references are within this width
abbrev pub Within : List Known → ℕ → Type 0
Within scope width = (k : Known) → In k scope → k.offset + length k.columns ≤ width

-- a row of a table, after other cells, fits its reference
row_fits : (k : Known) (x y : Row) → k.offset ≡ length x → AreOfKinds (column_kinds k.columns) y → FitsKnown (x ++ y) k
row_fits k x y e h i l =
    subst (λ j. IsOfKind (Some (kind_at k.columns i)) (cell (x ++ y) (j + i))) (sym e)
    (subst (IsOfKind (Some (kind_at k.columns i))) (sym (get_or-append-add x y i Null))
    (subst (λ c. IsOfKind (Some c) (cell y i)) (sym (kind_at_is k.columns i))
    (cell_kind (column_kinds k.columns) y h i)))

-- a row that fits a reference still fits it with more cells at the end
pub longer_fits : (k : Known) (x y : Row) → k.offset + length k.columns ≤ length x → FitsKnown x k
    → FitsKnown (x ++ y) k
longer_fits k x y w h i l =
    subst (IsOfKind (Some (kind_at k.columns i))) (sym (get_or-append x y Null (k.offset + i) (omega arith)))
    (h i l)

-- a row with one more reference fits the wider scope
pub wider : (scope : List Known) (width : ℕ) (k : Known) (x y : Row) → Within scope width → Wide scope width x
    → k.offset ≡ width
    → AreOfKinds (column_kinds k.columns) y → Wide (scope ++ k ∷ []) (width + length k.columns) (x ++ y)
wider scope width k x y n w e h = record {
  many = omega (
    arith,
    length-append x y,
    w.many,
    kinds_length (column_kinds k.columns) y h,
    length-map k.columns
        (λ c. c.kind),
  );
  fits = record {
    each = λ j m. elim (in_either j scope (k ∷ []) m) [
      | inl i ↦ longer_fits j x y (omega (arith, n j i, w.many)) (w.fits.each j i)
      | inr i ↦ elim i [
        | inl q ↦ subst (FitsKnown (x ++ y)) (sym q) (row_fits k x y (e ∙ sym w.many) h)
        | inr z ↦ absurd z
      ]
    ];
  };
}

-- the wider scope is within the new width
pub within_more : (scope : List Known) (width : ℕ) (k : Known) → Within scope width → k.offset ≡ width
    → Within (scope ++ k ∷ []) (width + length k.columns)
within_more scope width k n e j m = elim (in_either j scope (k ∷ []) m) [
  | inl i ↦ omega (arith, n j i)
  | inr i ↦ elim i [
    | inl q ↦ subst (λ (x : Known). x.offset + length x.columns ≤ width + length k.columns) (sym q)
        (omega (arith, e))
    | inr z ↦ absurd z
  ]
]

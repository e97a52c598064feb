-- Tuples of columns, and rows that match on them.
use Rattle.std.proofs.Common.{◌≡◌, refl, sym, ap, ◌∙◌, ℕ, Bool, true, false, List, [], ◌∷◌, filter}
use Rattle.std.specs.Prelude.{◌&&◌}
use Rattle.std.specs.Cmp.{Equal-is}
use Rattle.std.specs.Ordering.{nat_cmp}
use Rattle.std.specs.Cmp.Lexicographic.{slice_cmp}
use Rattle.std.proofs.lemmas.Bool.Decides.{Decides-int_eq}
use Rattle.std.proofs.lemmas.Map.Lookups.{exact_bytes}
use Rattle.tql_spec.specs.Truth.{is_true, truth_of}
use Rattle.tql_spec.specs.Datum.{Datum, Null, Int, Text, Day, Moment, Row, Equals, compare}
use Rattle.tql_spec.specs.Definition.{cell}
use Rattle.tql_spec.specs.Constraint.{match_on}
use Rattle.tql_spec.proofs.Members.{both}
use Rattle.tql_key_rows.specs.Touched.{tuple, has_tuple, with_tuple}
use Rattle.tql_key_rows.proofs.Bools.{same_bool}

-- whether two values are equal
abbrev pub equals : Datum → Datum → Bool
equals a b = is_true (compare Equals a b)

told : (b : Bool) → is_true (truth_of b) ≡ b
told true = refl
told false = refl

-- equal values are the same
pub equals_is : (a b : Datum) → equals a b ≡ true → a ≡ b
equals_is (Int a) (Int b) e = ap Int ((Decides-int_eq a b).0 (sym (told _) ∙ e))
equals_is (Text a) (Text b) e = ap Text (exact_bytes a b ((Equal-is (slice_cmp nat_cmp a b)).0 (sym (told _) ∙ e)))
equals_is (Day a) (Day b) e = ap Day ((Decides-int_eq a b).0 (sym (told _) ∙ e))
equals_is (Moment a) (Moment b) e = ap Moment ((Decides-int_eq a b).0 (sym (told _) ∙ e))
equals_is Null Null e = refl
equals_is Null (Int b) e = cc
equals_is Null (Text b) e = cc
equals_is Null (Day b) e = cc
equals_is Null (Moment b) e = cc
equals_is (Int a) Null e = cc
equals_is (Int a) (Text b) e = cc
equals_is (Int a) (Day b) e = cc
equals_is (Int a) (Moment b) e = cc
equals_is (Text a) Null e = cc
equals_is (Text a) (Int b) e = cc
equals_is (Text a) (Day b) e = cc
equals_is (Text a) (Moment b) e = cc
equals_is (Day a) Null e = cc
equals_is (Day a) (Int b) e = cc
equals_is (Day a) (Text b) e = cc
equals_is (Day a) (Moment b) e = cc
equals_is (Moment a) Null e = cc
equals_is (Moment a) (Int b) e = cc
equals_is (Moment a) (Text b) e = cc
equals_is (Moment a) (Day b) e = cc

-- so equality is symmetric
equals_turn : (a b : Datum) → equals a b ≡ true → equals b a ≡ true
equals_turn a b e =
    let q : a ≡ b = equals_is a b e in
    ap (λ x. equals b x) q ∙ sym (ap (λ x. equals x b) q) ∙ e

pub equals_sym : (a b : Datum) → equals a b ≡ equals b a
equals_sym a b = same_bool (equals a b) (equals b a) (equals_turn a b) (equals_turn b a)

-- matching is symmetric
pub match_sym : (cs : List ℕ) (r : Row) (ks : List ℕ) (s : Row) → match_on cs r ks s ≡ match_on ks s cs r
match_sym [] r [] s = refl
match_sym [] r (k ∷ ks) s = refl
match_sym (c ∷ cs) r [] s = refl
match_sym (c ∷ cs) r (k ∷ ks) s =
    ap (λ b. b && match_on cs r ks s) (equals_sym (cell r c) (cell s k))
    ∙ ap (λ b. equals (cell s k) (cell r c) && b) (match_sym cs r ks s)

-- a row matches another exactly if it has its tuple
pub match_tuple : (cs : List ℕ) (r : Row) (ks : List ℕ) (s : Row) → match_on cs r ks s ≡ has_tuple cs (tuple ks s) r
match_tuple [] r [] s = refl
match_tuple [] r (k ∷ ks) s = refl
match_tuple (c ∷ cs) r [] s = refl
match_tuple (c ∷ cs) r (k ∷ ks) s = ap (λ b. equals (cell r c) (cell s k) && b) (match_tuple cs r ks s)

-- rows that match have the same tuple
pub match_is : (cs : List ℕ) (r : Row) (ks : List ℕ) (s : Row) → match_on cs r ks s ≡ true → tuple cs r ≡ tuple ks s
match_is [] r [] s e = refl
match_is [] r (k ∷ ks) s e = cc
match_is (c ∷ cs) r [] s e = cc
match_is (c ∷ cs) r (k ∷ ks) s e =
    let b = both (equals (cell r c) (cell s k)) (match_on cs r ks s) e in
    let x = equals_is (cell r c) (cell s k) b.0 in
    let y = match_is cs r ks s b.1 in
    cc

-- the rows that match another
pub matching : (cs : List ℕ) (ks : List ℕ) (s : Row) (rows : List Row)
    → filter (λ r. match_on cs r ks s) rows ≡ with_tuple cs (tuple ks s) rows
matching cs ks s rows = ap (λ (p : Row → Bool). filter p rows) (λ i r. match_tuple cs r ks s i)

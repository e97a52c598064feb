-- Rows that stand one behind another, when one comes behind them or the last one goes.
use Rattle.std.specs.Prelude.{◌≡◌, refl, ℕ, zero, suc, ◌+◌, ◌-◌, ◌<◌, ◌≤◌, List, [], ◌∷◌, ◌++◌, length, Some}
use Rattle.std.specs.Prelude.{slice_get, slice_index_or}
use Rattle.std.proofs.Common.{sym, ap, subst, ◌∙◌, arith, drop, take}
use Rattle.std.proofs.lemmas.List.{drop-append-le, drop_at, length-append, length-drop, length-take-le, take_all}
use Rattle.std.proofs.lemmas.List.{take-append-drop, take-append-le}
use Rattle.tql_spec.specs.Datum.{Row}
use Rattle.tql_exec_join.specs.Digest.{spread_digest}
use Rattle.tql_exec_numbered.specs.Rows.{parts, start_at, AreMarks}
use Rattle.tql_exec_numbered.specs.declared.rows.Mark.{Mark}

-- ---- a row and those behind it

both : {A : Type 0} {x y : A} {xs ys : List A} → x ≡ y → xs ≡ ys → x ∷ xs ≡ y ∷ ys
both e f = cc

-- the values between two indexes, if more values stand behind them
cut_before : (s e : ℕ) (xs ys : Row) → s ≤ e → e ≤ length xs
    → take (e - s) (drop s (xs ++ ys)) ≡ take (e - s) (drop s xs)
cut_before s e xs ys l m =
    let long : length (drop s xs) ≡ length xs - s = length-drop s xs in
    ap (take (e - s)) (drop-append-le s xs ys (omega arith)) ∙ take-append-le (e - s) (drop s xs) ys (omega arith)

-- the values up to the last one
cut_last : (s e : ℕ) (xs : Row) → e ≡ length xs → take (e - s) (drop s xs) ≡ drop s xs
cut_last s e xs end = let long : length (drop s xs) ≡ length xs - s = length-drop s xs in
    take_all (e - s) (drop s xs) (omega arith)

pub start_within : (s : ℕ) (ms : List Mark) (xs : Row) → AreMarks s ms xs → s ≤ length xs
start_within s [] xs is = omega (arith, is)
start_within s (m ∷ ms) xs is =
    let first : s ≤ m.end = is.0 in
    let rest : m.end ≤ length xs = start_within m.end ms xs is.2 in
    omega arith

-- ---- the row with a number

pub parts_length : (s : ℕ) (ms : List Mark) (xs : Row) → length (parts s ms xs) ≡ length ms
parts_length s [] xs = refl
parts_length s (m ∷ ms) xs = ap suc (parts_length m.end ms xs)

pub part_at : (s : ℕ) (ms : List Mark) (xs : Row) (n : ℕ) (m : Mark) → slice_get ms n ≡ Some m
    → slice_get (parts s ms xs) n ≡ Some (take (m.end - start_at s ms n) (drop (start_at s ms n) xs))
part_at s [] xs n m e = cc
part_at s (k ∷ ms) xs zero m e = let same : k ≡ m = cc in ap (λ z. Some (take (z.end - s) (drop s xs))) same
part_at s (k ∷ ms) xs (suc n) m e = part_at k.end ms xs n m e

pub part_ends : (s : ℕ) (ms : List Mark) (xs : Row) (n : ℕ) (m : Mark) → AreMarks s ms xs → slice_get ms n ≡ Some m
    → (start_at s ms n ≤ m.end) × (m.end ≤ length xs)
part_ends s [] xs n m is e = cc
part_ends s (k ∷ ms) xs zero m is e =
    let same : k ≡ m = cc in
    let first : s ≤ k.end = is.0 in
    let rest : k.end ≤ length xs = start_within k.end ms xs is.2 in
    let end : k.end ≡ m.end = ap (λ (z : Mark). z.end) same in
    (omega arith, omega arith)
part_ends s (k ∷ ms) xs (suc n) m is e = part_ends k.end ms xs n m is.2 e

pub part_digest : (s : ℕ) (ms : List Mark) (xs : Row) (n : ℕ) (m : Mark) → AreMarks s ms xs → slice_get ms n ≡ Some m
    → m.digest ≡ spread_digest (take (m.end - start_at s ms n) (drop (start_at s ms n) xs))
part_digest s [] xs n m is e = cc
part_digest s (k ∷ ms) xs zero m is e =
    let same : k ≡ m = cc in
    subst (λ (z : Mark). z.digest ≡ spread_digest (take (z.end - s) (drop s xs))) same is.1
part_digest s (k ∷ ms) xs (suc n) m is e = part_digest k.end ms xs n m is.2 e

-- ---- one more row

module _ (xs ys : Row) (m : Mark) (end : m.end ≡ length (xs ++ ys)) where
  last_part : (s : ℕ) → s ≡ length xs → take (m.end - s) (drop s (xs ++ ys)) ≡ ys
  last_part s is =
      let long : length (xs ++ ys) ≡ length xs + length ys = length-append xs ys in
      ap (take (m.end - s)) (drop_at xs ys s (sym is)) ∙ take_all (m.end - s) ys (omega arith)

  pub marks_behind : (s : ℕ) (ms : List Mark) → m.digest ≡ spread_digest ys → AreMarks s ms xs
      → AreMarks s (ms ++ m ∷ []) (xs ++ ys)
  marks_behind s [] same is =
      let long : length (xs ++ ys) ≡ length xs + length ys = length-append xs ys in
      (omega (arith, is), same ∙ ap spread_digest (sym (last_part s is)), end)
  marks_behind s (k ∷ ms) same is = (
    is.0,
    is.1 ∙ ap spread_digest (sym (cut_before s k.end xs ys is.0 (start_within k.end ms xs is.2))),
    marks_behind k.end ms same is.2,
  )

  pub parts_behind : (s : ℕ) (ms : List Mark) → AreMarks s ms xs
      → parts s (ms ++ m ∷ []) (xs ++ ys) ≡ parts s ms xs ++ ys ∷ []
  parts_behind s [] is = ap (λ (r : Row). r ∷ []) (last_part s is)
  parts_behind s (k ∷ ms) is =
      both (cut_before s k.end xs ys is.0 (start_within k.end ms xs is.2)) (parts_behind k.end ms is.2)

-- ---- the last row goes

-- the values between two indexes, among the first p values
cut_among : (s e p : ℕ) (xs : Row) → s ≤ e → e ≤ length (take p xs)
    → take (e - s) (drop s (take p xs)) ≡ take (e - s) (drop s xs)
cut_among s e p xs l m =
    sym (cut_before s e (take p xs) (drop p xs) l m)
    ∙ ap (λ (zs : Row). take (e - s) (drop s zs)) (take-append-drop p xs)

module _ (xs : Row) where
  pub marks_left : (s : ℕ) (ms : List Mark) (i : ℕ) → i + 1 ≡ length ms → AreMarks s ms xs
      → AreMarks s (take i ms) (take (start_at s ms i) xs)
  marks_left s [] i e is = absurd (omega arith)
  marks_left s (m ∷ []) zero e is = sym (length-take-le s xs (start_within s (m ∷ []) xs is))
  marks_left s (m ∷ []) (suc i) e is = absurd (omega arith)
  marks_left s (m ∷ k ∷ ms) zero e is = absurd (omega arith)
  marks_left s (m ∷ k ∷ ms) (suc i) e is =
      let left = marks_left m.end (k ∷ ms) i (omega arith) is.2 in
      let p = start_at m.end (k ∷ ms) i in
      let within = start_within m.end (take i (k ∷ ms)) (take p xs) left in
      (is.0, is.1 ∙ ap spread_digest (sym (cut_among s m.end p xs is.0 within)), left)

  pub parts_left : (s : ℕ) (ms : List Mark) (i : ℕ) → i + 1 ≡ length ms → AreMarks s ms xs
      → parts s ms xs ≡ parts s (take i ms) (take (start_at s ms i) xs) ++ drop (start_at s ms i) xs ∷ []
  parts_left s [] i e is = absurd (omega arith)
  parts_left s (m ∷ []) zero e is = ap (λ (r : Row). r ∷ []) (cut_last s m.end xs is.2)
  parts_left s (m ∷ []) (suc i) e is = absurd (omega arith)
  parts_left s (m ∷ k ∷ ms) zero e is = absurd (omega arith)
  parts_left s (m ∷ k ∷ ms) (suc i) e is =
      let left = marks_left m.end (k ∷ ms) i (omega arith) is.2 in
      let p = start_at m.end (k ∷ ms) i in
      let within = start_within m.end (take i (k ∷ ms)) (take p xs) left in
      both (sym (cut_among s m.end p xs is.0 within)) (parts_left m.end (k ∷ ms) i (omega arith) is.2)

-- ---- the start of a row is the end of the one before it

pub start_is : (s : ℕ) (ms : List Mark) (i : ℕ) (d : Mark) → i < length ms
    → (slice_index_or ms i d).end ≡ start_at s ms (suc i)
start_is s [] i d l = absurd (omega arith)
start_is s (k ∷ ms) zero d l = refl
start_is s (k ∷ ms) (suc i) d l = start_is k.end ms i d (omega arith)

-- no row starts behind the values
pub starts_within : (s : ℕ) (ms : List Mark) (xs : Row) (n : ℕ) → AreMarks s ms xs → start_at s ms n ≤ length xs
starts_within s ms xs zero is = start_within s ms xs is
starts_within s [] xs (suc n) is = start_within s [] xs is
starts_within s (m ∷ ms) xs (suc n) is = starts_within m.end ms xs n is.2

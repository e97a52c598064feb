-- The cells of a stored row in the stored columns, whatever the moments in the generated columns.
use Rattle.std.proofs.Common.{◌≡◌, ℕ, ◌+◌, ◌-◌, ◌<◌, ◌≤◌, Bool, true, false, List, length, map, refl}
use Rattle.std.proofs.Common.{sym, subst, ◌∙◌, inl, inr, arith}
use Rattle.std.specs.Prelude.{◌≢◌, ℤ, not, ◌&&◌, ◌||◌, ◌==◌, nat_lt, IsTrue, insert, slice_index_or, Option, Some}
use Rattle.std.specs.Prelude.{None, if◌then◌else◌}
use Rattle.std.proofs.lemmas.Bool.{cases_lt}
use Rattle.std.proofs.lemmas.List.{length-map}
use borrow.Author.Tests.{ltb-true, ltb-false, eqb-false}
use Rattle.tql_spec.specs.Datum.{Datum, Moment, Row, Kind, Ints}
use Rattle.tql_spec.specs.Definition.{Column, System, Application, TableDef, with_generated, cell}
use Rattle.tql_spec.specs.Creation.{has_number, are_ends as ends_fit}
use Rattle.tql_spec.specs.Binding.{generated_columns}
use Rattle.tql_catalog.specs.Defined.{IsDefinition, is_end_at, is_application_period}
use Rattle.tql_catalog.specs.Rows.{has_system}
use Rattle.tql_catalog.proofs.Definitions.{has_its_system}
use Rattle.tql_expr.proofs.Inserted.{length_inserted, read_before, read_behind}
use Rattle.tql_catalog.proofs.Kept.{kept, Within, within, two_less}

-- ---- the columns of an application period

-- a column that exists, is NOT NULL, and is not generated
pub record IsEnd (columns : List Column) (system : Option System) (i : ℕ) : Type 0 where
  pub within : i < length columns
  pub required : slice_index_or (map (λ (c : Column). c.required) columns) i false ≡ true
  pub stored : has_number i (generated_columns system) ≡ false

all_three : (a b c : Bool) → IsTrue ((a && b) && c) → (a ≡ true) × (b ≡ true) × (c ≡ true)
all_three true true true h = (refl, refl, refl)
all_three true true false h = absurd cc
all_three true false c h = absurd cc
all_three false b c h = absurd cc

not_is : (b : Bool) → not b ≡ true → b ≡ false
not_is true h = absurd cc
not_is false h = refl

-- which of the columns are NOT NULL
abbrev required_in : List Column → List Bool
required_in columns = map (λ (c : Column). c.required) columns

an_end : (columns : List Column) (system : Option System) (i : ℕ) → IsTrue (is_end_at (required_in columns) system i)
    → IsEnd columns system i
an_end columns system i h =
    let required : List Bool = required_in columns in
    let all = all_three (nat_lt i (length required)) (slice_index_or required i false)
    (not (has_number i (generated_columns system))) h in
    let within : i < length required = ltb-true i (length required) all.0 in
    record {
      within = subst (λ n. i < n) (length-map columns (λ (c : Column). c.required)) within;
      required = all.1;
      stored = not_is (has_number i (generated_columns system)) all.2;
    }

-- both columns are ends of an application period
pub record AreEnds (columns : List Column) (system : Option System) (a : Application) : Type 0 where
  pub start : IsEnd columns system a.start
  pub end : IsEnd columns system a.end

first_two : (a b c d : Bool) → IsTrue (a && b && c && d) → (a ≡ true) × (b ≡ true)
first_two true true c d h = (refl, refl)
first_two true false c d h = absurd cc
first_two false b c d h = absurd cc

pub are_ends : (columns : List Column) (system : Option System) (a : Application)
    → IsTrue (is_application_period columns system (Some a)) → AreEnds columns system a
are_ends columns system a h =
    let kinds : List Kind = map (λ (c : Column). c.kind) columns in
    let both = first_two (is_end_at (required_in columns) system a.start) (is_end_at (required_in columns) system a.end)
    (ends_fit (slice_index_or kinds a.start Ints) (slice_index_or kinds a.end Ints)) (not (a.start == a.end)) h in
    record { start = an_end columns system a.start both.0; end = an_end columns system a.end both.1 }

-- ---- inserted values

-- a value that is inserted leaves the other columns
one_added : (row : Row) (k i : ℕ) (v w : Datum) → k ≤ length row → i ≢ k
    → cell (insert row k v) i ≡ cell (insert row k w) i
one_added row k i v w most other = elim (cases_lt i k) [
  | inl l ↦ read_before row k k i v (omega arith) l ∙ sym (read_before row k k i w (omega arith) l)
  | inr m ↦ read_behind row k k i v (omega arith) (omega arith)
      ∙ sym (read_behind row k k i w (omega arith) (omega arith))
]

-- so does a second one after it
both_added : (xs ys : Row) (j k i : ℕ) (v w : Datum) → length xs ≡ length ys → k ≤ length xs → j < k → i ≢ k → i ≢ j
    → ((n : ℕ) → n ≢ j → cell xs n ≡ cell ys n) → cell (insert xs k v) i ≡ cell (insert ys k w) i
both_added xs ys j k i v w long most before other another same = elim (cases_lt i k) [
  | inl l ↦ read_before xs k k i v (omega arith) l ∙ same i another ∙ sym (read_before ys k k i w (omega arith) l)
  | inr m ↦
      let behind : k < i = omega arith in
      read_behind xs k k i v (omega arith) behind ∙ same (i - 1) (λ e. omega arith)
      ∙ sym (read_behind ys k k i w (omega arith) behind)
]

two_added : (s : System) (cells : Row) (m e n f : ℤ) (i : ℕ) (b : Bool) → nat_lt s.start s.end ≡ b
    → Within s (length cells + 2) → i ≢ s.start → i ≢ s.end
    → cell (if b then insert (insert cells s.start (Moment m)) s.end (Moment e) else insert
    (insert cells s.end (Moment e)) s.start (Moment m)) i
    ≡ cell (if b then insert (insert cells s.start (Moment n)) s.end (Moment f) else insert
    (insert cells s.end (Moment f)) s.start (Moment n)) i
two_added s cells m e n f i true is w p q =
    let l : s.start < s.end = ltb-true s.start s.end is in
    let end : s.end < length cells + 2 = w.end in
    let long = length_inserted cells s.start (Moment m) in
    let other = length_inserted cells s.start (Moment n) in
    both_added (insert cells s.start (Moment m)) (insert cells s.start (Moment n)) s.start s.end i (Moment e)
    (Moment f) (omega arith) (omega arith) l q p
    (λ k r. one_added cells s.start k (Moment m) (Moment n) (omega arith) r)
two_added s cells m e n f i false is w p q =
    let most : s.end ≤ s.start = ltb-false s.start s.end is in
    let apart : s.start ≢ s.end = w.apart in
    let l : s.end < s.start = omega arith in
    let start : s.start < length cells + 2 = w.start in
    let long = length_inserted cells s.end (Moment e) in
    let other = length_inserted cells s.end (Moment f) in
    both_added (insert cells s.end (Moment e)) (insert cells s.end (Moment f)) s.end s.start i (Moment m) (Moment n)
    (omega arith) (omega arith) l p q
    (λ k r. one_added cells s.end k (Moment e) (Moment f) (omega arith) r)

neither_left : (a b : Bool) → a || b ≡ false → a ≡ false
neither_left true b h = absurd cc
neither_left false b h = refl

neither_right : (a b : Bool) → a || b ≡ false → b ≡ false
neither_right true b h = absurd cc
neither_right false b h = h

-- a column that is not generated
pub others_stay : (s : Option System) (columns : List Column) (cells : Row) (m e n f : ℤ) (i : ℕ)
    → IsTrue (has_system s (length columns)) → length cells ≡ length (kept s columns)
    → has_number i (generated_columns s) ≡ false
    → cell (with_generated s cells m e) i ≡ cell (with_generated s cells n f) i
others_stay None columns cells m e n f i h k g = refl
others_stay (Some s) columns cells m e n f i h k g =
    let less = two_less s columns (nat_lt s.start s.end) refl (within s (length columns) h) in
    let wide : length columns ≡ length cells + 2 = omega arith in
    two_added s cells m e n f i (nat_lt s.start s.end) refl (subst (Within s) wide (within s (length columns) h))
    (eqb-false i s.start (neither_left (i == s.start) _ g))
    (eqb-false i s.end (neither_left (i == s.end) _ (neither_right (i == s.start) _ g)))

-- ---- the ends of an application period

-- two rows have the same ends
pub record HaveEnds (a : Application) (row other : Row) : Type 0 where
  pub start : cell row a.start ≡ cell other a.start
  pub end : cell row a.end ≡ cell other a.end

abbrev pub SameEnds : Option Application → Row → Row → Type 0
SameEnds None row other = Unit {0}
SameEnds (Some a) row other = HaveEnds a row other

ends_by : (o : Option Application) (s : Option System) (columns : List Column) (cells : Row) (m e n f : ℤ)
    → IsTrue (is_application_period columns s o) → IsTrue (has_system s (length columns))
    → length cells ≡ length (kept s columns) → SameEnds o (with_generated s cells m e) (with_generated s cells n f)
ends_by None s columns cells m e n f p h k = tt
ends_by (Some a) s columns cells m e n f p h k =
    let ends = are_ends columns s a p in
    record {
      start = others_stay s columns cells m e n f a.start h k ends.start.stored;
      end = others_stay s columns cells m e n f a.end h k ends.end.stored;
    }

pub ends_stay : (d : TableDef) (cells : Row) (m e n f : ℤ) → IsDefinition d
    → length cells ≡ length (kept d.system d.columns)
    → SameEnds d.application (with_generated d.system cells m e) (with_generated d.system cells n f)
ends_stay d cells m e n f h k =
    ends_by d.application d.system d.columns cells m e n f h.application (has_its_system d h) k

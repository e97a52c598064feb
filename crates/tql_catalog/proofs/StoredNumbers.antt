-- The numbers of the columns that are not generated among the stored cells.
use Rattle.std.proofs.Common.{◌≡◌, refl, ap, sym, subst, ◌∙◌, ℕ, ◌+◌, ◌-◌, ◌<◌, ◌≤◌, Bool, true, false}
use Rattle.std.proofs.Common.{length, inl, inr, arith}
use Rattle.std.specs.Prelude.{◌≢◌, ℤ, ◌||◌, ◌==◌, not, nat_lt, insert, if◌then◌else◌, List, [], Option, Some, None}
use Rattle.std.specs.Prelude.{filter, slice_index_or}
use Rattle.std.specs.List.{range_with_len}
use Rattle.std.proofs.lemmas.List.{length-map}
use Rattle.std.proofs.lemmas.Bool.{cases_lt}
use borrow.Author.Tests.{ltb-true, ltb-false, eqb-false}
use Rattle.tql_spec.specs.Datum.{Datum, Ints, Moment, Row}
use Rattle.tql_spec.specs.Definition.{Column, System, TableDef, cell, with_generated}
use Rattle.tql_spec.specs.Creation.{has_number}
use Rattle.tql_spec.specs.Binding.{generated_columns}
use Rattle.tql_expr.proofs.Inserted.{length_inserted, read_before, read_behind}
use Rattle.tql_catalog.specs.Defined.{IsDefinition}
use Rattle.tql_catalog.specs.Rows.{has_system, stored_width}
use Rattle.tql_catalog.proofs.Definitions.{has_its_system}
use Rattle.tql_catalog.proofs.Kept.{Within, within, kept, kept_law, two_less}

neither : (a b : Bool) → a || (b || false) ≡ false → (a ≡ false) × (b ≡ false)
neither true b h = absurd (cc)
neither false true h = absurd (cc)
neither false false h = (refl, refl)

-- a column that is not generated is neither of the two
pub not_generated : (s : System) (i : ℕ) → has_number i (generated_columns (Some s)) ≡ false
    → (i ≢ s.start) × (i ≢ s.end)
not_generated s i h =
    let both = neither (i == s.start) (i == s.end) h in
    (eqb-false i s.start both.0, eqb-false i s.end both.1)

-- two values are inserted, the one further left first
two_added : (row : Row) (j k i n : ℕ) (v w : Datum) → j < k → k < length row + 2 → i ≢ j → i ≢ k
    → (i < j → n ≡ i) → (j < i → i < k → n ≡ i - 1) → (k < i → n ≡ i - 2)
    → cell (insert (insert row j v) k w) i ≡ cell row n
two_added row j k i n v w less within other another first second third =
    let long = length_inserted row j v in
    elim (cases_lt i k) [
      | inl l ↦ read_before (insert row j v) k k i w (omega arith) l ∙ elim (cases_lt i j) [
        | inl m ↦ read_before row j j i v (omega arith) m ∙ ap (cell row) (sym (first m))
        | inr m ↦
            let behind : j < i = omega arith in
            read_behind row j j i v (omega arith) behind ∙ ap (cell row) (sym (second behind l))
      ]
      | inr m ↦
          let behind : k < i = omega arith in
          let further : j < i - 1 = omega arith in
          let back : i - 1 - 1 ≡ n = let e = third behind in omega arith in
          read_behind (insert row j v) k k i w (omega arith) behind
          ∙ read_behind row j j (i - 1) v (omega arith) further ∙ ap (cell row) back
    ]

stored_by : (s : System) (width i n : ℕ) (cells : Row) (m e : ℤ) (b : Bool) → nat_lt s.start s.end ≡ b
    → Within s width → i ≢ s.start → i ≢ s.end → length cells + 2 ≡ width
    → (i < s.start → i < s.end → n ≡ i)
    → (s.start < i → i < s.end → n ≡ i - 1) → (i < s.start → s.end < i → n ≡ i - 1)
    → (s.start < i → s.end < i → n ≡ i - 2)
    → cell (if b then insert (insert cells s.start (Moment m)) s.end (Moment e) else insert
    (insert cells s.end (Moment e)) s.start (Moment m)) i ≡ cell cells n
stored_by s width i n cells m e true is a p q long none first second two =
    let l : s.start < s.end = ltb-true s.start s.end is in
    let within : s.end < length cells + 2 = let x = a.end in omega arith in
    two_added cells s.start s.end i n (Moment m) (Moment e) l within p q (λ x. none x (omega arith))
    first (λ x. two (omega arith) x)
stored_by s width i n cells m e false is a p q long none first second two =
    let most : s.end ≤ s.start = ltb-false s.start s.end is in
    let apart = a.apart in
    let l : s.end < s.start = omega arith in
    let within : s.start < length cells + 2 = let x = a.start in omega arith in
    two_added cells s.end s.start i n (Moment e) (Moment m) l within q p (λ x. none (omega arith) x)
    (λ x y. second y x) (λ x. two x (omega arith))

-- a column that is not generated is the stored cell at its number less the number of generated columns before it
pub stored_law : (s : System) (width i n : ℕ) (cells : Row) (m e : ℤ) → has_system (Some s) width ≡ true
    → has_number i (generated_columns (Some s)) ≡ false → length cells + 2 ≡ width
    → (i < s.start → i < s.end → n ≡ i)
    → (s.start < i → i < s.end → n ≡ i - 1) → (i < s.start → s.end < i → n ≡ i - 1)
    → (s.start < i → s.end < i → n ≡ i - 2)
    → cell (with_generated (Some s) cells m e) i ≡ cell cells n
stored_law s width i n cells m e h free long none first second two =
    let others = not_generated s i free in
    stored_by s width i n cells m e (nat_lt s.start s.end) refl (within s width h) others.0 others.1 long none
    first second two

-- the number of generated columns before it, by two tests
abbrev pub fewer : Bool → Bool → ℕ
fewer true true = 2
fewer false false = 0
fewer _ _ = 1

-- the law for a table whose generated columns, if there are any, are these
abbrev Stored : System → ℕ → ℕ → Bool → Bool → Option System → Type 0
Stored s width i a b o =
    has_system o width ≡ true → has_number i (generated_columns o) ≡ false → (cells : Row) (m e : ℤ)
    → length cells + length (generated_columns o) ≡ width
    → cell (with_generated o cells m e) i ≡ cell cells (i - fewer a b)

by_tests : (s : System) (width i : ℕ) (a b : Bool) → nat_lt s.start i ≡ a → nat_lt s.end i ≡ b
    → Stored s width i a b (Some s)
by_tests s width i true true h k there free cells m e long =
    let p : s.start < i = ltb-true s.start i h in
    let q : s.end < i = ltb-true s.end i k in
    stored_law s width i (i - 2) cells m e there free long (λ x y. absurd (omega arith)) (λ x y. absurd (omega arith))
    (λ x y. absurd (omega arith)) (λ x y. refl)
by_tests s width i true false h k there free cells m e long =
    let p : s.start < i = ltb-true s.start i h in
    let q : i ≤ s.end = ltb-false s.end i k in
    stored_law s width i (i - 1) cells m e there free long (λ x y. absurd (omega arith)) (λ x y. refl)
    (λ x y. absurd (omega arith)) (λ x y. absurd (omega arith))
by_tests s width i false true h k there free cells m e long =
    let p : i ≤ s.start = ltb-false s.start i h in
    let q : s.end < i = ltb-true s.end i k in
    stored_law s width i (i - 1) cells m e there free long (λ x y. absurd (omega arith))
    (λ x y. absurd (omega arith)) (λ x y. refl) (λ x y. absurd (omega arith))
by_tests s width i false false h k there free cells m e long =
    let p : i ≤ s.start = ltb-false s.start i h in
    let q : i ≤ s.end = ltb-false s.end i k in
    stored_law s width i (i - 0) cells m e there free long (λ x y. omega arith) (λ x y. absurd (omega arith))
    (λ x y. absurd (omega arith)) (λ x y. absurd (omega arith))

pub stored_so : (o : Option System) (s : System) → o ≡ Some s → (width i : ℕ) (a b : Bool) → nat_lt s.start i ≡ a
    → nat_lt s.end i ≡ b → Stored s width i a b o
stored_so o s is width i a b h k = subst (Stored s width i a b) (sym is) (by_tests s width i a b h k)

-- ---- the number of stored cells

kept_count : (s : Option System) (columns : List Column) → has_system s (length columns) ≡ true
    → length (filter (λ i. not (has_number i (generated_columns s))) (range_with_len 0 (length columns)))
    + length (generated_columns s) ≡ length columns
kept_count s columns h =
    let numbers = filter (λ i. not (has_number i (generated_columns s))) (range_with_len 0 (length columns)) in
    let as_many : length numbers ≡ length (kept s columns) =
    sym (length-map numbers (λ i. slice_index_or columns i nameless)) ∙ ap length (sym (kept_law nameless s columns h))
    in
    ap (λ n. n + length (generated_columns s)) as_many ∙ with_both s h
  where
    nameless : Column
    nameless = record { name = []; kind = Ints; limit = None; required = false }

    with_both : (o : Option System) → has_system o (length columns) ≡ true
        → length (kept o columns) + length (generated_columns o) ≡ length columns
    with_both None k = omega arith
    with_both (Some x) k = two_less x columns (nat_lt x.start x.end) refl (within x (length columns) k)

-- there are as many stored and generated cells as columns
pub stored_count : (d : TableDef) → IsDefinition d → stored_width d + length (generated_columns d.system)
    ≡ length d.columns
stored_count d r = kept_count d.system d.columns (has_its_system d r)

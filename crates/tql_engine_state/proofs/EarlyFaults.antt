-- The faults of new rows are reported before those of keys and references.
use Rattle.std.proofs.Common.{◌≡◌, refl, ap, ◌∙◌, Bool, true, false, List, [], ◌∷◌, ◌++◌, Option, Some, None}
use Rattle.std.proofs.Common.{arith}
use Rattle.std.specs.Prelude.{ℕ, ℤ, ◌&&◌, not, nat_lt, if◌then◌else◌}
use Rattle.std.specs.List.{list_all, flat_map}
use Rattle.std.proofs.lemmas.Bool.Decides.{nat_tests}
use Rattle.tql_spec.specs.Words.{map_all}
use Rattle.tql_spec.specs.Datum.{Datum, Row, is_null}
use Rattle.tql_spec.specs.Period.{Period}
use Rattle.tql_spec.specs.Truth.{Truth, is_false}
use Rattle.tql_spec.specs.Refusal.{Refusal, DuplicateKey, ReferenceNotMet, ValueOutOfRange, NullNotAllowed}
use Rattle.tql_spec.specs.Refusal.{PeriodNotRising, CheckFailed, first, fault_if, place}
use Rattle.tql_spec.specs.Expression.{Cond, judge}
use Rattle.tql_spec.specs.Definition.{TableDef, Column, Application, Stamped, shown}
use Rattle.tql_spec.specs.History.{Copy}
use Rattle.tql_spec.specs.Constraint.{keys_hold, references_hold}
use Rattle.tql_spec.specs.Change.{Work, Fate, row_faults, cell_faults, period_faults, period_faults_by}
use Rattle.tql_spec.specs.Change.{check_fault, is_too_long, insert, modify, outcome_of, new_rows, fate}
use Rattle.tql_spec.specs.Machine.{constraint_faults}
use Rattle.tql_spec.proofs.AtPoints.{all_in}
use Rattle.tql_spec.proofs.FaultBags.{first_is}
use Rattle.tql_spec.proofs.FirstFaults.{first_append, sooner}

-- whether a fault precedes those of keys and references in the order of report
abbrev pub is_early : Refusal → Bool
is_early e = nat_lt (place e) 22

abbrev pub are_early : List Refusal → Bool
are_early es = list_all is_early es

both_early : (xs ys : List Refusal) → are_early xs ≡ true → are_early ys ≡ true → are_early (xs ++ ys) ≡ true
both_early [] ys h k = k
both_early (x ∷ xs) ys h k = joined (is_early x) (are_early xs) (are_early (xs ++ ys)) h (λ r. both_early xs ys r k)
  where
    joined : (a b c : Bool) → a && b ≡ true → (b ≡ true → c ≡ true) → a && c ≡ true
    joined true b c e f = f e
    joined false b c e f = absurd (cc)

early_if : (b : Bool) (e : Refusal) → is_early e ≡ true → are_early (fault_if b e) ≡ true
early_if true e h = ap (λ x. x && true) h
early_if false e h = refl

each_early : {A : Type 0} (f : A → List Refusal) → ((x : A) → are_early (f x) ≡ true) → (xs : List A)
    → are_early (flat_map f xs) ≡ true
each_early f h [] = refl
each_early f h (x ∷ xs) = both_early (f x) (flat_map f xs) (h x) (each_early f h xs)

-- ---- of rows

cells_early : (cs : List Column) (row : Row) → are_early (cell_faults cs row) ≡ true
cells_early [] row = refl
cells_early (c ∷ cs) [] = refl
cells_early (c ∷ cs) (v ∷ vs) =
    both_early (fault_if (is_too_long c.limit v) ValueOutOfRange ++ fault_if (c.required && is_null v) NullNotAllowed)
    (cell_faults cs vs)
    (both_early (fault_if (is_too_long c.limit v) ValueOutOfRange) (fault_if (c.required && is_null v) NullNotAllowed)
    (early_if (is_too_long c.limit v) ValueOutOfRange refl) (early_if (c.required && is_null v) NullNotAllowed refl))
    (cells_early cs vs)

period_early : (o : Option Application) (d : TableDef) (row : Row) → are_early (period_faults_by o d row) ≡ true
period_early None d row = refl
period_early (Some a) d row = early_if _ PeriodNotRising refl

check_early : (o : Option Truth) → are_early (check_fault o) ≡ true
check_early None = refl
check_early (Some t) = early_if (is_false t) CheckFailed refl

row_early : (d : TableDef) (row : Row) → are_early (row_faults d row) ≡ true
row_early d row =
    both_early (cell_faults d.columns row ++ period_faults d row)
    (flat_map (λ c. check_fault (judge [] row c)) d.checks)
    (both_early (cell_faults d.columns row) (period_faults d row) (cells_early d.columns row)
    (period_early d.application d row))
    (each_early (λ c. check_fault (judge [] row c)) (λ c. check_early (judge [] row c)) d.checks)

rows_early : (d : TableDef) (rows : List Stamped) → are_early (flat_map (λ r. row_faults d (shown d r)) rows) ≡ true
rows_early d rows = each_early (λ r. row_faults d (shown d r)) (λ r. row_early d (shown d r)) rows

-- ---- of changes

pub insert_early : (d : TableDef) (m : ℤ) (rows : List Stamped) (columns : List ℕ) (o : Option (List (List Datum)))
    → are_early (insert d m rows columns o).faults ≡ true
insert_early d m rows columns None = refl
insert_early d m rows columns (Some tuples) = rows_early d _

outcome_early : (d : TableDef) (rows : List Stamped) (o : Option (List Fate))
    → are_early (outcome_of d rows o).faults ≡ true
outcome_early d rows None = refl
outcome_early d rows (Some fates) = rows_early d (new_rows fates)

pub modify_early : (d : TableDef) (m : ℤ) (rows : List Stamped) (portion : Option Period) (work : Work)
    (conds : List Cond) → are_early (modify d m rows portion work conds).faults ≡ true
modify_early d m rows portion work conds =
    outcome_early d rows (map_all (λ r. fate d m portion work conds (shown d r)) rows)

-- ---- the first fault

not_later : (n : ℕ) → nat_lt n 22 ≡ true → nat_lt 22 n ≡ false
not_later n h = grind (arith, nat_tests)

not_behind : (n : ℕ) → nat_lt n 22 ≡ true → nat_lt 23 n ≡ false
not_behind n h = grind (arith, nat_tests)

behind : (f : Refusal) (a b : Bool) → is_early f ≡ true
    → sooner (Some f) (first (fault_if a DuplicateKey ++ fault_if b ReferenceNotMet)) ≡ Some f
behind f true true h = ap (λ c. Some (if c then DuplicateKey else f)) (not_later (place f) h)
behind f true false h = ap (λ c. Some (if c then DuplicateKey else f)) (not_later (place f) h)
behind f false true h = ap (λ c. Some (if c then ReferenceNotMet else f)) (not_behind (place f) h)
behind f false false h = refl

-- so the fault of a row is reported, whatever the keys and references do
pub early_first : (xs : List Refusal) (f : Refusal) (defs : List TableDef) (copy : Copy) → are_early xs ≡ true
    → first xs ≡ Some f → first (xs ++ constraint_faults defs copy) ≡ Some f
early_first xs f defs copy h e =
    first_append xs (constraint_faults defs copy) ∙ ap (λ o. sooner o (first (constraint_faults defs copy))) e
    ∙ behind f (not (keys_hold defs copy)) (not (references_hold defs copy))
    (all_in is_early xs f h (first_is xs f e).there)

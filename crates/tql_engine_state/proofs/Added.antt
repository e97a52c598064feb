-- What changes make of tables.
use Rattle.std.specs.Prelude.{◌≡◌, refl, ℕ, true, List, [], ◌∷◌, ◌++◌, map, slice_set, ℤ, Option, Some, None}
use Rattle.std.proofs.Common.{ap, ◌∙◌}
use Rattle.tql_spec.specs.Datum.{Row}
use Rattle.tql_spec.specs.Refusal.{Refusal, first}
use Rattle.tql_spec.specs.Definition.{TableDef, Stamped, stamped}
use Rattle.tql_spec.specs.Change as change
use Rattle.tql_spec.specs.Change.{Outcome, insert}
use Rattle.tql_spec.specs.Machine.{State, Reply, Done, Refused, Change, outcome, changed, changed_table, verb_of}
use Rattle.tql_spec.specs.Machine.{constraint_faults, unless_refused}
use Rattle.tql_engine_state.proofs.ChangeKeeps.{working_now, with_table_rows, begun_at}
use Rattle.tql_engine_state.proofs.EarlyFaults.{are_early, early_first}

-- ---- new rows

begun_so : (d : TableDef) (m : ℤ) (columns : List ℕ) (tuples : List Row)
    → (let rows = map (λ values. stamped d m (change.new_row d columns values)) tuples in rows ≡ begun_at m
    (map (λ (r : Stamped). r.cells) rows))
begun_so d m columns [] = refl
begun_so d m columns (t ∷ ts) =
    ap {B = List Stamped} (λ rows. stamped d m (change.new_row d columns t) ∷ rows) (begun_so d m columns ts)

-- the rows that an INSERT adds to an empty table start at its moment
pub rows_begun : (d : TableDef) (m : ℤ) (columns : List ℕ) (values : Option (List Row)) (rows : List Row)
    → map (λ (r : Stamped). r.cells) (insert d m [] columns values).rows ≡ rows
    → (insert d m [] columns values).rows ≡ begun_at m rows
rows_begun d m columns None rows e = ap (begun_at m) e
rows_begun d m columns (Some tuples) rows e = begun_so d m columns tuples ∙ ap (begun_at m) e

-- its result for a table with rows, if no evaluation is out of range: those rows, followed by the new ones
pub insert_outcome : (d : TableDef) (m : ℤ) (rows : List Stamped) (columns : List ℕ) (values : Option (List Row))
    → first (insert d m [] columns values).faults ≡ None
    → insert d m rows columns values ≡ record {
      rows = rows ++ (insert d m [] columns values).rows;
      count = (insert d m [] columns values).count;
      faults = (insert d m [] columns values).faults;
    }
insert_outcome d m rows columns None e = absurd (cc)
insert_outcome d m rows columns (Some tuples) e = refl

-- its faults do not depend on the rows of the table
pub insert_faults : (d : TableDef) (m : ℤ) (rows : List Stamped) (columns : List ℕ) (values : Option (List Row))
    → (insert d m rows columns values).faults ≡ (insert d m [] columns values).faults
insert_faults d m rows columns None = refl
insert_faults d m rows columns (Some tuples) = refl

-- ---- a change, given its outcome

-- the reply of the reference model to a change, if the table becomes this outcome
abbrev altered_as : State → Change → List Refusal → Outcome → Reply × State
altered_as s c faults o =
    unless_refused (first faults) s (Done (verb_of c) (Some o.count)) (with_table_rows s (changed_table c) o.rows)

-- the faults of keys and references if a table has these rows
abbrev pub after_faults : State → ℕ → List Stamped → List Refusal
after_faults s t rows = constraint_faults s.definitions (slice_set (working_now s).copy t rows)

pub altered_by : (s : State) (c : Change) (o : Outcome) → outcome s (working_now s).moment (working_now s).copy c ≡ o
    → changed s c ≡ unless_refused (first (o.faults ++ after_faults s (changed_table c) o.rows)) s
    (Done (verb_of c) (Some o.count)) (with_table_rows s (changed_table c) o.rows)
altered_by s c o e =
    ap (λ (x : Outcome). altered_as s c (x.faults ++ after_faults s (changed_table c) x.rows) x) e

-- if a row has a fault, the first one is reported
pub altered_refused : (s : State) (c : Change) (o : Outcome) (f : Refusal)
    → outcome s (working_now s).moment (working_now s).copy c ≡ o → are_early o.faults ≡ true → first o.faults ≡ Some f
    → changed s c ≡ (Refused f, s)
altered_refused s c o f e early k =
    altered_by s c o e
    ∙ ap (λ q. unless_refused q s (Done (verb_of c) (Some o.count)) (with_table_rows s (changed_table c) o.rows))
    (early_first o.faults f s.definitions (slice_set (working_now s).copy (changed_table c) o.rows) early k)

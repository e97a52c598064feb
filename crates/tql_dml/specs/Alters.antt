-- What INSERT, UPDATE and DELETE do to the rows of a table.
use Rattle.std.specs.Prelude.{◌≡◌, ℕ, ℤ, All, IsTrue, is_some, Bool, false, List, [], map, filter, Option, option_map}
use Rattle.std.specs.Prelude.{Some, None, Result, Ok, Err, ⊤}
use Rattle.tql_spec.specs.Words.{map_all}
use Rattle.tql_spec.specs.Datum.{Row}
use Rattle.tql_spec.specs.Period.{Period}
use Rattle.tql_spec.specs.Refusal.{first}
use Rattle.tql_spec.specs.Definition.{TableDef, Stamped, shown}
use Rattle.tql_spec.specs.Expression.{Cond, eval}
use Rattle.tql_spec.specs.Change.{Outcome, Fate, Work, fate, is_touched}
use Rattle.tql_spec.specs.Change as change
use Rattle.tql_spec.specs.Creation.{kinds_of}
use Rattle.tql_spec.specs.Typing.{AreOfKinds, IsTypedDefinition}
use Rattle.tql_spec.specs.TypingLaws.{IsTypedWork}
use Rattle.tql_period.specs.Points.{points_of}
use Rattle.tql_bound.specs.Changes.{tuple_of}
use Rattle.tql_bound.specs.Works.{work_of}
use Rattle.tql_bound.specs.declared.change.Insertion.{Insertion}
use Rattle.tql_bound.specs.declared.change.Modification.{Modification}
use Rattle.tql_expr.specs.Meaning.{cond}
use Rattle.tql_catalog.specs.Rows.{IsRowOf}
use Rattle.tql_versions.specs.Readings.{version_shown as version_of}
use Rattle.tql_store.specs.declared.store.Delta.{Delta}
use Rattle.tql_versions.specs.declared.version.Version.{Version}
use Rattle.tql_value.specs.Points.{IsMoment}
use Rattle.tql_value.specs.Refusals.{refusal_of}
use Rattle.tql_value.specs.declared.refusal.Refusal.{Refusal}
use Rattle.tql_value.specs.declared.refusal.Refusal.TheVariants.{OutOfMemory}

-- the effect of a change without a fault: the removed versions, the added rows and their count, at every moment
pub record Gives (id : ℕ) (gone : List ℕ) (new : ℤ → List Stamped) (outcome : ℤ
    → Outcome) (delta : Delta) : Type 0 where
  pub table : delta.table ≡ id
  pub removed : delta.removed.items ≡ gone
  pub added : (m : ℤ) → map (λ (r : Stamped). r.cells) (new m) ≡ delta.added.items
  pub count : (m : ℤ) → delta.count ≡ (outcome m).count
  pub sound : (m : ℤ) → first (outcome m).faults ≡ None

-- by its result: the change, a refused allocation, or the first fault of the outcome
abbrev pub Alters : ℕ → List ℕ → (ℤ → List Stamped) → (ℤ → Outcome) → Result Delta Refusal → Type 0
Alters id gone new outcome (Ok delta) = Gives id gone new outcome delta
Alters id gone new outcome (Err OutOfMemory) = ⊤
Alters id gone new outcome (Err e) = (m : ℤ) → first (outcome m).faults ≡ Some (refusal_of e)

-- ---- INSERT

-- the values of the tuples; None if an evaluation is out of range
abbrev pub tuples_in : Insertion → Option (List Row)
tuples_in x = map_all (map_all (eval [] [])) (map (tuple_of x.terms) x.tuples.items)

-- the outcome of an INSERT into an empty table, which is what it adds to any table
abbrev pub added_rows : TableDef → List ℕ → Option (List Row) → ℤ → Outcome
added_rows d columns tuples m = change.insert d m [] columns tuples

-- the outcome of an INSERT of tuples
abbrev pub inserted : TableDef → Insertion → ℤ → Outcome
inserted d x = added_rows d x.columns.items (tuples_in x)

-- ---- UPDATE and DELETE

-- the rows of versions
abbrev pub rows_in : List Version → List Stamped
rows_in found = map (λ (v : Version). (version_of v).row) found

-- the work of a modification on a touched row
abbrev pub work_in : Modification → Work
work_in x = work_of x.terms x.work

-- the conditions of a modification
abbrev pub conds_in : Modification → List Cond
conds_in x = map (cond x.terms) x.conjuncts.items

-- the portion of a modification
abbrev pub portion_in : Modification → Option Period
portion_in x = option_map points_of x.portion

-- the outcome of a modification of these rows
abbrev pub modified : TableDef → List Version → Modification → ℤ → Outcome
modified d found x m = change.modify d m (rows_in found) (portion_in x) (work_in x) (conds_in x)

-- the fate of each of these rows; None if an evaluation is out of range
abbrev pub fates : TableDef → List Version → Modification → ℤ → Option (List Fate)
fates d found x m = map_all (λ r. fate d m (portion_in x) (work_in x) (conds_in x) (shown d r)) (rows_in found)

-- the added rows
abbrev pub coming : Option (List Fate) → List Stamped
coming None = []
coming (Some fs) = change.new_rows fs

-- whether there is an answer, and it is yes
abbrev pub is_yes : Option Bool → Bool
is_yes None = false
is_yes (Some b) = b

-- the ids of the removed versions: those whose row is touched
abbrev pub gone : TableDef → Modification → List Version → List ℕ
gone d x found = map (λ (v : Version). v.id)
    (filter (λ (v : Version). is_yes (is_touched d (portion_in x) (conds_in x) (shown d (version_of v).row))) found)

-- a version of the table's rows: it has the stored cells, each of which has a text, and begins at a moment
pub record IsVersionOf (d : TableDef) (v : Version) : Type 0 where
  pub cells : IsRowOf d (version_of v).row.cells
  pub start : IsMoment v.kept.now.start

-- the values of the rows, and the values that the change assigns, have their columns' kinds; a change of a portion
-- assigns none to the columns of the period
pub record IsTypedFor (d : TableDef) (found : List Version) (portion : Option Period) (work : Work) : Type 0 where
  pub definition : IsTypedDefinition d
  pub gives : IsTypedWork d portion work
  pub rows : All (λ (v : Version). AreOfKinds (kinds_of d) (shown d (version_of v).row)) found

-- the same for a change of a portion
abbrev pub AreTyped : TableDef → List Version → Modification → Type 0
AreTyped d found x = IsTrue (is_some (portion_in x)) → IsTypedFor d found (portion_in x) (work_in x)

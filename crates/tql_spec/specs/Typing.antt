-- The kinds of the values in rows: each value is of the kind of its column, or null.
use Rattle.std.specs.Prelude.{◌≡◌, ℕ, zero, suc, ◌<◌, Bool, false, IsTrue, List, [], ◌∷◌, length, slice_index_or}
use Rattle.std.specs.Prelude.{Option, Some, None}
use Rattle.tql_spec.specs.Bag.{In}
use Rattle.tql_spec.specs.Datum.{Datum, Row, Kind, Ints, Moments, kind_of, is_null}
use Rattle.tql_spec.specs.Expression.{Expr, eval}
use Rattle.tql_spec.specs.Definition.{Column, TableDef, Application, System, Stamped, cell, shown, table_at}
use Rattle.tql_spec.specs.Creation.{kinds_of, are_ends}
use Rattle.tql_spec.specs.History.{Entry, rows_in}
use Rattle.tql_spec.specs.Machine.{State, entries}
use Rattle.tql_spec.specs.Reached.{CopiesFit}

-- ---- values and rows

-- a value of the second kind is allowed where the first is expected; null, which has no kind, is always allowed
abbrev pub Takes : Option Kind → Option Kind → Type 0
Takes k None = Unit {0}
Takes k (Some l) = Some l ≡ k

-- a value of the kind, or null; only null if the kind is not known
abbrev pub IsOfKind : Option Kind → Datum → Type 0
IsOfKind k v = Takes k (kind_of v)

-- a row of values of these kinds, one for each
abbrev pub AreOfKinds : List Kind → Row → Type 0
AreOfKinds [] [] = Unit {0}
AreOfKinds (k ∷ ks) (v ∷ vs) = IsOfKind (Some k) v × AreOfKinds ks vs
AreOfKinds _ _ = ⊥

-- expressions whose values, evaluated on no row, are of these kinds, one for each
abbrev pub GiveKinds : List Kind → List Expr → Type 0
GiveKinds [] [] = Unit {0}
GiveKinds (k ∷ ks) (e ∷ es) = ((v : Datum) → eval [] [] e ≡ Some v → IsOfKind (Some k) v) × GiveKinds ks es
GiveKinds _ _ = ⊥

-- ---- definitions

-- the kind of the column at this index
abbrev pub column_kind : TableDef → ℕ → Kind
column_kind d i = slice_index_or (kinds_of d) i Ints

-- whether the column at this index allows no null
abbrev pub is_required : List Column → ℕ → Bool
is_required [] i = false
is_required (c ∷ cs) zero = c.required
is_required (c ∷ cs) (suc i) = is_required cs i

-- generated columns: two different columns of the table, both of moments
pub record IsSystemOf (d : TableDef) (s : System) : Type 0 where
  pub start_there : s.start < length d.columns
  pub end_there : s.end < length d.columns
  pub apart : s.start ≡ s.end → ⊥
  pub start_kind : column_kind d s.start ≡ Moments
  pub end_kind : column_kind d s.end ≡ Moments

-- an application period: its columns are of one kind of points, and allow no null
pub record IsApplicationOf (d : TableDef) (a : Application) : Type 0 where
  pub kinds : IsTrue (are_ends (column_kind d a.start) (column_kind d a.end))
  pub start_required : IsTrue (is_required d.columns a.start)
  pub end_required : IsTrue (is_required d.columns a.end)

-- a definition whose periods, if any, have these properties
pub record IsTypedDefinition (d : TableDef) : Type 0 where
  pub system : (s : System) → d.system ≡ Some s → IsSystemOf d s
  pub application : (a : Application) → d.application ≡ Some a → IsApplicationOf d a

-- each definition has them
abbrev pub AreTypedDefinitions : List TableDef → Type 0
AreTypedDefinitions defs = (t : ℕ) → IsTypedDefinition (table_at defs t)

-- ---- states

-- a row of a copy, as a change sees it, has values of the kinds of its table's columns
abbrev pub IsTyped : TableDef → Stamped → Type 0
IsTyped d r = AreOfKinds (kinds_of d) (shown d r)

-- each row of each copy is typed, also in the working copy
abbrev pub RowsAreTyped : State → Type 0
RowsAreTyped s =
    (e : Entry) → In e (entries s) → (t : ℕ) (r : Stamped) → In r (rows_in e.copy t)
    → IsTyped (table_at s.definitions t) r

-- the columns of a row's application period are not null
abbrev pub HasPeriod : TableDef → Row → Type 0
HasPeriod d row =
    (a : Application) → d.application ≡ Some a
    → (is_null (cell row a.start) ≡ false) × (is_null (cell row a.end) ≡ false)

-- this holds for each row of each copy, also in the working copy
abbrev pub RowsHavePeriods : State → Type 0
RowsHavePeriods s =
    (e : Entry) → In e (entries s) → (t : ℕ) (r : Stamped) → In r (rows_in e.copy t)
    → HasPeriod (table_at s.definitions t) (shown (table_at s.definitions t) r)

-- definitions, copies and rows fit one another
pub record IsTypedState (s : State) : Type 0 where
  pub definitions : AreTypedDefinitions s.definitions
  pub copies : CopiesFit s
  pub rows : RowsAreTyped s
  pub periods : RowsHavePeriods s

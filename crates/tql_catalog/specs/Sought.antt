-- The columns by which rows of a table are looked up: those of keys, references, and the application period.
use Rattle.std.specs.Prelude.{ℕ, ◌++◌, List, map, Option, Some, None, Vec, ⊤}
use Rattle.tql_spec.specs.Definition.{TableDef, Application, Key, Reference}
use Rattle.tql_catalog.specs.Rows.{IsStoredAt}

-- the columns of each key: a new row can conflict only with rows that have its values there
abbrev pub key_columns : TableDef → List (List ℕ)
key_columns d = map (λ (k : Key). k.columns) d.keys

-- the columns of each reference: only rows that have the values of a removed parent row there can refer to it
abbrev pub reference_columns : TableDef → List (List ℕ)
reference_columns d = map (λ (f : Reference). f.columns) d.references

-- the lists of columns by which rows of the table are looked up
abbrev pub sought_columns : TableDef → List (List ℕ)
sought_columns d = key_columns d ++ reference_columns d

-- the lists of numbers in the code
abbrev pub lists_of : {A : Type 0} → List (Vec ℕ A) → List (List ℕ)
lists_of {A} lists = map (λ (l : Vec ℕ A). l.items) lists

-- the columns of the application period are stored at these numbers; without a period there are no numbers
abbrev pub IsPeriodStoredAt : TableDef → Option Application → Option (ℕ × ℕ) → Type 0
IsPeriodStoredAt d None None = ⊤
IsPeriodStoredAt d None (Some p) = ⊥
IsPeriodStoredAt d (Some a) None = ⊥
IsPeriodStoredAt d (Some a) (Some p) = IsStoredAt d a.start p.0 × IsStoredAt d a.end p.1

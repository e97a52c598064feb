-- The existing tables, in the order of their creation.
use Rattle.std.specs.Prelude.{◌≡◌, ◌≢◌, ◌≤◌, refl, ℕ, ◌++◌, List, [], ◌∷◌, map, length, nat_le, is_some, is_none}
use Rattle.std.specs.Prelude.{String, string_bytes, Bool, true, false, ◌&&◌, IsTrue}
use Rattle.std.specs.Prelude.{All, Option, Some, None, Result, Ok, Err, ⊤}
use Rattle.std.specs.List.{AllPairs, list_all}
use Rattle.std.specs.Coded.{Coded, code_by, coded×, coded_ℕ, coded_list}
use Rattle.tql_spec.specs.Refusal as spec
use Rattle.tql_spec.specs.Binding.{is_referenced}
use Rattle.tql_spec.specs.Refusal.{TooManyTablesOrReaders, TableUnknownOrAlreadyThere, TableIsReferenced, fault_if}
use Rattle.tql_spec.specs.Definition.{Name, TableDef, Reference, place_of, table_at}
use Rattle.tql_spec.specs.Creation.{is_declared_key}
use Rattle.tql_value.specs.Refusals.{refusal_of}
use Rattle.tql_value.specs.declared.refusal.Refusal.{Refusal}
use Rattle.tql_value.specs.declared.refusal.Refusal.TheVariants.{OutOfMemory}
use Rattle.tql_catalog.specs.Codes.{table_def_code}
use Rattle.tql_catalog.specs.declared.catalog.Table.{Table}

-- how the logic encodes tables
abbrev table_code : Coded Table
table_code = code_by (TableDef × ℕ) (coded× table_def_code coded_ℕ) (λ t. (t.definition, t.id))
    (λ p. record { definition = p.0; id = p.1 }) (λ _. refl)

abbrev pub tables_code : Coded (List Table)
tables_code = coded_list table_code

-- the definitions of tables
abbrev pub definitions_of : List Table → List TableDef
definitions_of tables = map (λ (t : Table). t.definition) tables

-- no table is kept at this number
abbrev pub IsFree : ℕ → List Table → Type 0
IsFree id tables = All (λ (t : Table). t.id ≢ id) tables

-- whether the table at this position, if there is one, has the referenced columns as a key
abbrev pub has_key_at : List TableDef → Reference → Option ℕ → Bool
has_key_at defs f None = false
has_key_at defs f (Some p) = is_declared_key (table_at defs p) f.by_period f.parent_columns

-- whether a new table can have this reference: it is to a key of an existing table
abbrev pub can_have : List TableDef → Reference → Bool
can_have defs f = has_key_at defs f (place_of f.parent defs)

-- whether each reference of a list of tables is to a key of an earlier table; the tables `before` come first
abbrev pub have_parents : List TableDef → List TableDef → Bool
have_parents before [] = true
have_parents before (d ∷ ds) = list_all (can_have before) d.references && have_parents (before ++ d ∷ []) ds

-- no two tables have the same name or the same number; there are at most 1,000; each reference is to a key of an
-- earlier table
pub record IsCatalog (tables : List Table) : Type 0 where
  pub names : AllPairs (λ (t u : Table). t.definition.name ≢ u.definition.name) tables
  pub ids : AllPairs (λ (t u : Table). t.id ≢ u.id) tables
  pub count : length tables ≤ 1000
  pub parents : IsTrue (have_parents [] (definitions_of tables))

-- each table is kept under its name
abbrev pub IsByName : {Z : Type 0} → List (String Z × Table) → Type 0
IsByName entries = map (λ e. string_bytes e.0) entries ≡ map (λ e. e.1.definition.name) entries

-- the faults of a new table of this name, given the existing tables
abbrev pub creation_faults : List TableDef → Name → List spec.Refusal
creation_faults defs n =
    fault_if (is_some (place_of n defs)) TableUnknownOrAlreadyThere ++ fault_if (nat_le 1000 (length defs))
    TooManyTablesOrReaders

-- the fault of a name that no table has
abbrev pub absence_faults : List TableDef → Name → List spec.Refusal
absence_faults defs n = fault_if (is_none (place_of n defs)) TableUnknownOrAlreadyThere

-- the fault of a DROP of a table that a reference names
abbrev pub reference_faults : List TableDef → Name → List spec.Refusal
reference_faults defs n = fault_if (is_referenced n defs) TableIsReferenced

-- the faults of a DROP of the table of this name
abbrev pub drop_faults : List TableDef → Name → List spec.Refusal
drop_faults defs n = absence_faults defs n ++ reference_faults defs n

-- the refusal is the fault; without a fault, nothing is refused
abbrev pub Refuses : {A : Type 0} → Option spec.Refusal → Result A Refusal → Type 0
Refuses None (Ok x) = ⊤
Refuses None (Err e) = ⊥
Refuses (Some fault) (Ok x) = ⊥
Refuses (Some fault) (Err e) = refusal_of e ≡ fault

-- the refusal is the fault; without a fault, the only refusal is for memory
abbrev pub Tells : {A : Type 0} → Option spec.Refusal → Result A Refusal → Type 0
Tells None (Ok x) = ⊤
Tells None (Err e) = e ≡ OutOfMemory
Tells (Some fault) (Ok x) = ⊥
Tells (Some fault) (Err e) = refusal_of e ≡ fault

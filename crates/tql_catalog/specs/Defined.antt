-- The rules for the definition of a table, part by part.
use Rattle.std.specs.Prelude.{ℕ, Bool, true, false, not, ◌&&◌, ◌||◌, ◌==◌, ◌++◌, nat_lt, IsTrue, List, [], map}
use Rattle.std.specs.Prelude.{length, Option, Some, None, slice_index_or}
use Rattle.std.specs.List.{list_all}
use Rattle.tql_spec.specs.Datum.{Kind, Ints, Moments, same_kind}
use Rattle.tql_spec.specs.Expression.{Cond}
use Rattle.tql_spec.specs.Definition.{Name, Column, System, Application, Key, Reference, TableDef}
use Rattle.tql_spec.specs.Creation.{names_of, kinds_of, repeats, has_number, are_ends, application_name, has_expr}
use Rattle.tql_spec.specs.Creation.{has_aggregate, uses_column}
use Rattle.tql_spec.specs.Binding.{generated_columns, is_generated}
use Rattle.tql_catalog.specs.Rows.{are_assignable}

-- whether there is a column of this number, and it holds moments
abbrev pub is_moment_at : List Kind → ℕ → Bool
is_moment_at kinds i = nat_lt i (length kinds) && same_kind (slice_index_or kinds i Ints) Moments

-- whether the generated columns, if there are any, are two columns that hold moments
abbrev pub is_system_period : List Kind → Option System → Bool
is_system_period kinds None = true
is_system_period kinds (Some s) = is_moment_at kinds s.start && is_moment_at kinds s.end && not (s.start == s.end)

-- whether there is a column of this number, and it takes no null
abbrev pub is_required_at : List Bool → ℕ → Bool
is_required_at required i = nat_lt i (length required) && slice_index_or required i false

-- whether the column of this number can be an end of a period that users write: it exists, takes no null, and is not
-- generated
abbrev pub is_end_at : List Bool → Option System → ℕ → Bool
is_end_at required system i = is_required_at required i && not (has_number i (generated_columns system))

-- whether the application period, if there is one, has two columns that can be its ends and both hold days, or both
-- hold moments
abbrev pub is_application_period : List Column → Option System → Option Application → Bool
is_application_period columns system None = true
is_application_period columns system (Some a) =
    let required = map (λ (c : Column). c.required) columns in
    let kinds = map (λ (c : Column). c.kind) columns in
    is_end_at required system a.start && is_end_at required system a.end && are_ends
    (slice_index_or kinds a.start Ints) (slice_index_or kinds a.end Ints)
    && not (a.start == a.end)

-- ---- the parts

-- no name occurs twice among those of the columns and that of the application period
abbrev pub HasColumns : TableDef → Type 0
HasColumns d = IsTrue (not (repeats (names_of d ++ application_name d.application)))

-- there are no generated columns, or they are two columns of the table that hold moments
abbrev pub HasSystemPeriod : TableDef → Type 0
HasSystemPeriod d = IsTrue (is_system_period (kinds_of d) d.system)

-- there is no application period, or it has two columns of the table, neither generated, that take no null; both hold
-- days, or both hold moments
abbrev pub HasApplicationPeriod : TableDef → Type 0
HasApplicationPeriod d = IsTrue (is_application_period d.columns d.system d.application)

-- whether the columns of a key are columns of the table, none generated and none listed twice
abbrev pub is_key : TableDef → Key → Bool
is_key d k = are_assignable d k.columns

-- whether the columns of a reference are columns of the table, none generated and none listed twice
abbrev pub is_reference : TableDef → Reference → Bool
is_reference d f = are_assignable d f.columns

-- whether a check contains no aggregate and no generated column
abbrev pub is_check : TableDef → Cond → Bool
is_check d c = not (has_expr has_aggregate c || has_expr (uses_column (is_generated d)) c)

-- each key follows the rule
abbrev pub HasKeys : TableDef → Type 0
HasKeys d = IsTrue (list_all (is_key d) d.keys)

-- each reference follows the rule
abbrev pub HasReferences : TableDef → Type 0
HasReferences d = IsTrue (list_all (is_reference d) d.references)

-- each check follows the rule
abbrev pub HasChecks : TableDef → Type 0
HasChecks d = IsTrue (list_all (is_check d) d.checks)

-- a definition whose parts all follow the rules
pub record IsDefinition (d : TableDef) : Type 0 where
  pub columns : HasColumns d
  pub system : HasSystemPeriod d
  pub application : HasApplicationPeriod d
  pub keys : HasKeys d
  pub references : HasReferences d
  pub checks : HasChecks d

-- ---- tables of columns and periods, and their constraints

-- a table without constraints
abbrev pub table_of_parts : Name → List Column → Option System → Option Application → TableDef
table_of_parts n cs s a = record {
  name = n;
  columns = cs;
  system = s;
  application = a;
  keys = [];
  references = [];
  checks = [];
}

-- the table with these keys, references and checks instead of its own
abbrev pub with_constraints : TableDef → List Key → List Reference → List Cond → TableDef
with_constraints d ks fs cs = record d { keys = ks; references = fs; checks = cs }

-- whether the table may have these constraints
abbrev pub are_constraints : TableDef → List Key → List Reference → List Cond → Bool
are_constraints d ks fs cs =
    list_all (is_key d) ks && list_all (is_reference d) fs && list_all (is_check d) cs

-- whether a table may have these columns and periods
abbrev pub is_definable : List Column → Option System → Option Application → Bool
is_definable cs s a =
    not (repeats (map (λ (c : Column). c.name) cs ++ application_name a)) && is_system_period
    (map (λ (c : Column). c.kind) cs) s
    && is_application_period cs s a

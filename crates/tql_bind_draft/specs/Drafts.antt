-- The parts of a CREATE TABLE as written, and the bound columns, periods, names, lists of columns and keys.
use Rattle.std.specs.Prelude.{ℕ, Bool, not, ◌&&◌, ◌||◌, List, [], ◌∷◌, ◌++◌, map, filter, length, Option, Some, None}
use Rattle.std.specs.Prelude.{option_map, is_some, slice_index_or, if◌then◌else◌}
use Rattle.std.specs.List.{flat_map, list_any}
use Rattle.tql_spec.specs.Words.{same_text, listed}
use Rattle.tql_spec.specs.Datum.{Kind, Ints, Moments, same_kind}
use Rattle.tql_spec.specs.Refusal.{TypesDoNotFit, FormNotAllowedHere}
use Rattle.tql_spec.specs.Definition.{Name, Application, System, Key}
use Rattle.tql_spec.specs.Names.{Checked, ◌>>=◌, sound, unless, refuse_if, check_each}
use Rattle.tql_spec.specs.Syntax.{ColumnTree, Element, RefList, Constraint, KeyTree, ForeignTree}
use Rattle.tql_spec.specs.Creation.{PeriodPart, are_ends, column_number, has_number, numbers_where, is_row_start}
use Rattle.tql_spec.specs.Creation.{is_row_end, kind_of_type, part_names, columns_of, application_parts, system_parts}
use Rattle.tql_spec.specs.Creation.{constraints_of, column_numbers, period_columns, period_called, shares_number}
use Rattle.tql_spec.specs.Creation.{has_name}
use Rattle.tql_syntax_tree.specs.Statements.{type_of, generated_of, element_of, elements_of}
use Rattle.tql_syntax_tree.specs.declared.statement.CreateTree.{CreateTree}
use Rattle.tql_bind_expr.specs.Scopes.{word_of}
use Rattle.tql_bind_draft.specs.declared.draft.NewColumn.{NewColumn}
use Rattle.tql_bind_draft.specs.declared.draft.NewApplication.{NewApplication}
use Rattle.tql_bind_draft.specs.declared.draft.NewSystem.{NewSystem}
use Rattle.tql_bind_draft.specs.declared.draft.NewList.{NewList}
use Rattle.tql_bind_draft.specs.declared.draft.NewKey.{NewKey}
use Rattle.tql_bind_draft.specs.declared.draft.NewReference.{NewReference}
use Rattle.tql_bind_draft.specs.declared.draft.Draft.{Draft}

-- ---- the parts as written

-- a list of columns as written, and its period
pub record ListPart : Type 0 where
  pub columns : List Name
  pub period : Option Name

-- a key as written
pub record KeyPart : Type 0 where
  pub primary : Bool
  pub list : ListPart

-- a reference as written: its columns, the table that it references, and the columns there
pub record ReferencePart : Type 0 where
  pub child : ListPart
  pub parent : Name
  pub named : ListPart

-- all parts of a new table as written, except the checks
pub record Written : Type 0 where
  pub columns : List ColumnTree
  pub applications : List PeriodPart
  pub systems : List PeriodPart
  pub keys : List KeyPart
  pub references : List ReferencePart

-- the column that a value of the code represents
abbrev pub column_of : NewColumn → ColumnTree
column_of c = record {
  name = word_of c.name;
  type_name = type_of c.type_name;
  required = c.is_required;
  generated = option_map generated_of c.generated;
}

-- the application period of such a value
abbrev pub application_part : NewApplication → PeriodPart
application_part p = record {
  name = Some (word_of p.name);
  start = word_of p.start;
  end = word_of p.end;
}

-- the system period of such a value
abbrev pub system_part : NewSystem → PeriodPart
system_part p = record { name = None; start = word_of p.start; end = word_of p.end }

-- the list
abbrev pub list_part : NewList → ListPart
list_part l = record { columns = map word_of l.columns.items; period = option_map word_of l.period }

-- the key
abbrev pub key_part : NewKey → KeyPart
key_part k = record { primary = k.is_primary; list = list_part k.list }

-- the reference
abbrev pub reference_part : NewReference → ReferencePart
reference_part f = record { child = list_part f.child; parent = word_of f.parent; named = list_part f.named }

-- the columns
abbrev pub columns_in : Draft → List ColumnTree
columns_in d = map column_of d.columns.items

-- the application periods
abbrev pub applications_in : Draft → List PeriodPart
applications_in d = map application_part d.applications.items

-- the system periods
abbrev pub systems_in : Draft → List PeriodPart
systems_in d = map system_part d.systems.items

-- the keys
abbrev pub keys_in : Draft → List KeyPart
keys_in d = map key_part d.keys.items

-- the references
abbrev pub references_in : Draft → List ReferencePart
references_in d = map reference_part d.references.items

-- all parts
abbrev pub written_of : Draft → Written
written_of d = record {
  columns = columns_in d;
  applications = applications_in d;
  systems = systems_in d;
  keys = keys_in d;
  references = references_in d;
}

-- the elements of the statement
abbrev pub elements_in : CreateTree → List Element
elements_in c = element_of c.first ∷ elements_of c.more

-- the list of a reference
abbrev pub list_of : RefList → ListPart
list_of r = record { columns = r.first ∷ r.more; period = r.period }

-- the keys among constraints
abbrev pub key_parts : List Constraint → List KeyPart
key_parts [] = []
key_parts (KeyTree primary n ns p ∷ cs) =
    record { primary = primary; list = record { columns = n ∷ ns; period = p } } ∷ key_parts cs
key_parts (_ ∷ cs) = key_parts cs

-- the references among constraints
abbrev pub reference_parts : List Constraint → List ReferencePart
reference_parts [] = []
reference_parts (ForeignTree child n names ∷ cs) =
    record { child = list_of child; parent = n; named = list_of names } ∷ reference_parts cs
reference_parts (_ ∷ cs) = reference_parts cs

-- the parts in the elements, except the checks
abbrev pub written_in : List Element → Written
written_in es = record {
  columns = columns_of es;
  applications = application_parts es;
  systems = system_parts es;
  keys = key_parts (constraints_of es);
  references = reference_parts (constraints_of es);
}

-- ---- the terms of the definition, for columns or periods alone

-- the names
abbrev pub names_in : List ColumnTree → List Name
names_in cs = map (λ (c : ColumnTree). c.name) cs

-- the numbers of the ROW START columns
abbrev pub starts_in : List ColumnTree → List ℕ
starts_in cs = numbers_where (λ c. is_row_start c.generated) 0 cs

-- the numbers of the ROW END columns
abbrev pub stops_in : List ColumnTree → List ℕ
stops_in cs = numbers_where (λ c. is_row_end c.generated) 0 cs

-- whether the column with this number is generated
abbrev pub is_generated_in : List ColumnTree → ℕ → Bool
is_generated_in cs i = has_number i (starts_in cs) || has_number i (stops_in cs)

-- the kinds
abbrev pub kinds_in : List ColumnTree → List Kind
kinds_in cs = map (λ (c : ColumnTree). kind_of_type c.type_name) cs

-- the kind of the column with this number
abbrev pub kind_in : List ColumnTree → ℕ → Kind
kind_in cs i = slice_index_or (kinds_in cs) i Ints

-- a bound application period
abbrev pub application_in : List ColumnTree → PeriodPart → Checked Application
application_in cs p = do
  s ← column_number (names_in cs) p.start
  e ← column_number (names_in cs) p.end
  u ← refuse_if (not (are_ends (kind_in cs s) (kind_in cs e))) TypesDoNotFit
  v ← refuse_if (same_text p.start p.end || is_generated_in cs s || is_generated_in cs e) FormNotAllowedHere
  sound (record { name = slice_index_or (listed p.name) 0 []; start = s; end = e })

-- a bound system period
abbrev pub system_in : List ColumnTree → PeriodPart → Checked System
system_in cs p = do
  s ← column_number (names_in cs) p.start
  e ← column_number (names_in cs) p.end
  u ← refuse_if (not (same_kind (kind_in cs s) Moments) || not (same_kind (kind_in cs e) Moments)) TypesDoNotFit
  v ← refuse_if (same_text p.start p.end || not (has_number s (starts_in cs)) || not (has_number e (stops_in cs)))
      FormNotAllowedHere
  sound (record { start = s; end = e })

-- the names of the application periods
abbrev pub names_of_periods : List PeriodPart → List Name
names_of_periods ps = flat_map (λ (p : PeriodPart). listed p.name) ps

-- the columns of the primary keys
abbrev pub primary_in : List KeyPart → List Name
primary_in ks = flat_map (λ (k : KeyPart). if k.primary then k.list.columns else []) ks

-- whether a key is primary and lists the column of this name
abbrev pub has_primary : Name → KeyPart → Bool
has_primary n k = k.primary && has_name n k.list.columns

-- the number of primary keys
abbrev pub primary_count_in : List KeyPart → ℕ
primary_count_in ks = length (filter (λ (k : KeyPart). k.primary) ks)

-- the columns of the application periods and of the primary keys, which take no null
abbrev pub implied_in : List PeriodPart → List KeyPart → List Name
implied_in ps ks = flat_map part_names ps ++ primary_in ks

-- ---- keys and references

-- a bound list of columns, with or without a period
abbrev pub listed_in : Written → List Application → ListPart → Checked (List ℕ)
listed_in w as' l = do
  is ← column_numbers (names_in w.columns) l.columns
  q ← check_each (column_number (names_of_periods w.applications)) (listed l.period)
  unless (list_any (is_generated_in w.columns) is || shares_number is (period_columns (period_called l.period as')))
      FormNotAllowedHere is

-- a bound key
abbrev pub key_in : Written → List Application → KeyPart → Checked Key
key_in w as' k = listed_in w as' k.list >>= λ is. sound (record { columns = is; by_period = is_some k.list.period })

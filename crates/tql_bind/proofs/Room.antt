-- If a new table is bound without a fault, its name is free and there is room for it.
use Rattle.std.proofs.Common.{◌≡◌, ◌<◌, ◌≤◌, ◌+◌, ℕ, Bool, true, false, List, [], ◌∷◌, ◌++◌, length, refl, ap, arith}
use Rattle.std.proofs.Common.{None}
use Rattle.std.specs.Prelude.{◌||◌, ◌==◌, not, nat_le, nat_lt, is_some, if◌then◌else◌, Option, Some}
use Rattle.std.specs.List.{list_any, list_all, sum_by}
use Rattle.std.proofs.lemmas.List.{length-map}
use Rattle.std.proofs.lemmas.List.Sums.{sum_by-cons}
use Rattle.std.proofs.lemmas.Bool.Decides.{nat_tests}
use Rattle.tql_spec.specs.Refusal.{Refusal, TooManyTablesOrReaders, TableUnknownOrAlreadyThere}
use Rattle.tql_spec.specs.Refusal.{NameUnknownAmbiguousOrRepeated, TypesDoNotFit, FormNotAllowedHere, first, fault_if}
use Rattle.tql_spec.specs.Definition.{Name, TableDef, place_of}
use Rattle.tql_spec.specs.Machine.{Bound, CreateTable}
use Rattle.tql_spec.specs.Syntax as tree
use Rattle.tql_spec.specs.Syntax.{Element, ColumnTree, columns_in, is_too_wide}
use Rattle.tql_spec.specs.Creation.{create, whole_faults, repeats, column_names, period_names, has_bad_number}
use Rattle.tql_spec.specs.Creation.{columns_of, several, application_parts, system_parts, starts, stops}
use Rattle.tql_spec.specs.Creation.{primary_count, constraints_of}

nothing_first : (fs : List Refusal) → first fs ≡ None → fs ≡ []
nothing_first [] e = refl
nothing_first (f ∷ fs) e = cc

front_none : (xs ys : List Refusal) → xs ++ ys ≡ [] → xs ≡ []
front_none [] ys e = refl
front_none (x ∷ xs) ys e = cc

behind_none : (xs ys : List Refusal) → xs ++ ys ≡ [] → ys ≡ []
behind_none [] ys e = e
behind_none (x ∷ xs) ys e = cc

not_present : (b : Bool) → fault_if b TooManyTablesOrReaders ≡ [] → b ≡ false
not_present true e = cc
not_present false e = refl

less : (n : ℕ) → nat_le 1000 n ≡ false → n < 1000
less n e = grind (arith, nat_tests)

-- all faults of the table as a whole except the last one
abbrev earlier_faults : List TableDef → Name → List Element → Bool → List Refusal
earlier_faults defs n es versioned =
    fault_if (is_some (place_of n defs)) TableUnknownOrAlreadyThere
    ++ fault_if (repeats (column_names es ++ period_names es)) NameUnknownAmbiguousOrRepeated
    ++ fault_if (list_any (λ (c : ColumnTree). has_bad_number c.type_name) (columns_of es)) TypesDoNotFit
    ++ fault_if (list_all (λ (c : ColumnTree). is_some c.generated) (columns_of es)) FormNotAllowedHere
    ++ fault_if (several (application_parts es) || several (system_parts es)) FormNotAllowedHere
    ++ fault_if (not (length (system_parts es) == (if versioned then 1 else 0))) FormNotAllowedHere
    ++ fault_if (not (length (starts es) == length (system_parts es)) || not
    (length (stops es) == length (system_parts es))) FormNotAllowedHere
    ++ fault_if (nat_lt 1 (primary_count (constraints_of es))) FormNotAllowedHere

pub room_law : (defs : List TableDef) (n : Name) (es : List Element) (versioned : Bool)
    → first (create defs n es versioned).faults ≡ None → length defs < 1000
room_law defs n es versioned e =
    let none : whole_faults defs n es versioned ≡ [] =
    front_none (whole_faults defs n es versioned) _ (nothing_first (create defs n es versioned).faults e) in
    less (length defs) (not_present (nat_le 1000 (length defs))
    (behind_none (earlier_faults defs n es versioned)
    (fault_if (nat_le 1000 (length defs)) TooManyTablesOrReaders) none))

not_there : (o : Option ℕ) → is_some o ≡ false → o ≡ None
not_there None e = refl
not_there (Some t) e = absurd (cc)

never : (f : Refusal) (fs : List Refusal) → f ∷ fs ≡ [] → ⊥
never f fs e = cc

-- the faults of the table as a whole, given whether its name exists
abbrev faults_where : List TableDef → List Element → Bool → Bool → List Refusal
faults_where defs es versioned there =
    fault_if there TableUnknownOrAlreadyThere
    ++ fault_if (repeats (column_names es ++ period_names es)) NameUnknownAmbiguousOrRepeated
    ++ fault_if (list_any (λ (c : ColumnTree). has_bad_number c.type_name) (columns_of es)) TypesDoNotFit
    ++ fault_if (list_all (λ (c : ColumnTree). is_some c.generated) (columns_of es)) FormNotAllowedHere
    ++ fault_if (several (application_parts es) || several (system_parts es)) FormNotAllowedHere
    ++ fault_if (not (length (system_parts es) == (if versioned then 1 else 0))) FormNotAllowedHere
    ++ fault_if (not (length (starts es) == length (system_parts es)) || not
    (length (stops es) == length (system_parts es))) FormNotAllowedHere
    ++ fault_if (nat_lt 1 (primary_count (constraints_of es))) FormNotAllowedHere
    ++ fault_if (nat_le 1000 (length defs)) TooManyTablesOrReaders

absent : (defs : List TableDef) (es : List Element) (versioned there : Bool)
    → faults_where defs es versioned there ≡ [] → there ≡ false
absent defs es versioned true e = absurd (never _ _ e)
absent defs es versioned false e = refl

pub free_law : (defs : List TableDef) (n : Name) (es : List Element) (versioned : Bool)
    → first (create defs n es versioned).faults ≡ None → place_of n defs ≡ None
free_law defs n es versioned e =
    let none : whole_faults defs n es versioned ≡ [] =
    front_none (whole_faults defs n es versioned) _ (nothing_first (create defs n es versioned).faults e) in
    not_there (place_of n defs) (absent defs es versioned (is_some (place_of n defs)) none)

table_in : TableDef → Bound → TableDef
table_in d (CreateTable t) = t
table_in d _ = d

-- equal CREATE TABLE statements have equal tables
pub same_table : (d t : TableDef) → CreateTable d ≡ CreateTable t → d ≡ t
unfolding table_in
same_table d t e = ap (table_in d) e

-- ---- a new table is no wider than its statement

column_count : (es : List Element) → length (columns_of es) ≡ sum_by columns_in es
column_count [] = refl
column_count (tree.ColumnElement c ∷ es) =
    omega (arith, column_count es, sum_by-cons columns_in (tree.ColumnElement c) es)
column_count (tree.PeriodElement n s e ∷ es) =
    omega (arith, column_count es, sum_by-cons columns_in (tree.PeriodElement n s e) es)
column_count (tree.ConstraintElement c ∷ es) =
    omega (arith, column_count es, sum_by-cons columns_in (tree.ConstraintElement c) es)

at_most : (n : ℕ) → nat_lt 64 n ≡ false → n ≤ 64
at_most n e = grind (arith, nat_tests)

pub narrow_law : (defs : List TableDef) (n : Name) (e : Element) (es : List Element) (versioned : Bool)
    → is_too_wide (tree.CreateTree n e es versioned) ≡ false
    → length (create defs n (e ∷ es) versioned).value.columns ≤ 64
narrow_law defs n e es versioned narrow =
    let few = at_most (columns_in e + sum_by columns_in es) narrow in
    let count = column_count (e ∷ es) in
    let sum = sum_by-cons columns_in e es in
    let same : length (create defs n (e ∷ es) versioned).value.columns ≡ length (columns_of (e ∷ es)) =
    length-map (columns_of (e ∷ es)) _ in
    omega (arith, few, count, sum, same)

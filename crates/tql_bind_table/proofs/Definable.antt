-- Parts without a fault can be the parts of a table.
use Rattle.std.specs.Prelude.{◌≡◌, refl, ℕ, suc, Bool, true, false, not, ◌&&◌, ◌||◌, ◌==◌, nat_le, nat_lt, IsTrue}
use Rattle.std.specs.Prelude.{List, [], ◌∷◌, ◌++◌, map, length, Some, None, is_some, slice_index_or}
use Rattle.std.specs.Prelude.{if◌then◌else◌, ◌<◌}
use Rattle.std.specs.List.{list_any, list_all}
use Rattle.std.proofs.Common.{ap, ◌∙◌, sym, subst, arith}
use Rattle.std.proofs.lemmas.Bool.Decides.{nat_tests}
use Rattle.std.proofs.lemmas.List.{length-map}
use Rattle.tql_spec.specs.Words.{same_text}
use Rattle.tql_spec.specs.Datum.{Kind, Ints, Moments, same_kind}
use Rattle.tql_spec.specs.Refusal.{TooManyTablesOrReaders, TableUnknownOrAlreadyThere}
use Rattle.tql_spec.specs.Refusal.{NameUnknownAmbiguousOrRepeated, TypesDoNotFit, FormNotAllowedHere, fault_if, first}
use Rattle.tql_spec.specs.Expression.{Cond}
use Rattle.tql_spec.specs.Definition as definition
use Rattle.tql_spec.specs.Definition.{Name, TableDef, Application, System, Key, Reference, place_of}
use Rattle.tql_spec.specs.Names.{Checked, check_each}
use Rattle.tql_spec.specs.Syntax.{ColumnTree, Condition}
use Rattle.tql_spec.specs.Creation.{PeriodPart, number_in, column_number, has_name, has_number, are_ends}
use Rattle.tql_spec.specs.Creation.{application_name, kind_of_type, has_bad_number, repeats, several, column}
use Rattle.tql_spec.specs.Creation.{first_of}
use Rattle.tql_spec.specs.Binding.{generated_columns}
use Rattle.tql_spec.proofs.Constraints.{same_text-self}
use Rattle.tql_catalog.specs.Defined.{is_definable, is_system_period, is_application_period, are_constraints}
use Rattle.tql_bind_check.specs.Checking.{check_by}
use Rattle.tql_bind_draft.specs.Drafts.{Written, KeyPart, application_part, names_in, kinds_in, kind_in, starts_in}
use Rattle.tql_bind_draft.specs.Drafts.{stops_in, is_generated_in, application_in, system_in, names_of_periods}
use Rattle.tql_bind_draft.specs.Drafts.{implied_in, primary_count_in, key_in}
use Rattle.tql_bind_table.specs.NewTables.{reference_in, flat_each, whole_in, create_in, defined_in, scope_by}
use Rattle.tql_bind_draft.specs.declared.draft.NewApplication.{NewApplication}
use Rattle.tql_bind_table.proofs.ColumnNumbers.{within, apart, other_number, required_at, there}
use Rattle.tql_bind_table.proofs.NoFault.{nothing_first, front_none, behind_none, not_present, or_none, not_none, found}
use Rattle.tql_bind_table.proofs.Listings.{keys_right, references_right}
use Rattle.tql_bind_table.proofs.CheckLaws.{checks_right}

-- ---- the columns of the definition

names_same : (implied : List Name) (cs : List ColumnTree)
    → map (λ (c : definition.Column). c.name) (map (column implied) cs) ≡ names_in cs
names_same implied [] = refl
names_same implied (c ∷ cs) = ap {B = List Name} (λ ns. c.name ∷ ns) (names_same implied cs)

kinds_same : (implied : List Name) (cs : List ColumnTree)
    → map (λ (c : definition.Column). c.kind) (map (column implied) cs) ≡ kinds_in cs
kinds_same implied [] = refl
kinds_same implied (c ∷ cs) = ap {B = List Kind} (λ ks. kind_of_type c.type_name ∷ ks) (kinds_same implied cs)

kind_count : (cs : List ColumnTree) → length (kinds_in cs) ≡ length (names_in cs)
kind_count cs = length-map cs (λ (c : ColumnTree). kind_of_type c.type_name)
    ∙ sym (length-map cs (λ (c : ColumnTree). c.name))

required_count : (implied : List Name) (cs : List ColumnTree)
    → length (map (λ (c : definition.Column). c.required) (map (column implied) cs)) ≡ length (names_in cs)
required_count implied cs =
    length-map (map (column implied) cs) (λ (c : definition.Column). c.required) ∙ length-map cs (column implied)
    ∙ sym (length-map cs (λ (c : ColumnTree). c.name))

-- ---- a period without a fault

-- the properties of its columns
record IsSound (names : List Name) (p : PeriodPart) (misfit wrong : ℕ → ℕ → Bool) (s e : ℕ) : Type 0 where
  start : number_in p.start names ≡ Some s
  end : number_in p.end names ≡ Some e
  fitting : misfit s e ≡ false
  right : wrong s e ≡ false

sound_parts : (names : List Name) (p : PeriodPart) (misfit wrong : ℕ → ℕ → Bool)
    → (column_number names p.start).faults ++ ((column_number names p.end).faults
    ++ (fault_if (misfit (column_number names p.start).value (column_number names p.end).value) TypesDoNotFit
    ++ (fault_if (wrong (column_number names p.start).value (column_number names p.end).value) FormNotAllowedHere ++
    []))) ≡ []
    → IsSound names p misfit wrong (column_number names p.start).value (column_number names p.end).value
sound_parts names p misfit wrong none =
    let s = (column_number names p.start).value in
    let e = (column_number names p.end).value in
    let rest = behind_none (column_number names p.start).faults _ none in
    let forms = behind_none (column_number names p.end).faults _ rest in
    let last = behind_none (fault_if (misfit s e) TypesDoNotFit) _ forms in
    record {
      start = found (number_in p.start names) (front_none (column_number names p.start).faults _ none);
      end = found (number_in p.end names) (front_none (column_number names p.end).faults _ rest);
      fitting = not_present (misfit s e) TypesDoNotFit (front_none (fault_if (misfit s e) TypesDoNotFit) _ forms);
      right = not_present (wrong s e) FormNotAllowedHere (front_none (fault_if (wrong s e) FormNotAllowedHere) [] last);
    }

-- if several checks have no fault, the first has none
first_each : {A B : Type 0} (f : A → Checked B) (x : A) (xs : List A) → (check_each f (x ∷ xs)).faults ≡ []
    → (f x).faults ≡ []
first_each f x xs none = front_none (f x).faults _ none

-- ---- the system period

abbrev no_moments : List ColumnTree → ℕ → ℕ → Bool
no_moments cs s e = not (same_kind (kind_in cs s) Moments) || not (same_kind (kind_in cs e) Moments)

abbrev no_system : List ColumnTree → PeriodPart → ℕ → ℕ → Bool
no_system cs p s e = same_text p.start p.end || not (has_number s (starts_in cs)) || not (has_number e (stops_in cs))

system_sound : (cs : List ColumnTree) (p : PeriodPart) → (system_in cs p).faults ≡ []
    → IsSound (names_in cs) p (no_moments cs) (no_system cs p) (system_in cs p).value.start (system_in cs p).value.end
system_sound cs p none = sound_parts (names_in cs) p (no_moments cs) (no_system cs p) none

system_right : (implied : List Name) (cs : List ColumnTree) (ps : List PeriodPart)
    → (check_each (system_in cs) ps).faults ≡ []
    → IsTrue (is_system_period (map (λ (c : definition.Column). c.kind) (map (column implied) cs))
    (first_of (check_each (system_in cs) ps).value))
system_right implied cs [] none = refl
system_right implied cs (p ∷ ps) none =
    let w = system_sound cs p (first_each (system_in cs) p ps none) in
    let s = (system_in cs p).value.start in
    let e = (system_in cs p).value.end in
    let moments = or_none (not (same_kind (kind_in cs s) Moments)) (not (same_kind (kind_in cs e) Moments)) w.fitting in
    let first = not_none (same_kind (kind_in cs s) Moments) moments.0 in
    let second = not_none (same_kind (kind_in cs e) Moments) moments.1 in
    let forms = or_none (same_text p.start p.end || not (has_number s (starts_in cs)))
    (not (has_number e (stops_in cs))) w.right in
    let same = (or_none (same_text p.start p.end) (not (has_number s (starts_in cs))) forms.0).0 in
    let from = there s (length (kinds_in cs)) (length (names_in cs)) (within p.start (names_in cs) s w.start)
    (kind_count cs) in
    let to = there e (length (kinds_in cs)) (length (names_in cs)) (within p.end (names_in cs) e w.end)
    (kind_count cs) in
    let differ = apart p.start p.end (names_in cs) s e w.start w.end same in
    ap (λ (ks : List Kind). is_system_period ks (Some (record { start = s; end = e }))) (kinds_same implied cs)
    ∙ (λ i. (from i && first i) && (to i && second i) && not (differ i))

-- a column that is not generated is not one of its columns
not_of_system : (cs : List ColumnTree) (ps : List PeriodPart) → (check_each (system_in cs) ps).faults ≡ [] → (k : ℕ)
    → is_generated_in cs k ≡ false
    → has_number k (generated_columns (first_of (check_each (system_in cs) ps).value)) ≡ false
not_of_system cs [] none k free = refl
not_of_system cs (p ∷ ps) none k free =
    let w = system_sound cs p (first_each (system_in cs) p ps none) in
    let s = (system_in cs p).value.start in
    let e = (system_in cs p).value.end in
    let forms = or_none (same_text p.start p.end || not (has_number s (starts_in cs)))
    (not (has_number e (stops_in cs))) w.right in
    let first = not_none (has_number s (starts_in cs))
    (or_none (same_text p.start p.end) (not (has_number s (starts_in cs))) forms.0).1 in
    let second = not_none (has_number e (stops_in cs)) forms.1 in
    let out = or_none (has_number k (starts_in cs)) (has_number k (stops_in cs)) free in
    let left = other_number k s (starts_in cs) out.0 first in
    let right = other_number k e (stops_in cs) out.1 second in
    λ i. left i || (right i || false)

-- ---- the application period

abbrev no_ends : List ColumnTree → ℕ → ℕ → Bool
no_ends cs s e = not (are_ends (kind_in cs s) (kind_in cs e))

abbrev no_application : List ColumnTree → PeriodPart → ℕ → ℕ → Bool
no_application cs p s e = same_text p.start p.end || is_generated_in cs s || is_generated_in cs e

or_true : (b : Bool) → b || true ≡ true
or_true true = refl
or_true false = refl

implies_start : (p : PeriodPart) (ps : List PeriodPart) (ks : List KeyPart)
    → has_name p.start (implied_in (p ∷ ps) ks) ≡ true
implies_start p ps ks = ap (λ (b : Bool). b || has_name p.start (p.end ∷ implied_in ps ks)) (same_text-self p.start)

implies_end : (p : PeriodPart) (ps : List PeriodPart) (ks : List KeyPart)
    → has_name p.end (implied_in (p ∷ ps) ks) ≡ true
implies_end p ps ks = ap (λ (b : Bool). same_text p.end p.start || (b || has_name p.end (implied_in ps ks)))
    (same_text-self p.end) ∙ or_true (same_text p.end p.start)

application_right : (cs : List ColumnTree) (ps qs : List PeriodPart) (ks : List KeyPart)
    → (check_each (application_in cs) ps).faults ≡ [] → (check_each (system_in cs) qs).faults ≡ []
    → IsTrue (is_application_period (map (column (implied_in ps ks)) cs) (first_of (check_each (system_in cs) qs).value)
    (first_of (check_each (application_in cs) ps).value))
application_right cs [] qs ks none sound = refl
application_right cs (p ∷ ps) qs ks none sound =
    let none_here : (application_in cs p).faults ≡ [] = first_each (application_in cs) p ps none in
    let w = sound_parts (names_in cs) p (no_ends cs) (no_application cs p) none_here in
    let s = (application_in cs p).value.start in
    let e = (application_in cs p).value.end in
    let implied = implied_in (p ∷ ps) ks in
    let columns = map (column implied) cs in
    let required = map (λ (c : definition.Column). c.required) columns in
    let points : are_ends (slice_index_or (map (λ (c : definition.Column). c.kind) columns) s Ints)
    (slice_index_or (map (λ (c : definition.Column). c.kind) columns) e Ints) ≡ true =
    ap (λ (ks : List Kind). are_ends (slice_index_or ks s Ints) (slice_index_or ks e Ints)) (kinds_same implied cs)
    ∙ not_none (are_ends (kind_in cs s) (kind_in cs e)) w.fitting in
    let forms = or_none (same_text p.start p.end || is_generated_in cs s) (is_generated_in cs e) w.right in
    let front = or_none (same_text p.start p.end) (is_generated_in cs s) forms.0 in
    let from = there s (length required) (length (names_in cs)) (within p.start (names_in cs) s w.start)
    (required_count implied cs) in
    let to = there e (length required) (length (names_in cs)) (within p.end (names_in cs) e w.end)
    (required_count implied cs) in
    let first = required_at implied p.start cs s w.start (implies_start p ps ks) in
    let second = required_at implied p.end cs e w.end (implies_end p ps ks) in
    let left = not_of_system cs qs sound s front.1 in
    let right = not_of_system cs qs sound e forms.1 in
    let differ = apart p.start p.end (names_in cs) s e w.start w.end front.0 in
    λ i. ((from i && first i) && not (left i)) && ((to i && second i) && not (right i)) && points i && not (differ i)

-- ---- the names

many : (n : ℕ) → nat_lt 1 (suc (suc n)) ≡ true
many n = grind (arith, nat_tests)

no_many : (n : ℕ) → nat_lt 1 (suc (suc n)) ≡ false → ⊥
no_many n e = false_true (sym e ∙ many n)
  where
    false_true : false ≡ true → ⊥
    false_true h = cc

-- if there is at most one application period, its name is the only period name
names_first : (cs : List ColumnTree) (as' : List NewApplication) → several (map application_part as') ≡ false
    → application_name (first_of (check_each (application_in cs) (map application_part as')).value) ≡
    names_of_periods (map application_part as')
names_first cs [] one = refl
names_first cs (a ∷ []) one = refl
names_first cs (a ∷ b ∷ as') one = absurd (no_many (length (map application_part as')) one)

named_first : (cs : List ColumnTree) (ps : List PeriodPart) (as' : List NewApplication)
    → ps ≡ map application_part as' → several ps ≡ false
    → application_name (first_of (check_each (application_in cs) ps).value) ≡ names_of_periods ps
named_first cs ps as' e one =
    subst (λ (qs : List PeriodPart). several qs ≡ false
    → application_name (first_of (check_each (application_in cs) qs).value) ≡ names_of_periods qs) (sym e)
    (names_first cs as') one

-- ---- the table

-- the properties of a table without a fault as a whole
record IsWhole (w : Written) : Type 0 where
  once : repeats (names_in w.columns ++ names_of_periods w.applications) ≡ false
  one : several w.applications ≡ false

whole_right : (defs : List TableDef) (n : Name) (w : Written) (v : Bool) → whole_in defs n w v ≡ [] → IsWhole w
whole_right defs n w v none =
    let wanted = if v then 1 else 0 in
    let f1 = fault_if (is_some (place_of n defs)) TableUnknownOrAlreadyThere in
    let repeated = repeats (names_in w.columns ++ names_of_periods w.applications) in
    let f2 = fault_if repeated NameUnknownAmbiguousOrRepeated in
    let f3 = fault_if (list_any (λ (c : ColumnTree). has_bad_number c.type_name) w.columns) TypesDoNotFit in
    let f4 = fault_if (list_all (λ (c : ColumnTree). is_some c.generated) w.columns) FormNotAllowedHere in
    let many_periods = several w.applications || several w.systems in
    let f5 = fault_if many_periods FormNotAllowedHere in
    let f6 = fault_if (not (length w.systems == wanted)) FormNotAllowedHere in
    let f7 = fault_if (not (length (starts_in w.columns) == length w.systems)
    || not (length (stops_in w.columns) == length w.systems)) FormNotAllowedHere in
    let f8 = fault_if (nat_lt 1 (primary_count_in w.keys)) FormNotAllowedHere in
    let f9 = fault_if (nat_le 1000 (length defs)) TooManyTablesOrReaders in
    let n8 = front_none (f1 ++ f2 ++ f3 ++ f4 ++ f5 ++ f6 ++ f7 ++ f8) f9 none in
    let n7 = front_none (f1 ++ f2 ++ f3 ++ f4 ++ f5 ++ f6 ++ f7) f8 n8 in
    let n6 = front_none (f1 ++ f2 ++ f3 ++ f4 ++ f5 ++ f6) f7 n7 in
    let n5 = front_none (f1 ++ f2 ++ f3 ++ f4 ++ f5) f6 n6 in
    let n4 = front_none (f1 ++ f2 ++ f3 ++ f4) f5 n5 in
    let n3 = front_none (f1 ++ f2 ++ f3) f4 n4 in
    let n2 = front_none (f1 ++ f2) f3 n3 in
    record {
      once = not_present repeated NameUnknownAmbiguousOrRepeated (behind_none f1 f2 n2);
      one = (or_none (several w.applications) (several w.systems)
          (not_present many_periods FormNotAllowedHere (behind_none (f1 ++ f2 ++ f3 ++ f4) f5 n5))).0;
    }

-- a column within the table that is not generated can be assigned by users
open_at : (implied : List Name) (cs : List ColumnTree) (qs : List PeriodPart)
    → (check_each (system_in cs) qs).faults ≡ [] → (i : ℕ) → i < length (names_in cs)
    → is_generated_in cs i ≡ false
    → nat_lt i (length (map (column implied) cs)) && not (has_number i
    (generated_columns (first_of (check_each (system_in cs) qs).value))) ≡ true
open_at implied cs qs none i h free =
    let count : length (map (column implied) cs) ≡ length (names_in cs) = length-map cs (column implied)
    ∙ sym (length-map cs (λ (c : ColumnTree). c.name)) in
    let inside = there i (length (map (column implied) cs)) (length (names_in cs)) h count in
    let outside = not_of_system cs qs none i free in
    λ j. inside j && not (outside j)

-- the table is possible: its columns, periods and constraints can be those of one
pub record CanStand (t : TableDef) : Type 0 where
  pub definable : IsTrue (is_definable t.columns t.system t.application)
  pub constrained : IsTrue (are_constraints t t.keys t.references t.checks)

-- this is so if there is no fault
pub can_stand : (defs : List TableDef) (n : Name) (w : Written) (cs : List Condition) (as' : List NewApplication)
    → w.applications ≡ map application_part as' → (v : Bool) (t : TableDef)
    → first (create_in defs n w cs v).faults ≡ None → t ≡ (create_in defs n w cs v).value → CanStand t
can_stand defs n w cs as' parts v t none is =
    let all = create_in defs n w cs v in
    let empty = nothing_first all.faults none in
    let periods : Checked (List Application) = check_each (application_in w.columns) w.applications in
    let systems : Checked (List System) = check_each (system_in w.columns) w.systems in
    let keys : Checked (List Key) = check_each (key_in w periods.value) w.keys in
    let references : Checked (List Reference) = flat_each (reference_in defs w periods.value) w.references in
    let checks : Checked (List Cond) = check_each
    (check_by (is_generated_in w.columns) (scope_by n (defined_in w) periods.value (first_of systems.value))) cs in
    let whole = whole_right defs n w v (front_none (whole_in defs n w v) _ empty) in
    let n1 = behind_none (whole_in defs n w v) _ empty in
    let applied = front_none periods.faults _ n1 in
    let n2 = behind_none periods.faults _ n1 in
    let versioned = front_none systems.faults _ n2 in
    let n3 = behind_none systems.faults _ n2 in
    let keyed = front_none keys.faults _ n3 in
    let n4 = behind_none keys.faults _ n3 in
    let referring = front_none references.faults _ n4 in
    let checked = front_none checks.faults [] (behind_none references.faults _ n4) in
    let implied = implied_in w.applications w.keys in
    let single : application_name (first_of periods.value) ≡ names_of_periods w.applications =
    named_first w.columns w.applications as' parts whole.one in
    let names : repeats (map (λ (c : definition.Column). c.name) (map (column implied) w.columns) ++ application_name
    (first_of periods.value)) ≡ false =
    (λ i. repeats (names_same implied w.columns i ++ single i)) ∙ whole.once in
    let system = system_right implied w.columns w.systems versioned in
    let application = application_right w.columns w.applications w.systems w.keys applied versioned in
    let opened = open_at implied w.columns w.systems versioned in
    let right_keys = keys_right w all.value opened periods.value w.keys keyed in
    let right_references = references_right w all.value opened defs periods.value w.references referring in
    let right_checks = checks_right w.columns all.value (not_of_system w.columns w.systems versioned)
    (scope_by n (defined_in w) periods.value (first_of systems.value)) cs checked in
    record {
      definable = ap (λ (d : TableDef). is_definable d.columns d.system d.application) is
          ∙ (λ i. not (names i) && system i && application i);
      constrained = ap (λ (d : TableDef). are_constraints d d.keys d.references d.checks) is
          ∙ (λ i. right_keys i && right_references i && right_checks i);
    }

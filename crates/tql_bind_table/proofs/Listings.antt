-- Keys and references without a fault list columns that users can assign, each once.
use Rattle.std.specs.Prelude.{◌≡◌, refl, ℕ, Bool, true, false, not, ◌&&◌, ◌||◌, nat_lt, List, [], ◌∷◌, ◌++◌}
use Rattle.std.specs.Prelude.{length, Option, Some, None, is_some, is_none, if◌then◌else◌, ◌<◌}
use Rattle.std.specs.List.{list_any, list_all}
use Rattle.std.proofs.Common.{ap, ◌∙◌}
use Rattle.tql_spec.specs.Words.{same_text, listed}
use Rattle.tql_spec.specs.Refusal.{NameUnknownAmbiguousOrRepeated, TypesDoNotFit, FormNotAllowedHere}
use Rattle.tql_spec.specs.Refusal.{TableUnknownOrAlreadyThere, fault_if}
use Rattle.tql_spec.specs.Definition.{Name, TableDef, Application, Reference, place_of, table_at}
use Rattle.tql_spec.specs.Names.{Checked, check_each}
use Rattle.tql_spec.specs.Creation.{number_in, column_number, column_numbers, has_name, has_number, repeats, names_of}
use Rattle.tql_spec.specs.Creation.{kinds_of, kinds_at, kinds_differ, periods_differ, application_kind}
use Rattle.tql_spec.specs.Creation.{application_name, period_called, period_columns, shares_number, is_declared_key}
use Rattle.tql_spec.specs.Binding.{is_generated}
use Rattle.tql_catalog.specs.Defined.{is_key, is_reference}
use Rattle.tql_catalog.specs.Rows.{are_assignable, numbers_repeat}
use Rattle.tql_catalog.specs.Tables.{can_have, has_key_at}
use Rattle.tql_bind_draft.specs.Drafts.{Written, ListPart, KeyPart, ReferencePart, names_in, kinds_in, is_generated_in}
use Rattle.tql_bind_draft.specs.Drafts.{names_of_periods, listed_in, key_in}
use Rattle.tql_bind_table.specs.NewTables.{has_one_period, reference_to, reference_at, reference_in, flat_each}
use Rattle.tql_bind_table.proofs.ColumnNumbers.{within, apart}
use Rattle.tql_bind_table.proofs.NoFault.{front_none, behind_none, never, not_present, or_none, not_none, found}

-- ---- numbers

-- a name that is not among others has a number that is not among theirs
not_among : (names : List Name) (n : Name) (i : ℕ) → number_in n names ≡ Some i → (ms : List Name)
    → (check_each (column_number names) ms).faults ≡ [] → has_name n ms ≡ false
    → has_number i (check_each (column_number names) ms).value ≡ false
not_among names n i e [] none h = refl
not_among names n i e (m ∷ ms) none h =
    let first = found (number_in m names) (front_none (column_number names m).faults _ none) in
    let rest = front_none (check_each (column_number names) ms).faults []
    (behind_none (column_number names m).faults _ none) in
    let both = or_none (same_text n m) (has_name n ms) h in
    let here = apart n m names i (column_number names m).value e first both.0 in
    let later = not_among names n i e ms rest both.1 in
    λ j. here j || later j

-- names without repeats have numbers without repeats
numbers_once : (names ns : List Name) → (check_each (column_number names) ns).faults ≡ [] → repeats ns ≡ false
    → numbers_repeat (check_each (column_number names) ns).value ≡ false
numbers_once names [] none h = refl
numbers_once names (n ∷ ns) none h =
    let first = found (number_in n names) (front_none (column_number names n).faults _ none) in
    let rest = front_none (check_each (column_number names) ns).faults []
    (behind_none (column_number names n).faults _ none) in
    let both = or_none (has_name n ns) (repeats ns) h in
    let here = not_among names n (column_number names n).value first ns rest both.0 in
    let later = numbers_once names ns rest both.1 in
    λ j. here j || later j

-- numbers of columns that are not generated pass a test that all such columns pass
numbers_pass : (names ns : List Name) (gen p : ℕ → Bool)
    → ((i : ℕ) → i < length names → gen i ≡ false → p i ≡ true)
    → (check_each (column_number names) ns).faults ≡ []
    → list_any gen (check_each (column_number names) ns).value ≡ false
    → list_all p (check_each (column_number names) ns).value ≡ true
numbers_pass names [] gen p pass_at none free = refl
numbers_pass names (n ∷ ns) gen p pass_at none free =
    let i = (column_number names n).value in
    let first = found (number_in n names) (front_none (column_number names n).faults _ none) in
    let rest = front_none (check_each (column_number names) ns).faults []
    (behind_none (column_number names n).faults _ none) in
    let both = or_none (gen i) (list_any gen (check_each (column_number names) ns).value) free in
    let here = pass_at i (within n names i first) both.0 in
    let later = numbers_pass names ns gen p pass_at rest both.1 in
    λ j. here j && later j

-- ---- lists of columns

-- the test of the columns of a key or of a reference
abbrev is_assigned : TableDef → ℕ → Bool
is_assigned d i = nat_lt i (length d.columns) && not (is_generated d i)

module _ (w : Written) (d : TableDef)
    (pass_at : (i : ℕ) → i < length (names_in w.columns) → is_generated_in w.columns i ≡ false
    → is_assigned d i ≡ true) where
  -- a list without a fault lists columns that users can assign
  listed_right : (as' : List Application) (l : ListPart) → (listed_in w as' l).faults ≡ []
      → are_assignable d (listed_in w as' l).value ≡ true
  listed_right as' l none =
      let names = names_in w.columns in
      let each : Checked (List ℕ) = check_each (column_number names) l.columns in
      let numbers : Checked (List ℕ) = column_numbers names l.columns in
      let period : Checked (List ℕ) = check_each (column_number (names_of_periods w.applications)) (listed l.period) in
      let gen : Bool = list_any (is_generated_in w.columns) each.value in
      let shared : Bool = shares_number each.value (period_columns (period_called l.period as')) in
      let first = front_none numbers.faults _ none in
      let known = front_none each.faults _ first in
      let once = not_present (repeats l.columns) NameUnknownAmbiguousOrRepeated (behind_none each.faults _ first) in
      let last = behind_none period.faults _ (behind_none numbers.faults _ none) in
      let free = (or_none gen shared (not_present (gen || shared) FormNotAllowedHere last)).0 in
      let pass = numbers_pass names l.columns (is_generated_in w.columns) (is_assigned d) pass_at known free in
      let apart' = numbers_once names l.columns known once in
      λ j. pass j && not (apart' j)

  -- keys without a fault can be those of the table
  pub keys_right : (as' : List Application) (ks : List KeyPart) → (check_each (key_in w as') ks).faults ≡ []
      → list_all (is_key d) (check_each (key_in w as') ks).value ≡ true
  keys_right as' [] none = refl
  keys_right as' (k ∷ ks) none =
      let listing = front_none (listed_in w as' k.list).faults [] (front_none (key_in w as' k).faults _ none) in
      let rest = front_none (check_each (key_in w as') ks).faults [] (behind_none (key_in w as' k).faults _ none) in
      let here = listed_right as' k.list listing in
      let later = keys_right as' ks rest in
      λ j. here j && later j

  reference_right : (defs : List TableDef) (as' : List Application) (f : ReferencePart) (o : Option ℕ)
      → (reference_at defs w as' f o).faults ≡ []
      → list_all (is_reference d) (reference_at defs w as' f o).value ≡ true
  reference_right defs as' f None none = absurd (never TableUnknownOrAlreadyThere [] none)
  reference_right defs as' f (Some t) none =
      let whole = front_none (reference_to w as' f (table_at defs t)).faults [] none in
      let here = listed_right as' f.child (front_none (listed_in w as' f.child).faults _ whole) in
      λ j. here j && true

-- ---- references

all_append : {A : Type 0} (p : A → Bool) (xs ys : List A) → list_all p xs ≡ true → list_all p ys ≡ true
    → list_all p (xs ++ ys) ≡ true
all_append p [] ys e f = f
all_append p (x ∷ xs) ys e f =
    let both = and_both (p x) (list_all p xs) e in
    let later = all_append p xs ys both.1 f in
    λ j. both.0 j && later j
  where
    and_both : (a b : Bool) → a && b ≡ true → (a ≡ true) × (b ≡ true)
    and_both true b h = (refl, h)
    and_both false b h = cc

-- if the values of each element pass a test, all values do
pub flat_right : {A B : Type 0} (f : A → Checked (List B)) (p : B → Bool)
    → ((x : A) → (f x).faults ≡ [] → list_all p (f x).value ≡ true) → (xs : List A) → (flat_each f xs).faults ≡ []
    → list_all p (flat_each f xs).value ≡ true
flat_right f p each [] none = refl
flat_right f p each (x ∷ xs) none =
    let rest = front_none (flat_each f xs).faults [] (behind_none (f x).faults _ none) in
    all_append p (f x).value (flat_each f xs).value (each x (front_none (f x).faults _ none))
    (flat_right f p each xs rest)

-- references without a fault can be those of the table
pub references_right : (w : Written) (d : TableDef)
    (pass_at : (i : ℕ) → i < length (names_in w.columns) → is_generated_in w.columns i ≡ false
    → is_assigned d i ≡ true) (defs : List TableDef) (as' : List Application) (fs : List ReferencePart)
    → (flat_each (reference_in defs w as') fs).faults ≡ []
    → list_all (is_reference d) (flat_each (reference_in defs w as') fs).value ≡ true
references_right w d pass_at defs as' fs none =
    flat_right (reference_in defs w as') (is_reference d)
    (λ f e. reference_right w d pass_at defs as' f (place_of f.parent defs) e) fs none

-- both sides of a reference name a period, or neither
both_sides : {A : Type 0} (p q : Option A) → (if is_some p then is_some q else is_none q) ≡ true
    → is_some p ≡ is_some q
both_sides None None h = refl
both_sides None (Some y) h = cc
both_sides (Some x) None h = cc
both_sides (Some x) (Some y) h = refl

parent_there : (defs : List TableDef) (w : Written) (as' : List Application) (f : ReferencePart) (o : Option ℕ)
    → place_of f.parent defs ≡ o → (reference_at defs w as' f o).faults ≡ []
    → list_all (can_have defs) (reference_at defs w as' f o).value ≡ true
parent_there defs w as' f None at none = absurd (never TableUnknownOrAlreadyThere [] none)
parent_there defs w as' f (Some t) at none =
    let parent = table_at defs t in
    let made : Checked Reference = reference_to w as' f parent in
    let cs : Checked (List ℕ) = listed_in w as' f.child in
    let ps : Checked (List ℕ) = column_numbers (names_of parent) f.named.columns in
    let period : Checked (List ℕ) = check_each (column_number (application_name parent.application))
    (listed f.named.period) in
    let kinds : Bool = kinds_differ (kinds_at (kinds_in w.columns) cs.value) (kinds_at (kinds_of parent) ps.value) in
    let points : Bool = periods_differ (application_kind (kinds_in w.columns) (period_called f.child.period as'))
    (application_kind (kinds_of parent) parent.application) f.child.period f.named.period in
    let declared : Bool = is_declared_key parent (is_some f.named.period) ps.value in
    let sides : Bool = if is_some f.child.period then is_some f.named.period else is_none f.named.period in
    let n0 = front_none made.faults [] none in
    let n1 = behind_none cs.faults _ n0 in
    let n2 = behind_none ps.faults _ n1 in
    let n3 = behind_none period.faults _ n2 in
    let n4 = behind_none (fault_if kinds TypesDoNotFit) _ n3 in
    let n5 = behind_none (fault_if points TypesDoNotFit) _ n4 in
    let n6 = front_none (fault_if (has_one_period f || not declared) FormNotAllowedHere) [] n5 in
    let forms = or_none (has_one_period f) (not declared)
    (not_present (has_one_period f || not declared) FormNotAllowedHere n6) in
    let same = both_sides f.child.period f.named.period (not_none sides forms.0) in
    let key = not_none declared forms.1 in
    let here : can_have defs made.value ≡ true =
    ap (has_key_at defs made.value) at ∙ ap (λ (b : Bool). is_declared_key parent b ps.value) same ∙ key in
    λ j. here j && true

-- each reference without a fault is to a key of an existing table
pub parents_right : (defs : List TableDef) (w : Written) (as' : List Application) (fs : List ReferencePart)
    → (flat_each (reference_in defs w as') fs).faults ≡ []
    → list_all (can_have defs) (flat_each (reference_in defs w as') fs).value ≡ true
parents_right defs w as' fs none =
    flat_right (reference_in defs w as') (can_have defs)
    (λ f e. parent_there defs w as' f (place_of f.parent defs) refl e) fs none

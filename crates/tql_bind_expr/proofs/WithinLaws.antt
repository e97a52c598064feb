-- The columns of a table's periods lie within the table.
use Rattle.std.specs.Prelude.{◌≡◌, refl, ℕ, ◌≤◌, Bool, true, false, not, ◌&&◌, ◌==◌, nat_lt, IsTrue, List, [], ◌∷◌}
use Rattle.std.specs.Prelude.{map, length, All, Option, Some, None, option_map, slice_index_or}
use Rattle.std.specs.Option.{ForSome}
use Rattle.std.proofs.Common.{ap, sym, subst, arith, ◌<◌, ◌∙◌}
use Rattle.std.proofs.lemmas.List.{length-map}
use Rattle.std.proofs.lemmas.List.Elements.{All-nil, All-cons}
use borrow.Author.Tests.{ltb-true}
use Rattle.tql_spec.specs.Datum.{Kind, Ints}
use Rattle.tql_spec.specs.Definition.{Column, System, Application, TableDef}
use Rattle.tql_spec.specs.Binding.{generated_columns}
use Rattle.tql_spec.specs.Creation.{are_ends, has_number}
use Rattle.tql_spec.specs.Words.{listed}
use Rattle.tql_catalog.specs.Defined.{IsDefinition, is_application_period, is_end_at}
use Rattle.tql_catalog.specs.Definitions.{application_of, system_of}
use Rattle.tql_catalog.specs.Rows.{has_system}
use Rattle.tql_catalog.specs.declared.definition.Application as code_application
use Rattle.tql_catalog.specs.declared.definition.System as code_system
use Rattle.tql_catalog.proofs.Definitions.{has_its_system}
use Rattle.tql_bind_expr.specs.Within.{HasEnds, HasSystem}

-- a number that the test finds below the width
below : (i w : ℕ) → IsTrue (nat_lt i w) → i ≤ w
below i w h = let less : i < w = ltb-true i w h in omega arith

-- the first two of three tests
three : (a b c : Bool) → IsTrue (a && b && c) → IsTrue a × IsTrue b
three true true c h = (refl, refl)
three true false c h = absurd (cc)
three false b c h = absurd (cc)

-- the first two of four tests
four : (a b c d : Bool) → IsTrue (a && b && c && d) → IsTrue a × IsTrue b
four true true c d h = (refl, refl)
four true false c d h = absurd (cc)
four false b c d h = absurd (cc)

-- the first of three tests of a column
end_below : (a b c : Bool) → IsTrue ((a && b) && c) → IsTrue a
end_below true b c h = refl
end_below false b c h = absurd (cc)

-- both generated columns
system_of_two : (s : System) (w : ℕ) → IsTrue (has_system (Some s) w) → (s.start ≤ w) × (s.end ≤ w)
system_of_two s w h =
    let both = three (nat_lt s.start w) (nat_lt s.end w) (not (s.start == s.end)) h in
    (below s.start w both.0, below s.end w both.1)

-- the generated columns
pub system_within : (d : TableDef) (w : ℕ) (s : Option code_system.System) → w ≡ length d.columns
    → option_map system_of s ≡ d.system → IsDefinition d → ForSome s (HasSystem w)
system_within d w s width system right x is =
    let there : IsTrue (has_system d.system (length d.columns)) = has_its_system d right in
    let here : IsTrue (has_system (Some (system_of x)) w) =
    subst (λ o. IsTrue (has_system o w)) (sym system ∙ ap (option_map system_of) is)
    (subst (λ n. IsTrue (has_system d.system n)) (sym width) there) in
    let both = system_of_two (system_of x) w here in
    record { start = both.0; end = both.1 }

-- an end column of a period
end_within : (columns : List Column) (system : Option System) (i : ℕ)
    → IsTrue (is_end_at (map (λ (c : Column). c.required) columns) system i) → i ≤ length columns
end_within columns system i h =
    let required : List Bool = map (λ (c : Column). c.required) columns in
    let free : Bool = not (has_number i (generated_columns system)) in
    subst (λ n. i ≤ n) (length-map columns (λ (c : Column). c.required))
    (below i (length required) (end_below (nat_lt i (length required)) (slice_index_or required i false) free h))

-- both ends of a period
ends_within : (columns : List Column) (system : Option System) (a : Application)
    → IsTrue (is_application_period columns system (Some a))
    → (a.start ≤ length columns) × (a.end ≤ length columns)
ends_within columns system a h =
    let required : List Bool = map (λ (c : Column). c.required) columns in
    let kinds : List Kind = map (λ (c : Column). c.kind) columns in
    let both = four (is_end_at required system a.start) (is_end_at required system a.end)
    (are_ends (slice_index_or kinds a.start Ints) (slice_index_or kinds a.end Ints)) (not (a.start == a.end)) h in
    (end_within columns system a.start both.0, end_within columns system a.end both.1)

-- the index of the start column of the first period, or 0 if there is none
first_start : List Application → ℕ
first_start [] = 0
first_start (a ∷ as') = a.start

-- the index of the end column of the first period, or 0 if there is none
first_end : List Application → ℕ
first_end [] = 0
first_end (a ∷ as') = a.end

-- the application periods
pub applications_within : (columns : List Column) (system : Option System) (o : Option Application) (w : ℕ)
    (xs : List code_application.Application) → w ≡ length columns → map application_of xs ≡ listed o
    → IsTrue (is_application_period columns system o) → All (HasEnds w) xs
unfolding first_start first_end
applications_within columns system o w [] width is h = All-nil (HasEnds w)
applications_within columns system None w (x ∷ xs) width is h = absurd (cc)
applications_within columns system (Some a) w (x ∷ y ∷ xs) width is h = absurd (cc)
applications_within columns system (Some a) w (x ∷ []) width is h =
    let both = ends_within columns system a h in
    let held : HasEnds w x = record {
      start = subst (λ n. x.start ≤ n) (sym width) (subst (λ n. n ≤ length columns) (sym (ap first_start is)) both.0);
      end = subst (λ n. x.end ≤ n) (sym width) (subst (λ n. n ≤ length columns) (sym (ap first_end is)) both.1);
    } in
    All-cons (HasEnds w) x [] held (All-nil (HasEnds w))

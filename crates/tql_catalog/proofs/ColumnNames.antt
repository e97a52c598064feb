-- Columns by name and by number.
use Rattle.std.proofs.Common.{◌≡◌, refl, ap, sym, ◌∙◌, ℕ, zero, suc, Bool, true, false, List, [], ◌∷◌, map, ◌<◌}
use Rattle.std.proofs.Common.{length, arith, Bor, Option, Some}
use Rattle.std.specs.Prelude.{slice_index_or, string_bytes, option_map, ◌||◌, ◌&&◌, nat_lt}
use Rattle.std.specs.List.{list_any}
use Rattle.std.proofs.lemmas.Bool.Decides.{nat_tests}
use Rattle.std.proofs.lemmas.List.{length-map}
use Rattle.tql_spec.specs.Words.{same_text}
use Rattle.tql_spec.specs.Datum.{Kind, Ints, Moments, same_kind}
use Rattle.tql_spec.specs.Definition as definition
use Rattle.tql_spec.specs.Definition.{Name}
use Rattle.tql_spec.specs.Creation.{has_name, are_ends, application_name}
use Rattle.tql_value.specs.Views.{plain_kind}
use Rattle.tql_catalog.specs.Columns.{names_in, kinds_in, required_in}
use Rattle.tql_catalog.specs.Defined.{is_moment_at, is_required_at}
use Rattle.tql_catalog.specs.Definitions.{column_of, application_of}
use Rattle.tql_catalog.specs.declared.definition.Column.{Column}
use Rattle.tql_catalog.specs.declared.definition.Application.{Application}

or_false : (b : Bool) → b || false ≡ b
or_false true = refl
or_false false = refl

-- whether the column has this name
abbrev pub is_called : Name → Column → Bool
is_called n c = same_text n (string_bytes c.name)

-- a column has the name exactly if the name is among the names
pub any_called : (n : Name) (columns : List Column) → list_any (is_called n) columns ≡ has_name n (names_in columns)
any_called n [] = refl
any_called n (c ∷ cs) = ap (λ (b : Bool). same_text n (string_bytes c.name) || b) (any_called n cs)

-- the kind of an existing column
kind_at : (columns : List Column) (i : ℕ) (c : Column) → i < length columns
    → plain_kind (slice_index_or columns i c).kind ≡ slice_index_or (kinds_in columns) i Ints
kind_at [] i c h = absurd (omega (arith, h))
kind_at (x ∷ xs) zero c h = refl
kind_at (x ∷ xs) (suc i) c h = kind_at xs i c (omega (arith, h))

pub kind_there : (columns : List Column) (i : ℕ) (c : Column) → i < length columns → c ≡ slice_index_or columns i c
    → plain_kind c.kind ≡ slice_index_or (kinds_in columns) i Ints
kind_there columns i c h e = ap (λ (k : Column). plain_kind k.kind) e ∙ kind_at columns i c h

-- there are as many kinds as columns
pub kind_count : (columns : List Column) → length (kinds_in columns) ≡ length columns
kind_count columns = length-map (map column_of columns) (λ (c : definition.Column). c.kind)
    ∙ length-map columns column_of

there : (i width count : ℕ) → i < count → width ≡ count → nat_lt i width ≡ true
there i width count h e = grind (arith, nat_tests)

-- an existing column holds moments exactly if its kind says so
pub moment_there : (columns : List Column) (i : ℕ) (c : Column) → i < length columns → c ≡ slice_index_or columns i c
    → same_kind (plain_kind c.kind) Moments ≡ is_moment_at (kinds_in columns) i
moment_there columns i c h e =
    let within : nat_lt i (length (kinds_in columns)) ≡ true =
    there i (length (kinds_in columns)) (length columns) h (kind_count columns) in
    ap (λ (k : Kind). same_kind k Moments) (kind_there columns i c h e)
    ∙ sym (ap (λ (b : Bool). b && same_kind (slice_index_or (kinds_in columns) i Ints) Moments) within)

-- whether an existing column takes no null
required_at : (columns : List Column) (i : ℕ) (c : Column) → i < length columns
    → (slice_index_or columns i c).is_required ≡ slice_index_or (required_in columns) i false
required_at [] i c h = absurd (omega (arith, h))
required_at (x ∷ xs) zero c h = refl
required_at (x ∷ xs) (suc i) c h = required_at xs i c (omega (arith, h))

-- there are as many of these values as columns
pub required_count : (columns : List Column) → length (required_in columns) ≡ length columns
required_count columns = length-map (map column_of columns) (λ (c : definition.Column). c.required)
    ∙ length-map columns column_of

pub required_there : (columns : List Column) (i : ℕ) (c : Column) → i < length columns
    → c ≡ slice_index_or columns i c → c.is_required ≡ is_required_at (required_in columns) i
required_there columns i c h e =
    let within : nat_lt i (length (required_in columns)) ≡ true =
    there i (length (required_in columns)) (length columns) h (required_count columns) in
    ap (λ (k : Column). k.is_required) e ∙ required_at columns i c h
    ∙ sym (ap (λ (b : Bool). b && slice_index_or (required_in columns) i false) within)

-- two existing columns both hold days, or both hold moments, exactly if their kinds say so
pub ends_there : (columns : List Column) (i j : ℕ) (c d : Column) → i < length columns → j < length columns
    → are_ends (plain_kind (slice_index_or columns i c).kind) (plain_kind (slice_index_or columns j d).kind)
    ≡ are_ends (slice_index_or (kinds_in columns) i Ints) (slice_index_or (kinds_in columns) j Ints)
ends_there columns i j c d h k = λ m. are_ends (kind_at columns i c h m) (kind_at columns j d k m)

-- whether the application period, if it is this one, has this name
pub period_called : (n : Name) (o : Option (Bor Application)) (a : Bor Application) → o ≡ Some a
    → same_text n (string_bytes a.now.name) ≡ has_name n
    (application_name (option_map (λ (b : Bor Application). application_of b.now) o))
period_called n o a e = sym (
    ap (λ (p : Option (Bor Application)). has_name n
    (application_name (option_map (λ (b : Bor Application). application_of b.now) p))) e
    ∙ or_false (same_text n (string_bytes a.now.name))
    )

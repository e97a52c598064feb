-- The number at which a column is found.
use Rattle.std.proofs.Common.{◌≡◌, refl, ap, ◌∙◌, ℕ, zero, suc, Bool, true, false, List, [], ◌∷◌, map, Some, ◌+◌, ◌<◌}
use Rattle.std.proofs.Common.{length, arith}
use Rattle.std.specs.Prelude.{position, slice_index_or, string_bytes, if◌then◌else◌}
use Rattle.std.specs.List.{position_from}
use Rattle.std.proofs.lemmas.Iterator.Adapters.{position_from-zero}
use Rattle.tql_spec.specs.Words.{same_text}
use Rattle.tql_spec.specs.Datum.{Kind}
use Rattle.tql_value.specs.Views.{plain_kind}
use Rattle.tql_spec.specs.Definition as definition
use Rattle.tql_spec.specs.Definition.{Name, next_place}
use Rattle.tql_spec.specs.Creation.{number_in}
use Rattle.tql_catalog.specs.Definitions.{column_of}
use Rattle.tql_catalog.specs.declared.definition.Column.{Column}

-- whether the column has this name
abbrev pub is_called : Name → Column → Bool
is_called n c = same_text n (string_bytes c.name)

-- the names of columns
abbrev pub names_in : List Column → List Name
names_in columns = map (λ (c : definition.Column). c.name) (map column_of columns)

next_of : {X : Type 0} (t : X → Bool) (i : ℕ) (xs : List X)
    → position_from t (i + 1) xs ≡ next_place (position_from t i xs)
next_of t i [] = refl
next_of t i (x ∷ xs) =
    elim (t x) as (λ b. (if b then Some (i + 1) else position_from t (i + 1 + 1) xs) ≡ next_place
    (if b then Some i else position_from t (i + 1) xs)) [
      | true ↦ ap Some (omega arith)
      | false ↦ next_of t (i + 1) xs
    ]

place_from : (n : Name) (columns : List Column) → position_from (is_called n) 0 columns ≡ number_in n (names_in columns)
place_from n [] = refl
place_from n (c ∷ cs) = ap (λ o. if same_text n (string_bytes c.name) then Some 0 else o) (next_of (is_called n) 0 cs
    ∙ ap next_place (place_from n cs))

-- the index at which a column is found is its number
pub place_of-columns : (n : Name) (columns : List Column)
    → position (is_called n) columns ≡ number_in n (names_in columns)
place_of-columns n columns = position_from-zero (is_called n) columns ∙ place_from n columns

-- the kind of an existing column does not depend on the default
kind_at : (other : Kind) (columns : List Column) (i : ℕ) (c : Column) → i < length columns
    → plain_kind (slice_index_or columns i c).kind ≡ slice_index_or
    (map (λ (k : definition.Column). k.kind) (map column_of columns)) i other
kind_at other [] i c h = absurd (omega (arith, h))
kind_at other (x ∷ xs) zero c h = refl
kind_at other (x ∷ xs) (suc i) c h = kind_at other xs i c (omega (arith, h))

pub kind_there : (other : Kind) (columns : List Column) (i : ℕ) (c : Column) → i < length columns
    → c ≡ slice_index_or columns i c
    → plain_kind c.kind ≡ slice_index_or (map (λ (k : definition.Column). k.kind) (map column_of columns)) i other
kind_there other columns i c h e = ap (λ (k : Column). plain_kind k.kind) e ∙ kind_at other columns i c h

-- Lookups by alternatives: the literals of a choice, where its column is the only one of a key or of a reference.
use Rattle.std.specs.Prelude.{◌≡◌, ℕ, ℤ, ⊤, IsTrue, List, [], ◌∷◌, map, All, Bool, filter, Option, Some, None}
use Rattle.std.specs.List.{list_any}
use Rattle.tql_spec.specs.Datum.{Datum, Row}
use Rattle.tql_spec.specs.Definition.{System, TableDef, Version, with_generated}
use Rattle.tql_spec.specs.Expression.{Cond}
use Rattle.tql_spec.specs.Query.{keep}
use Rattle.tql_catalog.specs.Rows.{IsStoredAt}
use Rattle.tql_expr.specs.Meaning.{cond}
use Rattle.tql_expr.specs.declared.terms.Terms.{Terms}
use Rattle.tql_plan_laws.specs.Conjuncts.{meets}
use Rattle.tql_plan_laws.specs.Equalities.{agree}
use Rattle.tql_store_index.specs.Tuple.{is_at}
use Rattle.tql_value.specs.Views.{datum_of_view}
use Rattle.tql_plan_access.specs.Access.{IsRow, completed, safe_part}
use Rattle.tql_plan_access.specs.Choices.{choice_in, is_chosen}
use Rattle.tql_plan_access.specs.declared.alternatives.Alternatives.{Alternatives}
use Rattle.tql_plan_access.specs.declared.choices.Choice.{Choice}

-- the condition of a choice, and the list of its column
abbrev pub named : Terms → Choice → Cond × List ℕ
named t p = (cond t p.conjunct, p.column ∷ [])

-- the values of alternatives
abbrev pub values_of : Alternatives → List Datum
values_of a = map datum_of_view a.values.items

-- the alternatives are the literals of a choice, at the number where its column is stored
pub record AreChosenBy (d : TableDef) (c : Cond) (columns : List ℕ) (a : Alternatives) : Type 0 where
  pub column : ℕ
  pub only : columns ≡ column ∷ []
  pub stored : IsStoredAt d column a.column
  pub each : (x : Datum) → list_any (agree x) (values_of a) ≡ is_chosen column c x

-- there are alternatives exactly if there is a choice, and they are those of the choice
abbrev pub AreOf : TableDef → Option (Cond × List ℕ) → Option Alternatives → Type 0
AreOf d None None = ⊤
AreOf d None (Some a) = ⊥
AreOf d (Some p) None = ⊥
AreOf d (Some p) (Some a) = AreChosenBy d p.0 p.1 a

-- the alternatives of the first conjunct of the safe part that gives any
abbrev pub AreAlternatives : TableDef → List Cond → Option Alternatives → Type 0
AreAlternatives d conds o = AreOf d (choice_in d (safe_part conds)) o

-- ---- the rows that are looked at

-- whether a row has one of these values in a stored column
abbrev pub has_any : ℕ → List Datum → Row → Bool
has_any column values cells = list_any (λ v. is_at (column ∷ []) (v ∷ []) cells) values

-- each row that meets the safe part of the conjuncts, with its generated cells, has one of these values in a stored
-- column, whichever moments the generated cells have
pub record ServesAny (system : Option System) (period : Option (ℕ × ℕ)) (width : ℕ) (conds : List Cond)
    (column : ℕ) (values : List Datum) : Type 0 where
  pub all : (cells : Row) (start end : ℤ) → IsRow period width (with_generated system cells start end)
      → IsTrue (meets (safe_part conds) (with_generated system cells start end))
      → IsTrue (has_any column values cells)

-- the law: the versions with one of these values give the same result as all versions
abbrev pub AlternativesAreEnough : Type 0
AlternativesAreEnough =
    (system : Option System) (period : Option (ℕ × ℕ)) (width : ℕ) (conds : List Cond) (column : ℕ)
    (values : List Datum) → ServesAny system period width conds column values → (vs : List Version)
    → All (λ v. IsRow period width (completed system v)) vs
    → keep conds (map (completed system) (filter (λ v. has_any column values v.row.cells) vs))
    ≡ keep conds (map (completed system) vs)

-- The names of the application periods of a new table, each with the first period that has it.
use Rattle.std.specs.Prelude.{◌≡◌, ℕ, Bool, true, false, ◌||◌, List, map, Option, Some, None, is_some}
use Rattle.std.specs.HashMap.{get_by_text}
use Rattle.tql_spec.specs.Words.{same_text}
use Rattle.tql_spec.specs.Definition.{Name, Application}
use Rattle.tql_spec.specs.Creation.{number_in, repeats}
use Rattle.tql_bind_draft.specs.declared.period_names.PeriodNames.{PeriodNames}

-- each name has the position of the first of these names that equals it, and it is known whether one is repeated
pub record AreNames (p : PeriodNames) (ns : List Name) : Type 0 where
  pub places : (n : Name) → get_by_text p.first n ≡ number_in n ns
  pub repeated : is_some p.repeated ≡ repeats ns

-- a position, or else another one if a test passes
abbrev pub or_place : Option ℕ → Bool → ℕ → Option ℕ
or_place (Some p) b q = Some p
or_place None true q = Some q
or_place None false q = None

-- a name is added at a position: it has this position unless it has one, and then it is repeated
pub record IsAdded (old new : PeriodNames) (place : ℕ) (n : Name) : Type 0 where
  pub places : (m : Name) → get_by_text new.first m ≡ or_place (get_by_text old.first m) (same_text m n) place
  pub repeated : is_some new.repeated ≡ is_some old.repeated || is_some (get_by_text old.first n)

-- the names of bound periods
abbrev pub names_of_bound : List Application → List Name
names_of_bound as' = map (λ (a : Application). a.name) as'

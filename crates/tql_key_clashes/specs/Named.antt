-- Rows by their ids: which of them a change removes, and which survive it.
use Rattle.std.specs.Prelude.{◌≡◌, ◌↔◌, ℕ, Bool, List, Option, Some, not, filter}
use Rattle.tql_spec.specs.Bag.{In}
use Rattle.tql_spec.specs.Definition.{Stamped}
use Rattle.tql_store.specs.StoreModel.{is_among}

-- each of the rows has an id, and each id that names a row names one of them
abbrev pub AreNamed : (ℕ → Option Stamped) → List Stamped → Type 0
AreNamed named rows = (r : Stamped) → In r rows ↔ ((id : ℕ) × (named id ≡ Some r))

-- the listed ids are those of the removed rows; `gone` decides by a row's value whether it is removed
abbrev pub IsJudged : (ℕ → Option Stamped) → (Stamped → Bool) → List ℕ → Type 0
IsJudged named gone removed = (id : ℕ) (r : Stamped) → named id ≡ Some r → is_among id removed ≡ gone r

-- the surviving rows
abbrev pub staying : (Stamped → Bool) → List Stamped → List Stamped
staying gone rows = filter (λ r. not (gone r)) rows

-- What the answers of a reading represent.
use Rattle.std.specs.Prelude.{◌≡◌, ℕ, Bool, false, ◌&&◌, List, map, filter, length, count_by, nat_eq, Option, Some, All}
use Rattle.std.specs.Prelude.{slice_get, if◌then◌else◌}
use Rattle.tql_spec.specs.Bag.{SameBag}
use Rattle.tql_spec.specs.Datum.{Row}
use Rattle.tql_spec.specs.Definition as definition
use Rattle.tql_spec.specs.History.{found as versions_found}
use Rattle.tql_spec.specs.Horizon.{is_before}
use Rattle.tql_versions.specs.Changes.{alive}
use Rattle.tql_versions.specs.Readings.{asked, open_ones, where_open, version_shown as version_of}
use Rattle.tql_versions.specs.declared.version.Version.{Version}
use Rattle.tql_value.specs.When.{when_of}
use Rattle.tql_value.specs.declared.when.When.{When}
use Rattle.tql_value.specs.declared.when.When.TheVariants.{Now}
use Rattle.tql_store.specs.Represents.{Answers, AnswersBy, Copies, Represents, Working, seen_by}
use Rattle.tql_store.specs.StoreModel.{StoreModel, live, named}

-- the id of an answer is that of its version
abbrev pub Names : StoreModel → ℕ → Version → Type 0
Names h table s = named h table s.id ≡ Some (version_of s)

-- each version of the table that passes the test occurs once among the answers, and no other does
abbrev pub NamesOnce : StoreModel → ℕ → (definition.Version → Bool) → List Version → Type 0
NamesOnce h table test found = (id : ℕ) (v : definition.Version) → named h table id ≡ Some v
    → count_by (λ (s : Version). nat_eq s.id id) found ≡ (if alive v && test v then 1 else 0)

-- the versions of a table that a query selects and whose rows pass a test, each under its id and none twice; the same
-- bag as the definitions find in the copies
pub record IsFound (h : StoreModel) (table : ℕ) (when : When) (test : Row → Bool) (found : List Version) : Type 0 where
  pub versions : SameBag (map version_of found) (filter (λ v. asked when v && test v.row.cells) (live h table))
  pub ids : All (Names h table) found
  pub once : NamesOnce h table (λ v. asked when v && test v.row.cells) found
  pub copies : AnswersBy h table (when_of when) test (map version_of found)

-- the current version with an id
abbrev pub current_named : StoreModel → ℕ → ℕ → Option definition.Version
current_named h table id = where_open (named h table id)

-- versions of a table stored as current: the open ones are the current rows, the same bag as the definitions find in
-- the copies; the id of each is its position
pub record AreRowsNow (h : StoreModel) (table : ℕ) (vs : List definition.Version) : Type 0 where
  pub versions : SameBag (open_ones vs) (filter (asked Now) (live h table))
  pub ids : (id : ℕ) (v : definition.Version) → slice_get vs id ≡ Some v → named h table id ≡ Some v
  pub copies : Answers h table (when_of Now) (open_ones vs)

-- the number of the current rows of a table, as many as the definitions find in the copies
pub record CountsNow (h : StoreModel) (table n : ℕ) : Type 0 where
  pub versions : n ≡ length (filter (asked Now) (live h table))
  pub copies : is_before h.horizon (when_of Now) ≡ false → (copies : Copies) (working : Working)
      → Represents h copies working
      → n ≡ length (versions_found (when_of Now) (seen_by h.working copies working table))

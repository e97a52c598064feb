-- The current rows of a table as versions, from the list in which they are stored.
use Rattle.std.specs.Prelude.{ℕ, ◌+◌, false, List, [], ◌∷◌, if◌then◌else◌}
use Rattle.tql_value.specs.declared.when.When.TheVariants.{Now}
use Rattle.tql_versions.specs.Readings.{is_answer}
use Rattle.tql_versions.specs.Views.{version_of}
use Rattle.tql_versions.specs.declared.kept.Kept.{Kept}
use Rattle.tql_versions.specs.declared.version.Version.{Version}

-- a stored version as a reading shows it, with this id
abbrev pub shown_as : ℕ → Kept → Version
shown_as id k = record {
  id = id;
  kept = record { ref_ptr = (0, 0); now = k };
  ends_later = false;
}

-- the open ones of versions with consecutive ids, the first one given
abbrev pub open_from : ℕ → List Kept → List Version
open_from n [] = []
open_from n (k ∷ ks) =
    if is_answer Now (version_of k) then shown_as n k ∷ open_from (n + 1) ks else open_from (n + 1) ks

-- the open versions of a list, the id of each its position
abbrev pub open_versions : List Kept → List Version
open_versions ks = open_from 0 ks

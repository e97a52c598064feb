-- Which versions a query selects, and their ids.
use Rattle.std.specs.Prelude.{◌≡◌, ℕ, ◌+◌, Bool, false, ◌&&◌, List, [], ◌∷◌, map, filter, length, ℤ, pos, ◌+ℤ◌}
use Rattle.std.specs.Prelude.{int_le, int_lt, nat_lt, nat_eq, count_by, slice_get, slice_index_or, Option, Some, None}
use Rattle.std.specs.Prelude.{if◌then◌else◌}
use Rattle.std.specs.Int.{int_min}
use Rattle.tql_spec.specs.Calendar.{high}
use Rattle.tql_spec.specs.Definition as definition
use Rattle.tql_spec.specs.Period.{Period, holds as held, share_a_point}
use Rattle.tql_value.specs.declared.when.When.{When}
use Rattle.tql_value.specs.declared.when.When.TheVariants.{Now, AsOf, FromTo, Between}
use Rattle.tql_versions.specs.declared.version.Version.{Version}
use Rattle.tql_versions.specs.Changes.{alive, is_current, holds, nothing}

-- ---- questions

-- whether a query selects a version
abbrev pub asked : When → definition.Version → Bool
asked Now v = is_current v
asked (AsOf t) v = holds t v
asked (FromTo a b) v = int_lt a b && (int_lt v.row.start b && int_lt a v.end)
asked (Between a b) v = int_le a b && (int_le v.row.start b && int_lt a v.end)

-- whether a version is non-empty and selected
abbrev pub is_answer : When → definition.Version → Bool
is_answer when v = alive v && asked when v

-- whether two ends rise and a period shares a point with the period between them
abbrev pub meets : ℤ → ℤ → Period → Bool
meets a b x = int_lt a b && share_a_point x (record { start = a; end = b })

-- whether the index search for a query returns this period; the current rows need no search
abbrev pub sought : When → Period → Bool
sought Now x = false
sought (AsOf t) x = held x t
sought (FromTo a b) x = meets a b x
sought (Between a b) x = meets a (int_min b high +ℤ pos 1) x

-- the period of a version
abbrev pub period_of : definition.Version → Period
period_of v = record { start = v.row.start; end = v.end }

-- ---- answers

-- a version and its id
pub record Answer : Type 0 where
  pub id : ℕ
  pub version : definition.Version

-- the end of a version as a reading shows it
abbrev pub end_shown : Version → ℤ
end_shown s = if s.ends_later then high else s.kept.now.end

-- the version that a reading shows
abbrev pub version_shown : Version → definition.Version
version_shown s = record { row = record { cells = s.kept.now.row; start = s.kept.now.start }; end = end_shown s }

-- the version that a reading shows, with its id
abbrev pub answer_of : Version → Answer
answer_of s = record { id = s.id; version = version_shown s }

-- versions with consecutive ids, the first one given
abbrev pub numbered : ℕ → List definition.Version → List Answer
numbered n [] = []
numbered n (v ∷ vs) = record { id = n; version = v } ∷ numbered (n + 1) vs

-- whether a version is non-empty and passes a test
abbrev pub told_by : (definition.Version → Bool) → definition.Version → Bool
told_by test v = alive v && test v

-- the versions that do, with their ids
abbrev pub answers_by : (definition.Version → Bool) → ℕ → List definition.Version → List Answer
answers_by test n vs = filter (λ (a : Answer). told_by test a.version) (numbered n vs)

-- the versions that a query selects, with their ids
abbrev pub answers_from : ℕ → When → List definition.Version → List Answer
answers_from n when vs = filter (λ (a : Answer). is_answer when a.version) (numbered n vs)

-- the versions at these positions, each with the id `base` + position; numbers past the end are skipped
abbrev pub placed : ℕ → List definition.Version → List ℕ → List Answer
placed base vs numbers = map (λ n. record {
  id = base + n;
  version = slice_index_or vs n nothing;
}) (filter (λ n. nat_lt n (length vs)) numbers)

-- the id of an answer is that of its version
abbrev pub Names : List definition.Version → Version → Type 0
Names vs s = slice_get vs s.id ≡ Some (version_shown s)

-- each non-empty version that passes the test occurs once among the answers, and no other does
abbrev pub NamesOnce : (definition.Version → Bool) → List definition.Version → List Version → Type 0
NamesOnce test vs found = (i : ℕ) (v : definition.Version) → slice_get vs i ≡ Some v
    → count_by (λ (s : Version). nat_eq s.id i) found ≡ (if alive v && test v then 1 else 0)

-- a version, if it is non-empty and not closed
abbrev pub where_open : Option definition.Version → Option definition.Version
where_open None = None
where_open (Some v) = if alive v && is_current v then Some v else None

-- the versions that are non-empty and not closed
abbrev pub open_ones : List definition.Version → List definition.Version
open_ones vs = filter (is_answer Now) vs

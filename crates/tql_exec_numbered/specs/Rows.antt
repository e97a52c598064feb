-- Rows that stand one behind another in one list of values, by the end and the digest of each.
use Rattle.std.specs.Prelude.{◌≡◌, ℕ, zero, suc, ◌-◌, ◌≤◌, List, [], ◌∷◌, drop, length, take}
use Rattle.tql_spec.specs.Datum.{Row}
use Rattle.tql_exec_join.specs.Digest.{spread_digest}
use Rattle.tql_exec_numbered.specs.declared.rows.Mark.{Mark}

-- the number of values before the row with a number, if the first row starts behind this many
abbrev pub start_at : ℕ → List Mark → ℕ → ℕ
start_at start marks zero = start
start_at start [] (suc n) = start
start_at start (m ∷ marks) (suc n) = start_at m.end marks n

-- the rows, if the first one starts behind this many values
abbrev pub parts : ℕ → List Mark → Row → List Row
parts start [] values = []
parts start (m ∷ marks) values = take (m.end - start) (drop start values) ∷ parts m.end marks values

-- no row ends before it starts, each has its digest, and the last one ends with the values
abbrev pub AreMarks : ℕ → List Mark → Row → Type 0
AreMarks start [] values = start ≡ length values
AreMarks start (m ∷ marks) values =
    (start ≤ m.end) × (m.digest ≡ spread_digest (take (m.end - start) (drop start values))) × AreMarks m.end marks values

-- Queries whose tables exist.
use Rattle.std.specs.Prelude.{◌≡◌, ◌<◌, ◌||◌, IsTrue, List, [], ◌∷◌, length, is_some}
use Rattle.tql_spec.specs.Definition.{TableDef, table_at}
use Rattle.tql_spec.specs.Query.{Chain, Cross, Inner, Join, Left, Query, Ref}
use Rattle.tql_spec.specs.QueryLaws.{NamesGroups}
use Rattle.tql_value.specs.When.{is_now}

-- a reference to an existing table, with its number of columns; the table is system-versioned if the past is read
pub record IsPlacedRef (defs : List TableDef) (r : Ref) : Type 0 where
  pub table : r.table < length defs
  pub versioned : IsTrue (is_now r.when || is_some (table_at defs r.table).system)
  pub width : r.width ≡ length (table_at defs r.table).columns

-- the reference of a join
abbrev pub ref_of : Join → Ref
ref_of (Inner r on) = r
ref_of (Left r on) = r
ref_of (Cross r) = r

-- the reference of each join is placed
abbrev pub AreJoinsPlaced : List TableDef → List Join → Type 0
AreJoinsPlaced defs [] = Unit {0}
AreJoinsPlaced defs (j ∷ js) = IsPlacedRef defs (ref_of j) × AreJoinsPlaced defs js

-- the references of each chain are placed
abbrev pub AreChainsPlaced : List TableDef → List Chain → Type 0
AreChainsPlaced defs [] = Unit {0}
AreChainsPlaced defs (c ∷ cs) = (IsPlacedRef defs c.first × AreJoinsPlaced defs c.joins) × AreChainsPlaced defs cs

-- ---- queries

-- its tables exist, and outside aggregates it uses only its grouping columns
pub record IsPlacedQuery (defs : List TableDef) (q : Query) : Type 0 where
  pub references : AreChainsPlaced defs q.chains
  pub grouped : NamesGroups q.grouping q.having q.items

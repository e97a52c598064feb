-- Lookups: an equality after a calculation.
use Rattle.std.specs.Prelude.{true, false, List, [], ◌∷◌, pos, Option, Some, None}
use Rattle.tql_spec.specs.Datum.{Int, Ints, Plus, Equals, Above}
use Rattle.tql_spec.specs.Definition.{TableDef}
use Rattle.tql_spec.specs.Expression.{Binary, Column, Compare, Cond, Literal}
use Rattle.tql_store_index.specs.Basis.{Sought, With}
use Rattle.tql_plan_access.specs.Said.{IsSoughtFor}
use Rattle.test_mutants.specs.Keys.{column, key}

-- a table of two numbers with a key on the first
abbrev pub keyed_table : TableDef
keyed_table = record {
  name = [];
  columns = column Ints ∷ column Ints ∷ [];
  system = None;
  application = None;
  keys = key false ∷ [];
  references = [];
  checks = [];
}

-- `second + 1 > 0`, which can be out of range, and then `first = 1`
abbrev pub conjuncts : List Cond
conjuncts =
    Compare Above (Binary Plus (Column 1) (Literal (Int (pos 1)))) (Literal (Int (pos 0)))
    ∷ Compare Equals (Column 0) (Literal (Int (pos 1))) ∷ []

-- the lookup of the key's value 1
abbrev pub by_key : Option Sought
by_key = Some (With (0 ∷ []) (Int (pos 1) ∷ []))

-- the clause `sought` of `access`, for current rows
abbrev pub IsAccess : Option Sought → Type 0
IsAccess answer = IsSoughtFor keyed_table conjuncts true answer

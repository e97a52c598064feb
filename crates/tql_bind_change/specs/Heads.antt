-- The part of an UPDATE before its WHERE.
use Rattle.std.specs.Prelude.{ℕ, List, map, Option, option_map}
use Rattle.tql_spec.specs.Binding.{table_number, portion, assigned_columns, sets_period, assignment}
use Rattle.tql_spec.specs.Change as change
use Rattle.tql_spec.specs.Definition.{Name, TableDef, table_at}
use Rattle.tql_spec.specs.Names.{Checked, ◌>>=◌, sound, refuse_if, check_each}
use Rattle.tql_spec.specs.Period.{Period}
use Rattle.tql_spec.specs.Refusal.{FormNotAllowedHere}
use Rattle.tql_spec.specs.Syntax.{PortionTree, SetTree}
use Rattle.tql_expr.specs.declared.terms.Terms.{Terms}
use Rattle.tql_period.specs.Points.{points_of}
use Rattle.tql_bound.specs.Works.{assignment_of}
use Rattle.tql_bind_change.specs.declared.update.Head.{Head}

-- its table, its portion, and its assignments
pub record Assigned : Type 0 where
  pub table : ℕ
  pub portion : Option Period
  pub sets : List change.Assignment

-- the table, the portion, and the values of the columns
abbrev pub update_head : List TableDef → Name → Option PortionTree → List SetTree → Checked Assigned
update_head defs n p sets = do
  t ← table_number defs n
  r ← portion (table_at defs t) p
  is ← assigned_columns (table_at defs t) (map (λ (s : SetTree). s.column) sets)
  u ← refuse_if (sets_period (table_at defs t) p is) FormNotAllowedHere
  as' ← check_each (assignment (table_at defs t)) sets
  sound (record { table = t; portion = r; sets = as' })

-- its meaning in this arena
abbrev pub head_of : Terms → Head → Assigned
head_of t h = record {
  table = h.table;
  portion = option_map points_of h.portion;
  sets = map (assignment_of t) h.sets.items;
}

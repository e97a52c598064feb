use Rattle.std.proofs.Common.{◌≡◌, ◌≤◌, length, take}
use Rattle.std.specs.Prelude.{List}
use Rattle.tql_spec.specs.Datum.{Row}
use Rattle.tql_value.specs.Views.{row_of}
use Rattle.tql_exec_fold.specs.Folded.{HaveFolded}
use Rattle.tql_exec_group.specs.Counted.{kept_count}
use Rattle.tql_exec_group.specs.Results.{AreResults, IsKeyOf}
use Rattle.tql_exec_group.specs.Steps.{aggregates_in}
use Rattle.tql_exec_group.proofs.on_group.find_results.Given as goal

-- invariant: the results so far are those of the first nodes, and `next` counts the aggregates among these
abbrev pub invariant-loop-node : goal.invariant-loop-node
invariant-loop-node l = record {
  size : length l.found.items ≡ l.node-index;
  few : l.next ≤ l.node-index;
  next : l.next ≡ length (aggregates_in (take l.node-index l.steps.nodes.items));
  results : (rows : List Row) (row : Row) → l.group.count ≡ kept_count (length rows)
      → HaveFolded l.terms l.steps.aggregates.items l.group.folds.now rows
      → IsKeyOf l.group.columns.now (row_of l.group.key.now) row
      → AreResults l.terms l.group.columns.now rows row l.steps.from l.found.items;
}

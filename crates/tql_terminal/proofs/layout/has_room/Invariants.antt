use Rattle.std.proofs.Common.{◌≡◌, ◌≤◌, ◌+◌, drop}
use Rattle.std.specs.List.{sum_by}
use Rattle.tql_terminal.specs.Terminal.{column_room}
use Rattle.tql_terminal.proofs.layout.has_room.Given as goal

abbrev pub invariant-loop-layout : goal.invariant-loop-layout
invariant-loop-layout l = record {
  within : l.room ≤ l.width;
  rest : l.room + sum_by column_room l.layouts ≡ l.width + sum_by column_room (drop l.layout-index l.layouts);
}

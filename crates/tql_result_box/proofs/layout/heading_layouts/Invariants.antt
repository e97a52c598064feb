use Rattle.std.proofs.Common.{◌≡◌, [], map, take, string_bytes}
use Rattle.tql_result_box.specs.Box.{column_layout}
use Rattle.tql_result_box.proofs.layout.heading_layouts.Given as goal

abbrev pub invariant-loop-name : goal.invariant-loop-name
invariant-loop-name l = l.layouts.items ≡ map (λ n. column_layout (string_bytes n) []) (take l.name-index l.names)

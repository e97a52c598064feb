use Rattle.std.proofs.Common.{◌≡◌, drop}
use Rattle.tql_spec.specs.Words.{map_all}
use Rattle.tql_expr.specs.Evaluated.{behind}
use Rattle.tql_value.specs.Views.{row_of}
use Rattle.tql_exec_group.specs.Sources.{source_value}
use Rattle.tql_exec_group.proofs.direct.values_at.Given as goal

-- invariant: the values so far, followed by those at the remaining sources, are the values at all
abbrev pub invariant-loop-source : goal.invariant-loop-source
invariant-loop-source l =
    behind (row_of l.values.items) (map_all (source_value (row_of l.key) l.count) (drop l.source-index l.sources))
    ≡ map_all (source_value (row_of l.key) l.count) l.sources

use Rattle.std.proofs.Common.{◌≡◌, ◌++◌, drop, map}
use Rattle.tql_expr.specs.Shown.{shown_by}
use Rattle.tql_key_rows.specs.Asked.{new_rows}
use Rattle.tql_key_rows.proofs.reading.current_rows.Given as goal

-- the rows so far, followed by the remaining ones
abbrev pub invariant-loop-row : goal.invariant-loop-row
invariant-loop-row l =
    map shown_by l.current.items ++ new_rows l.definition l.start (drop l.row-index l.rows)
    ≡ new_rows l.definition l.start l.rows

use Rattle.std.proofs.Common.{◌≡◌, Bool, List, drop}
use Rattle.std.specs.List.{list_all}
use Rattle.tql_spec.specs.Constraint.{shown_rows}
use Rattle.tql_spec.specs.Definition.{Stamped}
use Rattle.tql_catalog.specs.Definitions.{key_of}
use Rattle.tql_key_rows.specs.Asked.{AreRowsOf, new_rows, row_named}
use Rattle.tql_key_clashes.specs.Named.{IsJudged, staying}
use Rattle.tql_key_clashes.specs.Free.{is_free}
use Rattle.tql_key_clashes.proofs.keys.holds_after.Given as goal

-- the result depends on the remaining new rows
abbrev pub invariant-loop-row : goal.invariant-loop-row
invariant-loop-row g l =
    (rows : List Stamped) (gone : Stamped → Bool) → AreRowsOf l.store l.table rows
    → IsJudged (row_named l.store l.table.id) gone l.change.removed.now
    → list_all (is_free l.table.definition (key_of l.key) (shown_rows l.table.definition (staying gone rows)))
    (new_rows l.table.definition l.change.moment (drop l.row-index l.change.added.now))
    ≡ list_all (is_free l.table.definition (key_of l.key) (shown_rows l.table.definition (staying gone rows)))
    (new_rows l.table.definition l.change.moment l.change.added.now)

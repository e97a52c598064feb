use Rattle.std.proofs.Common.{◌≡◌, ◌++◌, drop, length, map}
use Rattle.std.specs.Prelude.{ℤ}
use Rattle.tql_spec.specs.Datum.{Row}
use Rattle.tql_spec.specs.Definition.{cell, with_generated}
use Rattle.tql_catalog.specs.Rows.{stored_width}
use Rattle.tql_catalog.proofs.table_def.TableDef.stored_numbers.Given as goal

-- the cells of the stored numbers so far, followed by those of the remaining columns
abbrev pub invariant-loop-column : goal.invariant-loop-column
invariant-loop-column l = (cells : Row) (start end : ℤ) → length cells ≡ stored_width l.self
    → map (cell (with_generated l.self.system cells start end)) l.columns
    ≡ map (cell cells) l.stored.items
    ++ map (cell (with_generated l.self.system cells start end)) (drop l.column-index l.columns)

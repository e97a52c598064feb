use Rattle.std.proofs.Common.{refl, map, sym, ◌∙◌, List, true, false}
use Rattle.tql_spec.specs.Definition.{Column}
use Rattle.tql_catalog.specs.Definitions.{column_of}
use Rattle.tql_dml.specs.Cells.{columns_at, stored_columns, lacks_a_value}
use Rattle.tql_dml.proofs.FaultLaws.{verdict_is}
use Rattle.tql_dml.proofs.faults.cell_fault.Goals as goal

pub returns-then-has_long_text : goal.returns-then-has_long_text
returns-then-has_long_text c =
    let columns : List Column =
    columns_at (map column_of c.columns-columns.result.now) c.assignable-stored.result.now in
    let row = c.args.row.now in
    verdict_is columns (stored_columns c.args.definition.now) row true (lacks_a_value columns row)
    (λ i. columns_at (c.columns-columns.ensures.columns i) (c.assignable-stored.ensures.assignable i))
    (sym c.if-has_long_text.true ∙ c.has_long_text.ensures) refl

pub returns-then-lacks_a_value : goal.returns-then-lacks_a_value
returns-then-lacks_a_value c =
    let columns : List Column =
    columns_at (map column_of c.columns-columns.result.now) c.assignable-stored.result.now in
    verdict_is columns (stored_columns c.args.definition.now) c.args.row.now false true
    (λ i. columns_at (c.columns-columns.ensures.columns i) (c.assignable-stored.ensures.assignable i))
    (sym c.if-has_long_text.false ∙ c.has_long_text.ensures)
    (sym c.if-lacks_a_value.true ∙ c.lacks_a_value.ensures)

pub returns : goal.returns
returns c =
    let columns : List Column =
    columns_at (map column_of c.columns-columns.result.now) c.assignable-stored.result.now in
    verdict_is columns (stored_columns c.args.definition.now) c.args.row.now false false
    (λ i. columns_at (c.columns-columns.ensures.columns i) (c.assignable-stored.ensures.assignable i))
    (sym c.if-has_long_text.false ∙ c.has_long_text.ensures)
    (sym c.if-lacks_a_value.false ∙ c.lacks_a_value.ensures)

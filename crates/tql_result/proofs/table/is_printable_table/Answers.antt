use Rattle.tql_result.proofs.Printing.{values_print, data_print}
use Rattle.tql_result.proofs.table.is_printable_table.Goals as goal

pub returns : goal.returns
returns c = (
  λ t. data_print _ _ c.as_slice.ensures.value (c.are_printable_rows.ensures.0 t),
  λ p.
      c.are_printable_rows.ensures.1 (values_print _ _ c.as_slice.ensures.value p),
)

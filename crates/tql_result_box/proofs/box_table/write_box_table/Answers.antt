use Rattle.tql_result.proofs.Printing.{values_print}
use Rattle.tql_result_box.proofs.box_table.write_box_table.Goals as goal

pub push_box-requires : goal.push_box-requires
push_box-requires g c = values_print _ _ c.as_slice-rows.ensures.value c.requires

pub push_box-requires-in-Err : goal.push_box-requires-in-Err
push_box-requires-in-Err g c = values_print _ _ c.as_slice-rows.ensures.value c.requires

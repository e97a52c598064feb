use Rattle.std.proofs.Common.{map, string_bytes, sym, ap}
use Rattle.tql_result_laws.specs.Jsonl.{row_line}
use Rattle.tql_value.specs.Views.{row_of}
use Rattle.tql_result.proofs.Joining.{flat_map_next}
use Rattle.tql_result.proofs.Pushing.{step, stop}
use Rattle.tql_result_forms.proofs.jsonl.push_objects.Goals as goal

pub returns-in_err-push_object : goal.returns-in_err-push_object
returns-in_err-push_object g c =
    stop _ _ c.from_residual.ensures.0 c.loop-row.invariant
    (flat_map_next (λ r. row_line (map string_bytes c.args.names.now) (row_of r.items)) _ _ _ _ c.loop-row-test.true
    c.row-item.is
    (ap (λ l. row_line (map string_bytes c.args.names.now) (row_of l)) (sym c.as_slice.ensures.value)))
    c.in_err-push_object.ensures

pub loop-row-preserved : goal.loop-row-preserved
loop-row-preserved g c =
    step _ c.loop-row.invariant
    (flat_map_next (λ r. row_line (map string_bytes c.args.names.now) (row_of r.items)) _ _ _ _ c.loop-row-test.true
    c.row-item.is
    (ap (λ l. row_line (map string_bytes c.args.names.now) (row_of l)) (sym c.as_slice.ensures.value)))
    c.in_ok-push_object.ensures

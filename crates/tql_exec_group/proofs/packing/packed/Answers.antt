use Rattle.std.proofs.Common.{◌∙◌, ap, sym, arith, Vec}
use Rattle.tql_value.specs.Views.{row_of}
use Rattle.tql_value.specs.declared.value.Value.{Value}
use Rattle.tql_exec_group.proofs.Packed.{one_more_packed}
use Rattle.tql_exec_group.proofs.packing.packed.Goals as goal

pub loop-row-preserved : goal.loop-row-preserved
loop-row-preserved c =
    let values = c.deref.ensures.value ∙ ap (λ (x : Vec Value _). x.items)
    (c.replace-values.ensures.value ∙ sym c.row-item.is) in
    one_more_packed c.loop-row.packed.items c.push.new.self.items c.loop-row.row-items c.loop-row.row-index
    c.row-item.result _ c.in_ok-of_values.field-0 _ (omega arith) c.row-item.is
    (c.in_ok-of_values.ensures ∙ ap row_of values) c.in_ok-push.ensures.items c.loop-row.invariant

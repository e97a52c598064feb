-- Columns without an index, and the one that is set.
use Rattle.std.proofs.Common.{◌∙◌, ap, arith, if◌then◌else◌, nat_eq, None, slice_index_or, Some}
use Rattle.tql_exec_group.proofs.Indexes.{index_set, pushed_none}
use Rattle.tql_exec_group.proofs.places.set_place.Goals as goal

pub loop-places-preserved : goal.loop-places-preserved
loop-places-preserved c = λ n.
    ap (λ xs. slice_index_or xs n None) c.in_ok-push.ensures.items ∙ pushed_none c.loop-places.places.items n
    ∙ c.loop-places.invariant n

pub returns : goal.returns
returns c = λ n.
    index_set c.loop-places.places.items c.args.column n (Some c.args.place) (omega arith)
    ∙ ap (λ o. if nat_eq n c.args.column then Some c.args.place else o) (c.loop-places.invariant n)

-- One accumulator after another takes the row.
use Rattle.std.proofs.Common.{arith}
use Rattle.tql_exec_join.specs.Tuples.{tuple_row}
use Rattle.tql_exec_group.proofs.Taking.{all_taken, none_taken, not_past, one_taken}
use Rattle.tql_exec_group.proofs.grouping.take_at.Goals as goal

pub loop-which-init : goal.loop-which-init
loop-which-init c =
    none_taken c.args.terms.now c.args.aggregates.now c.args.number (tuple_row c.args.row.now) c.args.folds.now.items
    c.saturating_mul-at.result (omega arith) c.saturating_mul-at.ensures

pub loop-which-preserved : goal.loop-which-preserved
loop-which-preserved c =
    one_taken c.args.terms.now c.args.aggregates.now c.args.number (tuple_row c.args.row.now) c.args.folds.now.items
    c.loop-which.which-index c.loop-which.at c.loop-which.folds.items _ c.index_mut.result.now c.take.new.self
    (omega arith) c.index_mut.ensures.value c.in_ok-take.ensures c.loop-which.invariant

pub returns-then-len-at : goal.returns-then-len-at
returns-then-len-at c =
    not_past c.args.terms.now c.args.aggregates.now c.args.number (tuple_row c.args.row.now) c.args.folds.now.items
    c.loop-which.which-index c.loop-which.at c.loop-which.folds.items (omega arith) (omega (arith, c.len.ensures))
    c.loop-which.invariant

pub returns : goal.returns
returns c =
    all_taken c.args.terms.now c.args.aggregates.now c.args.number (tuple_row c.args.row.now) c.args.folds.now.items
    c.loop-which.which-index c.loop-which.at c.loop-which.folds.items (omega arith) c.loop-which.invariant

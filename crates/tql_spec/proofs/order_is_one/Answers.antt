use Rattle.tql_spec.proofs.OrderBags.{distinct_keeps_no_order, order_is_one}
use Rattle.tql_spec.proofs.order_is_one.Goals as goal

pub returns-clause-distinct : goal.returns-clause-distinct
returns-clause-distinct c = distinct_keeps_no_order

pub returns-clause-order : goal.returns-clause-order
returns-clause-order c = order_is_one

use Rattle.tql_value.proofs.OrderLemmas.{kinds_are_ordered, same_is_equal}
use Rattle.tql_value.proofs.laws.order_is_total.Goals as goal

pub returns-clause-order : goal.returns-clause-order
returns-clause-order c = kinds_are_ordered

pub returns-clause-equality : goal.returns-clause-equality
returns-clause-equality c = same_is_equal

use Rattle.std.proofs.Common.{map}
use Rattle.tql_syntax_tree.specs.Statements.{tuple_of}
use Rattle.tql_value.specs.Views.{plain_kind}
use Rattle.tql_bind_change.proofs.TupleLaws.{tuple_ok, values_ok}
use Rattle.tql_bind_change.proofs.tuples.tuple.Goals as goal

pub returns-clause-bound : goal.returns-clause-bound
returns-clause-bound c =
    tuple_ok (map plain_kind c.args.kinds.now) (tuple_of c.args.tuple.now) c.cells.new.terms c.args.faults.now
    c.cells.new.faults c.refuse_if.new.self c.in_ok-cells.cells.items c.deref.result.now c.deref-4.result.now
    c.in_ok-found.found.items c.deref-2.result.now c.cells_misfit-is_misfit.result c.values.result
    c.in_ok-cells.ensures.bound
    c.deref.ensures.value c.in_ok-found.ensures c.deref-2.ensures.value
    c.cells_misfit-is_misfit.ensures c.refuse_if.ensures c.deref-4.ensures.value c.values.ensures

pub returns-clause-held : goal.returns-clause-held
returns-clause-held c =
    values_ok c.cells.new.terms c.in_ok-cells.cells.items c.deref-4.result.now c.values.result c.deref-4.ensures.value
    c.values.ensures c.in_ok-cells.ensures.held

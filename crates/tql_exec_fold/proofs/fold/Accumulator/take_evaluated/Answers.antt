-- One more row: the operand is out of range on it, or its value is added.
use Rattle.std.proofs.Common.{refl}
use Rattle.tql_value.specs.Views.{datum_of_view}
use Rattle.tql_expr.specs.declared.terms.Aggregate.TheVariants.{Over}
use Rattle.tql_exec_join.specs.Tuples.{tuple_row}
use Rattle.tql_exec_fold.proofs.Accumulators.{adds_value, leaves_range}
use Rattle.tql_exec_fold.proofs.fold.Accumulator.take_evaluated.Goals as goal

pub returns-in-Err : goal.returns-in-Err
returns-in-Err c =
    leaves_range c.args.terms.now (Over c.args.function c.args.x) c.args.self.now (tuple_row c.args.row.now)
    c.args.function c.args.x refl _ refl c.in-Err.ensures

pub returns-in-Ok : goal.returns-in-Ok
returns-in-Ok c =
    adds_value c.args.terms.now (Over c.args.function c.args.x) c.args.self.now (tuple_row c.args.row.now)
    c.args.function c.args.x refl c.add.new.self (datum_of_view c.in-Ok.value) c.add.result c.requires.held
    c.add.ensures.rows c.add.ensures.out c.add.ensures.folds c.add.ensures.memory c.in-Ok.ensures

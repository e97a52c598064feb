use Rattle.std.specs.Prelude.{option_map}
use Rattle.tql_period.specs.Points.{points_of}
use Rattle.tql_syntax_tree.specs.Statements.{portion_of}
use Rattle.tql_value.specs.Views.{plain_kind}
use Rattle.tql_bind_change.proofs.PortionLaws.{portion_bound}
use Rattle.tql_bind_change.proofs.portion.named_portion.Goals as goal

pub returns : goal.returns
returns c =
    portion_bound c.args.definition.now (portion_of c.args.portion) (option_map plain_kind c.in_ok-kind.kind)
    c.is_other_point.result c.in_ok-from.from c.in_ok-to.to
    c.args.faults.now c.portion_period.new.faults c.refuse_if.new.self c.rising.new.faults
    (option_map points_of c.rising.result)
    c.in_ok-kind.ensures c.is_other_point.ensures c.refuse_if.ensures c.in_ok-from.ensures c.in_ok-to.ensures
    c.rising.ensures

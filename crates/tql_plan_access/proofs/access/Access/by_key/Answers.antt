use Rattle.std.proofs.Common.{map}
use Rattle.tql_expr.specs.Meaning.{cond}
use Rattle.tql_plan_access.proofs.GivenLists.{assignable_first}
use Rattle.tql_plan_access.proofs.access.Access.by_key.Goals as goal

pub stored_numbers-requires : goal.stored_numbers-requires
stored_numbers-requires c =
    assignable_first (map (cond c.args.terms.now) c.args.conjuncts.now) c.args.definition.now c.requires.right
    c.args.columns.now c.requires.given

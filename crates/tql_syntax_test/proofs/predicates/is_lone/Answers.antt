use Rattle.std.proofs.Common.{rules, arith}
use Rattle.std.proofs.lemmas.Grind.{common_steps}
use Rattle.tql_syntax_test.proofs.Names.{lone_expr}
use Rattle.tql_syntax_test.proofs.predicates.is_lone.Goals as goal
use Rattle.tql_syntax_test.proofs.predicates.is_lone.Goals.{then-not-is_empty-via-then-not-is_empty}
use Rattle.tql_syntax_test.proofs.predicates.is_lone.Goals.{then-not-is_empty-via-else-not-is_empty+then-not-is_empty-2}

pub returns-then-not-is_empty : goal.returns-then-not-is_empty
returns-then-not-is_empty c =
    let l = lone_expr c.args.value.now in
    elim c.then-not-is_empty.branch [
      | then-not-is_empty-via-then-not-is_empty w ↦ first_of (search rules, grind (arith, common_steps))
      | then-not-is_empty-via-else-not-is_empty+then-not-is_empty-2 w ↦ first_of
          (search rules, grind (arith, common_steps))
    ]

pub returns-in-None : goal.returns-in-None
returns-in-None c =
    let l = lone_expr c.args.value.now in
    first_of (search rules, grind (arith, common_steps))

use Rattle.std.proofs.Common.{map, take}
use Rattle.tql_expr.specs.Meaning.{cond}
use Rattle.tql_plan_screen.specs.Coded.{Gains}
use Rattle.tql_plan_screen.specs.Screens.{parts_of}
use Rattle.tql_plan_screen.proofs.screening.add_conjuncts.Given as goal

-- the screen has gained the tests of the conjuncts before
abbrev pub invariant-loop-conjunct : goal.invariant-loop-conjunct
invariant-loop-conjunct l =
    Gains l.definition (parts_of (map (cond l.terms) (take l.conjunct-index l.conjuncts))) l.fn.screen l.screen

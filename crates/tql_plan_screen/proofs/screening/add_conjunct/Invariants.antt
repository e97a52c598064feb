use Rattle.tql_expr.specs.Meaning.{cond, HasCond}
use Rattle.tql_plan_screen.specs.Coded.{Gains}
use Rattle.tql_plan_screen.specs.Screens.{Screening, parts}
use Rattle.tql_plan_screen.proofs.screening.add_conjunct.Given as goal

-- with the tests of what is left, the screen gains those of all parts
abbrev pub invariant-loop-both : goal.invariant-loop-both
invariant-loop-both l = record {
  there : HasCond l.terms l.here;
  rest : (s : Screening) → Gains l.definition (parts (cond l.terms l.here)) l.screen s
      → Gains l.definition (parts (cond l.terms l.fn.c)) l.fn.screen s;
}

abbrev pub decreases-loop-both : goal.decreases-loop-both
decreases-loop-both l = l.here.place

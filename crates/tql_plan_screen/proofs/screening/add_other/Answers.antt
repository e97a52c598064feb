use Rattle.std.proofs.Common.{refl}
use Rattle.tql_expr.specs.Meaning.{cond}
use Rattle.tql_plan_screen.proofs.Gained.{gains_open}
use Rattle.tql_plan_screen.proofs.StoredColumns.{no_test}
use Rattle.tql_plan_screen.proofs.screening.add_other.Goals as goal

pub returns-in-None : goal.returns-in-None
returns-in-None c =
    let d = c.args.definition.now in
    let here = cond c.args.terms.now c.args.c in
    gains_open d here c.args.screen.now c.leave_open.new.self
    (no_test d here c.requires.other (c.in-None.ensures.none refl c.requires.other))
    c.leave_open.ensures.tests c.leave_open.ensures.whole

use Rattle.std.proofs.Common.{sym, ap, ◌∙◌}
use Rattle.tql_spec.specs.Constraint.{covered}
use Rattle.tql_spec.specs.Definition.{period_of}
use Rattle.tql_expr.specs.Shown.{shown_by}
use Rattle.tql_period.specs.Points.{points_of}
use Rattle.tql_key_rows.proofs.Sharing.{risen, not_risen}
use Rattle.tql_keys.proofs.Gathering.{covers_is, covers_nothing}
use Rattle.tql_keys.proofs.references.is_covered.Goals as goal

pub returns-in-Some : goal.returns-in-Some
returns-in-Some c parent parents same =
    let x = period_of c.args.child.now (shown_by c.args.row.now) in
    let w = points_of c.in-Some.whole in
    covers_is c.references_at_each_point.ensures parent parents c.args.periods.now w c.covers.result c.covers.ensures
    same ∙ ap (covered parent parents) (risen x w c.in-Some.ensures)

pub returns-in-None : goal.returns-in-None
returns-in-None c parent parents same =
    let x = period_of c.args.child.now (shown_by c.args.row.now) in
    sym (covers_nothing c.references_at_each_point.ensures parent parents x (not_risen x c.in-None.ensures))

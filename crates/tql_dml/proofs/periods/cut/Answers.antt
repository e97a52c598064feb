use Rattle.std.proofs.Common.{sym, ap, subst, ◌∙◌, Option, None}
use Rattle.std.specs.Prelude.{option_map}
use Rattle.tql_period.specs.Points.{points_of}
use Rattle.tql_period.specs.declared.period.Period.{Period}
use Rattle.tql_expr.specs.Shown.{shown_by}
use Rattle.tql_dml.specs.Cutting.{reaches, IsCut}
use Rattle.tql_dml.proofs.Cuts.{whole_cut, none_inside, some_inside}
use Rattle.tql_dml.proofs.periods.cut.Goals as goal

pub returns-in_default : goal.returns-in_default
returns-in_default c =
    let d = c.args.definition.now in
    let row = shown_by c.args.row.now in
    subst (λ (o : Option Period). IsCut d (option_map points_of o) row
    (record { before = None; inside = None; after = None })) (sym c.in_default.is) (whole_cut d row)

pub returns-then-is_some : goal.returns-then-is_some
returns-then-is_some c =
    let d = c.args.definition.now in
    let row = shown_by c.args.row.now in
    let parts = c.split-pieces.ensures in
    subst (λ (o : Option Period). IsCut d (option_map points_of o) row c.split-pieces.result) (sym c.in-Some.is)
    (some_inside d (points_of c.in-Some.portion) row c.period.result c.in_ok-period.field-0 c.split-pieces.result
    c.in_ok-period.was c.period.ensures
    parts.before_ends parts.inside_ends parts.after_ends (sym c.is_some.ensures ∙ c.if-is_some.true))

pub returns-else-is_some : goal.returns-else-is_some
returns-else-is_some c =
    let d = c.args.definition.now in
    let row = shown_by c.args.row.now in
    ap (λ (o : Option Period). reaches d (option_map points_of o) row) c.in-Some.is
    ∙ none_inside d (points_of c.in-Some.portion) row c.period.result c.in_ok-period.field-0
    c.split-pieces.result.inside c.in_ok-period.was c.period.ensures
    c.split-pieces.ensures.inside_ends (sym c.is_some.ensures ∙ c.if-is_some.false)

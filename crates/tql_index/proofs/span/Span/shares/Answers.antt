use Rattle.std.proofs.Common.{arith, ap, ◌∙◌}
use Rattle.std.proofs.lemmas.Int.{ints}
use Rattle.std.specs.Prelude.{int_lt, ◌<ℤ◌}
use Rattle.tql_period.specs.Points.{points_of}
use Rattle.tql_index.specs.Spans.{span_of, points_between}
use Rattle.tql_index.proofs.Lines.{rises_in, share_before, share_by_start, share_none}
use Rattle.tql_index.proofs.span.Span.shares.Goals as goal

pub returns-then-not-is_before : goal.returns-then-not-is_before
returns-then-not-is_before c = share_none (span_of c.args.self) (points_between c.args.from c.args.to)
    (grind (arith, ints, c.is_before.ensures, c.if-not-is_before.true))

pub returns-then-is_before : goal.returns-then-is_before
returns-then-is_before c =
    let x = span_of c.args.self in
    let y = points_between c.args.from c.args.to in
    let r : x.start <ℤ x.end = rises_in c.args.self.group (points_of c.args.self.period) c.args.self.period.rising in
    let p : y.start <ℤ y.end = grind (arith, ints, c.is_before.ensures, c.if-not-is_before.false) in
    let q : x.start <ℤ y.end = grind (arith, ints, c.start.ensures, c.is_before-2.ensures, c.if-is_before.true) in
    c.is_before-then-is_before.ensures ∙ ap (λ e. int_lt y.start e) c.end.ensures ∙ share_by_start x y r p q

pub returns-else-is_before : goal.returns-else-is_before
returns-else-is_before c =
    c.if-is_before.false ∙ share_before (span_of c.args.self) (points_between c.args.from c.args.to)
    (grind (arith, ints, c.start.ensures, c.is_before-2.ensures, c.if-is_before.false))

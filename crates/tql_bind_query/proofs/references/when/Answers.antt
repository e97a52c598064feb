use Rattle.std.proofs.Common.{sym, subst, rules, w64}
use Rattle.std.specs.Prelude.{ℤ}
use Rattle.std.proofs.Math.Facts.{to_z-of_z}
use mir.Val.{SFits}
use Rattle.tql_spec.specs.Binding as binding
use Rattle.tql_spec.specs.FirstToken.{content}
use Rattle.tql_spec.specs.History as history
use Rattle.tql_syntax_tree.specs.Statements.{span_of}
use Rattle.tql_syntax_tree.specs.declared.statement.SpanTree.{SpanTree}
use Rattle.tql_bind_expr.specs.Gathered.{Gathers}
use Rattle.tql_bind_expr.proofs.Gathering.{sound_here}
use Rattle.tql_bind_query.proofs.ReferenceLaws.{as_of_bound, range_bound}
use Rattle.tql_bind_query.proofs.references.when.Goals as goal

pub returns-in-None : goal.returns-in-None
returns-in-None c =
    subst (λ (s : SpanTree). Gathers
    (binding.when c.args.definition.now (span_of s)) c.args.faults.now c.args.faults.now
    history.Now) (sym c.in-None.is) (sound_here history.Now c.args.faults.now)

pub returns-in_ok-point-in-AsOf : goal.returns-in_ok-point-in-AsOf
returns-in_ok-point-in-AsOf c =
    let d = c.args.definition.now in
    let m : ℤ = c.in_ok-point-in-AsOf.point in
    let fits : SFits w64 m = search rules in
    let here = as_of_bound d (content 39 c.in-AsOf.point.now) c.args.faults.now c.refuse_unversioned.new.faults
    c.moment.new.faults m c.refuse_unversioned.ensures c.in_ok-point-in-AsOf.ensures.bound in
    rw (to_z-of_z fits) (subst
    (λ (s : SpanTree). Gathers (binding.when d (span_of s)) c.args.faults.now c.moment.new.faults (history.AsOf m))
    (sym c.in-AsOf.is) here)

pub returns-in_ok-to-in-FromTo : goal.returns-in_ok-to-in-FromTo
returns-in_ok-to-in-FromTo c =
    let d = c.args.definition.now in
    let f : ℤ = c.in_ok-from-in-FromTo.from in
    let g : ℤ = c.in_ok-to-in-FromTo.to in
    let from : SFits w64 f = search rules in
    let to : SFits w64 g = search rules in
    let here = range_bound d (λ a b. history.FromTo a b) (content 39 c.in-FromTo.from.now)
    (content 39 c.in-FromTo.to.now) c.args.faults.now c.refuse_unversioned-in-FromTo.new.faults
    c.moment-in-FromTo.new.faults
    c.moment-in-FromTo-2.new.faults f g c.refuse_unversioned-in-FromTo.ensures c.in_ok-from-in-FromTo.ensures.bound
    c.in_ok-to-in-FromTo.ensures.bound in
    rw (to_z-of_z from, to_z-of_z to)
    (subst (λ (s : SpanTree). Gathers (binding.when d (span_of s)) c.args.faults.now c.moment-in-FromTo-2.new.faults
    (history.FromTo f g)) (sym c.in-FromTo.is) here)

pub returns-in_ok-to-in-Between : goal.returns-in_ok-to-in-Between
returns-in_ok-to-in-Between c =
    let d = c.args.definition.now in
    let f : ℤ = c.in_ok-from-in-Between.from in
    let g : ℤ = c.in_ok-to-in-Between.to in
    let from : SFits w64 f = search rules in
    let to : SFits w64 g = search rules in
    let here = range_bound d (λ a b. history.Between a b) (content 39 c.in-Between.from.now)
    (content 39 c.in-Between.to.now) c.args.faults.now c.refuse_unversioned-in-Between.new.faults
    c.moment-in-Between.new.faults
    c.moment-in-Between-2.new.faults f g c.refuse_unversioned-in-Between.ensures
    c.in_ok-from-in-Between.ensures.bound c.in_ok-to-in-Between.ensures.bound in
    rw (to_z-of_z from, to_z-of_z to)
    (subst (λ (s : SpanTree). Gathers (binding.when d (span_of s)) c.args.faults.now c.moment-in-Between-2.new.faults
    (history.Between f g)) (sym c.in-Between.is) here)

use Rattle.std.proofs.Common.{◌≡◌, ◌∷◌, [], List, arith, rules, subst, sym}
use Rattle.tql_spec.specs.Expression.{Cond}
use Rattle.tql_expr.specs.Meaning.{cond}
use Rattle.tql_plan_screen.specs.Coded.{Gains}
use Rattle.tql_plan_screen.specs.Screens.{parts}
use Rattle.tql_plan_screen.proofs.Gained.{gains_side, on_ok}
use Rattle.tql_plan_screen.proofs.screening.add_conjunct.Goals as goal

pub loop-both-preserved : goal.loop-both-preserved
loop-both-preserved c =
    let d = c.args.definition.now in
    let t = c.args.terms.now in
    let now = c.loop-both.screen in
    let next = c.add_part.new.screen in
    record {
      there = omega (arith, c.in-Some.ensures.left, c.loop-both.invariant.there);
      rest = λ s g. c.loop-both.invariant.rest s (subst (λ (k : Cond). Gains d (parts k) now s)
          (sym c.in-Some.ensures.are)
          (gains_side d (cond t c.in-Some.both.left) (cond t c.in-Some.both.right) now next s c.in_ok-add_part.ensures
          g));
    }

pub returns : goal.returns
returns c =
    let d = c.args.definition.now in
    let t = c.args.terms.now in
    let here = cond t c.loop-both.here in
    let now = c.loop-both.screen in
    let new = c.add_part-2.new.screen in
    let alone : parts here ≡ here ∷ [] = search rules in
    on_ok c.add_part-2.result _ _
    (λ g. c.loop-both.invariant.rest new (subst (λ (cs : List Cond). Gains d cs now new) (sym alone) g))
    c.add_part-2.ensures

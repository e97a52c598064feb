use Rattle.std.proofs.Common.{map, arith, subst, sym}
use Rattle.std.proofs.lemmas.List.Elements.{All-push}
use Rattle.std.specs.Prelude.{All}
use Rattle.tql_value.specs.Points.{IsPrintable}
use Rattle.tql_value.specs.Views.{datum_of_view}
use Rattle.tql_places.proofs.Values.{none_more, more_values}
use Rattle.tql_places.proofs.passed.values_passed.Goals as goal

pub returns-in_default : goal.returns-in_default
returns-in_default c =
    none_more _ (map datum_of_view c.loop.values.items) c.args.count c.loop.counter c.loop.rest.now
    c.first_passed.result (omega arith) c.loop.invariant.0 c.first_passed.ensures.passed c.in_default.not-Some

pub loop-preserved : goal.loop-preserved
loop-preserved c = (
  more_values _ c.loop.values.items c.push.new.self.items c.in-Some.first.value c.args.count c.loop.counter
      c.loop.rest.now c.in-Some.first.rest.now (omega arith) c.loop.invariant.0 c.in-Some.ensures.passed
      c.in_ok-push.ensures.items,
  subst (All (λ v. IsPrintable (datum_of_view v))) (sym c.in_ok-push.ensures.items)
      (All-push (λ v. IsPrintable (datum_of_view v)) c.loop.values.items c.in-Some.first.value c.loop.invariant.1
      c.in-Some.ensures.printable),
)

use Rattle.std.specs.Prelude.{◌≡◌, ◌++◌, ◌-◌, map, option_map, All}
use Rattle.tql_value.specs.Points.{IsPrintable}
use Rattle.tql_value.specs.Views.{datum_of_view}
use Rattle.tql_places.specs.Passed.{values_passed}
use Rattle.tql_places.proofs.passed.values_passed.Given as goal

abbrev pub invariant-loop : goal.invariant-loop
invariant-loop l =
    (values_passed l.count l.bytes ≡ option_map (λ vs. map datum_of_view l.values.items ++ vs)
    (values_passed (l.count - l.counter) l.rest)) × All (λ v. IsPrintable (datum_of_view v)) l.values.items

use Rattle.std.specs.Prelude.{◌≡◌, ℤ}
use Rattle.tql_spec.specs.Truth.{Truth}
use Rattle.tql_spec.specs.Datum.{Datum, Day, Moment}
use Rattle.tql_spec.specs.Period.{Relation, predicate, FormulasAreSets}
use Rattle.tql_period.specs.Relations.{SaysOfPoints}
use Rattle.tql_period.proofs.predicates.predicate.Goals as goal

by_formulas : (kind : ℤ → Datum) (which : Relation) (x y : Datum × Datum) (answer : Truth) → FormulasAreSets kind
    → answer ≡ predicate which x y → SaysOfPoints kind which x y answer
by_formulas kind which x y answer law e a b p q h k = rw (e, p, q) (law which a b h k)

pub returns-clause-days : goal.returns-clause-days
returns-clause-days c = by_formulas Day _ _ _ _ c.predicates_on_points.ensures.days c.by_ends.ensures

pub returns-clause-moments : goal.returns-clause-moments
returns-clause-moments c = by_formulas Moment _ _ _ _ c.predicates_on_points.ensures.moments c.by_ends.ensures

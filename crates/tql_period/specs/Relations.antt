-- The predicates of the code, and what they say about points.
use Rattle.std.specs.Prelude.{◌≡◌, ◌↔◌, IsTrue, ℤ}
use Rattle.tql_spec.specs.Truth.{Truth, True}
use Rattle.tql_spec.specs.Datum.{Datum}
use Rattle.tql_spec.specs.Period.{Period, Holds, rises, ends, OnSets, Overlaps, Includes, SameAs, Precedes, Succeeds}
use Rattle.tql_spec.specs.Period.{ImmediatelyPrecedes, ImmediatelySucceeds}
use Rattle.tql_spec.specs.Period as spec
use Rattle.tql_value.specs.declared.value.View.{View}
use Rattle.tql_value.specs.Views.{datum_of_view}
use Rattle.tql_period.specs.declared.predicates.Relation.{Relation}
use Rattle.tql_period.specs.declared.predicates.Relation.TheVariants as relation

-- the predicate as the definitions represent it
abbrev pub plain_relation : Relation → spec.Relation
plain_relation relation.Overlaps = Overlaps
plain_relation relation.Contains = Includes
plain_relation relation.Equals = SameAs
plain_relation relation.Precedes = Precedes
plain_relation relation.Succeeds = Succeeds
plain_relation relation.ImmediatelyPrecedes = ImmediatelyPrecedes
plain_relation relation.ImmediatelySucceeds = ImmediatelySucceeds

-- the two ends as data
abbrev pub data_of : View × View → Datum × Datum
data_of x = (datum_of_view x.0, datum_of_view x.1)

-- for two periods that start before they end, the answer is true exactly if the predicate holds for their sets of
-- points
abbrev pub SaysOfPoints : (ℤ → Datum) → spec.Relation → Datum × Datum → Datum × Datum → Truth → Type 0
SaysOfPoints kind which x y answer = (a b : Period) → x ≡ ends kind a → y ≡ ends kind b → IsTrue (rises a)
    → IsTrue (rises b)
    → (answer ≡ True) ↔ OnSets which a b

-- for a period, the answer is true exactly if it contains the point
abbrev pub SaysOfPoint : (ℤ → Datum) → Datum × Datum → Datum → Truth → Type 0
SaysOfPoint kind x q answer = (a : Period) (p : ℤ) → x ≡ ends kind a → q ≡ kind p → (answer ≡ True) ↔ Holds a p

-- FOR PORTION OF, from its parts.
use Rattle.std.specs.Prelude.{◌≡◌, refl, ℕ, ℤ, Bool, true, List, Option, Some, None, option_map, is_some}
use Rattle.std.specs.List.{list_any}
use Rattle.std.proofs.Common.{subst}
use Rattle.tql_spec.specs.Binding.{portion_period, portion, rising, read_point, sets_period}
use Rattle.tql_spec.specs.Creation.{has_number, period_columns}
use Rattle.tql_spec.specs.Datum.{Kind}
use Rattle.tql_spec.specs.Definition.{TableDef}
use Rattle.tql_spec.specs.Names.{Checked, ◌>>=◌, refuse_if}
use Rattle.tql_spec.specs.Period.{Period}
use Rattle.tql_spec.specs.Refusal.{Refusal, TypesDoNotFit}
use Rattle.tql_spec.specs.Syntax.{PortionTree}
use Rattle.tql_bind_expr.specs.Gathered.{Gathers}
use Rattle.tql_bind_expr.proofs.Gathering.{bound}
use Rattle.tql_bind_change.specs.Portions.{differs}

-- the named period, the kinds of the points, and the points
pub portion_bound : (d : TableDef) (p : PortionTree) (k : Option Kind) (b : Bool) (from to : Option ℤ)
    (old mid last new : Option Refusal) (x : Option Period)
    → Gathers (portion_period d p.period) old mid k → b ≡ differs k p → Gathers (refuse_if b TypesDoNotFit) mid last tt
    → from ≡ read_point p.from → to ≡ read_point p.to → Gathers (rising from to) last new x
    → Gathers (portion d (Some p)) old new x
portion_bound d p k b from to old mid last new x period is other f t points =
    let at_points : Checked (Option Period) = rising (read_point p.from) (read_point p.to) in
    let points_bound : Gathers at_points last new x =
    subst (λ (o : Option ℤ). Gathers (rising (read_point p.from) o) last new x) t
    (subst (λ (o : Option ℤ). Gathers (rising o to) last new x) f points) in
    let refused : Gathers (refuse_if (differs k p) TypesDoNotFit) mid last tt =
    subst (λ (c : Bool). Gathers (refuse_if c TypesDoNotFit) mid last tt) is other in
    bound (portion_period d p.period) (λ k. refuse_if (differs k p) TypesDoNotFit >>= λ u. at_points) old mid new k x
    period
    (bound (refuse_if (differs k p) TypesDoNotFit) (λ u. at_points) mid last new tt x refused points_bound)

-- with a portion, SET is tested for the period's columns
pub sets_of_portion : (d : TableDef) (p : Option PortionTree) (is : List ℕ) (b : Bool) → is_some p ≡ true
    → b ≡ list_any (λ i. has_number i (period_columns d.application)) is → b ≡ sets_period d p is
sets_of_portion d None is b e h = absurd (cc)
sets_of_portion d (Some p) is b e h = h

pub is_mapped : {A B : Type 0} (f : A → B) (o : Option A) → is_some (option_map f o) ≡ is_some o
is_mapped f None = refl
is_mapped f (Some x) = refl

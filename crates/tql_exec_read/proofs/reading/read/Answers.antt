-- The rows are those of the versions found.
use Rattle.std.proofs.Common.{◌≡◌, ◌∙◌, ap, sym, subst, map, List}
use Rattle.tql_spec.specs.Bag.{SameBag}
use Rattle.tql_spec.specs.Datum.{Row}
use Rattle.tql_spec.proofs.Bags.{same-map}
use Rattle.tql_expr.specs.Generated.{generated}
use Rattle.tql_versions.specs.Readings.{version_shown as version_of}
use Rattle.tql_plan.specs.Nodes.{source_of}
use Rattle.tql_exec_read.specs.Found.{bags_in, completed}
use Rattle.tql_exec_read.proofs.reading.read.Goals as goal

pub returns-clause-rows : goal.returns-clause-rows
returns-clause-rows g c copies working r =
    let e : c.in_ok-rows-2.rows.items ≡ map (completed (generated c.args.source.system))
    (map version_of c.in_ok-versions.versions.items) =
    c.in_ok-rows-2.ensures
    ∙ ap (λ vs. map (completed (generated c.args.source.system)) (map version_of vs)) c.deref.ensures.value in
    subst (λ (xs : List Row). SameBag xs (bags_in c.args.snapshot.now copies working (source_of c.args.source))) (sym e)
    (same-map (completed (generated c.args.source.system))
    (c.in_ok-versions.ensures.copies c.requires.within copies working r))

-- the same for the current rows
pub returns-in-Some-clause-rows : goal.returns-in-Some-clause-rows
returns-in-Some-clause-rows g c copies working r =
    subst (λ (xs : List Row). SameBag xs (bags_in c.args.snapshot.now copies working (source_of c.args.source)))
    (sym c.in_ok-rows.ensures)
    (same-map (completed (generated c.args.source.system)) (c.in-Some.ensures copies working r))

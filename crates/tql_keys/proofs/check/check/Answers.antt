use Rattle.std.proofs.Common.{sym, subst, ◌∙◌}
use Rattle.std.specs.Prelude.{ℤ, slice_set}
use Rattle.std.proofs.Math.Facts.{to_z-of_z}
use Rattle.tql_spec.specs.Bag.{SameBag}
use Rattle.tql_spec.specs.History.{rows_in}
use Rattle.tql_catalog.specs.Tables.{definitions_of}
use Rattle.tql_store.specs.Changes.{rows_after}
use Rattle.tql_keys.proofs.Faults.{no_faults}
use Rattle.tql_keys.proofs.PointTests.{refused_as_points}
use Rattle.tql_keys.proofs.Told.{told_first, told_at_points, tests_before}
use Rattle.tql_keys.proofs.WholeCopy.{as_many, as_long}
use Rattle.tql_keys.proofs.check.check.Goals as goal

pub returns-clause-tests : goal.returns-clause-tests
returns-clause-tests g c copy rows gone is goes held same =
    let D = definitions_of c.args.catalog.now in
    let t = c.args.place in
    let before = no_faults D copy held in
    let bag = subst (λ (z : ℤ). SameBag rows (rows_after z gone c.args.delta.now.added.items
    (rows_in copy t))) (sym (to_z-of_z c.ranges.moment)) same in
    told_first D (slice_set copy t rows) c.test.result (c.test.ensures copy rows gone is goes before.0 before.1 bag)

pub returns-clause-points : goal.returns-clause-points
returns-clause-points g c copy rows gone is goes held same =
    let D = definitions_of c.args.catalog.now in
    let t = c.args.place in
    let before = tests_before D copy held in
    let bag = subst (λ (z : ℤ). SameBag rows (rows_after z gone c.args.delta.now.added.items
    (rows_in copy t))) (sym (to_z-of_z c.ranges.moment)) same in
    told_at_points D (slice_set copy t rows) c.test.result
    (as_long copy t rows ∙ is.as_many ∙ sym (as_many c.args.catalog.now))
    (c.test.ensures copy rows gone is goes before.0 before.1 bag)

pub returns-clause-refusals : goal.returns-clause-refusals
returns-clause-refusals g c copy rows gone is goes held same =
    let D = definitions_of c.args.catalog.now in
    let t = c.args.place in
    let before = tests_before D copy held in
    let bag = subst (λ (z : ℤ). SameBag rows (rows_after z gone c.args.delta.now.added.items
    (rows_in copy t))) (sym (to_z-of_z c.ranges.moment)) same in
    refused_as_points D (slice_set copy t rows) c.test.result
    (as_long copy t rows ∙ is.as_many ∙ sym (as_many c.args.catalog.now))
    (c.test.ensures copy rows gone is goes before.0 before.1 bag)

use Rattle.std.proofs.Common.{◌≡◌, ◌∷◌, [], map, subst, sym}
use Rattle.std.specs.Prelude.{Some}
use Rattle.tql_spec.specs.Definition.{TableDef}
use Rattle.tql_catalog.specs.Rows.{are_assignable}
use Rattle.tql_catalog.specs.Sought.{sought_columns}
use Rattle.tql_expr.specs.Meaning.{cond}
use Rattle.tql_plan_access.specs.Choices.{is_single_of}
use Rattle.tql_plan_access.specs.Ranges.{is_ranged, ranged_in}
use Rattle.tql_plan_access.proofs.GivenLists.{all_assignable, first_is}
use Rattle.tql_plan_access.proofs.ranges.ranged_manner.Goals as goal

pub in_range-requires : goal.in_range-requires
in_range-requires c =
    let conds = map (cond c.args.terms.now) c.args.conjuncts.now in
    let d = c.args.definition.now in
    let columns = c.in-Some.found.column ∷ [] in
    (first_is (is_single_of (is_ranged c.args.is_current conds)) (are_assignable d) (sought_columns d) columns
    (all_assignable d c.in_ok-singles.ensures.right)
    (sym (subst (λ (e : TableDef). Some columns ≡ ranged_in e c.args.is_current conds) c.in_ok-singles.ensures.of
    c.in-Some.ensures.column))).0

-- Values that are sorted, without repeats.
use Rattle.std.proofs.Common.{◌∙◌, ap, map, subst, sym}
use Rattle.std.specs.List.Sorted.{IsSorted}
use Rattle.std.specs.List.{list_any}
use Rattle.tql_spec.specs.Datum.{is_null, order}
use Rattle.tql_value.specs.Views.{datum_of_view}
use Rattle.tql_plan_access.specs.Choices.{are_distinct}
use Rattle.tql_plan_access.proofs.Distinct.{any_moved, any_once, kept_distinct, kept_sorted}
use Rattle.tql_plan_access.proofs.alternatives.keep_distinct.Goals as goal

pub returns-clause-distinct : goal.returns-clause-distinct
returns-clause-distinct c =
    let sorted = c.sort_values.new.values.items in
    ap are_distinct c.drop_repeats.ensures
    ∙ kept_distinct (map datum_of_view sorted) c.sort_values.ensures.sorted
    (any_moved datum_of_view is_null c.args.values.now.items sorted c.sort_values.ensures.same ∙ c.requires)

pub returns-clause-sorted : goal.returns-clause-sorted
returns-clause-sorted c =
    subst (IsSorted order) (sym c.drop_repeats.ensures)
    (kept_sorted (map datum_of_view c.sort_values.new.values.items) c.sort_values.ensures.sorted)

pub returns-clause-same : goal.returns-clause-same
returns-clause-same c p =
    let sorted = c.sort_values.new.values.items in
    ap (list_any p) c.drop_repeats.ensures
    ∙ any_once p (map datum_of_view sorted)
    ∙ any_moved datum_of_view p c.args.values.now.items sorted c.sort_values.ensures.same

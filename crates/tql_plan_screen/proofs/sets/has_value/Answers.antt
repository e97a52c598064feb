use Rattle.std.proofs.Common.{◌≡◌, ◌∙◌, rules, sym, ap, subst, map, true, List}
use Rattle.std.specs.List.{list_any}
use Rattle.std.specs.List.Sorted.{IsSorted}
use Rattle.std.proofs.lemmas.Fn.{always_returns_same}
use Rattle.tql_spec.specs.Datum.{order}
use Rattle.tql_plan_access.specs.Choices.{are_distinct}
use Rattle.tql_plan_laws.specs.Equalities.{agree}
use Rattle.tql_value.specs.Views.{datum_of_view}
use Rattle.tql_value.specs.declared.value.View.{View}
use Rattle.tql_plan_screen.proofs.Searched.{by_value, searched}
use Rattle.tql_plan_screen.proofs.sets.has_value.Goals as goal

pub returns : goal.returns
returns c =
    let x = datum_of_view c.args.value in
    let same = c.deref.ensures.value in
    c.is_ok.ensures.value
    ∙ searched x c.deref.result.now
    (subst (λ (vs : List View). are_distinct (map datum_of_view vs) ≡ true) (sym same) c.args.set.now.distinct)
    (subst (λ (vs : List View). IsSorted order (map datum_of_view vs)) (sym same) c.args.set.now.sorted)
    c.binary_search_by.result c.binary_search_by.ensures.bound
    (c.binary_search_by.ensures.position (by_value x)
    (always_returns_same _ _ _ (λ a r f' k. (search rules, search rules))))
    ∙ ap (λ (vs : List View). list_any (agree x) (map datum_of_view vs)) same

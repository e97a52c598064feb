use Rattle.std.proofs.Common.{◌≡◌, [], refl, sym, subst, List, ℕ}
use Rattle.std.specs.List.{find}
use Rattle.tql_catalog.specs.Sought.{key_columns}
use Rattle.tql_plan_access.specs.Choices.{FindsSame, is_single_of, singles}
use Rattle.tql_plan_access.proofs.singles.single_columns.Goals as goal

pub invariant_of-result : goal.invariant_of-result
invariant_of-result c =
    let none : FindsSame [] c.new-columns.result.items =
    λ d. subst (λ (columns : List ℕ). find (is_single_of d) (singles columns) ≡ find (is_single_of d) [])
    (sym c.new-columns.ensures.items) refl in
    record {
      finds = c.in_ok-add_references.ensures (key_columns c.args.definition.now)
          (c.in_ok-add_keys.ensures.finds [] none);
    }

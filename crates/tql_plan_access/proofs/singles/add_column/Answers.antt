use Rattle.std.proofs.Common.{◌≡◌, ◌++◌, ◌∷◌, [], ap, sym, subst, true, ◌∙◌}
use Rattle.std.specs.Prelude.{nat_eq}
use Rattle.std.specs.List.{list_any}
use Rattle.tql_plan_access.specs.Choices.{FindsSame}
use Rattle.tql_plan_access.proofs.OneColumn.{known_more, new_more}
use Rattle.tql_plan_access.proofs.singles.add_column.Goals as goal

pub returns-in_ok-push : goal.returns-in_ok-push
returns-in_ok-push c = λ lists same.
    subst (FindsSame (lists ++ (c.args.column ∷ []) ∷ [])) (sym c.in_ok-push.ensures.items)
    (new_more lists c.args.found.now.items c.args.column same)

pub returns-else-not-contains : goal.returns-else-not-contains
returns-else-not-contains c = λ lists same.
    let there : list_any (λ y. nat_eq y c.args.column) c.args.found.now.items ≡ true =
    ap (list_any (λ y. nat_eq y c.args.column)) (sym c.deref.ensures.value) ∙ sym c.if-not-contains.ensures.value in
    known_more lists c.args.found.now.items c.args.column there same

use Rattle.std.proofs.Common.{◌++◌, ◌∷◌, [], sym, subst, List, ℕ}
use Rattle.std.specs.Prelude.{OnOk}
use Rattle.tql_plan_access.specs.Choices.{FindsSame}
use Rattle.tql_plan_access.proofs.OneColumn.{one_of, other_more}
use Rattle.tql_plan_access.proofs.singles.add_single.Goals as goal

pub returns-then-columns-ne1 : goal.returns-then-columns-ne1
returns-then-columns-ne1 c = λ lists same.
    other_more lists c.args.found.now.items c.args.columns.now c.if-columns-ne1.true same

pub returns : goal.returns
returns c =
    subst (λ (is : List ℕ). OnOk c.add_column.result ((lists : List (List ℕ))
    → FindsSame lists c.args.found.now.items → FindsSame (lists ++ is ∷ []) c.add_column.new.found.items))
    (sym (one_of c.args.columns.now c.if-columns-ne1.false)) c.add_column.ensures

use Rattle.std.proofs.Common.{◌≡◌, ◌<◌, ◌∙◌, ap, sym, length, rules, true, List, ℕ, ◌∷◌, []}
use Rattle.std.proofs.lemmas.List.{drop_all}
use Rattle.std.specs.Prelude.{option_map, slice_index_or}
use Rattle.std.specs.List.{find}
use Rattle.tql_expr.specs.Meaning.{cond}
use Rattle.tql_plan_access.specs.Choices.{chooses, is_choice, singles}
use Rattle.tql_plan_access.proofs.OneColumn.{first_single}
use Rattle.tql_plan_access.proofs.choices.choice_of.Goals as goal

pub returns-then-is_choice-clause-choice : goal.returns-then-is_choice-clause-choice
returns-then-is_choice-clause-choice c =
    let chosen = cond c.args.terms.now c.args.c in
    let items : List ℕ = c.deref-column-items.result.now in
    let i = c.loop-column.column-index in
    let inside : i < length items = search rules in
    let given : chooses chosen (slice_index_or items i 0 ∷ []) ≡ true = sym c.if-is_choice.ensures in
    ap (option_map (λ is. (chosen, is)))
    (sym (first_single (chooses chosen) items i inside given) ∙ c.loop-column.invariant
    ∙ c.args.singles.now.finds (λ i. is_choice i chosen))

pub returns-clause-choice : goal.returns-clause-choice
returns-clause-choice c =
    let chosen = cond c.args.terms.now c.args.c in
    let items : List ℕ = c.deref-column-items.result.now in
    ap (option_map (λ is. (chosen, is)))
    (ap (λ ks. find (chooses chosen) (singles ks))
    (sym (drop_all c.loop-column.column-index items c.loop-column-test.false))
    ∙ c.loop-column.invariant ∙ c.args.singles.now.finds (λ i. is_choice i chosen))

use Rattle.std.proofs.Common.{◌≡◌, ◌<◌, ◌∙◌, ap, sym, length, map, rules, true, List, ℕ, ◌∷◌, []}
use Rattle.std.proofs.lemmas.List.{drop_all}
use Rattle.std.specs.Prelude.{is_some, slice_index_or}
use Rattle.std.specs.List.{find}
use Rattle.tql_expr.specs.Meaning.{cond}
use Rattle.tql_plan_access.specs.Choices.{is_single_of, singles}
use Rattle.tql_plan_access.specs.Ranges.{is_ranged}
use Rattle.tql_plan_access.proofs.OneColumn.{first_single}
use Rattle.tql_plan_access.proofs.ranges.first_range.Goals as goal

pub returns-in-Some-clause-column : goal.returns-in-Some-clause-column
returns-in-Some-clause-column c =
    let test = is_ranged c.args.is_current (map (cond c.args.terms.now) c.args.conjuncts.now) in
    let items : List ℕ = c.deref-column-items.result.now in
    let i = c.loop-column.column-index in
    let inside : i < length items = search rules in
    let given : is_single_of test (slice_index_or items i 0 ∷ []) ≡ true =
    ap is_some (sym c.range_for.ensures.given ∙ c.in-Some.is) in
    sym (first_single (is_single_of test) items i inside given) ∙ c.loop-column.invariant
    ∙ c.args.singles.now.finds test

pub returns-clause-column : goal.returns-clause-column
returns-clause-column c =
    let test = is_ranged c.args.is_current (map (cond c.args.terms.now) c.args.conjuncts.now) in
    let items : List ℕ = c.deref-column-items.result.now in
    ap (λ ks. find (is_single_of test) (singles ks))
    (sym (drop_all c.loop-column.column-index items c.loop-column-test.false))
    ∙ c.loop-column.invariant ∙ c.args.singles.now.finds test

use Rattle.std.proofs.Common.{◌≡◌, ◌∙◌, ◌+◌, ap, sym, map, ℕ, Bool, [], ◌∷◌, ◌++◌, arith}
use Rattle.std.specs.Prelude.{is_some}
use Rattle.std.proofs.lemmas.List.FromFn.{map-range_with_len_more}
use Rattle.tql_expr.specs.Meaning.{cond}
use Rattle.tql_plan_laws.specs.Constants.{value_in}
use Rattle.tql_value.specs.Views.{datum_of_view}
use Rattle.tql_plan_access.specs.Access.{given_marks}
use Rattle.tql_plan_access.proofs.GivenLists.{is_there}
use Rattle.tql_plan_access.proofs.given.given_marks.Goals as goal

pub loop-column-preserved : goal.loop-column-preserved
loop-column-preserved c =
    let conds = map (cond c.args.terms.now) c.args.conjuncts.now in
    let n = c.loop-column.column in
    let given : ℕ → Bool = λ i. is_some (value_in i conds) in
    let from : 0 + n ≡ n = omega arith in
    c.in_ok-push.ensures.items ∙ ap (λ bs. bs ++ c.is_some.result ∷ []) c.loop-column.invariant
    ∙ ap (λ b. given_marks conds n ++ b ∷ [])
    (c.is_some.ensures ∙ is_there datum_of_view c.value.result ∙ ap is_some c.value.ensures)
    ∙ sym (map-range_with_len_more given 0 n n from)

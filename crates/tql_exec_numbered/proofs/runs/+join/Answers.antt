-- The numbers of the last run are below the bound, as those of the others.
use Rattle.std.proofs.Common.{◌≡◌, ◌∙◌, ◌++◌, ◌∷◌, [], ◌<◌, ap, subst, sym, true}
use Rattle.std.specs.Prelude.{List, ℕ}
use Rattle.std.proofs.lemmas.List.{map-append}
use Rattle.std.proofs.lemmas.List.Elements.{All-append}
use Rattle.std.proofs.lemmas.Result.{IfOk-weaker}
use Rattle.tql_exec_numbered.specs.Runs.{is_in_runs, numbers_in, AreBelow}
use Rattle.tql_exec_numbered.proofs.Joined.{below_bound, in_last, in_others}
use Rattle.tql_exec_numbered.proofs.runs.+join.Goals as goal

pub returns-in_ok-extend_from_slice-in-Some-clause-below : goal.returns-in_ok-extend_from_slice-in-Some-clause-below
returns-in_ok-extend_from_slice-in-Some-clause-below t c =
    let last : List ℕ = c.in-Some.last.now.items in
    let rs = numbers_in c.in-Some.others.now in
    let all : numbers_in c.args.runs.now ≡ rs ++ last ∷ [] =
    ap numbers_in c.in-Some.ensures.cases.0
    ∙ map-append (λ r. r.items) c.in-Some.others.now (c.in-Some.last.now ∷ []) in
    let both : c.extend_from_slice.new.self.items ≡ c.args.run.now.items ++ last =
    c.in_ok-extend_from_slice-in-Some.ensures.items ∙ ap (λ xs. c.args.run.now.items ++ xs) c.as_slice.ensures.value in
    IfOk-weaker c.join.result
    (λ _. (bound : ℕ) → AreBelow bound c.extend_from_slice.new.self.items
    → ((k : ℕ) → is_in_runs k rs ≡ true → k < bound) → AreBelow bound c.join.new.run.items)
    (λ _. (bound : ℕ) → AreBelow bound c.args.run.now.items
    → ((k : ℕ) → is_in_runs k (numbers_in c.args.runs.now) ≡ true → k < bound) → AreBelow bound c.join.new.run.items)
    (λ x told bound old below.
    told bound
    (subst (AreBelow bound) (sym both)
    (All-append (λ n. n < bound) c.args.run.now.items last old
    (below_bound bound last (λ k e. below k (ap (is_in_runs k) all ∙ in_last k rs last e)))))
    (λ k e. below k (ap (is_in_runs k) all ∙ in_others k rs last e)))
    c.join.ensures.below

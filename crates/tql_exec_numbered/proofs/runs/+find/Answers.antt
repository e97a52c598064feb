-- The first run, and the others.
use Rattle.std.proofs.Common.{◌∙◌, ◌∷◌, ap, subst, sym, ⊎_elim}
use Rattle.std.specs.Prelude.{List, ℕ}
use Rattle.std.proofs.lemmas.Bool.{or_cases}
use Rattle.std.proofs.lemmas.List.Elements.{All-head, All-tail}
use Rattle.tql_exec_numbered.specs.Runs.{has_number, is_in_runs, numbers_in, AreRuns, IsRun}
use Rattle.tql_exec_numbered.proofs.Joined.{none_weaker}
use Rattle.tql_exec_numbered.proofs.runs.+find.Goals as goal

pub returns-in-Some-find_in-clause-some : goal.returns-in-Some-find_in-clause-some
returns-in-Some-find_in-clause-some t c = λ are.
    let rows = c.args.rows.now in
    let first : List ℕ = c.in-Some.run'.now.items in
    let others = numbers_in c.in-Some.others.now in
    let all : AreRuns rows (first ∷ others) =
    subst (λ vs. AreRuns rows (numbers_in vs)) c.in-Some.ensures.cases.0 are in
    c.in-Some-find_in.ensures.some
    (subst (IsRun rows) (sym c.as_slice.ensures.value) (All-head (IsRun rows) first others all))

pub returns-in-None-find_in-clause-some : goal.returns-in-None-find_in-clause-some
returns-in-None-find_in-clause-some t c = λ are.
    let rows = c.args.rows.now in
    let first : List ℕ = c.in-Some.run'.now.items in
    let others = numbers_in c.in-Some.others.now in
    let all : AreRuns rows (first ∷ others) =
    subst (λ vs. AreRuns rows (numbers_in vs)) c.in-Some.ensures.cases.0 are in
    c.find.ensures.some (All-tail (IsRun rows) first others all)

pub returns-in-None-find_in-clause-none : goal.returns-in-None-find_in-clause-none
returns-in-None-find_in-clause-none t c = λ are.
    let rows = c.args.rows.now in
    let first : List ℕ = c.in-Some.run'.now.items in
    let others = numbers_in c.in-Some.others.now in
    let all : AreRuns rows (first ∷ others) =
    subst (λ vs. AreRuns rows (numbers_in vs)) c.in-Some.ensures.cases.0 are in
    let none = c.in-None-find_in.ensures.none
    (subst (IsRun rows) (sym c.as_slice.ensures.value) (All-head (IsRun rows) first others all)) in
    none_weaker c.find.result
    (λ later n e got. ⊎_elim
    (λ k. none n (ap (has_number n) c.as_slice.ensures.value ∙ k) got)
    (λ k. later n k got)
    (or_cases (has_number n first) (is_in_runs n others)
    (sym (ap (λ vs. is_in_runs n (numbers_in vs)) c.in-Some.ensures.cases.0) ∙ e)))
    (c.find.ensures.none (All-tail (IsRun rows) first others all))

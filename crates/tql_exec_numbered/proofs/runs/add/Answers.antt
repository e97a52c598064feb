-- The joined run has the new number and those of the runs in whose place it comes.
use Rattle.std.proofs.Common.{◌≡◌, ◌∙◌, ◌++◌, ◌∷◌, [], ◌<◌, ◌||◌, ap, subst, sym, true, length, take}
use Rattle.std.proofs.lemmas.Bool.{or_right}
use Rattle.std.proofs.lemmas.List.Elements.{All-cons, All-nil}
use Rattle.std.proofs.lemmas.List.Sorted.{All-permutation}
use Rattle.std.proofs.lemmas.Result.{on_ok_weaker}
use Rattle.tql_exec_numbered.specs.Runs.{has_number, is_in_runs, numbers_in, AreBelow, AreRuns, IsRun}
use Rattle.tql_exec_numbered.proofs.Joined.{alone, are_runs_behind, below_in, by_outcome, kept_behind, numbers_behind}
use Rattle.tql_exec_numbered.proofs.runs.add.Goals as goal

pub returns-clause-runs : goal.returns-clause-runs
returns-clause-runs c =
    let rows = c.args.rows.now in
    let vs = c.args.runs.now.items in
    let rs = numbers_in vs in
    let news = c.put_behind.new.runs.items in
    let stay = c.in_ok-stay.stay in
    let run = c.sort.new.run in
    let bound = length rows in
    let start : c.push.new.self.items ≡ c.args.number ∷ [] =
    c.in_ok-push.ensures.items ∙ ap (λ xs. xs ++ c.args.number ∷ []) c.new-run.ensures.items in
    let first : AreBelow bound c.push.new.self.items =
    subst (AreBelow bound) (sym start)
    (All-cons (λ n. n < bound) c.args.number [] c.requires.number (All-nil (λ n. n < bound))) in
    let joined : AreBelow bound c.join.new.run.items =
    c.in_ok-stay.ensures.below bound first
    (λ k e. below_in rows k rs c.requires.runs
    (ap (λ ws. is_in_runs k (numbers_in ws)) (sym c.as_slice.ensures.value) ∙ e)) in
    let is : IsRun rows run.items = (
      All-permutation (λ n. n < bound) c.join.new.run.items run.items c.sort.ensures.same joined,
      c.sort.ensures.sorted,
    ) in
    by_outcome c.put_behind.result c.put_behind.ensures.ok c.put_behind.ensures.err
    (λ now. subst (AreRuns rows) (sym (ap numbers_in now ∙ numbers_behind vs stay run))
    (are_runs_behind rows rs stay run.items c.requires.runs is))
    (λ now. subst (AreRuns rows) (sym (ap numbers_in now)) c.requires.runs)

pub returns-clause-added : goal.returns-clause-added
returns-clause-added c =
    let vs = c.args.runs.now.items in
    let rs = numbers_in vs in
    let n = c.args.number in
    let stay = c.in_ok-stay.stay in
    let run = c.sort.new.run in
    let start : c.push.new.self.items ≡ n ∷ [] =
    c.in_ok-push.ensures.items ∙ ap (λ xs. xs ++ n ∷ []) c.new-run.ensures.items in
    let joined : has_number n c.join.new.run.items ≡ true =
    c.in_ok-stay.ensures.old n (ap (has_number n) start ∙ alone n) in
    on_ok_weaker c.put_behind.result
    (λ now. ap (is_in_runs n) (ap numbers_in now ∙ numbers_behind vs stay run)
    ∙ kept_behind n stay rs c.join.new.run.items run.items c.sort.ensures.same
    (or_right (is_in_runs n (take stay rs)) (has_number n c.join.new.run.items) joined))
    c.put_behind.ensures.ok

pub returns-clause-kept : goal.returns-clause-kept
returns-clause-kept c = λ n e.
    let vs = c.args.runs.now.items in
    let rs = numbers_in vs in
    let stay = c.in_ok-stay.stay in
    let run = c.sort.new.run in
    let are = c.as_slice.ensures.value in
    let among : (is_in_runs n (take stay rs) || has_number n c.join.new.run.items) ≡ true =
    ap (λ ws. is_in_runs n (take stay (numbers_in ws)) || has_number n c.join.new.run.items) (sym are)
    ∙ c.in_ok-stay.ensures.all n (ap (λ ws. is_in_runs n (numbers_in ws)) are ∙ e) in
    by_outcome c.put_behind.result c.put_behind.ensures.ok c.put_behind.ensures.err
    (λ now. ap (is_in_runs n) (ap numbers_in now ∙ numbers_behind vs stay run)
    ∙ kept_behind n stay rs c.join.new.run.items run.items c.sort.ensures.same among)
    (λ now. ap (λ ws. is_in_runs n (numbers_in ws)) now ∙ e)

-- A row whose number is in none of its slots is in a run.
use Rattle.std.proofs.Common.{◌≡◌, ◌∙◌, ap, false, length, subst, sym, true}
use Rattle.std.specs.Prelude.{◌||◌}
use Rattle.tql_exec_numbered.specs.Numbered.{seen}
use Rattle.tql_exec_numbered.specs.Runs.{is_in_runs, numbers_in}
use Rattle.tql_exec_numbered.specs.Slots.{first_place, is_kept, is_reached}
use Rattle.tql_exec_numbered.proofs.Joined.{none_weaker}
use Rattle.tql_exec_numbered.proofs.numbered.number_of.Goals as goal

pub returns-in-None-clause-some : goal.returns-in-None-clause-some
returns-in-None-clause-some c = c.find.ensures.some c.requires.filed.0

pub returns-in-None-clause-none : goal.returns-in-None-clause-none
returns-in-None-clause-none c =
    let rows = c.args.rows.now in
    let slots = c.args.slots.now in
    let runs = numbers_in c.args.runs.now in
    let r = seen c.args.row.now in
    none_weaker c.find.result
    (λ none n got.
    let at = first_place (length slots) c.args.digest in
    let kept : is_kept slots runs at n ≡ true =
    subst (λ d. is_kept slots runs (first_place (length slots) d) n ≡ true) (sym c.requires.digest)
    (c.requires.filed.1 n r got) in
    let apart : is_reached 32 slots at n ≡ false = c.in-None.ensures.none n got in
    none n (sym (ap (λ b. b || is_in_runs n runs) apart) ∙ kept) got)
    (c.find.ensures.none c.requires.filed.0)

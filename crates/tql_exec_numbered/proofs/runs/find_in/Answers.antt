-- What halving finds, and that nothing else is there.
use Rattle.std.proofs.Common.{rules}
use Rattle.std.proofs.lemmas.Fn.{always_returns_same}
use Rattle.tql_exec_numbered.specs.Numbered.{seen}
use Rattle.tql_exec_numbered.proofs.Searched.{absent, by_row, found_at}
use Rattle.tql_exec_numbered.proofs.runs.find_in.Goals as goal

pub returns-in-Ok-clause-some : goal.returns-in-Ok-clause-some
returns-in-Ok-clause-some c = λ is.
    let rows = c.args.rows.now in
    let x = seen c.args.row.now in
    let ends = c.in-Ok.ensures.position (by_row rows x)
    (always_returns_same _ _ _ (λ a r f' k. (search rules, search rules))) in
    found_at rows x c.args.run.now is c.in-Ok.at c.in-Ok.ensures.bound ends

pub returns-in-Err-clause-none : goal.returns-in-Err-clause-none
returns-in-Err-clause-none c = λ is.
    let rows = c.args.rows.now in
    let x = seen c.args.row.now in
    let ends = c.in-Err.ensures.position (by_row rows x)
    (always_returns_same _ _ _ (λ a r f' k. (search rules, search rules))) in
    absent rows x c.args.run.now is c.in-Err.field-0 ends

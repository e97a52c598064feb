-- The end of the row before.
use Rattle.std.proofs.Common.{◌≡◌, ◌-◌, ◌∙◌, ap, arith, suc}
use Rattle.tql_exec_numbered.specs.Rows.{start_at}
use Rattle.tql_exec_numbered.proofs.Parts.{start_is}
use Rattle.tql_exec_numbered.proofs.rows.start_in.Goals as goal

pub returns-else-number-eq0 : goal.returns-else-number-eq0
returns-else-number-eq0 c =
    let marks = c.args.marks.now in
    let n = c.args.number in
    let next : suc (n - 1) ≡ n = omega (arith, c.if-number-eq0.false) in
    start_is 0 marks (n - 1) _ (omega (arith, c.if-number-eq0.false, c.requires)) ∙ ap (start_at 0 marks) next

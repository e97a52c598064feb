use Rattle.std.proofs.Common.{◌≡◌, ℕ, ◌+◌, min, List, [], ◌++◌, Some, refl, sym, ap, ◌∙◌, arith}
use Rattle.std.proofs.lemmas.Option.{same_Some}
use Rattle.tql_result.specs.Replies.{answer_of}
use Rattle.tql_run_forms.specs.Faults.{json_of}
use Rattle.tql_run_forms.specs.Forms.{most_numbers}
use Rattle.tql_host_cursor.proofs.json.json_line.Goals as goal

pub returns-in-Ok : goal.returns-in-Ok
returns-in-Ok c =
    let start : Some c.new-sink.result.bytes.items ≡ Some [] =
    c.new-sink.ensures.written ∙ ap Some c.new.ensures.items in
    let pushed = c.in-Ok.ensures.exact.whole.holds [] start in
    let is : c.into_bytes.result.items
    ≡ json_of (min (c.new-2.result.statements + 1) most_numbers) c.args.line c.args.detail
    (answer_of c.args.answer.now) = same_Some _ _ (sym c.into_bytes.ensures ∙ pushed) in
    let none = c.new-2.ensures in
    let one : min (c.new-2.result.statements + 1) most_numbers ≡ 1 = omega arith in
    is ∙ ap (λ n. json_of n c.args.line c.args.detail (answer_of c.args.answer.now)) one

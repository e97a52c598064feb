use Rattle.std.proofs.lemmas.Option.{slice_get_read}
use borrow.Author.Tests.{ltb-true}
use Rattle.std.proofs.Common.{◌≡◌, rules, tests, sym, ap, ◌∙◌, Some, length, refl}
use Rattle.std.specs.Prelude.{slice_get}
use Rattle.tql_expr.specs.Shown.{shown_by}
use Rattle.tql_key_rows.proofs.Stepping.{new_row}
use Rattle.tql_key_failures.proofs.Parts.{new_at}
use Rattle.tql_key_failures.proofs.failures.added_row.Goals as goal

pub returns : goal.returns
returns c =
    let d = c.args.definition.now in
    let m = c.args.change.now.moment in
    let added = c.args.change.now.added.now in
    let v = c.in_ok-row.row.now in
    let k = c.in_ok-row.ensures.lookup in
    let there : slice_get added c.args.number ≡ Some v = slice_get_read added (length added) c.args.number v refl
    (ltb-true c.args.number (length added) (sym k.0)) k.1 in
    let row : shown_by c.current_row.result ≡ new_row d m v = search (rules, tests) in
    ap Some row ∙ sym (new_at d m added c.args.number v there)

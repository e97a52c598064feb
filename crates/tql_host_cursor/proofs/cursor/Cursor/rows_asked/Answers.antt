use Rattle.std.proofs.Common.{take, drop, sym, ap, ◌∙◌}
use Rattle.tql_value.specs.Views.{rows_of}
use Rattle.tql_host_cursor.specs.Parts.{rows_asked}
use Rattle.tql_host_cursor.proofs.Rows.{rows_taken}
use Rattle.tql_host_cursor.proofs.cursor.Cursor.rows_asked.Goals as goal

pub returns : goal.returns
returns c =
    let rows = c.rows_of-rows.result.now in let gone = c.self.inside.gone in
    ap rows_of (c.front.ensures
    ∙ ap (take c.args.count) (c.behind-rest.ensures ∙ ap (drop c.args.start) c.behind-left.ensures))
    ∙ sym (rows_taken rows gone c.args.start c.args.count)
    ∙ ap (λ rs. take c.args.count (drop c.args.start (drop gone rs))) c.rows_of-rows.ensures
    ∙ ap (rows_asked c.args.start c.args.count) c.self.view_is

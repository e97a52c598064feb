use Rattle.std.proofs.Common.{drop, ap, ◌∙◌}
use Rattle.std.proofs.lemmas.List.{drop_min, take_rest}
use Rattle.tql_host_cursor.proofs.cursor.behind.Goals as goal

pub returns : goal.returns
returns c =
    take_rest c.args.rows.now c.least.result ∙ ap (λ m. drop m c.args.rows.now) c.least.ensures
    ∙ drop_min c.args.count c.args.rows.now

use Rattle.std.proofs.Common.{take, ap, ◌∙◌}
use Rattle.std.proofs.lemmas.List.{take_min}
use Rattle.tql_host_cursor.proofs.cursor.front.Goals as goal

pub returns : goal.returns
returns c = ap (λ m. take m c.args.rows.now) c.least.ensures ∙ take_min c.args.count c.args.rows.now

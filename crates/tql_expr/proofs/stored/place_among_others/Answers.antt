use Rattle.std.proofs.Common.{◌≡◌, ◌<◌, ap, sym, ◌∙◌, min, length}
use Rattle.std.proofs.lemmas.Cmp.{ranked}
use Rattle.tql_expr.proofs.Inserted.{read_behind}
use Rattle.tql_expr.proofs.stored.place_among_others.Goals as goal

pub returns-in-Greater : goal.returns-in-Greater
returns-in-Greater c = λ row v is.
    let at : c.min.result ≡ min c.args.added (length row) = c.min.ensures ∙ ap (min c.args.added) (sym is) in
    let past : c.min.result < c.args.place = ranked c.args.place c.min.result _ c.in-Greater.ensures in
    read_behind row c.args.added c.min.result c.args.place v at past

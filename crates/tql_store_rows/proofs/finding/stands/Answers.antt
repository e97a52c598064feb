use Rattle.tql_store_rows.proofs.Picked.{stands_is}
use Rattle.tql_store_rows.proofs.finding.stands.Goals as goal

pub returns : goal.returns
returns g c =
    stands_is c.args.seats.now c.args.indexes.now c.args.place c.has_any.result c.has_any.ensures.some
    c.has_any.ensures.none

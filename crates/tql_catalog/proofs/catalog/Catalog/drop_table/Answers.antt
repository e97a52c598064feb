use Rattle.std.proofs.Common.{sym, subst}
use Rattle.tql_catalog.specs.Tables.{definitions_of, Refuses}
use Rattle.tql_catalog.proofs.ReferringLists.{fault_there}
use Rattle.tql_catalog.proofs.catalog.Catalog.drop_table.Goals as goal

pub returns-in-Some-clause-told : goal.returns-in-Some-clause-told
returns-in-Some-clause-told c =
    let defs = definitions_of c.args.self.now in
    subst (λ o. Refuses o c.drop_at.result)
    (sym (fault_there defs c.args.name.now c.in-Some.place c.in-Some.ensures.place)) c.drop_at.ensures.told

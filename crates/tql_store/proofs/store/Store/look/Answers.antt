use Rattle.std.proofs.Common.{Option, IfOk, option_map, sym, subst}
use Rattle.tql_store_index.specs.Basis.{is_looked_at, sought_of}
use Rattle.tql_store_index.specs.declared.basis.Sought.{Sought}
use Rattle.tql_store.specs.Views.{IsFound}
use Rattle.tql_store.proofs.Searching.{looked_at_all}
use Rattle.tql_store.proofs.store.Store.look.Goals as goal

pub returns-in-None : goal.returns-in-None
returns-in-None g c =
    subst (λ (o : Option Sought). IfOk c.found.result (λ found. IsFound c.args.self.now c.args.table c.args.when
    (is_looked_at (option_map sought_of o)) found.items)) (sym c.in-None.is)
    (looked_at_all c.args.self.now c.args.table c.args.when (λ found. found.items) c.found.result
    c.found.ensures.versions c.found.ensures.ids c.found.ensures.once c.found.ensures.copies)

pub returns-in-Some : goal.returns-in-Some
returns-in-Some g c =
    subst (λ (o : Option Sought). IfOk c.search.result (λ found. IsFound c.args.self.now c.args.table c.args.when
    (is_looked_at (option_map sought_of o)) found.items)) (sym c.in-Some.is) c.search.ensures

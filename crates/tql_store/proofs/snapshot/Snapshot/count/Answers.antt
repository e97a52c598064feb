use Rattle.std.proofs.Common.{sym, ap, subst, ◌∙◌}
use Rattle.std.proofs.lemmas.Option.{IfSome_then}
use Rattle.tql_store.specs.Pinned.{store_at}
use Rattle.tql_store.specs.StoreModel.{StoreModel}
use Rattle.tql_store.specs.Views.{CountsNow}
use Rattle.tql_store.specs.declared.snapshot.Position.{Position}
use Rattle.tql_store.proofs.snapshot.Snapshot.count.Goals as goal

pub returns-in-Now : goal.returns-in-Now
returns-in-Now g c = IfSome_then c.count.result c.count.ensures (λ n is.
    subst (λ (h : StoreModel). CountsNow h c.args.table n)
    (ap (λ (q : Position). store_at q c.self.inside.store.now) (sym c.in-Now.is) ∙ c.self.view_is) is)

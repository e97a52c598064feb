use Rattle.std.proofs.Common.{sym, ap, subst, ◌∙◌}
use Rattle.tql_versions.specs.Views.{versions_of}
use Rattle.tql_store.specs.Pinned.{store_at}
use Rattle.tql_store.specs.StoreModel.{StoreModel}
use Rattle.tql_store.specs.Views.{AreRowsNow}
use Rattle.tql_store.specs.declared.snapshot.Position.{Position}
use Rattle.tql_store.proofs.snapshot.Snapshot.current.Goals as goal

pub returns-in-Now : goal.returns-in-Now
returns-in-Now g c =
    subst (λ (h : StoreModel). AreRowsNow h c.args.table (versions_of c.current.result.now))
    (ap (λ (q : Position). store_at q c.self.inside.store.now) (sym c.in-Now.is) ∙ c.self.view_is) c.current.ensures

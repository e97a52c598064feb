use Rattle.std.proofs.Common.{None, sym, ap, subst, ◌∙◌}
use Rattle.std.specs.Prelude.{IfOk}
use Rattle.std.proofs.lemmas.Result.{IfOk-weaker}
use Rattle.tql_store_index.specs.Basis.{is_looked_at}
use Rattle.tql_store.proofs.Searching.{all-versions, all-once, all-copies}
use Rattle.tql_store.specs.Pinned.{store_at}
use Rattle.tql_store.specs.StoreModel.{StoreModel}
use Rattle.tql_store.specs.Views.{IsFound}
use Rattle.tql_store.specs.declared.snapshot.Position.{Position}
use Rattle.tql_store.proofs.snapshot.Snapshot.found.Given as given
use Rattle.tql_store.proofs.snapshot.Snapshot.found.Goals as goal

-- the result of `look_at`, for the store shown
looked_at : (g : given.Over) (c : goal.After-look_at g)
    → IfOk c.look_at.result (λ found. IsFound c.args.self.now c.args.table c.args.when (is_looked_at None) found.items)
looked_at g c =
    subst (λ (h : StoreModel). IfOk c.look_at.result (λ found. IsFound h c.args.table c.args.when (is_looked_at None)
    found.items)) (ap (λ (q : Position). store_at q c.self.inside.store.now) (sym c.in-At.is) ∙ c.self.view_is)
    c.look_at.ensures

pub returns-in-At-clause-versions : goal.returns-in-At-clause-versions
returns-in-At-clause-versions g c = IfOk-weaker c.look_at.result _ _
    (λ found is. all-versions c.args.self.now c.args.table c.args.when found.items is) (looked_at g c)

pub returns-in-At-clause-once : goal.returns-in-At-clause-once
returns-in-At-clause-once g c = IfOk-weaker c.look_at.result _ _
    (λ found is. all-once c.args.self.now c.args.table c.args.when found.items is) (looked_at g c)

pub returns-in-At-clause-copies : goal.returns-in-At-clause-copies
returns-in-At-clause-copies g c = IfOk-weaker c.look_at.result _ _
    (λ found is. all-copies c.args.self.now c.args.table c.args.when found.items is) (looked_at g c)

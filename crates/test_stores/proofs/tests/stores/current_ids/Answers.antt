use Rattle.std.proofs.Common.{◌∙◌, sym, ap, subst, map, List, ℕ}
use Rattle.tql_store.specs.StoreModel.{AreRemovable}
use Rattle.tql_versions.specs.declared.version.Version.{Version}
use Rattle.tql_store.proofs.Judging.{all_removable}
use Rattle.test_stores.proofs.tests.stores.current_ids.Goals as goal

pub returns : goal.returns
returns g c =
    subst (λ (ids : List ℕ). AreRemovable c.args.store.now c.args.table ids) (sym (c.in_ok-ids.ensures
    ∙ ap (map (λ (v : Version). v.id)) c.deref.ensures.value))
    (all_removable c.args.store.now c.args.table c.in_ok-found.found.items c.in_ok-found.ensures.ids
    c.in_ok-found.ensures.once)

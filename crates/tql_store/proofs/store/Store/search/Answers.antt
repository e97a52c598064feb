use Rattle.std.proofs.Common.{◌≡◌, true, [], List, All, map, filter, rules, refl, arith, sym, ap, subst, ◌∙◌}
use Rattle.std.specs.Prelude.{Some, slice_index_or}
use Rattle.std.proofs.lemmas.Grind.{common_steps}
use Rattle.tql_spec.specs.Bag.{SameBag}
use Rattle.tql_spec.specs.Definition.{Version}
use Rattle.tql_store_index.specs.Basis.{is_sought, sought_of}
use Rattle.tql_versions.specs.Changes.{alive}
use Rattle.tql_versions.specs.Readings.{version_shown, Names, NamesOnce}
use Rattle.tql_store_rows.specs.Wanted.{chosen}
use Rattle.tql_store.specs.StoreModel.{StoreModel}
use Rattle.tql_store.specs.TableSlots.{slot_at, is_taken}
use Rattle.tql_store.specs.Orderly.{table_at}
use Rattle.tql_store.proofs.Numbers.{element-at, taken-within}
use Rattle.tql_store.proofs.Searching.{answers-by}
use Rattle.tql_store.proofs.Storing.{IsRead, IsReadable, readable-at, shows, versions-of}
use Rattle.tql_store.proofs.store.Store.search.Given as given
use Rattle.tql_store.proofs.store.Store.search.Goals as goal

-- the table that is read
read : (g : given.Over) (c : goal.In_ok-found g) → IsRead c.args.self.now c.args.table c.index.result.now
read g c =
    let there : is_taken (slot_at c.self.inside.places.items c.args.table) ≡ true =
    ap (λ (h : StoreModel). is_taken (slot_at h.tables c.args.table)) c.self.view_is ∙ c.requires.there in
    let element : c.index.result.now ≡ slice_index_or c.self.inside.rows.items c.args.table c.index.result.now =
    first_of (search rules, grind (arith, common_steps)) in
    let at : c.index.result.now ≡ table_at c.self.inside.rows.items c.args.table =
    element-at c.self.inside.rows.items c.args.table c.args.table c.index.result.now element refl
    (taken-within c.self.inside.places.items c.self.inside.rows.items c.args.table c.self.invariant.even there) in
    record {
      shown = versions-of c.self.inside.rows.items c.args.self.now c.args.table c.index.result.now
          (shows c.self.inside.places.items c.self.inside.rows.items c.self.inside.working c.self.inside.last
          c.self.inside.horizon c.args.self.now c.self.view_is) at;
      readable = subst IsReadable (sym at)
          (readable-at c.self.inside.places.items c.self.inside.rows.items c.self.inside.touched.items
          c.self.inside.working c.self.inside.last c.self.invariant c.args.table);
    }

bag : (g : given.Over) (c : goal.In_ok-found g) → SameBag (map version_shown c.in_ok-found.found.items)
    (filter (chosen c.args.when (Some (sought_of c.args.sought)))
    (filter alive (slice_index_or c.args.self.now.versions c.args.table [])))
bag g c =
    let r = read g c in
    subst (λ (vs : List Version). SameBag (map version_shown c.in_ok-found.found.items)
    (filter (chosen c.args.when (Some (sought_of c.args.sought))) (filter alive vs))) (sym r.shown)
    (c.in_ok-found.ensures.bag r.readable.ended)

pub returns : goal.returns
returns g c =
    let r = read g c in
    record {
      versions = bag g c;
      ids = subst (λ (vs : List Version). All (Names vs) c.in_ok-found.found.items) (sym r.shown)
          c.in_ok-found.ensures.ids;
      once = subst (λ (vs : List Version). NamesOnce (chosen c.args.when (Some (sought_of c.args.sought))) vs
          c.in_ok-found.found.items) (sym r.shown) (c.in_ok-found.ensures.once r.readable.ended);
      copies = answers-by c.args.self.now c.args.table c.args.when (is_sought (sought_of c.args.sought)) _
          c.requires.versioned (bag g c);
    }

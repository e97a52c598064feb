use Rattle.std.proofs.Common.{◌≡◌, true, List, rules, refl, arith, sym, ap, subst, ◌∙◌}
use Rattle.std.specs.Prelude.{slice_get, slice_index_or}
use Rattle.std.proofs.lemmas.Grind.{common_steps}
use Rattle.tql_spec.specs.Definition.{Version}
use Rattle.tql_versions.specs.Readings.{where_open}
use Rattle.tql_store.specs.StoreModel.{StoreModel}
use Rattle.tql_store.specs.TableSlots.{slot_at, is_taken}
use Rattle.tql_store.specs.Orderly.{table_at}
use Rattle.tql_store.proofs.Numbers.{element-at, taken-within}
use Rattle.tql_store.proofs.Storing.{IsRead, IsReadable, readable-at, shows, versions-of}
use Rattle.tql_store.proofs.store.Store.row.Given as given
use Rattle.tql_store.proofs.store.Store.row.Goals as goal

-- the table that is read
read : (g : given.Over) (c : goal.After-row g) → IsRead c.args.self.now c.args.table c.index.result.now
read g c =
    let there : is_taken (slot_at c.self.inside.places.items c.args.table) ≡ true =
    ap (λ (h : StoreModel). is_taken (slot_at h.tables c.args.table)) c.self.view_is ∙ c.requires in
    let element : c.index.result.now ≡ slice_index_or c.self.inside.rows.items c.args.table c.index.result.now =
    first_of (search rules, grind (arith, common_steps)) in
    let at : c.index.result.now ≡ table_at c.self.inside.rows.items c.args.table =
    element-at c.self.inside.rows.items c.args.table c.args.table c.index.result.now element refl
    (taken-within c.self.inside.places.items c.self.inside.rows.items c.args.table c.self.invariant.even there) in
    record {
      shown = versions-of c.self.inside.rows.items c.args.self.now c.args.table c.index.result.now
          (shows c.self.inside.places.items c.self.inside.rows.items c.self.inside.working c.self.inside.last
          c.self.inside.horizon c.args.self.now c.self.view_is) at;
      readable = subst IsReadable (sym at)
          (readable-at c.self.inside.places.items c.self.inside.rows.items c.self.inside.touched.items
          c.self.inside.working c.self.inside.last c.self.invariant c.args.table);
    }

pub returns-clause-row : goal.returns-clause-row
returns-clause-row g c =
    let r = read g c in
    c.row.ensures.row r.readable.ended
    ∙ ap (λ (vs : List Version). where_open (slice_get vs c.args.id)) (sym r.shown)

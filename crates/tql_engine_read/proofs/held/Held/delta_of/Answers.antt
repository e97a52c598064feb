use Rattle.std.proofs.Common.{◌≡◌, ℕ, sym, subst, ◌∙◌, Some, List, map, length, All}
use Rattle.std.specs.Prelude.{slice_get, Option}
use Rattle.tql_bound.specs.declared.change.Modification.{Modification}
use Rattle.tql_catalog.specs.Rows.{stored_width}
use Rattle.tql_catalog.specs.declared.catalog.Table.{Table}
use Rattle.tql_dml.specs.Alters.{portion_in}
use Rattle.tql_expr.specs.Meaning.{cond}
use Rattle.tql_expr.specs.declared.terms.CondId.{CondId}
use Rattle.tql_plan_access.specs.Access.{ServesChange}
use Rattle.tql_store.specs.Views.{IsFound}
use Rattle.tql_store_index.specs.Basis.{Sought, is_looked_at}
use Rattle.tql_versions.specs.declared.version.Version.{Version}
use Rattle.tql_value.specs.declared.when.When.TheVariants.{Now}
use Rattle.tql_engine_state.specs.Modifying.{Makes, Made}
use Rattle.tql_engine_state.specs.Stands.{EngineModel}
use Rattle.tql_engine_state.proofs.Modifying.{makes_of}
use Rattle.tql_engine_state.proofs.Shown.{current_shown}
use Rattle.tql_engine_state.proofs.Standing.{some_is}
use Rattle.tql_engine_read.proofs.Reading.{in_store, widths}
use Rattle.tql_engine_read.proofs.held.Held.delta_of.Goals as goal

pub current-current-requires : goal.current-current-requires
current-current-requires g c =
    in_store _ c.args.self.now c.self.invariant.state c.args.modification.now.table c.table_at-table.result.now
    c.self.view_is c.self.invariant.stands c.table_at-table.ensures

pub look-requires-clause-there : goal.look-requires-clause-there
look-requires-clause-there g c =
    in_store _ c.args.self.now c.self.invariant.state c.args.modification.now.table c.table_at-table.result.now
    c.self.view_is c.self.invariant.stands c.table_at-table.ensures

pub modify-requires : goal.modify-requires
modify-requires g c =
    let p : Table = c.table_at-table.result.now in
    let x : Modification = c.args.modification.now in
    let o : Option Sought = c.in_ok-access.access in
    let there = subst (λ (h : EngineModel). slice_get h.tables x.table ≡ Some p) (sym c.self.view_is)
    c.table_at-table.ensures in
    let found = subst (λ (w : Option Sought). IsFound c.self.inside.store.now p.id Now (is_looked_at w)
    c.in_ok-seen-in-Some.seen.items) c.in-Some.ensures c.in_ok-seen-in-Some.ensures in
    subst (λ (vs : List Version). All (λ (v : Version). length v.kept.now.row ≡ stored_width p.definition) vs)
    (sym c.deref-in-Some.ensures.value)
    (widths _ c.self.invariant.state x.table p (is_looked_at o) c.in_ok-seen-in-Some.seen.items
    c.self.invariant.stands there found)

pub returns-in-Some : goal.returns-in-Some
returns-in-Some g c p e =
    let q : Table = c.table_at-table.result.now in
    let x : Modification = c.args.modification.now in
    let o : Option Sought = c.in_ok-access.access in
    let there = subst (λ (h : EngineModel). slice_get h.tables x.table ≡ Some q) (sym c.self.view_is)
    c.table_at-table.ensures in
    let made : Made c.self.inside.store.now q x c.modify.result = record {
      looks = is_looked_at o;
      serves = subst (λ (ids : List CondId).
          ServesChange q.definition (portion_in x) (map (cond x.terms) ids) (is_looked_at o))
          c.deref.ensures.value c.in_ok-access.ensures.serves;
      shown = current_shown _ c.self.invariant.state x.table q c.self.invariant.stands c.self.invariant.typed there;
      seen = c.deref-in-Some.result.now;
      found = subst (λ (vs : List Version). IsFound c.self.inside.store.now q.id Now (is_looked_at o) vs)
          (sym c.deref-in-Some.ensures.value)
          (subst (λ (w : Option Sought). IsFound c.self.inside.store.now q.id Now (is_looked_at w)
          c.in_ok-seen-in-Some.seen.items) c.in-Some.ensures c.in_ok-seen-in-Some.ensures);
      alters = c.modify.ensures.alters;
      fits = c.modify.ensures.fits;
    } in
    subst (λ (t : Table). Makes c.args.self.now.store t x c.modify.result) (some_is q p (sym c.table_at-table.ensures
    ∙ e))
    (subst (λ (h : EngineModel). Makes h.store q x c.modify.result) c.self.view_is
    (makes_of c.self.inside.store.now q x c.modify.result made))

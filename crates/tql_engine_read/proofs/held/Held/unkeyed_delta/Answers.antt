use Rattle.std.proofs.Common.{◌≡◌, ℕ, Bool, sym, subst, refl, ◌∙◌, None, Some, List, map, length, All}
use Rattle.std.specs.Prelude.{slice_get, IfSome, IsTrue, Option}
use Rattle.std.proofs.lemmas.List.Elements.{All-weaker}
use Rattle.tql_spec.specs.Datum.{Row}
use Rattle.tql_spec.specs.Machine.{State}
use Rattle.tql_spec.specs.Period.{Period}
use Rattle.tql_bound.specs.declared.change.Modification.{Modification}
use Rattle.tql_catalog.specs.Rows.{stored_width}
use Rattle.tql_catalog.specs.declared.catalog.Table.{Table}
use Rattle.tql_dml.specs.Alters.{IsVersionOf, portion_in}
use Rattle.tql_dml.specs.Current.{open_versions}
use Rattle.tql_expr.specs.Meaning.{cond}
use Rattle.tql_expr.specs.declared.terms.CondId.{CondId}
use Rattle.tql_plan_access.specs.Access.{ServesChange}
use Rattle.tql_plan_access.specs.Alternatives.{has_any, values_of}
use Rattle.tql_plan_access.specs.declared.alternatives.Alternatives.{Alternatives}
use Rattle.tql_store.specs.StoreModel.{has_table}
use Rattle.tql_store.specs.Views.{IsFound}
use Rattle.tql_store_index.specs.Basis.{is_looked_at}
use Rattle.tql_versions.specs.declared.version.Version.{Version}
use Rattle.tql_value.specs.declared.when.When.TheVariants.{Now}
use Rattle.tql_engine_state.specs.Modifying.{Makes, Made}
use Rattle.tql_engine_state.specs.Stands.{EngineModel, StandsFor}
use Rattle.tql_engine_state.proofs.CurrentRows.{found_now}
use Rattle.tql_engine_state.proofs.Modifying.{makes_of}
use Rattle.tql_engine_state.proofs.Shown.{current_shown}
use Rattle.tql_engine_state.proofs.Standing.{some_is}
use Rattle.tql_engine_read.proofs.Reading.{in_store, widths}
use Rattle.tql_engine_read.proofs.held.Held.unkeyed_delta.Goals as goal

pub current-current-requires : goal.current-current-requires
current-current-requires g c =
    in_store _ c.args.self.now c.self.invariant.state c.args.modification.now.table c.table_at-table.result.now
    c.self.view_is c.self.invariant.stands c.table_at-table.ensures

pub current_with_any-requires : goal.current_with_any-requires
current_with_any-requires g c =
    in_store _ c.args.self.now c.self.invariant.state c.args.modification.now.table c.table_at-table.result.now
    c.self.view_is c.self.invariant.stands c.table_at-table.ensures

pub modify_current-requires : goal.modify_current-requires
modify_current-requires g c =
    let p : Table = c.table_at-table.result.now in
    let x : Modification = c.args.modification.now in
    let there = subst (λ (h : EngineModel). slice_get h.tables x.table ≡ Some p) (sym c.self.view_is)
    c.table_at-table.ensures in
    widths _ c.self.invariant.state x.table p (is_looked_at None) (open_versions c.current-current.result.now)
    c.self.invariant.stands there
    (found_now c.self.inside.store.now p.id c.current-current.result.now c.current-current.ensures)

pub modify-requires : goal.modify-requires
modify-requires g c =
    let p : Table = c.table_at-table.result.now in
    let x : Modification = c.args.modification.now in
    let a : Alternatives = c.in-Some.values.now in
    let there = subst (λ (h : EngineModel). slice_get h.tables x.table ≡ Some p) (sym c.self.view_is)
    c.table_at-table.ensures in
    subst (λ (vs : List Version). All (λ (v : Version). length v.kept.now.row ≡ stored_width p.definition) vs)
    (sym c.deref-in-Some.ensures.value)
    (widths _ c.self.invariant.state x.table p (has_any a.column (values_of a)) c.in_ok-seen-in-Some.seen.items
    c.self.invariant.stands there c.in_ok-seen-in-Some.ensures)

pub returns-in-None : goal.returns-in-None
returns-in-None g c p e =
    let q : Table = c.table_at-table.result.now in
    let x : Modification = c.args.modification.now in
    let seen : List Version = open_versions c.current-current.result.now in
    let there = subst (λ (h : EngineModel). slice_get h.tables x.table ≡ Some q) (sym c.self.view_is)
    c.table_at-table.ensures in
    let made : Made c.self.inside.store.now q x c.modify_current.result = record {
      looks = is_looked_at None;
      serves = λ cells start end r m. refl;
      shown = current_shown _ c.self.invariant.state x.table q c.self.invariant.stands c.self.invariant.typed there;
      seen = seen;
      found = found_now c.self.inside.store.now q.id c.current-current.result.now c.current-current.ensures;
      alters = c.modify_current.ensures.alters;
      fits = c.modify_current.ensures.fits;
    } in
    subst (λ (t : Table). Makes c.args.self.now.store t x c.modify_current.result)
    (some_is q p (sym c.table_at-table.ensures ∙ e))
    (subst (λ (h : EngineModel). Makes h.store q x c.modify_current.result) c.self.view_is
    (makes_of c.self.inside.store.now q x c.modify_current.result made))

pub returns : goal.returns
returns g c p e =
    let q : Table = c.table_at-table.result.now in
    let x : Modification = c.args.modification.now in
    let a : Alternatives = c.in-Some.values.now in
    let looks : Row → Bool = has_any a.column (values_of a) in
    let there = subst (λ (h : EngineModel). slice_get h.tables x.table ≡ Some q) (sym c.self.view_is)
    c.table_at-table.ensures in
    let changes : (portion : Option Period)
    → ServesChange q.definition portion (map (cond x.terms) c.deref.result.now) looks =
    subst (λ (o : Option Alternatives). IfSome o (λ b. (portion : Option Period)
    → ServesChange q.definition portion (map (cond x.terms) c.deref.result.now)
    (has_any b.column (values_of b)))) c.in-Some.ensures c.in_ok-found.ensures.changes in
    let made : Made c.self.inside.store.now q x c.modify.result = record {
      looks = looks;
      serves = subst (λ (ids : List CondId). ServesChange q.definition (portion_in x) (map (cond x.terms) ids) looks)
          c.deref.ensures.value (changes (portion_in x));
      shown = current_shown _ c.self.invariant.state x.table q c.self.invariant.stands c.self.invariant.typed there;
      seen = c.deref-in-Some.result.now;
      found = subst (λ (vs : List Version). IsFound c.self.inside.store.now q.id Now looks vs)
          (sym c.deref-in-Some.ensures.value) c.in_ok-seen-in-Some.ensures;
      alters = c.modify.ensures.alters;
      fits = c.modify.ensures.fits;
    } in
    subst (λ (t : Table). Makes c.args.self.now.store t x c.modify.result) (some_is q p (sym c.table_at-table.ensures
    ∙ e))
    (subst (λ (h : EngineModel). Makes h.store q x c.modify.result) c.self.view_is
    (makes_of c.self.inside.store.now q x c.modify.result made))

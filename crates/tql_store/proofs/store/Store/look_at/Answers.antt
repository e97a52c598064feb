use Rattle.std.proofs.Common.{◌≡◌, true, ℤ, List, [], Option, Some, None, map, refl, sym, ap, subst, ◌∙◌, to_z, of_z}
use Rattle.std.proofs.Common.{w64, rules, option_map}
use Rattle.std.specs.Prelude.{slice_index_or}
use Rattle.std.proofs.Math.Facts.{to_z-of_z}
use Rattle.std.proofs.lemmas.Result.{IfOk-weaker}
use Rattle.tql_store_index.specs.Basis.{is_looked_at, sought_of}
use Rattle.tql_versions.specs.declared.version.Version.{Version}
use Rattle.tql_store.proofs.Ends.{AreBounded, are-bounded}
use Rattle.tql_store.proofs.Looking.{found-at, none-found}
use Rattle.tql_store.proofs.Storing.{shows, versions-of}
use Rattle.tql_store.specs.Orderly.{table_at}
use Rattle.tql_pinned.specs.Asked.{answer_capped, AsksAt}
use Rattle.tql_store.specs.Pinned.{pinned}
use Rattle.tql_store.specs.StoreModel.{StoreModel, has_table}
use Rattle.tql_store.specs.Views.{IsFound}
use Rattle.tql_store.proofs.store.Store.look_at.Goals as goal

pub returns-in_default : goal.returns-in_default
returns-in_default g c =
    let there : has_table (pinned None c.args.self.now) c.args.table ≡ true =
    subst (λ (q : Option ℤ). has_table (pinned q c.args.self.now) c.args.table ≡ true) c.in_default.is c.requires in
    subst (λ (q : Option ℤ). IsFound (pinned q c.args.self.now) c.args.table c.args.when
    (is_looked_at (option_map sought_of c.args.sought)) c.new.result.items) (sym c.in_default.is)
    (subst (λ (vs : List Version). IsFound (pinned None c.args.self.now) c.args.table c.args.when
    (is_looked_at (option_map sought_of c.args.sought)) vs) (sym c.new.ensures.items)
    (none-found c.args.self.now c.args.table c.args.when (is_looked_at (option_map sought_of c.args.sought)) there))

pub returns : goal.returns
returns g c =
    let h : StoreModel = c.args.self.now in
    let p : ℤ = c.in-Some.pin in
    let there : has_table (pinned (Some p) h) c.args.table ≡ true =
    subst (λ (q : Option ℤ). has_table (pinned q h) c.args.table ≡ true) c.in-Some.is c.requires in
    let bounded : AreBounded (slice_index_or h.versions c.args.table []) =
    subst AreBounded (sym (versions-of c.self.inside.rows.items h c.args.table
    (table_at c.self.inside.rows.items c.args.table)
    (shows c.self.inside.places.items c.self.inside.rows.items c.self.inside.working c.self.inside.last
    c.self.inside.horizon h c.self.view_is) refl))
    (are-bounded c.self.inside.places.items c.self.inside.rows.items c.self.inside.touched.items c.self.inside.working
    c.self.inside.last c.self.invariant c.args.table) in
    let fits : to_z w64 (of_z w64 p) ≡ p = search (rules, to_z-of_z) in
    let asks : AsksAt p c.args.when c.question_at.result =
    subst (λ (x : ℤ). AsksAt x c.args.when c.question_at.result) fits c.question_at.ensures in
    let shows : List Version → Type 0 =
    IsFound (pinned c.args.pin h) c.args.table c.args.when (is_looked_at (option_map sought_of c.args.sought)) in
    let found : shows (map (answer_capped p) c.in_ok-found.found.items) =
    subst (λ (q : Option ℤ). IsFound (pinned q h) c.args.table c.args.when
    (is_looked_at (option_map sought_of c.args.sought)) (map (answer_capped p) c.in_ok-found.found.items))
    (sym c.in-Some.is)
    (found-at p h c.args.table c.args.when c.question_at.result (is_looked_at (option_map sought_of c.args.sought))
    c.in_ok-found.found.items asks there bounded c.in_ok-found.ensures) in
    IfOk-weaker c.versions_at.result _ _
    (λ shown e. subst shows (sym (e ∙ ap (λ (x : ℤ). map (answer_capped x) c.deref.result.now) fits
    ∙ ap (λ (vs : List Version). map (answer_capped p) vs) c.deref.ensures.value)) found)
    c.versions_at.ensures

-- The versions that are added are those with the value.
use Rattle.std.proofs.Common.{rules, ◌≡◌, [], ◌∷◌, ◌++◌, ℕ, List, map, subst, sym}
use Rattle.std.specs.Prelude.{◌||◌}
use Rattle.tql_spec.specs.Datum.{Datum}
use Rattle.tql_value.specs.Views.{datum_of_view}
use Rattle.tql_value.specs.declared.when.When.TheVariants.{Now}
use Rattle.tql_versions.specs.declared.version.Version.{Version}
use Rattle.tql_store.specs.Views.{IsFound}
use Rattle.tql_store_index.specs.Tuple.{is_at}
use Rattle.tql_exec_read.proofs.FoundAny.{found_both}
use Rattle.tql_exec_read.proofs.changing.add_current_at.Goals as goal

pub returns : goal.returns
returns g c looks before apart =
    let h = c.args.store.now in
    let t = c.args.table in
    let old : List Version = c.args.found.now.items in
    let more : List Version = c.in_ok-versions.versions.items in
    let v : Datum = datum_of_view c.args.value.now in
    let columns : c.from_ref-columns.result.now ≡ c.args.column ∷ [] = search rules in
    let values : map datum_of_view c.from_ref.result.now ≡ v ∷ [] = search rules in
    let joined : c.extend_from_slice.new.self.items ≡ old ++ more = search rules in
    subst (λ vs. IsFound h t Now (λ row. looks row || is_at (c.args.column ∷ []) (v ∷ []) row) vs) (sym joined)
    (found_both h t Now looks (is_at (c.args.column ∷ []) (v ∷ [])) apart old more before
    (subst (λ (is : List ℕ). IsFound h t Now (is_at is (v ∷ [])) more) columns
    (subst (λ (ds : List Datum). IsFound h t Now (is_at c.from_ref-columns.result.now ds) more) values
    c.in_ok-versions.ensures)))

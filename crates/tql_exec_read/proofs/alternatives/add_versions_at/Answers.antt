-- The versions that are added are those with the value.
use Rattle.std.proofs.Common.{rules, ◌≡◌, [], ◌∷◌, ℕ, List, filter, map, subst}
use Rattle.tql_spec.specs.Bag.{SameBag}
use Rattle.tql_spec.specs.Datum.{Datum}
use Rattle.tql_spec.specs.Definition.{Version}
use Rattle.tql_value.specs.Views.{datum_of_view}
use Rattle.tql_versions.specs.Readings.{version_shown as version_of}
use Rattle.tql_plan.specs.Nodes.{source_of}
use Rattle.tql_store_index.specs.Tuple.{is_at}
use Rattle.tql_exec_read.specs.Found.{versions_in}
use Rattle.tql_exec_read.proofs.OneOf.{appended, with_one}
use Rattle.tql_exec_read.proofs.alternatives.add_versions_at.Goals as goal

pub returns : goal.returns
returns g c copies working r =
    let all = versions_in c.args.snapshot.now copies working (source_of c.args.source.now) in
    let found : List Version = map version_of c.in_ok-versions.versions.items in
    let v : Datum = datum_of_view c.args.value.now in
    let columns : c.from_ref-columns.result.now ≡ c.args.column ∷ [] = search rules in
    let values : map datum_of_view c.from_ref.result.now ≡ v ∷ [] = search rules in
    appended version_of c.args.found.now.items c.extend_from_slice.new.self.items c.in_ok-versions.versions.items
    (with_one c.args.column v all) (search rules)
    (subst (λ (is : List ℕ). SameBag found (filter (λ (r : Version). is_at is (v ∷ []) r.row.cells) all)) columns
    (subst (λ (vs : List Datum). SameBag found
    (filter (λ (r : Version). is_at c.from_ref-columns.result.now vs r.row.cells) all)) values
    (c.in_ok-versions.ensures copies working r)))

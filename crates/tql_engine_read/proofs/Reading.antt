-- What a change needs to read the current versions of its table.
use Rattle.std.proofs.Common.{◌≡◌, ℕ, Bool, sym, subst, Some, List, length, All}
use Rattle.std.specs.Prelude.{slice_get, IsTrue}
use Rattle.std.proofs.lemmas.List.Elements.{All-weaker}
use Rattle.tql_spec.specs.Datum.{Row}
use Rattle.tql_spec.specs.Machine.{State}
use Rattle.tql_catalog.specs.Rows.{stored_width}
use Rattle.tql_catalog.specs.declared.catalog.Table.{Table}
use Rattle.tql_dml.specs.Alters.{IsVersionOf}
use Rattle.tql_store.specs.StoreModel.{has_table}
use Rattle.tql_store.specs.Views.{IsFound}
use Rattle.tql_versions.specs.declared.version.Version.{Version}
use Rattle.tql_value.specs.declared.when.When.TheVariants.{Now}
use Rattle.tql_engine_state.specs.Stands.{EngineModel, StandsFor}
use Rattle.tql_engine_state.proofs.Looking.{read_fit}
use Rattle.tql_engine_state.proofs.Standing.{there_law}

-- the table is in the store
pub in_store : (inside whole : EngineModel) (s : State) (t : ℕ) (p : Table) → inside ≡ whole → StandsFor inside s
    → slice_get whole.tables t ≡ Some p → IsTrue (has_table inside.store p.id)
in_store inside whole s t p e stands at =
    subst (λ (h : EngineModel). IsTrue (has_table h.store p.id)) (sym e)
    (there_law whole s t p (subst (λ h. StandsFor h s) e stands) at)

-- versions that were found have as many cells as the table stores
pub widths : (h : EngineModel) (s : State) (t : ℕ) (p : Table) (looks : Row → Bool) (seen : List Version)
    → StandsFor h s → slice_get h.tables t ≡ Some p → IsFound h.store p.id Now looks seen
    → All (λ (v : Version). length v.kept.now.row ≡ stored_width p.definition) seen
widths h s t p looks seen stands there found =
    All-weaker (IsVersionOf p.definition) (λ (v : Version). length v.kept.now.row ≡ stored_width p.definition)
    (λ v k. k.cells.width) seen
    (read_fit h s t p looks seen stands there found.copies)

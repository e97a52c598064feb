-- An engine that is only read represents what it represents otherwise, and has the same tables.
use Rattle.std.proofs.Common.{◌≡◌, ◌<◌, ℕ, Some, sym, subst, length}
use Rattle.std.specs.Prelude.{slice_get}
use Rattle.tql_spec.specs.Machine.{State}
use Rattle.tql_catalog.specs.Tables.{definitions_of}
use Rattle.tql_catalog.specs.declared.catalog.Table.{Table}
use Rattle.tql_engine_state.specs.Stands.{EngineModel, StandsFor}
use Rattle.tql_engine_state.proofs.Standing.{place_law}

pub stands_read : (held whole : EngineModel) (s : State) → held ≡ whole → StandsFor whole s → StandsFor held s
stands_read held whole s e st = subst (λ (h : EngineModel). StandsFor h s) (sym e) st

pub place_read : (held whole : EngineModel) (t : ℕ) → held ≡ whole → t < length (definitions_of whole.tables)
    → t < length held.tables
place_read held whole t e within =
    subst (λ (h : EngineModel). t < length h.tables) (sym e) (place_law whole.tables t within)

pub table_read : (held whole : EngineModel) (t : ℕ) (p : Table) → held ≡ whole
    → slice_get whole.tables t ≡ Some p → slice_get held.tables t ≡ Some p
table_read held whole t p e there = subst (λ (h : EngineModel). slice_get h.tables t ≡ Some p) (sym e) there

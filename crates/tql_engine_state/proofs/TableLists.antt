-- The tables of an engine as a host reads them, and those of the reference model.
use Rattle.std.proofs.Common.{◌≡◌, ◌≤◌, ℕ, List, length, map, sym, ap, ◌∙◌}
use Rattle.std.specs.Prelude.{Option, Some, None, option_map, slice_get}
use Rattle.std.proofs.lemmas.List.{length-map}
use Rattle.std.proofs.lemmas.Option.{slice_get-map, slice_get_past}
use Rattle.tql_spec.specs.Definition.{TableDef}
use Rattle.tql_spec.specs.Machine.{State}
use Rattle.tql_catalog.specs.Tables.{definitions_of}
use Rattle.tql_catalog.specs.declared.catalog.Table.{Table}
use Rattle.tql_engine_state.specs.Stands.{EngineModel, StandsFor}

-- there are as many definitions as tables
pub count_is : (ps : List Table) → length ps ≡ length (definitions_of ps)
count_is ps = sym (length-map ps (λ (t : Table). t.definition))

-- there are as many as in the reference model
pub count_law : (h : EngineModel) (s : State) → StandsFor h s → length h.tables ≡ length s.definitions
count_law h s f = count_is h.tables ∙ ap (λ (ds : List TableDef). length ds) (sym f.fits.definitions)

-- the definition of the table at an index
pub definition_there : (ps : List Table) (k : ℕ) (p : Table) → slice_get ps k ≡ Some p
    → Some p.definition ≡ slice_get (definitions_of ps) k
definition_there ps k p e =
    sym (slice_get-map (λ (t : Table). t.definition) ps k ∙ ap (option_map (λ (t : Table). t.definition)) e)

-- there is none after the last one
pub no_definition : (ps : List Table) (k : ℕ) → length ps ≤ k → None ≡ slice_get (definitions_of ps) k
no_definition ps k h =
    sym (slice_get-map (λ (t : Table). t.definition) ps k
    ∙ ap (option_map (λ (t : Table). t.definition)) (slice_get_past ps k h))

-- the reference model has the same
pub machine_has : (h : EngineModel) (s : State) (k : ℕ) (o : Option TableDef) → StandsFor h s
    → o ≡ slice_get (definitions_of h.tables) k → o ≡ slice_get s.definitions k
machine_has h s k o f e = e ∙ ap (λ (ds : List TableDef). slice_get ds k) (sym f.fits.definitions)

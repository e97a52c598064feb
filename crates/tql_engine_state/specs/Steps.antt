-- An engine stays sound.
use Rattle.std.specs.Prelude.{◌≡◌, ℕ}
use Rattle.tql_spec.specs.Machine.{Bound, DropTable, Reply, step}
use Rattle.tql_spec.specs.TypingLaws.{IsTypedBound}
use Rattle.tql_catalog.specs.Tables.{definitions_of}
use Rattle.tql_engine_state.specs.Dropping.{IsDropped}
use Rattle.tql_engine_state.specs.Effects.{Does}
use Rattle.tql_engine_state.specs.Stands.{EngineModel, IsSound}

-- the law: a sound engine that does a step of the reference model is sound afterwards. The statement must give each
-- column values of its type, and drop no table that another one references
abbrev pub StepsStaySound : Type 0
StepsStaySound = (old new : EngineModel) (sound : IsSound old) (b : Bound) (reply : Reply)
    → IsTypedBound (definitions_of old.tables) b
    → ((t : ℕ) → b ≡ DropTable t → IsDropped (definitions_of old.tables) t)
    → Does new reply (step sound.state b) → IsSound new

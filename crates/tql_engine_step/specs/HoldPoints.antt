-- Keys and references at every point of time, in the state of an engine.
use Rattle.tql_spec.specs.AtPoints.{HoldAtPoints}
use Rattle.tql_spec.specs.Machine.{State}
use Rattle.tql_engine_state.specs.Stands.{EngineModel, StandsFor}

-- the engine represents a state; in each of its copies, also the working one, keys and references hold at every point
pub record HoldsFor (h : EngineModel) (s : State) : Type 0 where
  pub stands : StandsFor h s
  pub holds : HoldAtPoints s

-- Runs and steps of an engine, at single points of time.
use Rattle.std.specs.Prelude.{◌≡◌, ℕ, List, [], ◌∷◌, map, Result, Ok, Err}
use Rattle.tql_spec.specs.Machine.{State, Reply}
use Rattle.tql_spec.specs.Script.{statements}
use Rattle.tql_spec.specs.Run.{Answers, Run, finished}
use Rattle.tql_points.specs.PointRun.{AgreesBehind}
use Rattle.tql_run.specs.Responding.{Standing, Answered}
use Rattle.tql_run.specs.declared.runner.Summary.{Summary}
use Rattle.tql_run.specs.declared.runner.Fault.{Fault}
use Rattle.tql_run.specs.declared.runner.Fault.TheVariants.{Read, Write, Memory}
use Rattle.tql_engine.specs.Bytes.{WritesWhole, StopsWriting}
use Rattle.tql_engine_state.specs.Stands.{EngineModel, StandsFor}

-- ---- a script in memory

-- by the result of the run: the run that wrote the output, whole or stopped, agrees with the reference models of all
-- points; else nothing ran
abbrev pub BytesAgreeAtPoints : State → Standing → (script old new : List ℕ) → Result Summary Fault → Type 0
BytesAgreeAtPoints s after script old new (Ok summary) =
    (w : WritesWhole s after script old new summary) × AgreesBehind s (statements script) w.writes.0 w.state
BytesAgreeAtPoints s after script old new (Err Write) =
    (w : StopsWriting s after script old new) × AgreesBehind s w.done w.replies w.state
BytesAgreeAtPoints s after script old new (Err Memory) = after s
BytesAgreeAtPoints s after script old new (Err Read) = after s

-- ---- single statements

-- an engine that is given texts in order, and its replies; each step is as the clause `answered` of `Engine::step` says
abbrev pub Steps : EngineModel → List (List ℕ) → List Reply → EngineModel → Type 0
Steps old [] [] new = new ≡ old
Steps old (text ∷ texts) (reply ∷ replies) new =
    (mid : EngineModel)
    × ((s : State) → StandsFor old s → Answered Answers s (finished text) reply (StandsFor mid))
    × Steps mid texts replies new
Steps old _ _ new = ⊥

-- they are a run of the reference model, and it agrees with the reference models of all points
pub record StepsAgree (s : State) (texts : List (List ℕ)) (replies : List Reply) (new : EngineModel) : Type 0 where
  pub state : State
  pub stands : StandsFor new state
  pub ran : Run s (map finished texts) replies state
  pub agrees : AgreesBehind s (map finished texts) replies state

-- the law: this is so from every state that the engine represents
abbrev pub StepsAgreeAtPoints : Type 0
StepsAgreeAtPoints =
    (old new : EngineModel) (texts : List (List ℕ)) (replies : List Reply) → Steps old texts replies new
    → (s : State) → StandsFor old s → StepsAgree s texts replies new

-- Runs and steps of an engine agree with the reference models of all points.
use Rattle.std.proofs.Common.{refl, sym, subst, ℕ, List, [], ◌∷◌, map, Ok, Err}
use Rattle.std.specs.Prelude.{Result}
use Rattle.tql_spec.specs.Machine.{State, Reply}
use Rattle.tql_spec.specs.Script.{statements}
use Rattle.tql_spec.specs.Run.{Run, finished}
use Rattle.tql_points.proofs.PointRuns.{runs_agree_behind}
use Rattle.tql_run.specs.Responding.{Standing}
use Rattle.tql_run.specs.declared.runner.Summary.{Summary}
use Rattle.tql_run.specs.declared.runner.Fault.{Fault}
use Rattle.tql_run.specs.declared.runner.Fault.TheVariants.{Read, Write, Memory}
use Rattle.tql_engine.specs.Bytes.{RunsBytes}
use Rattle.tql_engine_state.specs.Stands.{EngineModel, StandsFor}
use Rattle.tql_engine.specs.PointRuns.{BytesAgreeAtPoints, Steps, StepsAgreeAtPoints}

-- a run over bytes in memory
pub bytes_agree : (s : State) (after : Standing) (script old new : List ℕ) (result : Result Summary Fault)
    → RunsBytes s after script old new result → BytesAgreeAtPoints s after script old new result
bytes_agree s after script old new (Ok summary) w =
    (w, runs_agree_behind s (statements script) w.writes.0 w.state w.writes.1)
bytes_agree s after script old new (Err Write) w = (w, runs_agree_behind s w.done w.replies w.state w.ran)
bytes_agree s after script old new (Err Memory) w = w.1
bytes_agree s after script old new (Err Read) w = w.1

-- steps are a run
pub record StepsRun (s : State) (texts : List (List ℕ)) (replies : List Reply) (new : EngineModel) : Type 0 where
  pub state : State
  pub stands : StandsFor new state
  pub ran : Run s (map finished texts) replies state

pub steps_run : (texts : List (List ℕ)) (replies : List Reply) (old new : EngineModel) → Steps old texts replies new
    → (s : State) → StandsFor old s → StepsRun s texts replies new
steps_run [] [] old new e s st =
    record { state = s; stands = subst (λ h. StandsFor h s) (sym e) st; ran = refl }
steps_run [] (r ∷ rs) old new e s st = absurd e
steps_run (t ∷ ts) [] old new e s st = absurd e
steps_run (t ∷ ts) (r ∷ rs) old new e s st =
    let a = e.1 s st in
    let k = steps_run ts rs e.0 new e.2 a.state a.stands in
    record { state = k.state; stands = k.stands; ran = (a.state, a.answers, k.ran) }

pub steps_agree : StepsAgreeAtPoints
steps_agree old new texts replies e s st =
    let k = steps_run texts replies old new e s st in
    record {
      state = k.state;
      stands = k.stands;
      ran = k.ran;
      agrees = runs_agree_behind s (map finished texts) replies k.state k.ran;
    }

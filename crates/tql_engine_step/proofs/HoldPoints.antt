-- Keys and references hold at every point after each step, if they held before it.
use Rattle.std.proofs.Common.{refl, [], ◌∷◌, inr, Option, Some, None}
use Rattle.tql_spec.specs.AtPoints.{HoldAtPoints}
use Rattle.tql_spec.specs.History.{Entry}
use Rattle.tql_spec.specs.Machine.{State, Reply, Commit, Rollback, new_state, step}
use Rattle.tql_spec.specs.Run.{Answers}
use Rattle.tql_spec.specs.Script.{Piece}
use Rattle.tql_spec.proofs.AtPoints.{runs_keep_points}
use Rattle.tql_run.specs.Responding.{Answered}
use Rattle.tql_engine_step.specs.HoldPoints.{HoldsFor}
use Rattle.tql_engine_state.specs.Stands.{EngineModel, StandsFor}

-- one reply of the reference model
pub keeps_one : (old new : State) (p : Piece) (r : Reply) → HoldAtPoints old → Answers old p r new → HoldAtPoints new
keeps_one old new p r h a = runs_keep_points old new (p ∷ []) (r ∷ []) h (new, a, refl)

-- a step
pub step_holds : (old new : EngineModel) (s : State) (p : Piece) (r : Reply) → HoldsFor old s
    → Answered Answers s p r (StandsFor new) → Answered Answers s p r (HoldsFor new)
step_holds old new s p r h a = record {
  state = a.state;
  answers = a.answers;
  stands = record { stands = a.stands; holds = keeps_one s a.state p r h.holds a.answers };
}

-- the first state has no copy
pub new_holds : (h : EngineModel) → StandsFor h new_state → HoldsFor h new_state
new_holds h st = record { stands = st; holds = λ e m. absurd m }

-- a state with this transaction instead of its own
abbrev with_open : State → Option Entry → State
with_open s o = record s { transaction = o }

commit_keeps : (s : State) (o : Option Entry) → HoldAtPoints (with_open s o)
    → HoldAtPoints (step (with_open s o) Commit).1
commit_keeps s None h = h
commit_keeps s (Some e) h = h

rollback_keeps : (s : State) (o : Option Entry) → HoldAtPoints (with_open s o)
    → HoldAtPoints (step (with_open s o) Rollback).1
rollback_keeps s None h = h
rollback_keeps s (Some e) h = λ x m. h x (inr m)

-- a COMMIT keeps the same copies
pub commit_holds : (s : State) → HoldAtPoints s → HoldAtPoints (step s Commit).1
commit_holds s h = commit_keeps s s.transaction h

-- a ROLLBACK keeps some of them
pub rollback_holds : (s : State) → HoldAtPoints s → HoldAtPoints (step s Rollback).1
rollback_holds s h = rollback_keeps s s.transaction h

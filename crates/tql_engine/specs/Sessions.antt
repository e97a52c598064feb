-- The calls that a host makes to a session over an engine, and the state that the engine represents after them.
use Rattle.std.specs.Prelude.{◌≡◌, ℕ, List, [], ◌∷◌, ◌++◌, map, Some, None}
use Rattle.tql_spec.specs.Answer.{Answer, Replied}
use Rattle.tql_spec.specs.HorizonLaws.{RunsWithout, other_pieces, other_replies}
use Rattle.tql_spec.specs.Machine.{State, Reply}
use Rattle.tql_spec.specs.Reached.{IsInOrder}
use Rattle.tql_spec.specs.Run.{Run}
use Rattle.tql_spec.specs.Script.{Piece, statements}
use Rattle.tql_points.specs.PointRun.{AgreesBehind}
use Rattle.tql_turns.specs.Merge.{Call, Feed, Finish, Next, fed}
use Rattle.tql_splitter.specs.Feeding.{Feeds, Finishes}
use Rattle.tql_splitter.specs.Holding.{Holds}
use Rattle.tql_splitter.specs.Pieces.{MayFollow}
use Rattle.tql_splitter.specs.Stream.{Stream}
use Rattle.tql_result.specs.Replies.{answer_of}
use Rattle.tql_result.specs.declared.answer.Answer as code
use Rattle.tql_run.specs.Writing.{AnswersNext}
use Rattle.tql_run.specs.Ending.{AllEndSurely, Responds}
use Rattle.tql_engine_step.specs.HoldPoints.{HoldsFor}
use Rattle.tql_engine.specs.ReaderRuns.{ReadsStably}
use Rattle.tql_engine_state.specs.Stands.{EngineModel, StandsFor}

-- one call, as the clauses of `Session::feed`, `finish` and `next_answer` say; after the end is reported, no bytes come
abbrev pub Turns : Call code.Answer → (old : Stream) → (before : EngineModel) → (new : Stream) → (after : EngineModel)
    → Type 0
Turns (Feed bytes) old before new after = Feeds old new bytes × MayFollow old.ended bytes × (after ≡ before)
Turns Finish old before new after = Finishes old new × (after ≡ before)
Turns (Next answer) old before new after = AnswersNext Responds answer old new (StandsFor before) (StandsFor after)

-- calls in order
abbrev pub Calls : List (Call code.Answer) → (old : Stream) → (before : EngineModel) → (new : Stream)
    → (after : EngineModel) → Type 0
Calls [] old before new after = (new ≡ old) × (after ≡ before)
Calls (c ∷ cs) old before new after =
    (mid : Stream) × ((between : EngineModel) × (Turns c old before mid between × Calls cs mid between new after))

-- the answers that they gave
abbrev pub given : List (Call code.Answer) → List Answer
given [] = []
given (Feed bytes ∷ cs) = given cs
given (Finish ∷ cs) = given cs
given (Next None ∷ cs) = given cs
given (Next (Some answer) ∷ cs) = answer_of answer ∷ given cs

-- The answers are the replies of the reference model to the first statements of what was fed, whatever may follow it.
-- The engine represents the state after them; in each of its copies, also the working one, keys and references hold at
-- every point. The replies agree with the reference models of all points. Each READ has the reply that its query would
-- have had at the opening. Without the statements that pruned, or were refused for the horizon, all others are answered
-- the same.
pub record SessionRan (s : State) (calls : List (Call code.Answer)) (stream : Stream) (after : EngineModel) : Type 0
  where
    pub done : List Piece
    pub left : List ℕ
    pub first : (more : List ℕ) → MayFollow stream.ended more
        → statements (fed calls ++ more) ≡ done ++ statements (left ++ more)
    pub replies : List Reply
    pub gave : given calls ≡ map Replied replies
    pub state : State
    pub ran : Run s done replies state
    pub ends : AllEndSurely done replies
    pub holds : HoldsFor after state
    pub agrees : AgreesBehind s done replies state
    pub readers : ReadsStably s done replies
    pub unseen : IsInOrder s → RunsWithout s (other_pieces done replies) (other_replies replies) state

-- the law: this is so after each call of a new session, from every state in which keys and references hold
abbrev pub SessionsHold : Type 0
SessionsHold =
    (old new : Stream) (before after : EngineModel) (calls : List (Call code.Answer)) → Holds old [] []
    → Calls calls old before new after → (s : State) → HoldsFor before s → SessionRan s calls new after

-- Sessions that take turns on one engine, with runs between their calls, and what is promised of them.
use Rattle.std.specs.Prelude.{◌≡◌, ℕ, List, [], ◌∷◌, map}
use Rattle.tql_spec.specs.Answer.{Replied}
use Rattle.tql_spec.specs.HorizonLaws.{RunsWithout, other_pieces, other_replies}
use Rattle.tql_spec.specs.Machine.{State, Reply}
use Rattle.tql_spec.specs.Reached.{IsInOrder}
use Rattle.tql_spec.specs.Run.{Answers, Run, RunBy, finished}
use Rattle.tql_spec.specs.Script.{Piece}
use Rattle.tql_points.specs.PointRun.{AgreesBehind}
use Rattle.tql_turns.specs.Merge.{Setting, Event, Turn, Apart, Step, all, pieces, replies, put, SessionsRan}
use Rattle.tql_splitter.specs.Holding.{Holds}
use Rattle.tql_splitter.specs.Stream.{Stream}
use Rattle.tql_result.specs.Replies.{answer_of, reply_of}
use Rattle.tql_result.specs.declared.answer.Answer as code
use Rattle.tql_result.specs.declared.answer.Answer.TheVariants as answer
use Rattle.tql_result.specs.declared.reply.Reply as printed
use Rattle.tql_run.specs.Ending.{AllEndSurely, EndsTransaction, IsEnded, Responds}
use Rattle.tql_run.specs.Responding.{Answered}
use Rattle.tql_engine_step.specs.HoldPoints.{HoldsFor}
use Rattle.tql_engine.specs.ReaderRuns.{ReadsStably}
use Rattle.tql_engine.specs.Sessions.{Turns}
use Rattle.tql_engine_state.specs.Stands.{EngineModel, StandsFor}

-- an answer of the code responds to the piece
abbrev pub RespondsBy : State → Piece → code.Answer → State → Type 0
RespondsBy s p a new = Responds s p (answer_of a) new

-- sessions over an engine, in whose copies keys and references hold at every point
abbrev pub engine_sessions : Setting
engine_sessions = record {
  stream = Stream;
  ended = λ (x : Stream). x.ended;
  holds = Holds;
  engine = EngineModel;
  stands = HoldsFor;
  reply = code.Answer;
  answering = RespondsBy;
}

-- a run between the calls of sessions: it leads from the state to one that the engine represents
pub record RanApart (steps : List (Step code.Answer)) (s : State) (after : EngineModel) : Type 0 where
  pub state : State
  pub ran : RunBy RespondsBy s (pieces steps) (replies steps) state
  pub stands : StandsFor after state

-- calls of sessions, each with a stream of its own, and runs between them, in order, on one engine
abbrev pub Events : List (Event code.Answer) → (old : ℕ → Stream) → (before : EngineModel) → (new : ℕ → Stream)
    → (after : EngineModel) → Type 0
Events [] old before new after = ((n : ℕ) → new n ≡ old n) × (after ≡ before)
Events (Turn k call ∷ es) old before new after =
    (mid : Stream)
    × ((between : EngineModel) × (Turns call (old k) before mid between × Events es (put k mid old) between new after))
Events (Apart steps ∷ es) old before new after =
    (between : EngineModel)
    × (((s : State) → StandsFor before s → RanApart steps s between) × Events es old between new after)

-- The answers, in the order of the events, are the replies of one run over a merge of the statements; of each session
-- the merge has the first ones of what it was fed. The engine represents the state after it, and keys and references
-- hold at every point in each of its copies. The merge agrees with the models of all points, its READs are stable, and
-- what is pruned in it is never missed.
pub record SessionsTogether (s : State) (events : List (Event code.Answer)) (streams : ℕ → Stream)
    (after : EngineModel) : Type 0 where
  pub merge : SessionsRan engine_sessions s events streams after
  pub told : List Reply
  pub are : map answer_of (replies (all merge.done)) ≡ map Replied told
  pub ran : Run s (pieces (all merge.done)) told merge.state
  pub ends : AllEndSurely (pieces (all merge.done)) told
  pub agrees : AgreesBehind s (pieces (all merge.done)) told merge.state
  pub readers : ReadsStably s (pieces (all merge.done)) told
  pub unseen : IsInOrder s
      → RunsWithout s (other_pieces (pieces (all merge.done)) told) (other_replies told) merge.state

-- the law: this is so after each event, for new sessions, from every state in which keys and references hold
abbrev pub SessionsHoldTogether : Type 0
SessionsHoldTogether =
    (events : List (Event code.Answer)) (old new : ℕ → Stream) (before after : EngineModel)
    → ((n : ℕ) → Holds (old n) [] []) → Events events old before new after → (s : State) → HoldsFor before s
    → SessionsTogether s events new after

-- the law: an answer of `Engine::step`, by its clauses `answered` and `ends`, is such a run
abbrev pub StepsAreApart : Type 0
StepsAreApart =
    (text : List ℕ) (reply : printed.Reply) (before after : EngineModel)
    → ((s : State) → StandsFor before s → Answered Answers s (finished text) (reply_of reply) (StandsFor after))
    → (EndsTransaction text → IsEnded (reply_of reply)) → (s : State) → StandsFor before s
    → RanApart (record { piece = finished text; reply = answer.Replied reply } ∷ []) s after

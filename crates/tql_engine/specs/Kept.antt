-- What a run or a session on an engine gives its sink to keep: with what was kept before, it is the database.
use Rattle.std.specs.Prelude.{◌≡◌, ℕ, List, [], ◌∷◌, ◌++◌, map, Option, Some, None}
use Rattle.tql_spec.specs.Machine.{State, Reply}
use Rattle.tql_spec.specs.Run.{finished}
use Rattle.tql_spec.specs.Script.{Piece}
use Rattle.tql_journal_laws.specs.Bytes.{AreStatementTexts}
use Rattle.tql_journal_laws.specs.Keeping.{HasState, unread}
use Rattle.tql_journal_laws.specs.Recovery.{IsSession}
use Rattle.tql_turns.specs.Merge.{Call, Feed, Finish, Next}
use Rattle.tql_splitter.specs.Feeding.{Feeds, Finishes}
use Rattle.tql_splitter.specs.Holding.{Holds}
use Rattle.tql_splitter.specs.Pieces.{MayFollow}
use Rattle.tql_splitter.specs.Stream.{Stream}
use Rattle.tql_result.specs.declared.answer.Answer as code
use Rattle.tql_run.specs.Ending.{Responds}
use Rattle.tql_run.specs.Kept.{KeepsOn}
use Rattle.tql_run.specs.Responding.{Standing}
use Rattle.tql_run.specs.Writing.{AnswersNext}
use Rattle.tql_engine_state.specs.Stands.{EngineModel, StandsFor}

-- ---- one run

-- The engine represents the state after some statements. The sink was given the texts of those that a journal keeps,
-- after the earlier ones. Alone, on a new engine, all these texts are accepted and lead to that state, without its
-- readers.
pub record KeepsSession (earlier : List (List ℕ)) (s : State) (after : Standing) (kept : Option (List (List ℕ)))
    : Type 0 where
  pub pieces : List Piece
  pub replies : List Reply
  pub state : State
  pub texts : List (List ℕ)
  pub stands : after state
  pub session : IsSession earlier texts s pieces replies state
  pub is : kept ≡ Some (earlier ++ texts)
  pub has : HasState (map finished (earlier ++ texts)) (unread state)

-- the sink was given the earlier texts, and they are a journal of the state
pub record HadKept (earlier : List (List ℕ)) (s : State) (had : Option (List (List ℕ))) : Type 0 where
  pub is : had ≡ Some earlier
  pub are : AreStatementTexts earlier
  pub has : HasState (map finished earlier) (unread s)

-- ---- a session, call by call

-- one call, as the clauses of `Session::feed`, `finish` and `next_kept` say; between the calls the sink may be pushed
-- and flushed
abbrev pub KeepsTurn : Call code.Answer → (old : Stream) → (before : EngineModel) → (had : Option (List (List ℕ)))
    → (new : Stream) → (after : EngineModel) → (kept : Option (List (List ℕ))) → Type 0
KeepsTurn (Feed bytes) old before had new after kept =
    Feeds old new bytes × MayFollow old.ended bytes × (after ≡ before) × (kept ≡ had)
KeepsTurn Finish old before had new after kept = Finishes old new × (after ≡ before) × (kept ≡ had)
KeepsTurn (Next answer) old before had new after kept =
    AnswersNext Responds answer old new (StandsFor before) (StandsFor after)
    × KeepsOn Responds old new (StandsFor before) (StandsFor after) had kept

-- calls in order
abbrev pub KeepsTurns : List (Call code.Answer) → (old : Stream) → (before : EngineModel)
    → (had : Option (List (List ℕ))) → (new : Stream) → (after : EngineModel) → (kept : Option (List (List ℕ)))
    → Type 0
KeepsTurns [] old before had new after kept = (new ≡ old) × (after ≡ before) × (kept ≡ had)
KeepsTurns (c ∷ cs) old before had new after kept =
    (mid : Stream) × ((between : EngineModel) × ((has : Option (List (List ℕ)))
    × (KeepsTurn c old before had mid between has × KeepsTurns cs mid between has new after kept)))

-- the law: after each call of a new session, the sink was given what makes the earlier texts a journal of the state
abbrev pub SessionsAreKept : Type 0
SessionsAreKept =
    (old new : Stream) (before after : EngineModel) (had kept : Option (List (List ℕ)))
    (calls : List (Call code.Answer)) → Holds old [] [] → KeepsTurns calls old before had new after kept
    → (s : State) (earlier : List (List ℕ)) → StandsFor before s → HadKept earlier s had
    → KeepsSession earlier s (StandsFor after) kept

-- Readers in runs and steps of an engine: a READ answers as its query would have been answered when the reader was
-- opened, whatever was written since.
use Rattle.std.specs.Prelude.{◌≡◌, ℕ, List, ◌∷◌, ◌++◌, length, map, None, Result, Ok, Err}
use Rattle.tql_spec.specs.Refusal.{OutOfMemory}
use Rattle.tql_spec.specs.Definition.{Name}
use Rattle.tql_spec.specs.Machine.{State, Reply, Done, Refused, OpenedReader}
use Rattle.tql_spec.specs.ReaderLaws.{stopped, ClosesNever, Counts}
use Rattle.tql_spec.specs.Script.{Piece, statements}
use Rattle.tql_spec.specs.Syntax.{SelectTree, OrderTree, QueryTree, OpenTree, ReadTree}
use Rattle.tql_spec.specs.Run.{Says, HasSense, Run, respond, finished}
use Rattle.tql_run.specs.Responding.{Standing}
use Rattle.tql_run.specs.declared.runner.Summary.{Summary}
use Rattle.tql_run.specs.declared.runner.Fault.{Fault}
use Rattle.tql_run.specs.declared.runner.Fault.TheVariants.{Read, Write, Memory}
use Rattle.tql_engine.specs.Bytes.{WritesWhole, StopsWriting}
use Rattle.tql_engine.specs.PointRuns.{Steps}
use Rattle.tql_engine_state.specs.Stands.{EngineModel, StandsFor}

-- ---- runs

-- among these pieces and their replies, a reader is opened after the pieces `before`, which were answered by `heard`;
-- no piece closes it before a READ of it; the READ has this reply, which is no refusal for the horizon, the reader or
-- memory
pub record HasRead (pieces : List Piece) (replies : List Reply) (before : List Piece) (heard : List Reply) (n : Name)
    (q : SelectTree) (keys : List OrderTree) (reply : Reply) : Type 0 where
  pub opening : Piece
  pub between : List Piece
  pub reading : Piece
  pub after : List Piece
  pub told : List Reply
  pub rest : List Reply
  pub pieces_are : pieces ≡ before ++ opening ∷ (between ++ reading ∷ after)
  pub replies_are : replies ≡ heard ++ Done OpenedReader None ∷ (told ++ reply ∷ rest)
  pub opened_there : length heard ≡ length before
  pub read_there : length told ≡ length between
  pub opens : HasSense opening (Says (OpenTree n))
  pub stays : ClosesNever n between told
  pub reads : HasSense reading (Says (ReadTree n q keys))
  pub counts : Counts reply
  pub has_memory : reply ≡ Refused OutOfMemory → ⊥

-- the reply of the reference model to a query if it stops after these pieces, with an open transaction rolled back
pub record IsAnsweredBehind (s : State) (before : List Piece) (heard : List Reply) (q : SelectTree)
    (keys : List OrderTree) (reply : Reply) : Type 0 where
  pub state : State
  pub ran : Run s before heard state
  pub same : reply ≡ (respond (stopped state) (QueryTree q keys)).0

-- each READ among the pieces has the reply that its query would have had at the opening; the reader was opened by these
-- pieces or by those of an earlier run that led to the state before them
abbrev pub ReadsStably : State → List Piece → List Reply → Type 0
ReadsStably s pieces replies =
    (old : State) (earlier : List Piece) (answers : List Reply) → Run old earlier answers s
    → (before : List Piece) (heard : List Reply) (n : Name) (q : SelectTree) (keys : List OrderTree) (reply : Reply)
    → HasRead (earlier ++ pieces) (answers ++ replies) before heard n q keys reply
    → IsAnsweredBehind old before heard q keys reply

-- a READ in one run and a READ in the other have the same reply, if they send the same query to the same reader. The
-- runs must be the same up to its opening; what is done, undone or pruned between does not matter
abbrev pub ReadAlike : State → (ones : List Piece) → (replies : List Reply) → (others : List Piece)
    → (replies' : List Reply) → Type 0
ReadAlike s ones replies others replies' =
    (old : State) (earlier : List Piece) (answers : List Reply) → Run old earlier answers s
    → (before : List Piece) (heard : List Reply) (n : Name) (q : SelectTree) (keys : List OrderTree)
    → (reply reply' : Reply) → HasRead (earlier ++ ones) (answers ++ replies) before heard n q keys reply
    → HasRead (earlier ++ others) (answers ++ replies') before heard n q keys reply' → reply ≡ reply'

-- the law: this is so in each run, on any engine
abbrev pub RunsReadStably : Type 0
RunsReadStably = (s new : State) (pieces : List Piece) (replies : List Reply) → Run s pieces replies new
    → ReadsStably s pieces replies

-- the law: this is so in two runs from one state; the two may be the same run, so a repeated READ has the same reply
abbrev pub RunsReadAlike : Type 0
RunsReadAlike = (s new new' : State) (ones others : List Piece) (replies replies' : List Reply)
    → Run s ones replies new → Run s others replies' new' → ReadAlike s ones replies others replies'

-- ---- scripts in memory

-- by the result of a script's run: in the run that wrote the output, whole or stopped, READs are stable; else nothing
-- ran
abbrev pub BytesReadStably : State → Standing → (script old new : List ℕ) → Result Summary Fault → Type 0
BytesReadStably s after script old new (Ok summary) =
    (w : WritesWhole s after script old new summary) × ReadsStably s (statements script) w.writes.0
BytesReadStably s after script old new (Err Write) =
    (w : StopsWriting s after script old new) × ReadsStably s w.done w.replies
BytesReadStably s after script old new (Err Memory) = after s
BytesReadStably s after script old new (Err Read) = after s

-- by the result of a script's run, as the clause `written` of `run_bytes` says: these pieces ran, with these replies
abbrev pub Tells : State → Standing → (script old new : List ℕ) → Result Summary Fault → List Piece → List Reply
    → Type 0
Tells s after script old new (Ok summary) pieces replies =
    (w : WritesWhole s after script old new summary) × (pieces ≡ statements script) × (replies ≡ w.writes.0)
Tells s after script old new (Err Write) pieces replies =
    (w : StopsWriting s after script old new) × (pieces ≡ w.done) × (replies ≡ w.replies)
Tells s after script old new (Err Memory) pieces replies = ⊥
Tells s after script old new (Err Read) pieces replies = ⊥

-- the law: two scripts that ran on engines that represent the same state read alike
abbrev pub ScriptsReadAlike : Type 0
ScriptsReadAlike = (s : State) (h h' : EngineModel) (script old new script' old' new' : List ℕ)
    (result result' : Result Summary Fault) (ones others : List Piece) (replies replies' : List Reply)
    → Tells s (StandsFor h) script old new result ones replies
    → Tells s (StandsFor h') script' old' new' result' others replies' → ReadAlike s ones replies others replies'

-- ---- single statements

-- they are a run of the reference model, in which READs are stable
pub record StepsStay (s : State) (texts : List (List ℕ)) (replies : List Reply) (new : EngineModel) : Type 0 where
  pub state : State
  pub stands : StandsFor new state
  pub ran : Run s (map finished texts) replies state
  pub stable : ReadsStably s (map finished texts) replies

-- the law: this is so from every state that the engine represents
abbrev pub StepsReadStably : Type 0
StepsReadStably =
    (old new : EngineModel) (texts : List (List ℕ)) (replies : List Reply) → Steps old texts replies new
    → (s : State) → StandsFor old s → StepsStay s texts replies new

-- the law: two engines that represent the same state, each given texts in order, read alike
abbrev pub StepsReadAlike : Type 0
StepsReadAlike =
    (old new old' new' : EngineModel) (texts texts' : List (List ℕ)) (replies replies' : List Reply)
    → Steps old texts replies new → Steps old' texts' replies' new' → (s : State) → StandsFor old s → StandsFor old' s
    → ReadAlike s (map finished texts) replies (map finished texts') replies'

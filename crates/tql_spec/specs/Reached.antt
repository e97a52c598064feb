-- Properties of every state that a run reaches.
use Rattle.std.specs.Prelude.{◌≡◌, ℕ, ◌+◌, List, length, ℤ, Some}
use Rattle.tql_spec.specs.Bag.{In}
use Rattle.tql_spec.specs.Definition.{TableDef, Stamped, table_at}
use Rattle.tql_spec.specs.Binding.{generated_columns}
use Rattle.tql_spec.specs.History.{Entry, FallingFrom, Falling, rows_in}
use Rattle.tql_spec.specs.Spans.{IsSteady, QuestionsBySpans, AnyCopyMetWill}
use Rattle.tql_spec.specs.Readers.{Reader}
use Rattle.tql_spec.specs.Machine.{State, Reply, entries, new_state}
use Rattle.tql_spec.specs.Script.{Piece}
use Rattle.tql_spec.specs.Run.{Run}

-- the state is reached by a run from the first state
pub record IsReached (s : State) : Type 0 where
  pub pieces : List Piece
  pub replies : List Reply
  pub run : Run new_state pieces replies s

-- ---- the order of commits

-- the moments decrease from the newest copy to the oldest, below the highest; those of commits are below the clock. An
-- open transaction has the clock's moment. The moments of pinned copies decrease too
pub record IsInOrder (s : State) : Type 0 where
  pub falling : Falling (entries s)
  pub below_clock : FallingFrom s.next s.history
  pub opened : (e : Entry) → s.transaction ≡ Some e → e.moment ≡ s.next
  pub set_aside : (r : Reader) → In r s.readers → Falling r.pinned

-- each copy has rows for each definition
abbrev pub CopiesFit : State → Type 0
CopiesFit s = (e : Entry) → In e (entries s) → length e.copy ≡ length s.definitions

-- a row has a cell for each column of its table that is not generated
abbrev pub Fits : TableDef → Stamped → Type 0
Fits d r = length r.cells + length (generated_columns d.system) ≡ length d.columns

-- each row of each copy fits its table
abbrev pub RowsFit : State → Type 0
RowsFit s =
    (e : Entry) → In e (entries s) → (t : ℕ) (r : Stamped) → In r (rows_in e.copy t) → Fits (table_at s.definitions t) r

-- the law: every state that a run reaches is in order
abbrev pub ReachedAreInOrder : Type 0
ReachedAreInOrder = (s : State) → IsReached s → IsInOrder s

-- the law: in every state that a run reaches, copies and rows fit the definitions
abbrev pub ReachedFit : Type 0
ReachedFit = (s : State) → IsReached s → CopiesFit s × RowsFit s

-- ---- rows and queries

-- the law: in every state that a run reaches, rows are steady, in each table
abbrev pub ReachedAreSteady : Type 0
ReachedAreSteady = (s : State) → IsReached s → (t : ℕ) → IsSteady t (entries s)

-- queries of the table read the copies by their spans; for a range, any copy met that has a row will do
pub record ReadsInReached (s : State) (t : ℕ) : Type 0 where
  pub by_spans : QuestionsBySpans t (entries s)
  pub any_copy : (a b : ℤ) → AnyCopyMetWill t a b (entries s)

-- the law: in every state that a run reaches, queries of each table read it in this way
abbrev pub ReachedReadBySpans : Type 0
ReachedReadBySpans = (s : State) → IsReached s → (t : ℕ) → ReadsInReached s t

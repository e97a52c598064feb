-- The laws of pruned history: the copies that a horizon leaves answer every question from it on as all copies do.
use Rattle.std.specs.Prelude.{◌≡◌, ◌⊎◌, ℕ, zero, suc, Bool, true, false, List, [], ◌∷◌, take, ℤ, ◌≤ℤ◌, int_lt}
use Rattle.std.specs.Prelude.{if◌then◌else◌, Option, Some, None}
use Rattle.tql_spec.specs.Calendar.{first_moment, high, read_timestamp}
use Rattle.tql_spec.specs.Refusal.{BeforeTheHorizon}
use Rattle.tql_spec.specs.Definition.{TableDef}
use Rattle.tql_spec.specs.History.{Entry, When, Falling, table_history, found}
use Rattle.tql_spec.specs.Horizon.{pruned, is_before}
use Rattle.tql_spec.specs.Readers.{Reader}
use Rattle.tql_spec.specs.Machine.{State, Reply, Done, Refused, Pruned}
use Rattle.tql_spec.specs.Reached.{IsInOrder, IsReached}
use Rattle.tql_spec.specs.Script.{Piece}
use Rattle.tql_spec.specs.Syntax.{SpanTree, NoSpan, AsOfTree, FromToTree, BetweenTree}
use Rattle.tql_spec.specs.Binding.{when}
use Rattle.tql_spec.specs.Run.{Run}

-- ---- one table

-- the law: for copies with decreasing moments, pruning does not change the result of a question that does not ask
-- before the horizon: the same versions, ends and order
abbrev pub PrunedAnswersStay : Type 0
PrunedAnswersStay = (t : ℕ) (h : ℤ) (entries : List Entry) (w : When) → Falling entries → is_before h w ≡ false
    → found w (table_history t (pruned h entries)) ≡ found w (table_history t entries)

-- ---- literals

-- the first moment of a clause, if its literal reads as one
abbrev pub first_moment_of : SpanTree → Option ℤ
first_moment_of NoSpan = None
first_moment_of (AsOfTree t) = read_timestamp t
first_moment_of (FromToTree a b) = read_timestamp a
first_moment_of (BetweenTree a b) = read_timestamp a

-- whether the moment of a literal, if any, is before the horizon
abbrev pub is_read_before : ℤ → Option ℤ → Bool
is_read_before h None = false
is_read_before h (Some m) = int_lt m h

-- the law: a bound clause asks before the horizon exactly if its first literal reads as a moment before it; a literal
-- out of range does not
abbrev pub OnlyMomentsAreBefore : Type 0
OnlyMomentsAreBefore = (h : ℤ) (d : TableDef) (span : SpanTree) → h ≤ℤ high
    → is_before h (when d span).value ≡ is_read_before h (first_moment_of span)

-- ---- whole runs

-- the law: in every state that a run reaches, the horizon is a moment of the calendar
abbrev pub ReachedHorizons : Type 0
ReachedHorizons = (s : State) → IsReached s → (first_moment ≤ℤ s.horizon) × (s.horizon ≤ℤ high)

-- the newest n copies are left: either all copies, or at least one that is not after the horizon
abbrev pub IsLeft : ℤ → ℕ → List Entry → Type 0
IsLeft h zero [] = Unit {0}
IsLeft h zero (e ∷ es) = ⊥
IsLeft h (suc n) [] = ⊥
IsLeft h (suc n) (e ∷ es) = (e.moment ≤ℤ h) ⊎ IsLeft h n es

-- `cut` is `full` without copies that the horizon may remove
pub record IsPrunedReader (h : ℤ) (full cut : Reader) : Type 0 where
  pub left : ℕ
  pub same : cut ≡ record full { pinned = take left full.pinned }
  pub enough : IsLeft h left full.pinned

-- each reader of the second list is the pruned reader at the same position of the first
abbrev pub ArePrunedReaders : ℤ → List Reader → List Reader → Type 0
ArePrunedReaders h [] [] = Unit {0}
ArePrunedReaders h [] (c ∷ cs) = ⊥
ArePrunedReaders h (r ∷ rs) [] = ⊥
ArePrunedReaders h (r ∷ rs) (c ∷ cs) = IsPrunedReader h r c × ArePrunedReaders h rs cs

-- `cut` is `full` with the same or a later horizon, and without copies, of readers too, that it may remove
pub record IsPruned (full cut : State) : Type 0 where
  pub horizon : ℤ
  pub left : ℕ
  pub readers : List Reader
  pub same : cut ≡ record full { history = take left full.history; horizon = horizon; readers = readers }
  pub later : full.horizon ≤ℤ horizon
  pub enough : IsLeft horizon left full.history
  pub pins : ArePrunedReaders horizon full.readers readers

-- whether a reply is due to pruning: PRUNE HISTORY, or a refusal for the horizon
abbrev pub is_of_pruning : Reply → Bool
is_of_pruning (Done Pruned n) = true
is_of_pruning (Refused BeforeTheHorizon) = true
is_of_pruning _ = false

-- the pieces with other replies
abbrev pub other_pieces : List Piece → List Reply → List Piece
other_pieces [] rs = []
other_pieces (p ∷ ps) [] = []
other_pieces (p ∷ ps) (r ∷ rs) = if is_of_pruning r then other_pieces ps rs else p ∷ other_pieces ps rs

-- the other replies
abbrev pub other_replies : List Reply → List Reply
other_replies [] = []
other_replies (r ∷ rs) = if is_of_pruning r then other_replies rs else r ∷ other_replies rs

-- a run over these pieces, with these replies, to a state of which the new state is a pruned one
pub record RunsWithout (old : State) (pieces : List Piece) (replies : List Reply) (new : State) : Type 0 where
  pub full : State
  pub run : Run old pieces replies full
  pub pruned : IsPruned full new

-- the law: without the statements that pruned or were refused for the horizon, a run gives each of the others the same
-- reply
abbrev pub PrunesAreUnseen : Type 0
PrunesAreUnseen =
    (old new : State) (pieces : List Piece) (replies : List Reply) → IsInOrder old → Run old pieces replies new
    → RunsWithout old (other_pieces pieces replies) (other_replies replies) new

-- The laws of pinned readers. A READ that counts replies as the reference model stopped at the reader's opening would,
-- whatever the writer has done since. The copies that a reader pinned answer as the history up to its pin does.
use Rattle.std.specs.Prelude.{◌≡◌, ℕ, false, List, [], ◌∷◌, ℤ, int_le, if◌then◌else◌, Option, Some, None}
use Rattle.tql_spec.specs.Bag.{In}
use Rattle.tql_spec.specs.Refusal.{BeforeTheHorizon, ReaderNotUsable, OutOfMemory}
use Rattle.tql_spec.specs.Definition.{Name}
use Rattle.tql_spec.specs.History.{Entry, When, table_history, found}
use Rattle.tql_spec.specs.Horizon.{is_before}
use Rattle.tql_spec.specs.Readers.{Reader}
use Rattle.tql_spec.specs.Machine.{State, Reply, Done, Refused, OpenedReader}
use Rattle.tql_spec.specs.Script.{Piece}
use Rattle.tql_spec.specs.Syntax.{SelectTree, OrderTree, QueryTree, OpenTree, ReadTree, CloseTree}
use Rattle.tql_spec.specs.Run.{Says, HasSense, Run, respond}
use Rattle.tql_spec.specs.Reached.{IsReached}

-- ---- every READ of a reader

-- the reference model stopped: an open transaction is rolled back
abbrev pub stopped : State → State
stopped s = record s { transaction = None }

-- no piece closes the reader: a CLOSE READER of it was refused for lack of memory
abbrev pub ClosesNever : Name → List Piece → List Reply → Type 0
ClosesNever n (p ∷ ps) (r ∷ rs) = (HasSense p (Says (CloseTree n)) → r ≡ Refused OutOfMemory) × ClosesNever n ps rs
ClosesNever n _ _ = Unit {0}

-- a reader of this name was opened in state s, and a run that does not close it led from there to state `now`
pub record IsOpenSince (s now : State) (n : Name) : Type 0 where
  pub opened : (respond s (OpenTree n)).0 ≡ Done OpenedReader None
  pub pieces : List Piece
  pub replies : List Reply
  pub run : Run (respond s (OpenTree n)).1 pieces replies now
  pub stays : ClosesNever n pieces replies

-- the reply is not a refusal for the horizon or for the reader
abbrev pub Counts : Reply → Type 0
Counts r = (r ≡ Refused BeforeTheHorizon → ⊥) × (r ≡ Refused ReaderNotUsable → ⊥)

-- the law: each READ that counts replies as the query would in the reference model stopped at the opening, row ends
-- included
abbrev pub ReadersAreStable : Type 0
ReadersAreStable = (s now : State) (n : Name) → IsOpenSince s now n → (q : SelectTree) (keys : List OrderTree)
    → Counts (respond now (ReadTree n q keys)).0
    → (respond now (ReadTree n q keys)).0 ≡ (respond (stopped s) (QueryTree q keys)).0

-- the law: if two runs agree up to the opening, replies included, a READ of both has the same reply in both. What is
-- done, undone or pruned in between does not matter
abbrev pub ReadsAgree : Type 0
ReadsAgree = (old s s' now now' : State) (n : Name) (before : List Piece) (replies : List Reply)
    → Run old before replies s → Run old before replies s' → IsOpenSince s now n → IsOpenSince s' now' n
    → (q : SelectTree) (keys : List OrderTree)
    → Counts (respond now (ReadTree n q keys)).0 → Counts (respond now' (ReadTree n q keys)).0
    → (respond now (ReadTree n q keys)).0 ≡ (respond now' (ReadTree n q keys)).0

-- ---- one history for all readers

-- the pin: the moment of the newest pinned copy
abbrev pub pin : List Entry → Option ℤ
pin [] = None
pin (e ∷ older) = Some e.moment

-- the copies that are not after a moment
abbrev pub not_after : ℤ → List Entry → List Entry
not_after p [] = []
not_after p (e ∷ older) = if int_le e.moment p then e ∷ older else not_after p older

-- the copies up to a pin
abbrev pub until_pin : Option ℤ → List Entry → List Entry
until_pin None entries = []
until_pin (Some p) entries = not_after p entries

-- the pin is a commit that the history still has, and the copies up to it answer as the pinned copies do
pub record ReadsTheHistory (s : State) (r : Reader) : Type 0 where
  pub kept : (p : ℤ) → pin r.pinned ≡ Some p → (e : Entry) × In e s.history × (e.moment ≡ p)
  pub questions : (t : ℕ) (w : When) → is_before s.horizon w ≡ false
      → found w (table_history t (until_pin (pin r.pinned) s.history)) ≡ found w (table_history t r.pinned)

-- the law: in every state that a run reaches, every reader reads the history
abbrev pub ReadersReadTheHistory : Type 0
ReadersReadTheHistory = (s : State) → IsReached s → (r : Reader) → In r s.readers → ReadsTheHistory s r

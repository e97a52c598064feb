-- A sink that keeps statements in a journal.
use Rattle.std.specs.Prelude.{◌≡◌, Bool, ℕ, List, [], ◌∷◌, ◌++◌, take, Option, Some, None, Result, Ok, Err, IsTrue}
use Rattle.tql_journal_desk.specs.Order.{Content, Event, Pushes, texts_of, pushed_of, InOrder, journal_of}

-- what clauses see of the sink
pub record Desk : Type 0 where
  pub content : Option Content
  pub sent : Option (List ℕ)
  pub failures : ℕ
  pub flushed : Bool

-- the events
abbrev pub events_of : Option Content → Option (List Event)
events_of None = None
events_of (Some c) = Some c.events

-- the events, with one after them
abbrev pub with_event : Event → Option (List Event) → Option (List Event)
with_event e None = None
with_event e (Some es) = Some (es ++ e ∷ [])

-- the texts that were kept
abbrev pub kept_of : Option Content → Option (List (List ℕ))
kept_of None = None
kept_of (Some c) = Some (texts_of c.events)

-- the bytes that were pushed
abbrev pub pushed_by : Option Content → Option (List ℕ)
pushed_by None = None
pushed_by (Some c) = Some (pushed_of c.events)

-- the event of a push: the bytes that were taken; none if it failed
abbrev pub push_event : {E : Type 0} → List ℕ → Result ℕ E → Option (List Event) → Option (List Event)
push_event bytes (Ok n) es = with_event (Pushes (take n bytes)) es
push_event bytes (Err e) es = es

-- If all was passed on, all that was pushed has left, and all that was kept is durable.
pub record AllIsDone (c : Content) (sent : List ℕ) : Type 0 where
  pub has_left : sent ≡ pushed_of c.events
  pub durable : c.durable ≡ journal_of c.events

-- what is always true
pub record IsInOrder (c : Content) (sent : List ℕ) (seals : List ℕ → Type 0) (lines held : List ℕ)
    (owes failed flushed : Bool) : Type 0 where
  pub order : InOrder c sent seals lines held owes failed
  pub done : IsTrue flushed → AllIsDone c sent

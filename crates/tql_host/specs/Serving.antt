-- How a host serves a request.
use Rattle.std.specs.Prelude.{◌≡◌, ◌⊎◌, ℕ, List, Option, Some, None, option_map, pos, is_some, Result, Vec}
use Rattle.std.specs.Prelude.{◌==◌, drop, length, take, MatchBool, if◌then◌else◌}
use Rattle.std.specs.declared.alloc.Global.{Global}
use Rattle.tql_spec.specs.Datum.{Datum}
use Rattle.tql_spec.specs.Machine.{State, new_state}
use Rattle.tql_memory.specs.Handle.{Handle}
use Rattle.tql_value.specs.declared.refusal.Refusal.{Refusal}
use Rattle.tql_value.specs.declared.refusal.Refusal.TheVariants.{OutOfMemory}
use Rattle.tql_value.specs.declared.value.Kind.{Kind}
use Rattle.tql_run.specs.Ending.{Responds}
use Rattle.tql_engine_state.specs.Stands.{StandsFor}
use Rattle.tql_engine_read.specs.ColumnKinds.{TextTellsKinds}
use Rattle.tql_places.specs.Places.{filled, places}
use Rattle.tql_places.specs.Passed.{values_passed}
use Rattle.tql_host_cells.specs.declared.requests.Request.{Request}
use Rattle.tql_host_cells.specs.declared.requests.Told.{Told}
use Rattle.tql_host_cells.specs.declared.requests.Asked.{Asked}
use Rattle.tql_host_cells.specs.declared.requests.Asked.TheVariants as asked
use Rattle.tql_host_cells.specs.Requests.{asked_by, number_of}
use Rattle.tql_host_cells.specs.Texts.{copied}
use Rattle.tql_host_cells.specs.Cells.{nothing, text_in, told_cell}
use Rattle.tql_host_cells.specs.Block.{block, column_of}
use Rattle.tql_host_cursor.specs.Cursors.{CursorModel, idle, shown}
use Rattle.tql_host_cursor.specs.Parts.{cell_shown, copied_known, gone_over, part_of, refused_as}
use Rattle.tql_host_cursor.specs.Parts.{rows_asked, table_of}
use Rattle.tql_host_cursor.specs.Parts.{told_answer, told_block, told_known, told_place, told_row, told_skip}
use Rattle.tql_host_cursor.specs.Parts.{with_block}
use Rattle.tql_host_cursor.specs.Moves.{AnswersText, AnswersScript, EndsScript, FeedsScript, ShowsJson}
use Rattle.tql_host_cursor.specs.Statements.{statement_text}
use Rattle.tql_host.specs.Kinds.{told_kinds, put_kinds}
use Rattle.tql_host.specs.Values.{told_places}
use Rattle.tql_host.specs.declared.host.Held.{Held}
use Rattle.tql_host.specs.declared.host.Host.{Host}

-- a host without an engine
abbrev pub fresh : Global → Host
fresh alloc = record { alloc = alloc; memory = None; held = None }

-- what goes in with a request: its numbers, a text, and what lies in the room for texts
pub record Sent : Type 0 where
  pub request : Request
  pub text : List ℕ
  pub room : List ℕ

-- what comes back: the reply, and what lies in the room
pub record Back : Type 0 where
  pub told : Told
  pub room : List ℕ

-- ---- requests that run statements

-- the statement with this text is answered
pub record StepsText (text : List ℕ) (old new : Held) (t : Told) : Type 0 where
  pub answered : AnswersText Responds (statement_text text) new.cursor.answer
      (StandsFor old.engine) (StandsFor new.engine)
  pub told : t ≡ told_answer 1 new.cursor.answer
  pub cursor : new.cursor ≡ shown new.cursor.answer new.cursor.detail 1 old.cursor

-- a statement is answered
pub record Steps (s : Sent) (old new : Held) (r : Back) : Type 0 where
  pub steps : StepsText s.text old new r.told
  pub room : r.room ≡ s.room

-- the next statement of a script is answered
pub record Nexts (s : Sent) (old new : Held) (r : Back) : Type 0 where
  pub answered : AnswersScript Responds old.cursor.script new.cursor (StandsFor old.engine) (StandsFor new.engine)
  pub told : r.told ≡ told_answer new.cursor.line new.cursor.answer
  pub gone : new.cursor.gone ≡ 0
  pub room : r.room ≡ s.room

-- the script is ended, and its next statement is answered
pub record Finishes (s : Sent) (old new : Held) (r : Back) : Type 0 where
  pub answered : EndsScript Responds old.cursor.script new.cursor r.told (StandsFor old.engine) (StandsFor new.engine)
  pub told : r.told ≡ told_answer new.cursor.line new.cursor.answer
  pub gone : new.cursor.gone ≡ 0
  pub room : r.room ≡ s.room

-- there was no memory for the text of a statement with values
pub record LacksMemory (old new : Held) (t : Told) : Type 0 where
  pub engine : new.engine ≡ old.engine
  pub cursor : new.cursor ≡ shown (refused_as OutOfMemory) None 1 old.cursor
  pub told : t ≡ told_answer 1 (refused_as OutOfMemory)

-- values that are passed with a statement: none are found, or not as many as its places, and nothing is done; or it is
-- answered as the text with their literals is
abbrev pub StepsAs : (text : List ℕ) → Option (List Datum) → (old new : Held) → Told → Type 0
StepsAs text None old new told = (new ≡ old) × (told ≡ nothing)
StepsAs text (Some values) old new told = MatchBool (length values == places text)
    (StepsText (filled text values) old new told) ((new ≡ old) × (told ≡ nothing))

-- the same, or there was no memory; the values follow the text of the statement
abbrev pub StepsWith : Request → (sent : List ℕ) → (old new : Held) → Told → Type 0
StepsWith request sent old new told =
    let values = values_passed request.count (drop request.start sent) in
    StepsAs (take request.start sent) values old new told ⊎ LacksMemory old new told

-- ---- requests that leave the engine as it was

-- bytes of a script are taken
pub record Feeds (s : Sent) (old new : Held) (r : Back) : Type 0 where
  pub feeds : FeedsScript old.cursor new.cursor s.text r.told
  pub engine : new.engine ≡ old.engine
  pub room : r.room ≡ s.room

-- the cursor is this one then, and this is told
pub record Moves (c : CursorModel) (t : Told) (bytes : List ℕ) (old new : Held) (r : Back) : Type 0 where
  pub cursor : new.cursor ≡ c
  pub engine : new.engine ≡ old.engine
  pub told : r.told ≡ t
  pub room : r.room ≡ bytes

-- nothing changes but the room, and this is told
abbrev pub Tells : Told → (room : List ℕ) → (old new : Held) → Back → Type 0
Tells told room old new r = Moves old.cursor told room old new r

-- the line of JSON of the answer is told
pub record Jsons (s : Sent) (old new : Held) (r : Back) : Type 0 where
  pub shows : ShowsJson old.cursor s.request.start s.room r.room r.told
  pub cursor : new.cursor ≡ old.cursor
  pub engine : new.engine ≡ old.engine

-- the kinds of a query's columns are told
pub record TellsKinds (stands : State → Type 0) (text before after : List ℕ) (t : Told) : Type 0 where
  pub kinds : Result (Option (Vec Kind Handle)) Refusal
  pub are : (s : State) → stands s → TextTellsKinds s (statement_text text) kinds
  pub told : t ≡ told_kinds kinds
  pub room : after ≡ put_kinds kinds before

-- a number of bytes is told
pub record Uses (t : Told) : Type 0 where
  pub bytes : ℕ
  pub told : t ≡ record { kind = 1; code = 0; number = pos 0; length = bytes }

-- ---- requests to an engine

-- without an engine nothing happens; nor does anything at a number that asks for nothing
pub record Ignores (s : Sent) (old new : Host) (r : Back) : Type 0 where
  pub host : new ≡ old
  pub told : r.told ≡ nothing
  pub room : r.room ≡ s.room

-- what an engine and its cursor do at a request
abbrev pub Does : Asked → Sent → (old new : Held) → Back → Type 0
Does asked.Step s old new r = Steps s old new r
Does asked.Feed s old new r = Feeds s old new r
Does asked.Next s old new r = Nexts s old new r
Does asked.Finish s old new r = Finishes s old new r
Does asked.Forget s old new r = Moves (record old.cursor { script = None }) nothing s.room old new r
Does asked.Row s old new r = Moves (gone_over 1 old.cursor) (told_row old.cursor) s.room old new r
Does asked.Skip s old new r =
    Moves (gone_over s.request.count old.cursor) (told_skip s.request.count old.cursor) s.room old new r
Does asked.Cell s old new r = let c = cell_shown s.request.column old.cursor in
    Tells (told_cell c) (copied (text_in c) s.request.start s.room) old new r
Does asked.Block s old new r =
    let rows = rows_asked s.request.start s.request.count old.cursor in
    let is_there = is_some (table_of old.cursor.answer) in
    Tells (if is_there then told_block s.request.column rows else nothing)
    (if is_there then with_block (block (column_of s.request.column rows)) s.room else s.room) old new r
Does asked.Json s old new r = Jsons s old new r
Does asked.Place s old new r = Tells (told_place old.cursor) s.room old new r
Does asked.Kinds s old new r = TellsKinds (StandsFor old.engine) s.text s.room r.room r.told × (new ≡ old)
Does asked.InUse s old new r = Uses r.told × (r.room ≡ s.room) × (new ≡ old)
Does asked.StepWith s old new r = StepsWith s.request s.text old new r.told × (r.room ≡ s.room)
Does asked.Places s old new r = Tells (told_places s.text) s.room old new r
Does asked.Open s old new r = Tells nothing s.room old new r
Does asked.Close s old new r = Tells nothing s.room old new r
Does a s old new r =
    let text = part_of a s.request.column old.cursor in
    Tells (told_known text) (copied_known text s.request.start s.room) old new r

-- the same, if there is an engine
pub record DoesIn (a : Asked) (s : Sent) (held : Held) (old new : Host) (r : Back) : Type 0 where
  pub now : Held
  pub does : Does a s held now r
  pub host : new ≡ record old { held = Some now }

abbrev pub DoesWith : Asked → Sent → Option Held → (old new : Host) → Back → Type 0
DoesWith a s None old new r = Ignores s old new r
DoesWith a s (Some held) old new r = DoesIn a s held old new r

-- ---- requests to a host

abbrev pub told_opened : Told
told_opened = record { kind = 1; code = 0; number = pos 0; length = 0 }

-- an engine without tables is there
pub record HasOpened (new : Host) (t : Told) : Type 0 where
  pub held : Held
  pub is : new.held ≡ Some held
  pub stands : StandsFor held.engine new_state
  pub cursor : held.cursor ≡ idle
  pub told : t ≡ told_opened

-- or there was no memory for it
abbrev pub Opens : (new : Host) → Told → Type 0
Opens new told = HasOpened new told ⊎ ((new.held ≡ None) × (told ≡ nothing))

-- the engine is ended
pub record Closes (s : Sent) (old new : Host) (r : Back) : Type 0 where
  pub host : new ≡ record old { held = None }
  pub told : r.told ≡ nothing
  pub room : r.room ≡ s.room

-- how a host serves what is asked
abbrev pub Serves : Option Asked → Sent → (old new : Host) → Back → Type 0
Serves None s old new r = Ignores s old new r
Serves (Some asked.Open) s old new r = Opens new r.told × (r.room ≡ s.room)
Serves (Some asked.Close) s old new r = Closes s old new r
Serves (Some a) s old new r = DoesWith a s old.held old new r

-- how a host answers a request
pub record Answers (s : Sent) (old new : Host) (r : Back) : Type 0 where
  pub asked : Option Asked
  pub is : option_map number_of asked ≡ asked_by s.request.asked
  pub serves : Serves asked s old new r

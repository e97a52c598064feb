-- How the calls that run statements change a cursor and what answers the statements.
use Rattle.std.specs.Prelude.{◌≡◌, ◌⊎◌, ◌≤◌, ◌==◌, ℕ, min, List, [], length, take, pos, Option, Some, None, IsFalse}
use Rattle.std.specs.Prelude.{if◌then◌else◌}
use Rattle.tql_spec.specs.Machine.{State}
use Rattle.tql_spec.specs.Run.{Answering, finished}
use Rattle.tql_splitter.specs.Stream.{Stream}
use Rattle.tql_splitter.specs.Holding.{Holds}
use Rattle.tql_splitter.specs.Feeding.{Feeds, Finishes}
use Rattle.tql_result.specs.declared.answer.Answer.{Answer}
use Rattle.tql_run.specs.Responding.{Standing}
use Rattle.tql_run.specs.Writing.{IsAnswered, AnswersNext}
use Rattle.tql_host_cells.specs.declared.requests.Told.{Told}
use Rattle.tql_host_cells.specs.Texts.{signed, copied}
use Rattle.tql_host_cells.specs.Cells.{told_text}
use Rattle.tql_host_cursor.specs.Cursors.{CursorModel, IsJsonShown}

-- a statement with this text was answered
abbrev pub AnswersText : Answering → List ℕ → Option Answer → (before after : Standing) → Type 0
AnswersText A text None before after = ⊥
AnswersText A text (Some answer) before after = IsAnswered A answer before after (finished text)

-- the next statement of a script was answered, or there is none
pub record AnswersFrom (A : Answering) (from : Stream) (new : CursorModel) (before after : Standing) : Type 0 where
  pub to : Stream
  pub script : new.script ≡ Some to
  pub line : new.line ≡ to.line
  pub answers : AnswersNext A new.answer from to before after

-- without a script nothing is answered
pub record AnswersNothing (new : CursorModel) (before after : Standing) : Type 0 where
  pub script : new.script ≡ None
  pub answer : new.answer ≡ None
  pub stands : (s : State) → before s → after s

-- the next statement of the script, if there is one
abbrev pub AnswersScript : Answering → Option Stream → CursorModel → (before after : Standing) → Type 0
AnswersScript A None new before after = AnswersNothing new before after
AnswersScript A (Some script) new before after = AnswersFrom A script new before after

-- the script was ended and its next statement answered; after the last answer there is no script
pub record Ends (A : Answering) (from : Stream) (new : CursorModel) (told : Told) (before after : Standing) : Type 0
  where
    pub ended : Stream
    pub finishes : Finishes from ended
    pub to : Stream
    pub script : new.script ≡ (if told.kind == 0 then None else Some to)
    pub answers : AnswersNext A new.answer ended to before after

abbrev pub EndsScript : Answering → Option Stream → CursorModel → Told → (before after : Standing) → Type 0
EndsScript A None new told before after = AnswersNothing new before after
EndsScript A (Some script) new told before after = Ends A script new told before after

-- a script that nothing was fed of
pub record IsNew (script : Stream) : Type 0 where
  pub holds : Holds script [] []
  pub ready : script.ready ≡ []
  pub unended : IsFalse script.ended

-- the script that bytes are fed to: the one that there is, or a new one
abbrev pub IsFed : Option Stream → Stream → Type 0
IsFed None from = IsNew from
IsFed (Some script) from = script ≡ from

-- no memory
abbrev pub refused_memory : Told
refused_memory = record { kind = 3; code = 1; number = pos 0; length = 0 }

-- a number of bytes was taken
abbrev pub told_taken : ℕ → Told
told_taken n = record { kind = 1; code = 0; number = signed n; length = 0 }

-- bytes of a script were taken from the front
pub record Takes (old new : CursorModel) (text : List ℕ) (reply : Told) : Type 0 where
  pub from : Stream
  pub is_fed : IsFed old.script from
  pub to : Stream
  pub taken : ℕ
  pub told : reply ≡ told_taken taken
  pub within : taken ≤ length text
  pub feeds : Feeds from to (take taken text)
  pub all : from.ready ≡ [] → IsFalse from.ended → taken ≡ min (length text) 65_536
  pub moved : new ≡ record old { script = Some to }

-- there was no memory for a script
pub record TakesNone (old new : CursorModel) (reply : Told) : Type 0 where
  pub told : reply ≡ refused_memory
  pub none : old.script ≡ None
  pub same : new ≡ old

abbrev pub FeedsScript : (old new : CursorModel) → (text : List ℕ) → Told → Type 0
FeedsScript old new text told = Takes old new text told ⊎ TakesNone old new told

-- there is no memory for a line of JSON
abbrev pub no_line : Told
no_line = record { kind = 0; code = 1; number = pos 0; length = 0 }

-- the line of JSON of the answer was told, from a byte on; or there was no memory for it
pub record ShowsLine (c : CursorModel) (start : ℕ) (before after : List ℕ) (reply : Told) : Type 0 where
  pub text : List ℕ
  pub is : IsJsonShown c.line c.answer c.detail text
  pub told : reply ≡ told_text text
  pub room : after ≡ copied text start before

abbrev pub ShowsJson : CursorModel → (start : ℕ) → (before after : List ℕ) → Told → Type 0
ShowsJson c start before after told =
    ShowsLine c start before after told ⊎ ((told ≡ no_line) × (after ≡ before))

-- Titles, and the ends of statements.
use Rattle.std.specs.Prelude.{ℕ, suc, Bool, true, false, not, ◌&&◌, ◌==◌, if◌then◌else◌, List, [], ◌∷◌}
use Rattle.tql_spec.specs.Script.{ScanState, Outside, AfterDash, InText, InName, InComment, can_end, state_after}
use Rattle.tql_prompt.specs.Prompting.{TypedState}
use Rattle.tql_prompt.specs.declared.titles.Title.{Title}
use Rattle.tql_prompt.specs.declared.titles.Title.TheVariants as title

-- whether a byte makes a comment of the `-` before it
abbrev pub opens_comment : ScanState → ℕ → Bool
opens_comment AfterDash b = b == 45
opens_comment _ b = false

-- a comment that begins here may be a title if no statement has begun
abbrev pub fresh : TypedState → ℕ → Title
fresh t b = if opens_comment t.scan b && not t.is_begun then title.Open else title.Absent

-- a title after its next byte; a line feed ends it
abbrev pub going_on : ℕ → Title
going_on b = if b == 10 then title.Absent else title.Begun

-- whether the present comment is a title after one more byte
abbrev pub title_after : Title → TypedState → ℕ → Title
title_after title.Absent t b = fresh t b
title_after title.Open t b = if b == 33 then title.Empty else fresh t b
title_after title.Empty t b = going_on b
title_after title.Begun t b = going_on b

-- whether a byte of a title is shown: each after the `!` and one blank
abbrev pub shown_after : Title → ℕ → Bool
shown_after title.Begun b = true
shown_after title.Empty b = not (b == 32)
shown_after _ b = false

-- whether a byte ends a statement
abbrev pub ends_statement : ScanState → ℕ → Bool
ends_statement s b = (b == 59) && can_end s

-- the number of bytes up to the first end of a statement, that one included; all if there is none
abbrev pub first_end : ScanState → List ℕ → ℕ
first_end s [] = 0
first_end s (b ∷ bs) = if ends_statement s b then 1 else suc (first_end (state_after s b) bs)

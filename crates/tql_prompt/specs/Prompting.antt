-- The state of a script that is typed at a terminal.
use Rattle.std.specs.Prelude.{ℕ, Bool, true, false, not, ◌||◌, ◌&&◌, ◌==◌, if◌then◌else◌, List, codes}
use Rattle.tql_spec.specs.Script.{ScanState, Outside, AfterDash, InText, InName, InComment, can_end, is_blank}
use Rattle.tql_spec.specs.Script.{state_after}
use Rattle.tql_prompt.specs.declared.typed.Place.{Place}
use Rattle.tql_prompt.specs.declared.typed.Place.TheVariants as place
use Rattle.tql_prompt.specs.declared.typed.Typed.{Typed}

-- the scanner state of a place in the code
abbrev pub place_of : Place → ScanState
place_of place.Outside = Outside
place_of place.AfterDash = AfterDash
place_of place.InText = InText
place_of place.InName = InName
place_of place.InComment = InComment

-- whether a byte, together with a `-` directly before it, is part of a statement's text
abbrev pub counts : ScanState → ℕ → Bool
counts Outside b = not (is_blank b || (b == 45))
counts AfterDash b = not (b == 45)
counts InComment b = false
counts _ b = true

-- whether a statement has begun after a byte; a `;` that can end a statement ends it
abbrev pub begun_by : ScanState → Bool → ℕ → Bool
begun_by s is_begun b = if (b == 59) && can_end s then false else is_begun || counts s b

-- the state of a script: the scanner's, and whether a statement has begun
pub record TypedState : Type 0 where
  pub scan : ScanState
  pub is_begun : Bool

abbrev pub state_of : Typed → TypedState
state_of t = record { scan = place_of t.place; is_begun = t.is_begun }

-- the state after one more byte
abbrev pub state_with : TypedState → ℕ → TypedState
state_with t b = record { scan = state_after t.scan b; is_begun = begun_by t.scan t.is_begun b }

-- whether neither a statement nor a comment has begun
abbrev pub is_outside : ScanState → Bool
is_outside Outside = true
is_outside _ = false

abbrev pub is_idle : TypedState → Bool
is_idle t = is_outside t.scan && not t.is_begun

-- the prompt before more of a script
abbrev pub plain_prompt : Bool → List ℕ
plain_prompt is_begun = if is_begun then codes "...> " else codes "tql> "

abbrev pub prompt_in : ScanState → Bool → List ℕ
prompt_in InText is_begun = codes "'...> "
prompt_in InName is_begun = codes "\"...> "
prompt_in _ is_begun = plain_prompt is_begun

abbrev pub prompt_of : TypedState → List ℕ
prompt_of t = prompt_in t.scan t.is_begun

-- Answers that are no tables.
use Rattle.std.proofs.Common.{◌≡◌, ℕ, true, false, refl}
use Rattle.tql_spec.specs.Answer.{Answer, Replied, Accepted}
use Rattle.tql_spec.specs.Machine.{Done, Table, Refused}
use Rattle.tql_run_forms.specs.Forms.{is_table, accepted_answer}
use Rattle.tql_terminal.specs.Terminal.{IsShownAnswer}

-- an answer that is not a table has the same text as in plain text without refusals
pub other_shown : (width : ℕ) (a : Answer) → is_table a ≡ false → IsShownAnswer width a (accepted_answer a)
other_shown width (Replied (Table headings rows)) is = let bad : true ≡ false = is in absurd cc
other_shown width (Replied (Refused e)) is = refl
other_shown width (Replied (Done v n)) is = refl
other_shown width Accepted is = refl

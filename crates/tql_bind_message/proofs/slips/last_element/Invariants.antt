use denote.Text.{Utf8}
use denote.Shadow.{shadow}
use Rattle.tql_bind_message.proofs.slips.last_element.Given as goal

-- the part found last is text
abbrev pub invariant-loop-word : goal.invariant-loop-word
invariant-loop-word l = shadow (Utf8 l.last)

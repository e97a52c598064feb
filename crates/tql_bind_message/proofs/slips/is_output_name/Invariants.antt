use denote.Text.{Utf8}
use denote.Shadow.{shadow}
use Rattle.tql_bind_message.proofs.slips.is_output_name.Given as goal

-- the word read last is text
abbrev pub invariant-loop-word : goal.invariant-loop-word
invariant-loop-word l =
    (goal.iterator-loop-word).can_next l.word-iterator ×
    (goal.iterator-loop-word).is_finite l.word-iterator ×
    shadow (Utf8 l.before)

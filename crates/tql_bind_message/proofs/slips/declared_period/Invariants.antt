use denote.Text.{Utf8}
use denote.Shadow.{shadow}
use Rattle.tql_bind_message.proofs.slips.declared_period.Given as goal

-- the words read last are text
abbrev pub invariant-loop-word : goal.invariant-loop-word
invariant-loop-word l =
    (goal.iterator-loop-word).can_next l.word-iterator ×
    (goal.iterator-loop-word).is_finite l.word-iterator ×
    (shadow (Utf8 l.first) × shadow (Utf8 l.second))

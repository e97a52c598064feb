use Rattle.std.proofs.Common.{◌≡◌, drop}
use Rattle.std.specs.List.{fold}
use Rattle.tql_prompt.specs.Prompting.{state_of, state_with}
use Rattle.tql_prompt.proofs.typed.Typed.after_all.Given as goal

abbrev pub invariant-loop-byte : goal.invariant-loop-byte
invariant-loop-byte l =
    fold state_with (state_of l.typed) (drop l.byte-index l.bytes) ≡ fold state_with (state_of l.initial.typed) l.bytes

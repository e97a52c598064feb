use Rattle.std.proofs.Common.{◌≡◌, ◌+◌, drop}
use Rattle.tql_prompt.specs.Prompting.{place_of}
use Rattle.tql_prompt.specs.Titles.{first_end}
use Rattle.tql_prompt.proofs.titles.statement_end.Given as goal

abbrev pub invariant-loop-byte : goal.invariant-loop-byte
invariant-loop-byte l = record {
  at : l.count ≡ l.byte-index;
  rest : first_end (place_of l.initial.typed.place) l.bytes
      ≡ l.count + first_end (place_of l.typed.place) (drop l.byte-index l.bytes);
}

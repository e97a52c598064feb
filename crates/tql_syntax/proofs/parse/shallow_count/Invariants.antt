use Rattle.std.proofs.Common.{◌≡◌, ◌≤◌, map, take}
use Rattle.tql_spec.specs.Token.{depth}
use Rattle.tql_lex.specs.Tokens.{token_of}
use Rattle.tql_syntax.proofs.NestingLemmas.{open_after}
use Rattle.tql_syntax.proofs.parse.shallow_count.Given as goal

abbrev pub invariant-loop-index : goal.invariant-loop-index
invariant-loop-index l = record {
  below : l.count ≤ 64;
  opened : l.count ≡ open_after 0 (map token_of (take l.index l.tokens));
  shallow : depth (map token_of (take l.index l.tokens)) ≤ 64;
}

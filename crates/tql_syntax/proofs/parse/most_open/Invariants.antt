use Rattle.std.proofs.Common.{◌≡◌, ◌≤◌, max, map, drop}
use Rattle.tql_spec.specs.Token.{depth, depth_from}
use Rattle.tql_lex.specs.Tokens.{token_of}
use Rattle.tql_syntax.proofs.parse.most_open.Given as goal

abbrev pub invariant-loop-token : goal.invariant-loop-token
invariant-loop-token l = record {
  counted : depth (map token_of l.tokens) ≡ max l.most
      (depth_from l.count (map token_of (drop l.token-index l.tokens)));
  below : l.count ≤ l.token-index;
  seen : l.count ≤ l.most;
}

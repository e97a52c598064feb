use Rattle.std.proofs.Common.{drop}
use Rattle.std.specs.Prelude.{map}
use Rattle.tql_lex.specs.Tokens.{token_of}
use Rattle.tql_lex.proofs.TokensLemmas.{end_tokens}
use Rattle.tql_lex.proofs.PlaceLemmas.{are_in_place, placed_more, found_more, none_here}
use Rattle.tql_lex.proofs.tokenizer.tokens.Goals as goal

pub returns-in_default-token_at-clause-refused : goal.returns-in_default-token_at-clause-refused
returns-in_default-token_at-clause-refused c =
    λ _. none_here c.loop-start.found.items c.args.text.now c.loop-start.end c.in-Some.start c.loop-start.invariant.1
    c.in-Some.ensures c.in_default-token_at.ensures

pub loop-start-preserved : goal.loop-start-preserved
loop-start-preserved c =
    let t = c.in-Some-token_at.token in (
      c.in-Some-token_at.ensures.2,
      rw c.in_ok-push.ensures.items
          (found_more c.loop-start.found.items c.args.text.now c.loop-start.end c.in-Some.start t
          c.loop-start.invariant.1 c.in-Some.ensures c.in-Some-token_at.ensures),
      rw c.in_ok-push.ensures.items
          (placed_more c.loop-start.found.items c.args.text.now c.loop-start.end c.in-Some.start t
          c.loop-start.invariant.2 c.in-Some.ensures c.in-Some-token_at.ensures),
    )

pub returns-clause-tokens : goal.returns-clause-tokens
returns-clause-tokens c =
    end_tokens c.args.text.now (drop c.loop-start.end c.args.text.now) (map token_of c.loop-start.found.items)
    c.loop-start.invariant.1 c.in_default.ensures

pub returns-clause-places : goal.returns-clause-places
returns-clause-places c =
    are_in_place 0 c.loop-start.found.items c.args.text.now c.loop-start.end c.loop-start.invariant.2

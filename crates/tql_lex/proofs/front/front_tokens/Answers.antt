use Rattle.tql_lex.proofs.PlaceLemmas.{are_in_place, placed_more}
use Rattle.tql_lex.proofs.front.front_tokens.Goals as goal

pub returns-in_default-token_at-clause-places : goal.returns-in_default-token_at-clause-places
returns-in_default-token_at-clause-places c =
    are_in_place 0 c.loop-start.tokens.items c.args.text.now c.loop-start.end c.loop-start.invariant.1

pub loop-start-preserved : goal.loop-start-preserved
loop-start-preserved c = (
  c.in-Some-token_at.ensures.2,
  rw c.in_ok-push.ensures.items
      (placed_more c.loop-start.tokens.items c.args.text.now c.loop-start.end c.in-Some.start c.in-Some-token_at.token
      c.loop-start.invariant.1 c.in-Some.ensures c.in-Some-token_at.ensures),
)

pub returns-clause-places : goal.returns-clause-places
returns-clause-places c =
    are_in_place 0 c.loop-start.tokens.items c.args.text.now c.loop-start.end c.loop-start.invariant.1

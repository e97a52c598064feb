use Rattle.std.proofs.lemmas.Bool.{eq-eqb}
use Rattle.tql_lex.proofs.QuoteLemmas.{quote_goes_on, quote_doubled}
use Rattle.tql_lex.proofs.extent.quote_end.Goals as goal
use Rattle.tql_lex.proofs.extent.quote_end.Goals.{then-not-again, else-not-again+then-byte-quote}

pub loop-index-preserved : goal.loop-index-preserved
loop-index-preserved c = elim c.if-not-again.branch [
  | then-not-again w ↦ rw w.again-is
      (quote_goes_on _ c.args.quote c.args.bytes.now c.loop-index.index c.loop-index-test.true
      (rw w.if-not-again.true at c.loop-index.invariant))
  | else-not-again+then-byte-quote w ↦ rw w.again-is
      (quote_doubled _ c.args.quote c.args.bytes.now c.loop-index.index c.loop-index-test.true
      (eq-eqb _ _ w.if-byte-quote.true) (rw w.if-not-again.false at c.loop-index.invariant))
]

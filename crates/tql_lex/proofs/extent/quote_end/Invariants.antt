use Rattle.std.proofs.Common.{◌≡◌, drop, false}
use Rattle.tql_spec.specs.FirstToken as spec
use Rattle.tql_lex.proofs.QuoteLemmas.{plus}
use Rattle.tql_lex.proofs.extent.quote_end.Given as goal

abbrev pub invariant-loop-index : goal.invariant-loop-index
invariant-loop-index l =
    spec.quote_end l.quote false l.bytes ≡ plus l.index (spec.quote_end l.quote l.again (drop l.index l.bytes))

use Rattle.std.proofs.Common.{None}
use Rattle.std.proofs.lemmas.Str.Pattern.{strip_prefix_char}
use Rattle.tql_lex.proofs.QuoteLemmas.{without_none}
use Rattle.tql_lex.proofs.folding.without_quote.Goals as goal

pub returns-in-None : goal.returns-in-None
returns-in-None c = without_none c.args.quote c.args.text.now
    (strip_prefix_char c.args.quote c.args.text.now None c.in-None.ensures.cases c.requires)

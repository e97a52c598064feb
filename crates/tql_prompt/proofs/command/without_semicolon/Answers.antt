use Rattle.std.proofs.Common.{None, arith}
use Rattle.std.proofs.lemmas.Str.Pattern.{strip_suffix_char}
use Rattle.tql_prompt.proofs.Endings.{stays}
use Rattle.tql_prompt.proofs.command.without_semicolon.Goals as goal

pub returns-in-None : goal.returns-in-None
returns-in-None c =
    stays c.args.text.now (strip_suffix_char 59 c.args.text.now None c.in-None.ensures.cases (omega arith))

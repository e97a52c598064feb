use Rattle.std.proofs.Common.{drop, refl}
use Rattle.std.proofs.lemmas.Str.Ascii.{trim_ascii_is}
use Rattle.std.specs.Char.{is_ascii_whitespace}
use Rattle.std.specs.List.{prefix_len}
use Rattle.tql_prompt.proofs.command.without_blanks.Goals as goal

pub returns : goal.returns
returns c =
    let t = c.args.text.now in
    trim_ascii_is t c.trim_ascii.result.now (drop (prefix_len is_ascii_whitespace t) t) refl c.trim_ascii.ensures.value

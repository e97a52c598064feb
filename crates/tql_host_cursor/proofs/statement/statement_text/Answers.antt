use Rattle.std.proofs.Common.{ap, ◌∙◌}
use Rattle.std.proofs.lemmas.Str.Ascii.{trim_ascii_end_is}
use Rattle.tql_host_cursor.specs.Statements.{without_last}
use Rattle.tql_host_cursor.proofs.statement.statement_text.Goals as goal

pub returns : goal.returns
returns c = c.without_last.ensures ∙ ap without_last (trim_ascii_end_is _ _ c.trim_ascii_end.ensures.value)

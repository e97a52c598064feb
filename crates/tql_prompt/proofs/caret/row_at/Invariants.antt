use Rattle.std.proofs.Common.{◌≡◌, ◌-◌}
use denote.Text.{Utf8}
use denote.Shadow.{shadow}
use Rattle.tql_prompt.specs.Carets.{drop_rows}
use Rattle.tql_prompt.proofs.caret.row_at.Given as goal

abbrev pub invariant-loop : goal.invariant-loop
invariant-loop l =
    shadow (Utf8 l.rest) × (drop_rows (l.index - l.counter) l.rest ≡ drop_rows l.index l.text)

use Rattle.std.proofs.Common.{◌∙◌, ap, sym}
use Rattle.std.specs.Prelude.{string_bytes}
use Rattle.std.specs.Str.{bytes_eq}
use Rattle.std.proofs.lemmas.Map.Text.{is_eq-slice_cmp}
use Rattle.tql_catalog.proofs.ColumnNames.{period_called}
use Rattle.tql_catalog.proofs.definable.is_period_name.Goals as goal

pub returns-in-Some : goal.returns-in-Some
returns-in-Some c =
    c.eq.ensures ∙ ap (bytes_eq c.args.name.now) c.as_str.ensures.value
    ∙ sym (is_eq-slice_cmp c.args.name.now (string_bytes c.in-Some.application.now.name))
    ∙ period_called c.args.name.now c.args.application c.in-Some.application c.in-Some.is

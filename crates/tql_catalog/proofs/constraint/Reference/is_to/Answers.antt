use Rattle.std.proofs.Common.{◌∙◌, ap, sym}
use Rattle.std.specs.Prelude.{string_bytes}
use Rattle.std.specs.Str.{bytes_eq}
use Rattle.std.proofs.lemmas.Map.Text.{is_eq-slice_cmp}
use Rattle.tql_catalog.proofs.constraint.Reference.is_to.Goals as goal

pub returns : goal.returns
returns c = c.eq.ensures ∙ ap (bytes_eq c.args.name.now) c.as_str.ensures.value
    ∙ sym (is_eq-slice_cmp c.args.name.now (string_bytes c.args.self.now.parent))

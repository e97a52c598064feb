use Rattle.std.proofs.Common.{◌∙◌, ap, length, List, ℕ}
use Rattle.std.specs.Prelude.{not, ◌==◌}
use Rattle.tql_spec.specs.Binding.{is_referenced}
use Rattle.tql_spec.specs.Definition.{table_at}
use Rattle.tql_catalog.specs.Tables.{definitions_of}
use Rattle.tql_catalog.proofs.ReferringLists.{referring_none, not_not}
use Rattle.tql_catalog.proofs.catalog.Catalog.is_referenced.Goals as goal

pub returns : goal.returns
returns c =
    let defs = definitions_of c.args.self.now in
    let n = (table_at defs c.args.place).name in
    ap not (c.is_empty.ensures ∙ ap (λ (ps : List ℕ). length ps == 0) c.referring.ensures.referring
    ∙ referring_none n defs) ∙ not_not (is_referenced n defs)

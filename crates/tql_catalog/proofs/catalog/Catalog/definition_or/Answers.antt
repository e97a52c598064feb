use Rattle.std.proofs.Common.{◌≡◌, List, Some, ap, sym, ◌∙◌}
use Rattle.std.specs.Prelude.{slice_get}
use Rattle.tql_catalog.specs.declared.catalog.Table.{Table}
use Rattle.tql_catalog.proofs.Catalogs.{definition_at, value_at}
use Rattle.tql_catalog.proofs.catalog.Catalog.definition_or.Goals as goal

pub returns-in-Some : goal.returns-in-Some
returns-in-Some c =
    let at : slice_get c.args.self.now c.args.place ≡ Some c.in-Some.table.now =
    ap (λ (ts : List Table). slice_get ts c.args.place) (sym c.self.view_is)
    ∙ value_at c.self.inside.tables.entries c.args.place _ _ c.in-Some.ensures.entry in
    sym (definition_at c.args.self.now c.args.place c.in-Some.table.now at)

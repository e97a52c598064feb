use Rattle.std.proofs.Common.{◌≡◌, List, Some, ap, sym, ◌∙◌}
use Rattle.std.specs.Prelude.{slice_get, is_some}
use Rattle.tql_spec.specs.Definition.{TableDef}
use Rattle.tql_catalog.specs.declared.catalog.Table.{Table}
use Rattle.tql_catalog.proofs.Catalogs.{definition_at, value_at}
use Rattle.tql_catalog.proofs.catalog.Catalog.is_versioned.Goals as goal

pub returns-in-Some : goal.returns-in-Some
returns-in-Some c =
    let at : slice_get c.args.self.now c.args.place ≡ Some c.in-Some.table.now =
    ap (λ (ts : List Table). slice_get ts c.args.place) (sym c.self.view_is)
    ∙ value_at c.self.inside.tables.entries c.args.place _ _ c.in-Some.ensures.entry in
    c.is_versioned.ensures.versioned
    ∙ ap (λ (d : TableDef). is_some d.system)
    (sym (definition_at c.args.self.now c.args.place c.in-Some.table.now at))

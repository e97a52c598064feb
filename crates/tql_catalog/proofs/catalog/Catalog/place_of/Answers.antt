use Rattle.std.proofs.Common.{List, ap, ◌∙◌}
use Rattle.tql_spec.specs.Definition.{place_of}
use Rattle.tql_catalog.specs.Tables.{definitions_of}
use Rattle.tql_catalog.specs.declared.catalog.Table.{Table}
use Rattle.tql_catalog.proofs.Catalogs.{place_by_name}
use Rattle.tql_catalog.proofs.catalog.Catalog.place_of.Goals as goal

pub returns-clause-place : goal.returns-clause-place
returns-clause-place c =
    c.get_index_of.ensures.index ∙ place_by_name c.args.name.now c.self.inside.tables.entries c.self.invariant.1
    ∙ ap (λ (ts : List Table). place_of c.args.name.now (definitions_of ts)) c.self.view_is

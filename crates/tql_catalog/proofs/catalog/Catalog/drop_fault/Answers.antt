use Rattle.std.proofs.Common.{◌∙◌, ap, sym, Bool, Some, None, if◌then◌else◌}
use Rattle.tql_spec.specs.Definition.{table_at}
use Rattle.tql_spec.specs.Refusal.{TableIsReferenced}
use Rattle.tql_catalog.specs.Tables.{definitions_of}
use Rattle.tql_catalog.proofs.ReferringLists.{fault_there, fault_of_reference}
use Rattle.tql_catalog.proofs.catalog.Catalog.drop_fault.Goals as goal

pub returns-in-Some : goal.returns-in-Some
returns-in-Some c =
    let defs = definitions_of c.args.self.now in
    sym (fault_there defs c.args.name.now c.in-Some.place c.in-Some.ensures.place
    ∙ fault_of_reference defs (table_at defs c.in-Some.place).name c.is_referenced.result c.is_referenced.ensures
    ∙ ap (λ (b : Bool). if b then Some TableIsReferenced else None) c.if-is_referenced.true)

pub returns-in-Some-2 : goal.returns-in-Some-2
returns-in-Some-2 c =
    let defs = definitions_of c.args.self.now in
    sym (fault_there defs c.args.name.now c.in-Some.place c.in-Some.ensures.place
    ∙ fault_of_reference defs (table_at defs c.in-Some.place).name c.is_referenced.result c.is_referenced.ensures
    ∙ ap (λ (b : Bool). if b then Some TableIsReferenced else None) c.if-is_referenced.false)

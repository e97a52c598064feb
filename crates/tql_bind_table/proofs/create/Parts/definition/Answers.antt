use Rattle.std.proofs.Common.{◌≡◌, ◌∙◌, map}
use Rattle.std.specs.Prelude.{string_bytes, option_map}
use Rattle.tql_spec.specs.Creation.{first_of}
use Rattle.tql_catalog.specs.Defined.{are_constraints, table_of_parts}
use Rattle.tql_catalog.specs.Definitions as catalog
use Rattle.tql_catalog.specs.Definitions.{system_of, application_of, key_of, reference_of, checks_of}
use Rattle.tql_bind_table.proofs.create.Parts.definition.Goals as goal

pub with_constraints-requires : goal.with_constraints-requires
with_constraints-requires c =
    let system : option_map system_of c.first_system-system.result ≡ first_of (map system_of c.args.self.systems.items)
    = c.first_system-system.ensures ∙ (λ i. first_of (map system_of (c.deref.ensures.value i))) in
    let application : option_map application_of c.in_ok-application.application
    ≡ first_of (map application_of c.args.self.applications.items)
    = c.in_ok-application.ensures ∙ (λ i. first_of (map application_of (c.deref-2.ensures.value i))) in
    let made = c.in_ok-table.ensures
    ∙ (λ i. table_of_parts (string_bytes c.args.name) (map catalog.column_of c.args.self.columns.items) (system i)
    (application i)) in
    (λ i. are_constraints (made i) (map key_of c.args.self.keys.items) (map reference_of c.args.self.references.items)
    (checks_of c.args.self.checks))
    ∙ c.requires.constrained

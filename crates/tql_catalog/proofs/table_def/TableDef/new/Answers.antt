use Rattle.std.proofs.Common.{rules, tests, ◌≡◌, refl, subst, map, length, []}
use Rattle.std.specs.Prelude.{option_map, string_bytes, filter, not}
use Rattle.std.specs.List.{range_with_len}
use Rattle.tql_spec.specs.Binding.{generated_columns}
use Rattle.tql_spec.specs.Creation.{has_number}
use Rattle.tql_catalog.specs.Defined.{IsDefinition, table_of_parts, with_constraints}
use Rattle.tql_catalog.specs.Definitions.{column_of, system_of, application_of, key_of, reference_of, checks_of}
use Rattle.tql_catalog.proofs.Definitions.{right}
use Rattle.tql_catalog.proofs.Numbers.{assigned}
use Rattle.tql_catalog.proofs.table_def.TableDef.new.Goals as goal

pub invariant_of-result : goal.invariant_of-result
invariant_of-result c =
    let name = string_bytes c.args.name in
    let columns = map column_of c.args.columns.items in
    let system = option_map system_of c.args.system in
    let application = option_map application_of c.args.application in
    let numbers : c.in_ok-assignable.assignable.items ≡ filter
    (λ i. not (has_number i (generated_columns system))) (range_with_len 0 (length c.args.columns.items)) =
    search (rules, tests) in
    let none : checks_of c.none.result ≡ [] = search (rules, tests) in
    let plain : with_constraints (table_of_parts name columns system application) [] [] []
    ≡ with_constraints (table_of_parts name columns system application) (map key_of c.new.result.items)
    (map reference_of c.new-2.result.items) (checks_of c.none.result) = search (rules, tests) in (
      subst IsDefinition plain (right name columns system application c.requires),
      assigned name c.args.columns.items c.args.system application c.in_ok-assignable.assignable.items
          (length c.args.columns.items) refl numbers,
    )

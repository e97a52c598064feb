use Rattle.std.proofs.Common.{rules, tests, ◌≡◌, ◌∙◌, ◌+◌, ap, sym, subst, length}
use Rattle.std.specs.Prelude.{option_map, Option}
use Rattle.std.proofs.lemmas.List.{length-map}
use Rattle.tql_spec.specs.Binding.{generated_columns}
use Rattle.tql_spec.specs.Definition.{TableDef, System, cell, with_generated}
use Rattle.tql_catalog.specs.Defined.{IsDefinition}
use Rattle.tql_catalog.specs.Definitions.{column_of, system_of}
use Rattle.tql_catalog.proofs.StoredNumbers.{stored_count}
use Rattle.tql_catalog.proofs.table_def.TableDef.stored_number.Goals as goal

pub returns : goal.returns
returns c = λ cells start end long.
    let d = c.args.self.now in
    let columns = c.self.inside.columns.items in
    let is : option_map system_of c.self.inside.system ≡ d.system = ap (λ (t : TableDef). t.system) c.self.view_is in
    let right : IsDefinition d = subst IsDefinition c.self.view_is c.self.invariant.0 in
    let width : length d.columns ≡ length columns =
    ap (λ (t : TableDef). length t.columns) (sym c.self.view_is) ∙ length-map columns column_of in
    let counted : length columns ≡ c.len.result = search (rules, tests) in
    let as_many : length cells + length (generated_columns (option_map system_of c.self.inside.system))
    ≡ c.len.result =
    (λ i. long i + length (generated_columns (is i))) ∙ stored_count d right ∙ width ∙ counted in
    subst (λ (o : Option System). cell (with_generated o cells start end) c.args.column
    ≡ cell cells c.stored_number.result) is (c.stored_number.ensures cells start end as_many)

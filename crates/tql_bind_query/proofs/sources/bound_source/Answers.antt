use Rattle.std.proofs.Common.{◌≡◌, ◌∙◌, length, ap, sym}
use Rattle.std.proofs.lemmas.List.{length-map}
use Rattle.tql_spec.specs.Definition.{Name}
use Rattle.tql_spec.specs.Names.{Known}
use Rattle.tql_spec.specs.Words.{listed}
use Rattle.tql_value.specs.When.{when_of}
use Rattle.tql_catalog.specs.Definitions.{column_of}
use Rattle.tql_catalog.specs.Tables.{definitions_of}
use Rattle.tql_syntax_tree.specs.Statements.{ref_of}
use Rattle.tql_bind_expr.specs.Scopes.{known_of}
use Rattle.tql_bind_query.proofs.FromLaws.{source_bound, known_at}
use Rattle.tql_bind_query.proofs.sources.bound_source.Goals as goal

pub returns-clause-bound : goal.returns-clause-bound
returns-clause-bound c =
    let r = ref_of c.args.written in
    let d = c.definition_or-definition.result.now in
    let width : length c.columns.result.now ≡ length d.columns = sym (length-map c.columns.result.now column_of)
    ∙ ap length c.columns.ensures.columns in
    let named : Name → Known = λ n. record {
      name = n;
      columns = d.columns;
      applications = listed d.application;
      system = d.system;
      offset = c.args.offset;
    } in
    let known : known_of c.known_table-known.result ≡ known_at r c.args.offset d =
    c.known_table-known.ensures.known ∙ ap named c.requires.named in
    source_bound (definitions_of c.args.catalog.now) r c.args.offset c.args.faults.now c.table_number.new.faults
    c.when.new.faults c.in_ok-table.table d (when_of c.in_ok-when.when) (length c.columns.result.now)
    (known_of c.known_table-known.result) c.in_ok-table.ensures c.definition_or-definition.ensures
    c.in_ok-when.ensures width known

use Rattle.std.proofs.Common.{◌∷◌, [], map, ap, refl, ◌∙◌}
use Rattle.std.specs.Prelude.{string_bytes}
use Rattle.std.proofs.lemmas.List.{map-append}
use Rattle.tql_catalog.specs.Definitions.{column_of}
use Rattle.tql_expr.specs.Trees.{expr_of}
use Rattle.tql_bind_query.proofs.ShownLaws.{column_pushed}
use Rattle.tql_bind_query.proofs.outputs.push_column.Goals as goal

pub returns-clause-pushes : goal.returns-clause-pushes
returns-clause-pushes c =
    let x = c.args.outputs.now in
    let column = c.args.column.now in
    let headings = ap (map string_bytes) c.in_ok-push-2.ensures.items
    ∙ map-append string_bytes x.headings.items (c.in_ok-name.name ∷ []) in
    column_pushed c.args.terms.now c.push_column.new.self x (record {
      items = c.push.new.self;
      headings = c.push-2.new.self;
      kinds = c.push-3.new.self;
    })
    c.args.number (column_of column) c.in_ok-value.value (string_bytes c.in_ok-name.name) headings column.kind
    c.requires c.in_ok-value.ensures.stays c.in_ok-value.ensures.within (ap expr_of c.in_ok-value.ensures.is)
    (c.in_ok-name.ensures.ok ∙ c.as_str.ensures.value) refl
    c.in_ok-push.ensures.items c.in_ok-push-3.ensures.items

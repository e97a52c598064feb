use Rattle.std.proofs.Common.{◌≡◌, rules, tests, sym, ap, ◌∙◌}
use Rattle.std.specs.Prelude.{Some, option_map}
use Rattle.tql_spec.specs.Definition.{Version, shown}
use Rattle.tql_expr.specs.Shown.{shown_by}
use Rattle.tql_store.specs.Changes.{starting}
use Rattle.tql_key_rows.specs.Asked.{row_found, row_named}
use Rattle.tql_key_rows.specs.Keeping.{are_alike, is_kept}
use Rattle.tql_key_rows.proofs.keeping.is_kept.Goals as goal

pub returns : goal.returns
returns g c =
    let d = c.args.table.now.definition in
    let columns = c.args.columns.now in
    let x = shown d (starting c.args.moment c.args.added.now) in
    let named : row_named c.args.store.now c.args.table.now.id c.args.id ≡ Some (row_found c.in-Some.gone) =
    sym (ap (option_map (λ (v : Version). v.row)) c.in-Some.ensures.row) in
    let old : shown_by c.current_row-old.result ≡ shown d (row_found c.in-Some.gone) = search (rules, tests) in
    let new : shown_by c.current_row-new.result ≡ x = search (rules, tests) in
    c.is_alike.ensures
    ∙ ap (λ r. are_alike d columns c.args.by_period r (shown_by c.current_row-new.result)) old
    ∙ ap (are_alike d columns c.args.by_period (shown d (row_found c.in-Some.gone))) new
    ∙ sym (ap (λ o. is_kept d columns c.args.by_period o x) named)

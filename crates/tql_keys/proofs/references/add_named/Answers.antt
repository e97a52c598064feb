use Rattle.std.proofs.Common.{◌≡◌, rules, tests, sym, ap, ◌∙◌, List, [], ◌∷◌, ◌++◌, map}
use Rattle.std.specs.Prelude.{◌&&◌, Some, option_map}
use Rattle.std.specs.List.{list_all}
use Rattle.std.proofs.lemmas.List.{map-append}
use Rattle.tql_spec.specs.Definition.{Version, shown}
use Rattle.tql_expr.specs.Shown.{shown_by}
use Rattle.tql_expr.specs.declared.stored.StoredRow.{StoredRow}
use Rattle.tql_key_rows.specs.Asked.{row_found, row_named}
use Rattle.tql_keys.specs.Named.{of_named}
use Rattle.tql_key_rows.proofs.Bools.{all_app, and_yes}
use Rattle.tql_keys.proofs.references.add_named.Goals as goal

pub returns-in_ok-push : goal.returns-in_ok-push
returns-in_ok-push g c test =
    let d = c.args.table.now.definition in
    let before = c.args.rows.now.items in
    let x = c.current_row.result in
    let pushed : c.push.new.self.items ≡ before ++ x ∷ [] = c.in_ok-push.ensures.items in
    let row : shown_by x ≡ shown d (row_found c.in-Some.named) = search (rules, tests) in
    let named : row_named c.args.store.now c.args.table.now.id c.args.id ≡ Some (row_found c.in-Some.named) =
    sym (ap (option_map (λ (v : Version). v.row)) c.in-Some.ensures.row) in
    ap (λ (xs : List StoredRow). list_all test (map shown_by xs)) pushed
    ∙ ap (list_all test) (map-append shown_by before (x ∷ []))
    ∙ all_app test (map shown_by before) (shown_by x ∷ [])
    ∙ ap (λ b. list_all test (map shown_by before) && b)
    (and_yes (test (shown_by x)) ∙ ap test row ∙ sym (ap (of_named (λ r. test (shown d r))) named))

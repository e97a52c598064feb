use Rattle.std.proofs.Common.{sym, ◌∙◌}
use Rattle.tql_spec.proofs.Members.{both}
use Rattle.tql_catalog.specs.Definitions.{key_of}
use Rattle.tql_key_rows.specs.Asked.{new_rows, row_named}
use Rattle.tql_key_rows.specs.Keeping.{are_kept}
use Rattle.tql_key_rows.specs.Rising.{are_distinct}
use Rattle.tql_key_rows.proofs.KeptLists.{among_bag}
use Rattle.tql_key_clashes.proofs.KeptKeys.{key_kept_after}
use Rattle.tql_key_clashes.proofs.NamedRows.{in_among}
use Rattle.tql_key_clashes.proofs.keys.key_after.Goals as goal

pub returns-then-is_untouched : goal.returns-then-is_untouched
returns-then-is_untouched g c rows gone of judged held =
    let h = c.args.store.now in
    let t = c.args.table.now.id in
    let d = c.args.table.now.definition in
    let k = key_of c.args.key.now in
    let m = c.args.change.now.moment in
    let added = c.args.change.now.added.now in
    let given = c.args.change.now.given.now in
    let removed = c.args.change.now.removed.now in
    let kept = both (are_kept d k.columns k.by_period (row_named h t) given (new_rows d m added)) (are_distinct given)
    (sym c.if-is_untouched.ensures) in
    key_kept_after h t d k m gone added rows given removed of.same judged
    (λ id i. sym (among_bag id given removed c.args.change.now.same) ∙ in_among id given i) kept.1 kept.0 held

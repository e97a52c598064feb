use Rattle.std.proofs.Common.{◌≡◌, rules, tests, arith, sym, ◌∙◌, ℕ, false, length, nat_eq}
use Rattle.std.proofs.lemmas.Iterator.{YieldsList-from_slice, YieldsList-from_zip}
use Rattle.std.proofs.lemmas.Iterator.Search.{all_from_yields_List}
use Rattle.tql_spec.specs.Datum.{Row}
use Rattle.tql_key_rows.specs.Asked.{row_named}
use Rattle.tql_key_rows.specs.Keeping.{is_kept}
use Rattle.tql_key_rows.proofs.KeptLists.{kept_zipped, not_one_each}
use Rattle.tql_key_rows.proofs.Stepping.{new_row}
use Rattle.tql_key_rows.proofs.keeping.are_kept.Goals as goal

pub returns-then-ids-rows : goal.returns-then-ids-rows
returns-then-ids-rows g c =
    let d = c.args.table.now.definition in
    let columns = c.args.columns.now in
    let named = row_named c.args.store.now c.args.table.now.id in
    let m = c.args.change.now.moment in
    let ids = c.args.change.now.given.now in
    let rows = c.args.change.now.added.now in
    let n : length ids ≡ length rows = omega (arith, c.if-ids-rows.true) in
    all_from_yields_List (λ (p : ℕ × Row). is_kept d columns c.args.by_period (named p.0) (new_row d m p.1))
    c.all.new.self _ c.all.result c.all.ensures.ran
    (YieldsList-from_zip (YieldsList-from_slice ids cc) (YieldsList-from_slice rows cc))
    (λ x b q k. search (rules, tests))
    ∙ kept_zipped d columns c.args.by_period named m ids rows n

pub returns-else-ids-rows : goal.returns-else-ids-rows
returns-else-ids-rows g c =
    let d = c.args.table.now.definition in
    let named = row_named c.args.store.now c.args.table.now.id in
    let ids = c.args.change.now.given.now in
    let rows = c.args.change.now.added.now in
    let other : nat_eq (length ids) (length rows) ≡ false = search (rules, tests) in
    other ∙ sym (not_one_each d c.args.columns.now c.args.by_period named c.args.change.now.moment ids rows
    (λ n. omega (arith, n, c.if-ids-rows.false)))

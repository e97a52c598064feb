use Rattle.std.proofs.Common.{◌≡◌, rules, tests, arith, sym, ◌∙◌, ℕ, false, length, nat_eq}
use Rattle.std.proofs.lemmas.Iterator.{YieldsList-from_slice, YieldsList-from_zip}
use Rattle.std.proofs.lemmas.Iterator.Search.{all_from_yields_List}
use Rattle.tql_spec.specs.Truth.{is_true}
use Rattle.tql_spec.specs.Datum.{Equals, compare}
use Rattle.tql_spec.specs.Definition.{cell}
use Rattle.tql_expr.specs.Shown.{shown_by}
use Rattle.tql_key_rows.proofs.Zips.{all_zipped, not_as_many}
use Rattle.tql_key_rows.proofs.reading.agrees.Goals as goal

pub returns-then-columns-others : goal.returns-then-columns-others
returns-then-columns-others c =
    let r = shown_by c.args.row.now in
    let s = shown_by c.args.other.now in
    let n : length c.args.columns.now ≡ length c.args.others.now = omega (arith, c.if-columns-others.true) in
    all_from_yields_List (λ (p : ℕ × ℕ). is_true (compare Equals (cell r p.0) (cell s p.1)))
    c.all.new.self _ c.all.result c.all.ensures.ran
    (YieldsList-from_zip (YieldsList-from_slice c.args.columns.now cc) (YieldsList-from_slice c.args.others.now cc))
    (λ x b q k. search (rules, tests))
    ∙ all_zipped (cell s) r c.args.columns.now c.args.others.now n

pub returns-else-columns-others : goal.returns-else-columns-others
returns-else-columns-others c =
    let s = shown_by c.args.other.now in
    let other : nat_eq (length c.args.columns.now) (length c.args.others.now) ≡ false = search (rules, tests) in
    other ∙ sym (not_as_many (cell s) (shown_by c.args.row.now) c.args.columns.now c.args.others.now
    (λ n. omega (arith, n, c.if-columns-others.false)))

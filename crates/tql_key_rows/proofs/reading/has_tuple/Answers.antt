use Rattle.std.proofs.Common.{◌≡◌, rules, tests, arith, sym, ◌∙◌, ℕ, false, length, nat_eq}
use Rattle.std.proofs.lemmas.Iterator.{YieldsList-from_slice, YieldsList-from_zip}
use Rattle.std.proofs.lemmas.Iterator.Search.{all_from_yields_List}
use Rattle.tql_spec.specs.Truth.{is_true}
use Rattle.tql_spec.specs.Datum.{Equals, compare}
use Rattle.tql_spec.specs.Definition.{cell}
use Rattle.tql_expr.specs.Shown.{shown_by}
use Rattle.tql_value.specs.declared.value.View.{View}
use Rattle.tql_value.specs.Views.{datum_of_view}
use Rattle.tql_key_rows.proofs.Zips.{all_zipped, not_as_many}
use Rattle.tql_key_rows.proofs.reading.has_tuple.Goals as goal

pub returns-then-columns-tuple : goal.returns-then-columns-tuple
returns-then-columns-tuple c =
    let r = shown_by c.args.row.now in
    let n : length c.args.columns.now ≡ length c.args.tuple.now = omega (arith, c.if-columns-tuple.true) in
    all_from_yields_List (λ (p : ℕ × View). is_true (compare Equals (cell r p.0) (datum_of_view p.1)))
    c.all.new.self _ c.all.result c.all.ensures.ran
    (YieldsList-from_zip (YieldsList-from_slice c.args.columns.now cc) (YieldsList-from_slice c.args.tuple.now cc))
    (λ x b q k. search (rules, tests))
    ∙ all_zipped datum_of_view r c.args.columns.now c.args.tuple.now n

pub returns-else-columns-tuple : goal.returns-else-columns-tuple
returns-else-columns-tuple c =
    let other : nat_eq (length c.args.columns.now) (length c.args.tuple.now) ≡ false = search (rules, tests) in
    other ∙ sym (not_as_many datum_of_view (shown_by c.args.row.now) c.args.columns.now c.args.tuple.now
    (λ n. omega (arith, n, c.if-columns-tuple.false)))

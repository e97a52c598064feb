use Rattle.std.specs.Prelude.{◌≡◌, false, int_lt}
use Rattle.std.proofs.Common.{arith, ap, sym, ◌∙◌}
use Rattle.std.proofs.lemmas.Int.{ints}
use Rattle.tql_spec.specs.Period.{share_a_point}
use Rattle.tql_index.specs.Line.{place_of}
use Rattle.tql_index.specs.Spans.{points_between}
use Rattle.tql_index.specs.Entry.{Entry}
use Rattle.tql_index.specs.Tree.{greatest_end}
use Rattle.tql_index.proofs.Finding.{nothing_here, left_alone, all_parts, in_period, on_ok, on_false}
use Rattle.tql_tree_index.proofs.search.+overlapping.Goals as goal

pub returns-then-not-is_before : goal.returns-then-not-is_before
returns-then-not-is_before g t c =
    let p = c.in-Some.ensures.some in
    let x = points_between c.args.from c.args.to in
    let q = λ (e : Entry). share_a_point e.period x in
    let n : int_lt x.start (place_of c.in-Some.top.now.greatest) ≡ false =
    grind (arith, ints, c.is_before.ensures, c.if-not-is_before.true) in
    nothing_here q x.start x.end (place_of c.in-Some.top.now.greatest) _ _
    (in_period x) (p.branch.greatest_is ∙ ap greatest_end (sym p.entries)) n

pub returns-then-not-goes_on : goal.returns-then-not-goes_on
returns-then-not-goes_on g t c =
    let p = c.in-Some.ensures.some in
    let x = points_between c.args.from c.args.to in
    let q = λ (e : Entry). share_a_point e.period x in
    left_alone q x.start x.end _ _ _ _ _ _ _ (in_period x) p.entries p.branch.in_order
    (on_false _ c.if-not-goes_on.true c.in_ok-goes_on.ensures.late) c.in_ok-overlapping.ensures
    c.in_ok-goes_on.ensures.found

pub returns : goal.returns
returns g t c =
    let p = c.in-Some.ensures.some in
    let x = points_between c.args.from c.args.to in
    let q = λ (e : Entry). share_a_point e.period x in
    on_ok c.overlapping-2.result
    (λ h. all_parts q _ _ _ _ _ _ _ _ p.entries c.in_ok-overlapping.ensures c.in_ok-goes_on.ensures.found h)
    c.overlapping-2.ensures

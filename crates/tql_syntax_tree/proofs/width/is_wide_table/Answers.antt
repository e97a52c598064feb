use Rattle.std.proofs.Common.{◌+◌, ap, ◌∙◌, arith, sum_by}
use Rattle.tql_spec.specs.Syntax.{columns_in}
use Rattle.tql_syntax_tree.specs.Statements.{element_of}
use Rattle.tql_syntax_tree.proofs.Widths.{one_more_counted, all_counted, one_column, counted_test}
use Rattle.tql_syntax_tree.proofs.width.is_wide_table.Goals as goal

pub overflow_add-count : goal.overflow_add-count
overflow_add-count c =
    let one = one_column (element_of c.element-item.result) in
    omega (arith, one, c.columns_in-count-in-loop-element.ensures, c.loop-element.invariant.below)

pub loop-element-preserved : goal.loop-element-preserved
loop-element-preserved c =
    let one = one_column (element_of c.element-item.result) in
    record {
      counted = one_more_counted (λ e. columns_in (element_of e)) c.deref-element-items.result.now c.element-item.result
          _ c.loop-element.count c.loop-element.element-index c.columns_in-count-in-loop-element.result
          c.loop-element-test.true c.loop-element.invariant.counted
          (c.columns_in-count-in-loop-element.ensures ∙ ap (λ e. columns_in (element_of e)) c.element-item.is);
      below = omega (arith, one, c.columns_in-count-in-loop-element.ensures, c.loop-element.invariant.below);
    }

pub returns : goal.returns
returns c =
    let first = columns_in (element_of c.args.create.now.first) in
    let all = all_counted (λ e. columns_in (element_of e)) c.deref-element-items.result.now
    (first + sum_by (λ e. columns_in (element_of e)) c.args.create.now.more.items) c.loop-element.count
    c.loop-element.element-index
    c.loop-element-test.false c.loop-element.invariant.counted in
    counted_test element_of columns_in c.args.create.now.more.items 64 first c.loop-element.count all

use Rattle.std.proofs.Common.{◌≡◌, ◌+◌, ◌≤◌, drop, sum_by}
use Rattle.tql_spec.specs.Syntax.{columns_in}
use Rattle.tql_syntax_tree.specs.Statements.{element_of}
use Rattle.tql_syntax_tree.proofs.width.is_wide_table.Given as goal

abbrev pub invariant-loop-element : goal.invariant-loop-element
invariant-loop-element l = record {
  counted : columns_in (element_of l.create.first) + sum_by (λ e. columns_in (element_of e)) l.create.more.items
      ≡ l.count + sum_by (λ e. columns_in (element_of e)) (drop l.element-index l.element-items);
  below : l.count ≤ l.element-index + 1;
}

-- The group of a row.
use Rattle.std.proofs.Common.{refl, sym, ◌∙◌}
use Rattle.tql_exec_group.proofs.grouping.enter.Goals as goal

pub returns-then-number-groups : goal.returns-then-number-groups
returns-then-number-groups c = record {
  keys = c.in_ok-number.ensures.keys;
  number = c.in_ok-number.ensures.number;
  begun = λ e. absurd (c.if-number-groups.true (e ∙ sym c.len-groups.ensures));
  none = λ e. absurd (c.if-number-groups.true (e ∙ sym c.len-groups.ensures));
  kept = λ n. refl;
  same = λ n. refl;
}

pub returns : goal.returns
returns c = record {
  keys = c.in_ok-number.ensures.keys;
  number = c.in_ok-number.ensures.number;
  begun = λ e. c.in_ok-begin_group.ensures;
  none = λ e. c.in_ok-push.ensures.items;
  kept = λ n. absurd (n (c.if-number-groups.false ∙ c.len-groups.ensures));
  same = λ n. absurd (n (c.if-number-groups.false ∙ c.len-groups.ensures));
}

-- One more row.
use Rattle.std.proofs.Common.{[], subst, sym, ◌∙◌}
use Rattle.std.specs.Prelude.{Some}
use Rattle.tql_exec_join.specs.Tuples.{tuple_row}
use Rattle.tql_exec_group.specs.Begun.{Enters, TakesAt}
use Rattle.tql_exec_group.proofs.Counts.{all_counted, counted_more}
use Rattle.tql_exec_group.proofs.Groups.{all_more, grouped_more, takes_if}
use Rattle.tql_exec_group.proofs.grouping.GroupingSink.take.Goals as goal

pub returns-then-is_empty : goal.returns-then-is_empty
returns-then-is_empty c =
    let t = c.args.self.now.terms.now in
    let columns = c.args.self.now.columns.now in
    let aggregates = c.args.self.now.steps.aggregates.items in
    let s = c.args.state.now in
    let row = tuple_row c.args.row.now in
    let none = sym c.is_empty.ensures ∙ c.if-is_empty.true in
    takes_if (Some []) c.take_at.result
    (λ takes rows h. record {
      grouped = all_more t columns aggregates s.keys s.folds.items c.take_at.new.folds.items row none
          (subst (λ ws. TakesAt t ws 0 s.folds.items c.take_at.new.folds.items row)
          c.as_slice-aggregates.ensures.value takes)
          rows h.grouped;
      counted = all_counted columns s.counts.items c.count_at.new.counts.items row none c.count_at.ensures rows
          h.counted;
    })
    c.take_at.ensures

pub returns : goal.returns
returns c =
    let t = c.args.self.now.terms.now in
    let columns = c.args.self.now.columns.now in
    let aggregates = c.args.self.now.steps.aggregates.items in
    let row = tuple_row c.args.row.now in
    let n = c.in_ok-number.number in
    let same = c.as_slice-aggregates.ensures.value in
    let some = sym c.is_empty.ensures ∙ c.if-is_empty.false in
    let enters = subst (λ ws. Enters columns ws c.args.state.now c.enter.new.state row n) same c.in_ok-number.ensures in
    takes_if (Some []) c.take_at-2.result
    (λ takes rows h. record {
      grouped = grouped_more t columns aggregates c.args.state.now c.enter.new.state c.take_at-2.new.folds.items row n
          some enters
          (subst (λ ws. TakesAt t ws n c.enter.new.state.folds.items c.take_at-2.new.folds.items row) same takes)
          rows h;
      counted = counted_more t columns aggregates c.args.state.now c.enter.new.state c.count_at-2.new.counts.items row n
          some enters c.count_at-2.ensures rows h;
    })
    c.take_at-2.ensures

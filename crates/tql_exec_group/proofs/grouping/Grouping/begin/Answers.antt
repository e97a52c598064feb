-- The groups of no rows.
use Rattle.std.proofs.Common.{[], subst, sym, ◌∙◌, ◌∷◌, ◌++◌}
use Rattle.tql_exec_group.specs.Begun.{Begins}
use Rattle.tql_exec_group.specs.Grouped.{AreCounted, AreGrouped}
use Rattle.tql_exec_group.proofs.Counts.{none_counted, zero_counted}
use Rattle.tql_exec_group.proofs.Groups.{none_begun, one_begun}
use Rattle.tql_exec_group.proofs.grouping.Grouping.begin.Goals as goal

pub returns-then-not-is_empty : goal.returns-then-not-is_empty
returns-then-not-is_empty c =
    let t = c.args.self.now.terms.now in
    let columns = c.args.self.now.columns.now in
    let aggregates = c.args.self.now.steps.aggregates.items in
    let some = sym c.is_empty.ensures ∙ c.if-not-is_empty.true in
    record {
      grouped = subst (λ ks. AreGrouped t columns aggregates ks c.new-folds.result.items []) (sym c.new-keys.ensures)
          (subst (λ fs. AreGrouped t columns aggregates [] fs []) (sym c.new-folds.ensures.items)
          (none_begun t columns aggregates some));
      counted = subst (λ cs. AreCounted columns cs []) (sym c.new-counts.ensures.items) (none_counted columns some);
    }

pub returns : goal.returns
returns c =
    let t = c.args.self.now.terms.now in
    let columns = c.args.self.now.columns.now in
    let aggregates = c.args.self.now.steps.aggregates.items in
    let new = c.begin_group.new.folds.items in
    let none = sym c.is_empty.ensures ∙ c.if-not-is_empty.false in
    record {
      grouped = subst (λ ks. AreGrouped t columns aggregates ks new []) (sym c.new-keys.ensures)
          (one_begun t columns aggregates new none
          (subst (λ ws. Begins ws [] new) c.deref.ensures.value
          (subst (λ old. Begins c.deref.result.now old new) c.new-folds.ensures.items c.in_ok-begin_group.ensures)));
      counted = subst (λ cs. AreCounted columns cs []) (sym c.in_ok-push.ensures.items)
          (subst (λ cs. AreCounted columns (cs ++ 0 ∷ []) []) (sym c.new-counts.ensures.items)
          (zero_counted columns none));
    }

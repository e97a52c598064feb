use Rattle.std.proofs.Common.{◌∷◌, ℕ, List, Bool, map, ap, subst, ◌∙◌}
use Rattle.std.specs.Prelude.{option_map}
use Rattle.tql_spec.specs.Binding as binding
use Rattle.tql_spec.specs.Names.{check_each, refuse_if}
use Rattle.tql_spec.specs.Refusal.{FormNotAllowedHere}
use Rattle.tql_spec.specs.Syntax as tree
use Rattle.tql_bound.specs.Works as bound
use Rattle.tql_catalog.specs.Tables.{definitions_of}
use Rattle.tql_period.specs.Points.{points_of}
use Rattle.tql_syntax_tree.specs.Expressions.{name_of}
use Rattle.tql_syntax_tree.specs.Statements.{assignment_of, assignments_of, portion_of}
use Rattle.tql_syntax_tree.specs.declared.statement.SetTree.{SetTree}
use Rattle.tql_bind_expr.specs.Gathered.{Gathers}
use Rattle.tql_bind_change.proofs.ChangeLaws.{head_bound}
use Rattle.tql_bind_change.proofs.update.update_head.Goals as goal

pub returns-clause-bound : goal.returns-clause-bound
returns-clause-bound c =
    let update = c.args.update.now in
    let d = c.definition_or-definition.result.now in
    let p = option_map portion_of update.portion in
    let first = assignment_of update.first in
    let is = c.in_ok-numbers.numbers.items in
    let bounds = map (bound.assignment_of c.assignments.new.terms) c.in_ok-sets.sets.items in
    let columns = subst (λ (xs : List SetTree). Gathers
    (binding.assigned_columns d (map (λ (s : tree.SetTree). s.column) (first ∷ map assignment_of xs)))
    c.portion.new.faults c.set_columns.new.faults is)
    c.deref.ensures.value c.in_ok-numbers.ensures in
    let asked = c.sets_period.ensures
    ∙ ap (λ (numbers : List ℕ). binding.sets_period d p numbers) c.deref-2.ensures.value in
    let own = subst (λ (b : Bool). Gathers (refuse_if b FormNotAllowedHere) c.set_columns.new.faults
    c.refuse_if.new.self tt) asked c.refuse_if.ensures in
    let assigned = subst
    (λ (xs : List SetTree). Gathers (check_each (binding.assignment d) (first ∷ map assignment_of xs))
    c.refuse_if.new.self c.assignments.new.faults bounds)
    c.deref-5.ensures.value c.in_ok-sets.ensures.bound in
    head_bound (definitions_of c.args.catalog.now) (name_of update.table) p (first ∷ assignments_of update.more)
    c.args.faults.now c.table_number.new.faults c.portion.new.faults c.set_columns.new.faults c.refuse_if.new.self
    c.assignments.new.faults
    c.in_ok-table.table d (option_map points_of c.in_ok-portion.portion) is bounds
    c.in_ok-table.ensures c.definition_or-definition.ensures c.in_ok-portion.ensures columns own assigned

use Rattle.std.proofs.Common.{◌∷◌, List, map, ap, sym, subst, ◌∙◌}
use Rattle.std.specs.Prelude.{option_map}
use Rattle.tql_spec.specs.Binding as binding
use Rattle.tql_spec.specs.Change as change
use Rattle.tql_spec.specs.Expression.{Cond}
use Rattle.tql_spec.specs.Machine.{ChangeRows, Modify}
use Rattle.tql_spec.specs.Names.{Known}
use Rattle.tql_bound.specs.Works as bound
use Rattle.tql_catalog.specs.Tables.{definitions_of}
use Rattle.tql_expr.specs.Meaning.{cond}
use Rattle.tql_period.specs.Points.{points_of}
use Rattle.tql_syntax_tree.specs.Expressions.{name_of}
use Rattle.tql_syntax_tree.specs.Statements.{assignment_of, assignments_of, filter_of, portion_of}
use Rattle.tql_bind_expr.specs.Gathered.{Gathers}
use Rattle.tql_bind_change.specs.Cells.{HasAssigned}
use Rattle.tql_bind_change.specs.Heads as heads
use Rattle.tql_bind_change.proofs.ChangeLaws.{update_bound}
use Rattle.tql_bind_change.proofs.Growing.{all_same}
use Rattle.tql_bind_change.proofs.SetLaws.{assignment_is_kept}
use Rattle.tql_bind_change.proofs.update.update_rows.Goals as goal

pub returns : goal.returns
returns c =
    let defs = definitions_of c.args.catalog.now in
    let u = c.args.update.now in
    let sets = assignment_of u.first ∷ assignments_of u.more in
    let p = option_map portion_of u.portion in
    let filter = filter_of u.filter in
    let h = c.in_ok-table.field-0 in
    let conds : List Cond = map (cond c.plain_filter.new.terms) c.in_ok-conjuncts.conjuncts.items in
    let scoped = subst (λ (k : List Known). Gathers (binding.plain_filter k filter) c.update_head.new.faults
    c.plain_filter.new.faults conds)
    (c.own_reference.ensures ∙ ap binding.own_scope c.definition_or.ensures) c.in_ok-conjuncts.ensures.bound in
    let made = update_bound defs (name_of u.table) p sets filter c.args.faults.now c.update_head.new.faults
    c.plain_filter.new.faults (heads.head_of c.update_head.new.terms h) conds
    c.in_ok-table.ensures.bound scoped in
    subst (λ (as' : List change.Assignment). Gathers (binding.update defs (name_of u.table) p sets filter)
    c.args.faults.now c.plain_filter.new.faults
    (ChangeRows (Modify h.table (option_map points_of h.portion) (change.Set as') conds)))
    (sym (all_same bound.assignment_of HasAssigned assignment_is_kept c.plain_filter.ensures.stays h.sets.items
    c.in_ok-table.ensures.held)) made

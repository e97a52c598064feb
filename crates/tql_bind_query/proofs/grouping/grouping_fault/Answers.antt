use Rattle.std.proofs.Common.{ℕ, List, ap, map, ◌∙◌}
use Rattle.tql_spec.specs.Binding.{grouping_faults}
use Rattle.tql_expr.specs.Meaning.{cond, expr}
use Rattle.tql_syntax_tree.specs.Statements.{select_of}
use Rattle.tql_bind_query.proofs.Once.{faults_alike}
use Rattle.tql_bind_query.proofs.grouping.grouping_fault.Goals as goal

pub returns : goal.returns
returns c =
    let s = select_of c.args.select.now in
    let items = map (expr c.args.terms.now) c.args.items.now in
    let having = map (cond c.args.terms.now) c.args.having.now in
    c.fault_among-2.ensures
    ∙ ap (λ (ns : List ℕ). grouping_faults c.args.is_grouped ns s items having) c.deref.ensures.value
    ∙ faults_alike c.args.is_grouped c.in_ok-distinct.distinct.items c.args.groups.now s items having
    c.in_ok-distinct.ensures

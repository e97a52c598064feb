use Rattle.std.proofs.Common.{sym, subst, Option, None}
use Rattle.std.specs.Prelude.{option_map}
use Rattle.tql_spec.specs.Binding as binding
use Rattle.tql_syntax_tree.specs.Statements.{portion_of}
use Rattle.tql_syntax_tree.specs.declared.statement.PortionTree.{PortionTree}
use Rattle.tql_bind_expr.specs.Gathered.{Gathers}
use Rattle.tql_bind_expr.proofs.Gathering.{sound_here}
use Rattle.tql_bind_change.proofs.portion.portion.Goals as goal

pub returns-in-None : goal.returns-in-None
returns-in-None c =
    let old = c.args.faults.now in
    subst (λ (o : Option PortionTree). Gathers (binding.portion c.args.definition.now (option_map portion_of o)) old old
    None) (sym c.in-None.is) (sound_here None old)

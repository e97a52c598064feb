use Rattle.std.proofs.Common.{◌≡◌, sym, subst}
use Rattle.tql_spec.specs.Binding.{bind}
use Rattle.tql_catalog.specs.Tables.{definitions_of}
use Rattle.tql_syntax_tree.specs.Statements.{create_of, statement_of}
use Rattle.tql_syntax_tree.specs.declared.statement.CreateTree.{CreateTree}
use Rattle.tql_syntax_tree.specs.declared.statement.Statement.{Statement}
use Rattle.tql_bind_table.specs.Binds.{Binds}
use Rattle.tql_bound.specs.Bounds.{bound_of}
use Rattle.tql_bind.specs.Limited.{bind_under, limits_of}
use Rattle.tql_bind.proofs.binder.bind.Goals as goal

pub returns-in-Create-clause-binds : goal.returns-in-Create-clause-binds
returns-in-Create-clause-binds c =
    let defs = definitions_of c.args.tables.now in
    let inside : c.deref.result.now ≡ c.in-Create.tree.value = cc (c.deref.ensures) in
    let l = limits_of c.args.limits.now in
    subst (λ (s : Statement). Binds bound_of (bind_under l defs (statement_of s)) c.create.result) (sym c.in-Create.is)
    (subst (λ (t : CreateTree). Binds bound_of (bind defs (create_of t)) c.create.result) inside c.create.ensures.binds)

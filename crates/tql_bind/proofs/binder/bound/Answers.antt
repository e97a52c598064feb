use Rattle.std.proofs.Common.{◌≡◌, sym, subst}
use Rattle.std.specs.Prelude.{IfOk, string_bytes}
use Rattle.tql_spec.specs.Binding.{bind}
use Rattle.tql_spec.specs.Definition.{Name}
use Rattle.tql_spec.specs.Machine as machine
use Rattle.tql_spec.specs.Names.{sound}
use Rattle.tql_catalog.specs.Tables.{definitions_of}
use Rattle.tql_bound.specs.Bounds.{bound_of}
use Rattle.tql_bound.specs.Queries.{bound_query_of}
use Rattle.tql_bound.specs.declared.bound.Bound.{Bound}
use Rattle.tql_syntax_tree.specs.Statements.{query_of, read_of, statement_of}
use Rattle.tql_syntax_tree.specs.declared.statement.Query.{Query}
use Rattle.tql_syntax_tree.specs.declared.statement.Statement.{Statement}
use Rattle.tql_bind_expr.specs.Gathered.{Gathers}
use Rattle.tql_bind_expr.proofs.Gathering.{sound_here}
use Rattle.tql_bind.proofs.binder.bound.Goals as goal

pub returns-in-StartTransaction-clause-bound : goal.returns-in-StartTransaction-clause-bound
returns-in-StartTransaction-clause-bound c =
    let old = c.args.faults.now in
    subst (λ (s : Statement). Gathers (bind (definitions_of c.args.tables.now) (statement_of s)) old old
    machine.Start) (sym c.in-StartTransaction.is) (sound_here machine.Start old)

pub returns-in-Commit-clause-bound : goal.returns-in-Commit-clause-bound
returns-in-Commit-clause-bound c =
    let old = c.args.faults.now in
    subst (λ (s : Statement). Gathers (bind (definitions_of c.args.tables.now) (statement_of s)) old old
    machine.Commit) (sym c.in-Commit.is) (sound_here machine.Commit old)

pub returns-in-Rollback-clause-bound : goal.returns-in-Rollback-clause-bound
returns-in-Rollback-clause-bound c =
    let old = c.args.faults.now in
    subst (λ (s : Statement). Gathers (bind (definitions_of c.args.tables.now) (statement_of s)) old old
    machine.Rollback) (sym c.in-Rollback.is) (sound_here machine.Rollback old)

pub returns-in_ok-query-in-Query-clause-bound : goal.returns-in_ok-query-in-Query-clause-bound
returns-in_ok-query-in-Query-clause-bound c =
    let defs = definitions_of c.args.tables.now in
    let x = machine.AnswerQuery (bound_query_of c.in_ok-query-in-Query.query) in
    let inside : c.deref-in-Query.result.now ≡ c.in-Query.tree.value = cc (c.deref-in-Query.ensures) in
    subst (λ (s : Statement). Gathers (bind defs (statement_of s)) c.args.faults.now c.bind_query.new.faults x)
    (sym c.in-Query.is)
    (subst (λ (q : Query). Gathers (bind defs (query_of q)) c.args.faults.now c.bind_query.new.faults x) inside
    c.in_ok-query-in-Query.ensures)

pub returns-in_ok-meant-in-OpenReader-clause-bound : goal.returns-in_ok-meant-in-OpenReader-clause-bound
returns-in_ok-meant-in-OpenReader-clause-bound c =
    let old = c.args.faults.now in
    let x = machine.OpenReader (string_bytes c.in_ok-meant-in-OpenReader.field-0) in
    subst (λ (s : Statement). Gathers (bind (definitions_of c.args.tables.now) (statement_of s)) old old x)
    (sym c.in-OpenReader.is)
    (subst (λ (n : Name). Gathers (sound (machine.OpenReader n)) old old x) c.in_ok-meant-in-OpenReader.ensures
    (sound_here x old))

pub returns-in_ok-meant-in-CloseReader-clause-bound : goal.returns-in_ok-meant-in-CloseReader-clause-bound
returns-in_ok-meant-in-CloseReader-clause-bound c =
    let old = c.args.faults.now in
    let x = machine.CloseReader (string_bytes c.in_ok-meant-in-CloseReader.field-0) in
    subst (λ (s : Statement). Gathers (bind (definitions_of c.args.tables.now) (statement_of s)) old old x)
    (sym c.in-CloseReader.is)
    (subst (λ (n : Name). Gathers (sound (machine.CloseReader n)) old old x) c.in_ok-meant-in-CloseReader.ensures
    (sound_here x old))

pub returns-in-Read-clause-bound : goal.returns-in-Read-clause-bound
returns-in-Read-clause-bound c =
    let defs = definitions_of c.args.tables.now in
    let old = c.args.faults.now in
    let new = c.bind_read.new.faults in
    let inside : c.deref-in-Read.result.now ≡ c.in-Read.tree.value = cc (c.deref-in-Read.ensures) in
    subst (λ (s : Statement). IfOk c.bind_read.result
    (λ (b : Bound). Gathers (bind defs (statement_of s)) old new (bound_of b))) (sym c.in-Read.is)
    (subst (λ (q : Query). IfOk c.bind_read.result
    (λ (b : Bound). Gathers (bind defs (read_of c.in-Read.name q)) old new (bound_of b))) inside
    c.bind_read.ensures.bound)

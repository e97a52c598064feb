use Rattle.std.proofs.Common.{◌≡◌, ◌∙◌, sym, ap, inl}
use Rattle.tql_syntax_tree.specs.Statements.{query_of, statement_of}
use Rattle.tql_engine_read.proofs.held.Held.kinds_in.Goals as goal

pub kinds_asked-requires-clause-asks : goal.kinds_asked-requires-clause-asks
kinds_asked-requires-clause-asks g c =
    let inside : c.deref.result.now ≡ c.in-Query.query.value = cc (c.deref.ensures) in
    inl (ap statement_of c.in-Query.is ∙ ap query_of (sym inside))

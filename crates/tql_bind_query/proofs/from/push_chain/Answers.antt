use Rattle.tql_bind_query.proofs.from.push_chain.Goals as goal

pub returns-clause-pushes : goal.returns-clause-pushes
returns-clause-pushes c = record {
  linked = c.in_ok-linked.linked;
  binds = c.in_ok-linked.ensures.binds;
  items = c.in_ok-push.ensures.items;
}

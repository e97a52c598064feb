use Rattle.std.proofs.Common.{rules}
use Rattle.tql_store.proofs.StoreLaws.{new-represents}
use Rattle.tql_store.proofs.store.Store.new.Goals as goal

pub returns-clause-copies : goal.returns-clause-copies
returns-clause-copies g c = new-represents _ (search rules) (search rules) (λ t. search rules)

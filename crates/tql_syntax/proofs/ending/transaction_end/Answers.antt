use Rattle.std.proofs.Common.{rules, arith}
use Rattle.tql_syntax.specs.declared.ending.TransactionEnd.TheVariants.{Commit, Rollback}
use Rattle.tql_syntax.proofs.EndingLaws.{text_tells}
use Rattle.tql_syntax.proofs.ending.transaction_end.Goals as goal

pub returns-in-Ok-clause-commits : goal.returns-in-Ok-clause-commits
returns-in-Ok-clause-commits c = text_tells _ _ Commit (omega arith) (search rules) (search rules)

pub returns-in-Ok-clause-rolls_back : goal.returns-in-Ok-clause-rolls_back
returns-in-Ok-clause-rolls_back c = text_tells _ _ Rollback (omega arith) (search rules) (search rules)

use Rattle.tql_journal.proofs.ReadLemmas.{headless, head_short}
use Rattle.tql_journal.proofs.reader.without_head.Goals as goal

pub returns-clause-found : goal.returns-clause-found
returns-clause-found c sought =
    headless sought c.args.bytes.now c.new.result c.args.size c.rest_without_head.result c.new.ensures c.requires
    c.rest_without_head.ensures

pub returns-clause-short : goal.returns-clause-short
returns-clause-short c = head_short c.args.bytes.now c.rest_without_head.result c.rest_without_head.ensures

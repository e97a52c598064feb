use Rattle.tql_journal.proofs.LongestLemmas.{one_lines, head_gap}
use Rattle.tql_journal.proofs.seal.lines_are_comments.Goals as goal

pub returns-clause-lines : goal.returns-clause-lines
returns-clause-lines c = one_lines

pub returns-clause-head : goal.returns-clause-head
returns-clause-head c = head_gap

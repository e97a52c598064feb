use Rattle.std.proofs.Common.{sym, subst}
use Rattle.tql_result.specs.Replies.{IsPrintableReply, reply_of}
use Rattle.tql_result.proofs.print.is_printable_reply.Goals as goal

pub returns-in-Table : goal.returns-in-Table
returns-in-Table c = (
  λ t. subst (λ r. IsPrintableReply (reply_of r)) (sym c.in-Table.is) (c.is_printable_table.ensures.0 t),
  λ p. c.is_printable_table.ensures.1 (subst (λ r. IsPrintableReply (reply_of r)) c.in-Table.is p),
)

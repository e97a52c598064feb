-- The reply, the table and the answer that a value of the code represents, and which of them can be printed.
use Rattle.std.specs.Prelude.{List, map, string_bytes}
use Rattle.tql_spec.specs.Datum.{Row}
use Rattle.tql_spec.specs.Definition.{Name}
use Rattle.tql_spec.specs.Machine as machine
use Rattle.tql_spec.specs.Answer as run
use Rattle.tql_value.specs.Views.{rows_of}
use Rattle.tql_value.specs.Refusals.{refusal_of}
use Rattle.tql_value.specs.declared.value.ResultTable.{ResultTable}
use Rattle.tql_value.specs.Points.{ArePrintable}
use Rattle.tql_result.specs.declared.reply.Verb.{Verb}
use Rattle.tql_result.specs.declared.reply.Verb.TheVariants as verb
use Rattle.tql_result.specs.declared.reply.Reply.{Reply}
use Rattle.tql_result.specs.declared.reply.Reply.TheVariants as reply
use Rattle.tql_result.specs.declared.answer.Answer.{Answer}
use Rattle.tql_result.specs.declared.answer.Answer.TheVariants as answer

-- the verb of the reference model
abbrev pub plain_verb : Verb → machine.Verb
plain_verb verb.CreatedTable = machine.CreatedTable
plain_verb verb.DroppedTable = machine.DroppedTable
plain_verb verb.Inserted = machine.Inserted
plain_verb verb.Updated = machine.Updated
plain_verb verb.Deleted = machine.Deleted
plain_verb verb.Started = machine.Started
plain_verb verb.Committed = machine.Committed
plain_verb verb.RolledBack = machine.RolledBack
plain_verb verb.ClockSet = machine.ClockSet
plain_verb verb.Pruned = machine.Pruned
plain_verb verb.OpenedReader = machine.OpenedReader
plain_verb verb.ClosedReader = machine.ClosedReader

-- the data of the rows of a table
abbrev pub table_rows : ResultTable → List Row
table_rows t = rows_of t.rows.items

-- the headings of a table
abbrev pub headings_of : ResultTable → List Name
headings_of t = map string_bytes t.headings.items

-- the reply of the reference model
abbrev pub reply_of : Reply → machine.Reply
reply_of (reply.Done v n) = machine.Done (plain_verb v) n
reply_of (reply.Table t) = machine.Table (headings_of t) (table_rows t)
reply_of (reply.Refused e) = machine.Refused (refusal_of e)

-- a reply with printable rows
abbrev pub IsPrintableReply : machine.Reply → Type 0
IsPrintableReply (machine.Done v n) = Unit {0}
IsPrintableReply (machine.Table headings rows) = ArePrintable rows
IsPrintableReply (machine.Refused e) = Unit {0}

-- the answer of the reference model
abbrev pub answer_of : Answer → run.Answer
answer_of (answer.Replied r) = run.Replied (reply_of r)
answer_of answer.Accepted = run.Accepted

-- an answer that can be printed
abbrev pub IsPrintableAnswer : run.Answer → Type 0
IsPrintableAnswer (run.Replied r) = IsPrintableReply r
IsPrintableAnswer run.Accepted = Unit {0}

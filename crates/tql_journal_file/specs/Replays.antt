-- What the answers of a journal's run say.
use Rattle.std.specs.Prelude.{ℕ, Bool, true, false, Option, Some, None, if◌then◌else◌}
use Rattle.tql_spec.specs.Answer.{Answer, Replied, Accepted}
use Rattle.tql_spec.specs.Machine.{Reply, Done, Table, Refused, Started, Committed, RolledBack}
use Rattle.tql_run.specs.Kept.{is_kept_answer}

-- whether a transaction is open after a reply, if one was open before it or not
abbrev pub open_after_reply : Bool → Reply → Bool
open_after_reply before (Done Started n) = true
open_after_reply before (Done Committed n) = false
open_after_reply before (Done RolledBack n) = false
open_after_reply before (Done v n) = before
open_after_reply before (Table hs rows) = before
open_after_reply before (Refused e) = before

-- the same of an answer
abbrev pub open_after : Bool → Answer → Bool
open_after before (Replied reply) = open_after_reply before reply
open_after before Accepted = before

-- the line of the first statement that is none that a journal keeps, after the answer to a statement on a line
abbrev pub unkept_after : Option ℕ → ℕ → Answer → Option ℕ
unkept_after (Some first) line answer = Some first
unkept_after None line answer = if is_kept_answer answer then None else Some line

-- From the step of the reference model at a statement to the answer to a text.
use Rattle.std.proofs.Common.{refl, subst, ℕ, List, Result, Ok, Err, inl, inr}
use Rattle.tql_spec.specs.Refusal as spec
use Rattle.tql_spec.specs.Refusal.{OutOfMemory}
use Rattle.tql_spec.specs.Machine as machine
use Rattle.tql_spec.specs.Machine.{State, Refused}
use Rattle.tql_spec.specs.Script.{Piece}
use Rattle.tql_spec.specs.Syntax.{Statement}
use Rattle.tql_spec.specs.Run.{HasSense, Says, Faulty, Answers, RefusalsKeepState, finished, respond}
use Rattle.tql_value.specs.Refusals.{refusal_of}
use Rattle.tql_value.specs.declared.refusal.Refusal.{Refusal}
use Rattle.tql_value.specs.declared.refusal.Refusal.TheVariants as r
use Rattle.tql_result.specs.Replies.{reply_of}
use Rattle.tql_result.specs.declared.reply.Reply.{Reply}
use Rattle.tql_engine_state.specs.Stands.{EngineModel, StandsFor}
use Rattle.tql_engine_state.specs.Effects.{Does, Refuses, DoesStep, reply_by}
use Rattle.tql_engine_read.specs.Sense.{ReadsAs}
use Rattle.tql_run.specs.Responding as responding

-- ---- answers

-- the reply is that of the reference model, or out of memory, and the engine represents the state after it
abbrev pub Answered : State → Piece → machine.Reply → EngineModel → Type 0
Answered s p reply h = responding.Answered Answers s p reply (StandsFor h)

-- the reply of the reference model to the statement of a text
pub statement_answered : (new : EngineModel) (s : State) (text : List ℕ) (t : Statement) (reply : machine.Reply)
    → HasSense (finished text) (Says t) → Does new reply (respond s t) → Answered s (finished text) reply new
statement_answered new s text t reply sense d = record {
  state = (respond s t).1;
  answers = inl (Says t, sense, λ i. (d.replies i, (respond s t).1));
  stands = d.stands;
}

-- out of memory
pub memory_answered : (new : EngineModel) (s : State) (p : Piece) → StandsFor new s
    → Answered s p (Refused OutOfMemory) new
memory_answered new s p st = record { state = s; answers = inr (refl, refl); stands = st }

-- a fault of the text
pub fault_answered : (new : EngineModel) (s : State) (p : Piece) (e : Refusal) → StandsFor new s
    → HasSense p (Faulty (refusal_of e)) → Answered s p (Refused (refusal_of e)) new
fault_answered new s p e st sense = record {
  state = s;
  answers = inl (Faulty (refusal_of e), sense, refl);
  stands = st;
}

-- the answer to a refused statement
pub refused_answered : (new : EngineModel) (s : State) (text : List ℕ) (t : Statement) (e : Refusal)
    → HasSense (finished text) (Says t) → Refuses new s e (respond s t)
    → Answered s (finished text) (Refused (refusal_of e)) new
refused_answered new s text t r.OutOfMemory sense d = memory_answered new s (finished text) d
refused_answered new s text t r.StatementTooLong sense d =
    statement_answered new s text t (Refused (refusal_of r.StatementTooLong)) sense d
refused_answered new s text t r.NotUtf8 sense d =
    statement_answered new s text t (Refused (refusal_of r.NotUtf8)) sense d
refused_answered new s text t r.UnfinishedStatement sense d =
    statement_answered new s text t (Refused (refusal_of r.UnfinishedStatement)) sense d
refused_answered new s text t r.NestedTooDeep sense d =
    statement_answered new s text t (Refused (refusal_of r.NestedTooDeep)) sense d
refused_answered new s text t r.NotAStatement sense d =
    statement_answered new s text t (Refused (refusal_of r.NotAStatement)) sense d
refused_answered new s text t r.TooManyColumnsOrTables sense d =
    statement_answered new s text t (Refused (refusal_of r.TooManyColumnsOrTables)) sense d
refused_answered new s text t r.NotInThisTransactionState sense d =
    statement_answered new s text t (Refused (refusal_of r.NotInThisTransactionState)) sense d
refused_answered new s text t r.MomentNotAllowed sense d =
    statement_answered new s text t (Refused (refusal_of r.MomentNotAllowed)) sense d
refused_answered new s text t r.ReadersAreOpen sense d =
    statement_answered new s text t (Refused (refusal_of r.ReadersAreOpen)) sense d
refused_answered new s text t r.TableUnknownOrAlreadyThere sense d =
    statement_answered new s text t (Refused (refusal_of r.TableUnknownOrAlreadyThere)) sense d
refused_answered new s text t r.NameUnknownAmbiguousOrRepeated sense d =
    statement_answered new s text t (Refused (refusal_of r.NameUnknownAmbiguousOrRepeated)) sense d
refused_answered new s text t r.TypesDoNotFit sense d =
    statement_answered new s text t (Refused (refusal_of r.TypesDoNotFit)) sense d
refused_answered new s text t r.FormNotAllowedHere sense d =
    statement_answered new s text t (Refused (refusal_of r.FormNotAllowedHere)) sense d
refused_answered new s text t r.TableIsReferenced sense d =
    statement_answered new s text t (Refused (refusal_of r.TableIsReferenced)) sense d
refused_answered new s text t r.TooManyTablesOrReaders sense d =
    statement_answered new s text t (Refused (refusal_of r.TooManyTablesOrReaders)) sense d
refused_answered new s text t r.BeforeTheHorizon sense d =
    statement_answered new s text t (Refused (refusal_of r.BeforeTheHorizon)) sense d
refused_answered new s text t r.ReaderNotUsable sense d =
    statement_answered new s text t (Refused (refusal_of r.ReaderNotUsable)) sense d
refused_answered new s text t r.ValueOutOfRange sense d =
    statement_answered new s text t (Refused (refusal_of r.ValueOutOfRange)) sense d
refused_answered new s text t r.PortionNotRising sense d =
    statement_answered new s text t (Refused (refusal_of r.PortionNotRising)) sense d
refused_answered new s text t r.NullNotAllowed sense d =
    statement_answered new s text t (Refused (refusal_of r.NullNotAllowed)) sense d
refused_answered new s text t r.PeriodNotRising sense d =
    statement_answered new s text t (Refused (refusal_of r.PeriodNotRising)) sense d
refused_answered new s text t r.CheckFailed sense d =
    statement_answered new s text t (Refused (refusal_of r.CheckFailed)) sense d
refused_answered new s text t r.DuplicateKey sense d =
    statement_answered new s text t (Refused (refusal_of r.DuplicateKey)) sense d
refused_answered new s text t r.ReferenceNotMet sense d =
    statement_answered new s text t (Refused (refusal_of r.ReferenceNotMet)) sense d

-- the answer to a text that is no statement
pub unread_answered : (new : EngineModel) (s : State) → StandsFor new s → (text : List ℕ) (e : Refusal)
    → ReadsAs text (Err e) → Answered s (finished text) (Refused (refusal_of e)) new
unread_answered new s st text r.OutOfMemory why = memory_answered new s (finished text) st
unread_answered new s st text r.StatementTooLong why = fault_answered new s (finished text) r.StatementTooLong st why
unread_answered new s st text r.NotUtf8 why = fault_answered new s (finished text) r.NotUtf8 st why
unread_answered new s st text r.UnfinishedStatement why =
    fault_answered new s (finished text) r.UnfinishedStatement st why
unread_answered new s st text r.NestedTooDeep why = fault_answered new s (finished text) r.NestedTooDeep st why
unread_answered new s st text r.NotAStatement why = fault_answered new s (finished text) r.NotAStatement st why
unread_answered new s st text r.TooManyColumnsOrTables why =
    fault_answered new s (finished text) r.TooManyColumnsOrTables st why
unread_answered new s st text r.NotInThisTransactionState why =
    fault_answered new s (finished text) r.NotInThisTransactionState st why
unread_answered new s st text r.MomentNotAllowed why = fault_answered new s (finished text) r.MomentNotAllowed st why
unread_answered new s st text r.ReadersAreOpen why = fault_answered new s (finished text) r.ReadersAreOpen st why
unread_answered new s st text r.TableUnknownOrAlreadyThere why =
    fault_answered new s (finished text) r.TableUnknownOrAlreadyThere st why
unread_answered new s st text r.NameUnknownAmbiguousOrRepeated why =
    fault_answered new s (finished text) r.NameUnknownAmbiguousOrRepeated st why
unread_answered new s st text r.TypesDoNotFit why = fault_answered new s (finished text) r.TypesDoNotFit st why
unread_answered new s st text r.FormNotAllowedHere why =
    fault_answered new s (finished text) r.FormNotAllowedHere st why
unread_answered new s st text r.TableIsReferenced why = fault_answered new s (finished text) r.TableIsReferenced st why
unread_answered new s st text r.TooManyTablesOrReaders why =
    fault_answered new s (finished text) r.TooManyTablesOrReaders st why
unread_answered new s st text r.BeforeTheHorizon why = fault_answered new s (finished text) r.BeforeTheHorizon st why
unread_answered new s st text r.ReaderNotUsable why = fault_answered new s (finished text) r.ReaderNotUsable st why
unread_answered new s st text r.ValueOutOfRange why = fault_answered new s (finished text) r.ValueOutOfRange st why
unread_answered new s st text r.PortionNotRising why = fault_answered new s (finished text) r.PortionNotRising st why
unread_answered new s st text r.NullNotAllowed why = fault_answered new s (finished text) r.NullNotAllowed st why
unread_answered new s st text r.PeriodNotRising why = fault_answered new s (finished text) r.PeriodNotRising st why
unread_answered new s st text r.CheckFailed why = fault_answered new s (finished text) r.CheckFailed st why
unread_answered new s st text r.DuplicateKey why = fault_answered new s (finished text) r.DuplicateKey st why
unread_answered new s st text r.ReferenceNotMet why = fault_answered new s (finished text) r.ReferenceNotMet st why

-- the answer from a statement's result
pub result_answered : (new : EngineModel) (s : State) (text : List ℕ) (t : Statement) (result : Result Reply Refusal)
    → HasSense (finished text) (Says t) → DoesStep new s result (respond s t)
    → Answered s (finished text) (reply_by result) new
result_answered new s text t (Ok reply) sense d = statement_answered new s text t (reply_of reply) sense d
result_answered new s text t (Err e) sense d = refused_answered new s text t e sense d

-- a refused statement has changed nothing: the engine represents the state before it
pub unchanged : RefusalsKeepState → (h : EngineModel) (s : State) (p : Piece) (e : spec.Refusal)
    → Answered s p (Refused e) h → StandsFor h s
unchanged law h s p e a = subst (λ (x : State). StandsFor h x) (law s a.state p e a.answers) a.stands

-- COMMIT and ROLLBACK, recognized by their texts, from the steps of the reference model.
use Rattle.std.proofs.Common.{◌≡◌, ap, sym, subst, ℕ, List, Option, Some, None, Result, Ok, Err, inl, inr}
use Rattle.std.specs.Prelude.{◌↔◌, IfErr, IfOk}
use Rattle.tql_spec.specs.Machine as machine
use Rattle.tql_spec.specs.Machine.{State, Bound, Done, Committed, RolledBack, step}
use Rattle.tql_spec.specs.Run.{HasSense, Says, finished, respond}
use Rattle.tql_spec.specs.Syntax.{Statement, CommitTree, RollbackTree}
use Rattle.tql_result.specs.Replies.{reply_of, IsPrintableReply}
use Rattle.tql_result.specs.declared.reply.Reply.{Reply}
use Rattle.tql_syntax.specs.declared.ending.TransactionEnd.{TransactionEnd}
use Rattle.tql_syntax.specs.declared.ending.TransactionEnd.TheVariants.{Commit, Rollback}
use Rattle.tql_value.specs.Refusals.{refusal_of}
use Rattle.tql_value.specs.declared.refusal.Refusal.{Refusal}
use Rattle.tql_value.specs.declared.refusal.Refusal.TheVariants as r
use Rattle.tql_engine_state.specs.Effects.{DoesStep, reply_by}
use Rattle.tql_run.specs.Ending.{EndsTransaction, IsEnded}
use Rattle.tql_engine_state.specs.Stands.{EngineModel}
use Rattle.tql_engine_step.proofs.Stepping.{Answered, result_answered}

-- a statement that the reference model answers by a step
pub step_answered : (new : EngineModel) (s : State) (text : List ℕ) (t : Statement) (b : Bound)
    (result : Result Reply Refusal)
    → HasSense (finished text) (Says t) → respond s t ≡ step s b
    → DoesStep new s result (step s b) → Answered s (finished text) (reply_by result) new
step_answered new s text t b result sense same does =
    result_answered new s text t result sense (subst (DoesStep new s result) (sym same) does)

-- the reply to COMMIT, and below to ROLLBACK
pub commit_ended : (result : Result Reply Refusal) → IfOk result (λ reply. reply_of reply ≡ Done Committed None)
    → IfErr result (λ e. e ≡ r.NotInThisTransactionState) → IsEnded (reply_by result)
commit_ended (Ok reply) h k = inl h
commit_ended (Err e) h k = inr (inr (ap (λ (x : Refusal). machine.Refused (refusal_of x)) k))

pub rollback_ended : (result : Result Reply Refusal) → IfOk result (λ reply. reply_of reply ≡ Done RolledBack None)
    → IfErr result (λ e. e ≡ r.NotInThisTransactionState) → IsEnded (reply_by result)
rollback_ended (Ok reply) h k = inr (inl h)
rollback_ended (Err e) h k = inr (inr (ap (λ (x : Refusal). machine.Refused (refusal_of x)) k))

-- a reply without rows can be printed
pub done_prints : (result : Result Reply Refusal) (verb : machine.Verb)
    → IfOk result (λ reply. reply_of reply ≡ Done verb None) → IfOk result (λ reply. IsPrintableReply (reply_of reply))
done_prints (Ok reply) verb h = subst IsPrintableReply (sym h) tt
done_prints (Err e) verb h = tt

-- a text that is recognized as neither is neither
pub never_ends : (text : List ℕ) (o : Option TransactionEnd) → o ≡ None
    → ((o ≡ Some Commit) ↔ HasSense (finished text) (Says CommitTree))
    → ((o ≡ Some Rollback) ↔ HasSense (finished text) (Says RollbackTree)) → EndsTransaction text → ⊥
never_ends text o is h k (inl x) = let y = h.1 x in absurd (cc)
never_ends text o is h k (inr x) = let y = k.1 x in absurd (cc)

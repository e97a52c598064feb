use Rattle.std.proofs.Common.{subst, Result}
use Rattle.tql_spec.specs.Run.{Answers, finished}
use Rattle.tql_value.specs.declared.refusal.Refusal.{Refusal}
use Rattle.tql_result.specs.declared.reply.Reply.{Reply}
use Rattle.tql_run.specs.Responding.{Answered}
use Rattle.tql_engine_state.specs.Effects.{reply_by}
use Rattle.tql_engine_step.specs.HoldPoints.{HoldsFor}
use Rattle.tql_engine_step.proofs.HoldPoints.{step_holds}
use Rattle.tql_engine_step.proofs.engine.Engine.step.Goals as goal

pub returns-in-Ok-clause-holds : goal.returns-in-Ok-clause-holds
returns-in-Ok-clause-holds g c s h =
    subst (λ (o : Result Reply Refusal). Answered Answers s (finished c.args.text.now) (reply_by o)
    (HoldsFor c.try_step.new.self)) c.in-Ok.is (step_holds _ _ s _ _ h (c.try_step.ensures.answered s h.stands))

pub returns-in-Err-clause-holds : goal.returns-in-Err-clause-holds
returns-in-Err-clause-holds g c s h =
    subst (λ (o : Result Reply Refusal). Answered Answers s (finished c.args.text.now) (reply_by o)
    (HoldsFor c.try_step.new.self)) c.in-Err.is (step_holds _ _ s _ _ h (c.try_step.ensures.answered s h.stands))

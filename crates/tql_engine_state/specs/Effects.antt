-- The effect of a function of the engine, expressed by a step of the reference model.
use Rattle.std.specs.Prelude.{◌≡◌, ℤ, Bool, false, int_le, Option, Some, None, Result, Ok, Err}
use Rattle.tql_spec.specs.Machine as machine
use Rattle.tql_spec.specs.Machine.{State, Refused, StatementClass, SetsClock, Ends, Queries}
use Rattle.tql_value.specs.Refusals.{refusal_of}
use Rattle.tql_value.specs.declared.refusal.Refusal.{Refusal}
use Rattle.tql_value.specs.declared.refusal.Refusal.TheVariants.{OutOfMemory}
use Rattle.tql_result.specs.Replies.{reply_of}
use Rattle.tql_result.specs.declared.reply.Reply.{Reply}
use Rattle.tql_engine_state.specs.Stands.{EngineModel, StandsFor}

-- the reply is that of the reference model, and the engine represents the state after the step
pub record Does (h : EngineModel) (reply : machine.Reply) (step : machine.Reply × State) : Type 0 where
  pub replies : reply ≡ step.0
  pub stands : StandsFor h step.1

-- the refusal is that of the reference model; or an allocation was refused, and the engine represents the state before
abbrev pub Refuses : EngineModel → State → Refusal → machine.Reply × State → Type 0
Refuses h s OutOfMemory step = StandsFor h s
Refuses h s e step = Does h (Refused (refusal_of e)) step

-- the effect, given the result
abbrev pub DoesStep : EngineModel → State → Result Reply Refusal → machine.Reply × State → Type 0
DoesStep h s (Ok reply) step = Does h (reply_of reply) step
DoesStep h s (Err e) step = Refuses h s e step

-- whether a moment is at or before that of the last commit
abbrev pub not_later_than : ℤ → Option ℤ → Bool
not_later_than m None = false
not_later_than m (Some last) = int_le m last

-- the reply that a result becomes
abbrev pub reply_by : Result Reply Refusal → machine.Reply
reply_by (Ok reply) = reply_of reply
reply_by (Err e) = Refused (refusal_of e)

-- the class by which the transaction, the clock and open readers are tested before names are bound; the moment of AT is
-- not read yet, and COMMIT and ROLLBACK are tested elsewhere
abbrev pub asked_first : StatementClass → StatementClass
asked_first (SetsClock m) = SetsClock None
asked_first Ends = Queries
asked_first m = m

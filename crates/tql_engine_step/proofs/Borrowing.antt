-- Only a statement that keeps no memory is lent memory.
use Rattle.std.proofs.Common.{◌≡◌, ℕ, List, Bool, true, false, Result, Ok, Err, refl}
use Rattle.std.specs.Prelude.{IfOk, IsFalse, Option, Some, None, if◌then◌else◌}
use Rattle.tql_spec.specs.Machine.{State}
use Rattle.tql_spec.specs.Machine as machine
use Rattle.tql_spec.specs.Run.{HasSense, Says, finished}
use Rattle.tql_spec.specs.Syntax.{Statement}
use Rattle.tql_value.specs.declared.refusal.Refusal.{Refusal}
use Rattle.tql_value.specs.declared.refusal.Refusal.TheVariants as r
use Rattle.tql_result.specs.declared.reply.Reply.{Reply}
use Rattle.tql_engine_state.specs.Stands.{EngineModel, StandsFor}
use Rattle.tql_engine_state.specs.Effects.{DoesStep}
use Rattle.tql_engine_step.specs.Lending.{keeps_memory, kept_from, stays_back, MayBorrow}

-- a condition that is false, since a value is there
chosen : (b : Bool) (x n : ℕ) → (if b then None else Some x) ≡ Some n → IsFalse b
chosen false x n e = refl
chosen true x n e = absurd (cc)

-- whatever the result, a statement from which not all of the reserve is kept back keeps no memory
pub lent_only : (result : Result Reply Refusal) (reserve : ℕ) (s : Statement) (n : ℕ) → kept_from reserve s ≡ Some n
    → IfOk result (λ reply. IsFalse (keeps_memory s))
lent_only (Ok reply) reserve s n e = chosen (keeps_memory s) (stays_back reserve s) n e
lent_only (Err e) reserve s n is = tt

-- an accepted statement that keeps no memory is one that may borrow
pub lent_text : (text : List ℕ) (t : Statement) (result : Result Reply Refusal) → HasSense (finished text) (Says t)
    → IfOk result (λ reply. IsFalse (keeps_memory t)) → IfOk result (λ reply. MayBorrow text)
lent_text text t (Ok reply) sense free = (t, sense, free)
lent_text text t (Err e) sense free = tt

-- a statement that stays refused for memory has changed nothing
pub refused_does : (h : EngineModel) (s : State) (reply : machine.Reply × State) (e : Refusal) → e ≡ r.OutOfMemory
    → StandsFor h s → DoesStep h s (Err e) reply
refused_does h s reply e is st = rw is st

use Rattle.std.proofs.Common.{rules}
use Rattle.tql_spec.specs.Machine.{new_state}
use Rattle.tql_spec.proofs.KindRuns.{first_typed}
use Rattle.tql_engine_state.proofs.Standing.{new_law}
use Rattle.tql_engine_step.proofs.engine.Engine.with_reserve.Goals as goal

pub invariant_of-result : goal.invariant_of-result
invariant_of-result g c = record {
  state = new_state;
  stands = search (rules, new_law);
  typed = first_typed;
  holds = tt;
}

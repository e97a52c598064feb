use Rattle.tql_engine_state.proofs.Typed.{sound_after}
use Rattle.tql_engine_state.proofs.steps_stay_sound.Goals as goal

pub returns : goal.returns
returns c = sound_after

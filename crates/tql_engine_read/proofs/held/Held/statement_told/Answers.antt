use Rattle.tql_engine_read.proofs.held.Held.statement_told.Goals as goal

pub bound_told-requires : goal.bound_told-requires
bound_told-requires g c = record { sound = c.in-Ok.ensures.sound }

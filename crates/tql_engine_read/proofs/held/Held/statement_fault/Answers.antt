use Rattle.std.proofs.Common.{◌∙◌, sym, ap, subst}
use Rattle.std.specs.Prelude.{option_map}
use Rattle.tql_syntax_tree.specs.Statements.{statement_of}
use Rattle.tql_value.specs.Refusals.{refusal_of}
use Rattle.tql_engine_state.specs.Stands.{EngineModel, StandsFor}
use Rattle.tql_engine_read.proofs.Joining.{bound_allowed}
use Rattle.tql_engine_read.proofs.held.Held.statement_fault.Goals as goal

pub bound_fault-requires-clause-allowed : goal.bound_fault-requires-clause-allowed
bound_fault-requires-clause-allowed g c =
    let s = c.self.invariant.state in
    let st = subst (λ (h : EngineModel). StandsFor h s) c.self.view_is c.self.invariant.stands in
    let binds = c.in-Ok.ensures.binds s st in
    bound_allowed c.args.self.now s (statement_of c.args.statement.now) c.in-Ok.bound st
    (ap (option_map refusal_of) (sym c.in_default.is) ∙ c.in_ok-_fault.ensures s st) binds.0 binds.1

use Rattle.std.proofs.Common.{◌∙◌, sym, ap, subst, List}
use Rattle.std.specs.List.{list_all}
use Rattle.std.specs.Prelude.{option_map, IsTrue}
use Rattle.tql_spec.specs.Binding.{bind}
use Rattle.tql_spec.specs.Definition.{TableDef}
use Rattle.tql_spec.specs.Machine.{limits_of}
use Rattle.tql_spec.specs.TypingLaws.{IsTypedBound}
use Rattle.tql_spec.proofs.FirstFaults.{none_first}
use Rattle.tql_spec.proofs.QueryKinds.{bound_typed}
use Rattle.tql_syntax_tree.specs.Statements.{statement_of}
use Rattle.tql_value.specs.Refusals.{refusal_of}
use Rattle.tql_bound.specs.Bounds.{IsSound, bound_of}
use Rattle.tql_catalog.specs.Tables.{can_have, definitions_of}
use Rattle.tql_bind.proofs.Limited.{names_clean}
use Rattle.tql_engine_state.specs.Dropping.{IsDropped}
use Rattle.tql_engine_state.specs.Stands.{EngineModel, StandsFor}
use Rattle.tql_engine_state.proofs.Printing.{does_print}
use Rattle.tql_engine_state.proofs.Creating.{parents_there}
use Rattle.tql_engine_state.proofs.Holding.{dropped}
use Rattle.tql_engine_read.proofs.Joining.{state_does, bound_allowed, bound_does, refusal_does}
use Rattle.tql_engine_step.proofs.Reading.{stands_read}
use Rattle.tql_engine_step.proofs.engine.Engine.execute.Goals as goal

pub returns-in-Some-clause-answered : goal.returns-in-Some-clause-answered
returns-in-Some-clause-answered g c s st =
    state_does _ s (statement_of c.args.statement.now) c.in-Some.fault st
    (ap (option_map refusal_of) (sym c.in-Some.is) ∙ c.in_ok-fault.ensures s (stands_read _ _ s c.held.ensures st))

pub perform-requires-clause-sound : goal.perform-requires-clause-sound
perform-requires-clause-sound g c =
    subst (λ (h : EngineModel). IsSound (definitions_of h.tables) c.in-Ok.bound) c.held-2.ensures c.in-Ok.ensures.sound

pub perform-requires-clause-dropped : goal.perform-requires-clause-dropped
perform-requires-clause-dropped g c = λ t e.
    let s = c.self.invariant.state in
    let st = subst (λ (h : EngineModel). StandsFor h s) c.self.view_is c.self.invariant.stands in
    let ds = s.definitions in
    let tree = statement_of c.args.statement.now in
    let binds = c.in-Ok.ensures.binds s (stands_read _ _ s c.held-2.ensures st) in
    subst (λ (xs : List TableDef). IsDropped xs t) st.fits.definitions
    (dropped ds tree (none_first (bind ds tree).faults (names_clean (limits_of s) ds tree binds.0)) t (binds.1 ∙ e))

pub perform-requires-clause-parents : goal.perform-requires-clause-parents
perform-requires-clause-parents g c = λ d e.
    let s = c.self.invariant.state in
    let st = subst (λ (h : EngineModel). StandsFor h s) c.self.view_is c.self.invariant.stands in
    let ds = s.definitions in
    let tree = statement_of c.args.statement.now in
    let binds = c.in-Ok.ensures.binds s (stands_read _ _ s c.held-2.ensures st) in
    subst (λ (xs : List TableDef). IsTrue (list_all (can_have xs) d.references)) st.fits.definitions
    (parents_there ds tree d (none_first (bind ds tree).faults (names_clean (limits_of s) ds tree binds.0))
    (binds.1 ∙ e))

pub perform-requires-clause-typed : goal.perform-requires-clause-typed
perform-requires-clause-typed g c =
    let s = c.self.invariant.state in
    let st = subst (λ (h : EngineModel). StandsFor h s) c.self.view_is c.self.invariant.stands in
    let ds = s.definitions in
    let tree = statement_of c.args.statement.now in
    let binds = c.in-Ok.ensures.binds s (stands_read _ _ s c.held-2.ensures st) in
    subst (λ (xs : List TableDef). IsTypedBound xs (bound_of c.in-Ok.bound)) st.fits.definitions
    (subst (IsTypedBound ds) binds.1
    (bound_typed ds tree (none_first (bind ds tree).faults (names_clean (limits_of s) ds tree binds.0))))

pub perform-requires-clause-allowed : goal.perform-requires-clause-allowed
perform-requires-clause-allowed g c =
    let s = c.self.invariant.state in
    let st = subst (λ (h : EngineModel). StandsFor h s) c.self.view_is c.self.invariant.stands in
    let binds = c.in-Ok.ensures.binds s (stands_read _ _ s c.held-2.ensures st) in
    bound_allowed c.args.self.now s (statement_of c.args.statement.now) c.in-Ok.bound st
    (ap (option_map refusal_of) (sym c.in_default.is) ∙ c.in_ok-fault.ensures s (stands_read _ _ s c.held.ensures st))
    binds.0 binds.1

pub returns-in-Ok-clause-answered : goal.returns-in-Ok-clause-answered
returns-in-Ok-clause-answered g c s st =
    let binds = c.in-Ok.ensures.binds s (stands_read _ _ s c.held-2.ensures st) in
    bound_does _ s (statement_of c.args.statement.now) _ c.perform.result binds.0 binds.1 (c.perform.ensures s st)

pub returns-in-Ok-clause-printable : goal.returns-in-Ok-clause-printable
returns-in-Ok-clause-printable g c =
    let s = c.self.invariant.state in
    let st = subst (λ (h : EngineModel). StandsFor h s) c.self.view_is c.self.invariant.stands in
    let binds = c.in-Ok.ensures.binds s (stands_read _ _ s c.held-2.ensures st) in
    let sound = subst (λ (h : EngineModel). IsSound (definitions_of h.tables) c.in-Ok.bound) c.held-2.ensures
    c.in-Ok.ensures.sound in
    does_print c.args.self.now _ s st c.in-Ok.bound sound
    (bound_allowed c.args.self.now s (statement_of c.args.statement.now) c.in-Ok.bound st
    (ap (option_map refusal_of) (sym c.in_default.is) ∙ c.in_ok-fault.ensures s (stands_read _ _ s c.held.ensures st))
    binds.0 binds.1)
    c.perform.result (c.perform.ensures s st)

pub returns-in-Err-clause-answered : goal.returns-in-Err-clause-answered
returns-in-Err-clause-answered g c s st =
    refusal_does bound_of c.args.self.now s (statement_of c.args.statement.now) c.in-Err.fault st
    (ap (option_map refusal_of) (sym c.in_default.is) ∙ c.in_ok-fault.ensures s (stands_read _ _ s c.held.ensures st))
    (c.in-Err.ensures.binds s (stands_read _ _ s c.held-2.ensures st))

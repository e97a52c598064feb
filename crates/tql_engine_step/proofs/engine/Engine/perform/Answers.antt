use Rattle.std.proofs.Common.{sym, subst}
use Rattle.std.specs.Prelude.{string_bytes}
use Rattle.tql_spec.specs.Machine as machine
use Rattle.tql_spec.specs.Machine.{step}
use Rattle.tql_bound.specs.Bounds.{IsSound, bound_of}
use Rattle.tql_bound.specs.Placed.{IsPlacedQuery}
use Rattle.tql_bound.specs.Queries.{bound_query_of}
use Rattle.tql_bound.specs.declared.bound.Bound.{Bound}
use Rattle.tql_catalog.specs.Tables.{definitions_of}
use Rattle.tql_engine_state.specs.Allowed.{AsksWithin, IsAllowed, IsWithin}
use Rattle.tql_engine_state.specs.Effects.{DoesStep}
use Rattle.tql_engine_state.specs.Stands.{EngineModel}
use Rattle.tql_engine_step.proofs.Reading.{stands_read}
use Rattle.tql_engine_step.proofs.engine.Engine.perform.Goals as goal

pub answer_query-requires-clause-placed : goal.answer_query-requires-clause-placed
answer_query-requires-clause-placed g c =
    subst (λ (h : EngineModel). IsPlacedQuery (definitions_of h.tables) (bound_query_of c.in-AnswerQuery.query))
    (sym c.held.ensures)
    (subst (IsSound (definitions_of c.args.self.now.tables)) c.in-AnswerQuery.is c.requires.sound)

pub answer_query-requires-clause-within : goal.answer_query-requires-clause-within
answer_query-requires-clause-within g c =
    subst (λ (h : EngineModel). AsksWithin h (bound_query_of c.in-AnswerQuery.query)) (sym c.held.ensures)
    (subst (IsAllowed c.args.self.now) c.in-AnswerQuery.is c.requires.allowed)

pub read-requires-clause-placed : goal.read-requires-clause-placed
read-requires-clause-placed g c =
    subst (λ (h : EngineModel). IsPlacedQuery (definitions_of h.tables) (bound_query_of c.in-Read.read.query))
    (sym c.held-in-Read.ensures)
    (subst (IsSound (definitions_of c.args.self.now.tables)) c.in-Read.is c.requires.sound)

pub read-requires-clause-within : goal.read-requires-clause-within
read-requires-clause-within g c =
    subst (λ (h : EngineModel). IsWithin h (machine.Read (string_bytes c.in-Read.read.reader)
    (bound_query_of c.in-Read.read.query))) (sym c.held-in-Read.ensures)
    (subst (IsAllowed c.args.self.now) c.in-Read.is c.requires.allowed)

pub returns-in-AnswerQuery : goal.returns-in-AnswerQuery
returns-in-AnswerQuery g c s st =
    subst (λ (b : Bound). DoesStep c.args.self.now s c.answer_query.result (step s (bound_of b)))
    (sym c.in-AnswerQuery.is)
    (subst (λ (h : EngineModel). DoesStep h s c.answer_query.result
    (step s (machine.AnswerQuery (bound_query_of c.in-AnswerQuery.query)))) c.held.ensures
    (c.answer_query.ensures s (stands_read _ _ s c.held.ensures st)))

pub returns-in-Read : goal.returns-in-Read
returns-in-Read g c s st =
    subst (λ (b : Bound). DoesStep c.args.self.now s c.read.result (step s (bound_of b))) (sym c.in-Read.is)
    (subst (λ (h : EngineModel). DoesStep h s c.read.result
    (step s (machine.Read (string_bytes c.in-Read.read.reader) (bound_query_of c.in-Read.read.query))))
    c.held-in-Read.ensures
    (c.read.ensures s (stands_read _ _ s c.held-in-Read.ensures st)))

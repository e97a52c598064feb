use Rattle.std.proofs.Common.{subst}
use Rattle.std.specs.Prelude.{Bool}
use Rattle.tql_catalog.specs.Tables.{definitions_of}
use Rattle.tql_bound.specs.Bounds.{bound_of}
use Rattle.tql_spec.specs.Names.{refuse_if}
use Rattle.tql_spec.specs.Refusal.{TooManyTablesOrReaders, ReaderNotUsable, BeforeTheHorizon}
use Rattle.tql_bind_expr.specs.Gathered.{Gathers}
use Rattle.tql_bind.specs.Limited.{limits_of}
use Rattle.tql_bind.proofs.Limited.{gathered_by_tests}
use Rattle.tql_bind.proofs.limits.refuse_by_limits.Goals as goal

pub returns : goal.returns
returns c =
    gathered_by_tests (limits_of c.args.limits.now) (definitions_of c.args.tables.now) (bound_of c.args.bound.now)
    _ _ _ _
    (subst (λ (b : Bool). Gathers (refuse_if b TooManyTablesOrReaders) c.args.faults.now c.refuse_if.new.self tt)
    c.opens_too_many-is_too_many.ensures c.refuse_if.ensures)
    (subst (λ (b : Bool). Gathers (refuse_if b ReaderNotUsable) c.refuse_if.new.self c.refuse_if-2.new.self tt)
    c.is_unusable-is_unusable.ensures c.refuse_if-2.ensures)
    (subst (λ (b : Bool). Gathers (refuse_if b BeforeTheHorizon) c.refuse_if-2.new.self c.refuse_if-3.new.self tt)
    c.is_too_early-is_too_early.ensures c.refuse_if-3.ensures)

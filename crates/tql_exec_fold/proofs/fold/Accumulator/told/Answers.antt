-- A result that is out of range, and a function over the values of all rows.
use Rattle.std.proofs.Common.{sym}
use Rattle.tql_exec_fold.proofs.Accumulators.{told_by, told_out}
use Rattle.tql_exec_fold.proofs.fold.Accumulator.told.Goals as goal

pub returns-then-self : goal.returns-then-self
returns-then-self c = λ t rows row h. sym (told_out t c.args.which c.args.self.now rows row c.if-self.true h)

pub returns-in-Over : goal.returns-in-Over
returns-in-Over c = λ t rows row h.
    told_by t c.in-Over.function _ c.args.which c.args.self.now rows row _ c.in-Over.is c.args.self.now.few
    c.if-self.false c.result.ensures h

use Rattle.tql_bound.specs.Bounds.{bound_of}
use Rattle.tql_syntax_tree.specs.Statements.{statement_of}
use Rattle.tql_engine_read.proofs.ColumnKinds.{binding_says}
use Rattle.tql_engine_read.proofs.held.Held.is_bound.Goals as goal

pub returns : goal.returns
returns g c s st = (c.in-Ok.ensures.binds s st).0

pub returns-in-Err : goal.returns-in-Err
returns-in-Err g c s st =
    binding_says bound_of s (statement_of c.args.statement.now) c.in-Err.fault (c.in-Err.ensures.binds s st)

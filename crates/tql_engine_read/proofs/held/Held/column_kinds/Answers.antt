use Rattle.tql_syntax_tree.specs.Trees.{tree_of}
use Rattle.tql_engine_read.proofs.ColumnKinds.{says_kinds, unread_kinds}
use Rattle.tql_engine_read.proofs.held.Held.column_kinds.Goals as goal

pub returns-in-Ok : goal.returns-in-Ok
returns-in-Ok g c s st =
    says_kinds s c.args.query.now (tree_of c.in-Ok.tree) c.kinds_in.result c.in-Ok.ensures (c.kinds_in.ensures s st)

pub returns-in-Err : goal.returns-in-Err
returns-in-Err g c s st = unread_kinds s c.args.query.now c.in-Err.refusal c.in-Err.ensures

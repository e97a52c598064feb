use Rattle.std.proofs.Common.{map}
use Rattle.tql_bind_expr.specs.Scopes.{word_of}
use Rattle.tql_spec.specs.Creation.{column_number}
use Rattle.tql_bind_draft.specs.Drafts.{column_of, names_in}
use Rattle.tql_bind_draft.proofs.Sequences.{plain_item, plain_done}
use Rattle.tql_bind_draft.proofs.lists.each_number.Goals as goal

pub loop-name-preserved : goal.loop-name-preserved
loop-name-preserved c =
    let number = column_number (names_in (map column_of c.args.columns.now)) in
    plain_item number word_of _ c.args.faults.now c.loop-name.faults c.column_number.new.faults c.args.names.now
    c.loop-name.name-index c.name-item.result
    c.loop-name.numbers.items c.push.new.self.items c.column_number.result c.loop-name-test.true c.name-item.is
    c.in_ok-push.ensures.items c.loop-name.invariant c.column_number.ensures

pub returns : goal.returns
returns c = plain_done (column_number (names_in (map column_of c.args.columns.now))) word_of _ c.args.faults.now
    c.loop-name.faults c.args.names.now c.loop-name.name-index c.loop-name.numbers.items c.loop-name-test.false
    c.loop-name.invariant

use Rattle.std.proofs.Common.{◌∙◌, map, sym}
use Rattle.tql_spec.specs.Creation.{kinds_of}
use Rattle.tql_bind_draft.specs.Drafts.{column_of, kinds_in}
use Rattle.tql_bind_table.proofs.KindLaws.{some_left}
use Rattle.tql_bind_table.proofs.parents.kinds_differ.Goals as goal

pub returns-in_default : goal.returns-in_default
returns-in_default c =
    sym (some_left (kinds_in (map column_of c.args.columns.now)) (kinds_of c.args.definition.now) c.args.numbers.now
    c.loop-number.left.now c.loop-number.number-index c.loop-number-test.true c.in_default.len_below)
    ∙ c.loop-number.invariant

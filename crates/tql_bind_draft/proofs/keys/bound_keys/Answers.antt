use Rattle.std.proofs.Common.{map}
use Rattle.tql_catalog.specs.Definitions.{application_of, key_of}
use Rattle.tql_bind_expr.proofs.Gathering.{each_item, each_done}
use Rattle.tql_bind_draft.specs.Drafts.{key_part, written_of, key_in}
use Rattle.tql_bind_draft.proofs.keys.bound_keys.Goals as goal

pub loop-key-preserved : goal.loop-key-preserved
loop-key-preserved c =
    each_item (key_in (written_of c.args.draft.now) (map application_of c.args.applications.now)) key_part key_of _
    c.args.faults.now
    c.loop-key.faults c.bound_key.new.faults c.args.keys.now c.loop-key.key-index
    c.key-item.result c.loop-key.bound.items c.push.new.self.items c.in_ok-bound_key.field-0
    c.loop-key-test.true c.key-item.is c.in_ok-push.ensures.items c.loop-key.invariant
    c.in_ok-bound_key.ensures

pub returns : goal.returns
returns c =
    each_done (key_in (written_of c.args.draft.now) (map application_of c.args.applications.now)) key_part key_of _
    c.args.faults.now
    c.loop-key.faults c.args.keys.now c.loop-key.key-index c.loop-key.bound.items
    c.loop-key-test.false c.loop-key.invariant

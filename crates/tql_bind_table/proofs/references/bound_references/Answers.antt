use Rattle.std.proofs.Common.{map}
use Rattle.std.specs.Prelude.{option_map}
use Rattle.tql_spec.specs.Words.{listed}
use Rattle.tql_catalog.specs.Definitions.{application_of, reference_of}
use Rattle.tql_catalog.specs.Tables.{definitions_of}
use Rattle.tql_bind_draft.specs.Drafts.{reference_part, written_of}
use Rattle.tql_bind_table.specs.NewTables.{reference_in}
use Rattle.tql_bind_table.proofs.Sequences.{flat_item, flat_done}
use Rattle.tql_bind_table.proofs.references.bound_references.Goals as goal

pub loop-reference-preserved : goal.loop-reference-preserved
loop-reference-preserved c = (
  flat_item (reference_in (definitions_of c.args.tables.now) (written_of c.args.draft.now)
      (map application_of c.args.applications.now)) reference_part reference_of _
      c.args.faults.now c.loop-reference.faults c.bound_reference.new.faults c.args.references.now
      c.loop-reference.reference-index c.reference-item.result c.loop-reference.bound.items
      c.add_reference.new.references.items (listed (option_map reference_of c.in_ok-found.found))
      c.loop-reference-test.true c.reference-item.is c.in_ok-add_reference.ensures c.loop-reference.invariant.0
      c.in_ok-found.ensures.reference,
  c.in_ok-found.ensures.parents,
)

pub returns : goal.returns
returns c =
    flat_done (reference_in (definitions_of c.args.tables.now) (written_of c.args.draft.now)
    (map application_of c.args.applications.now)) reference_part reference_of _
    c.args.faults.now c.loop-reference.faults c.args.references.now c.loop-reference.reference-index
    c.loop-reference.bound.items c.loop-reference-test.false
    c.loop-reference.invariant.0

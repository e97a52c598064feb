-- One more value is looked up, and in the end all of them.
use Rattle.std.proofs.Common.{map, []}
use Rattle.tql_value.specs.Views.{datum_of_view}
use Rattle.tql_value.specs.declared.value.View.TheVariants as view
use Rattle.tql_versions.specs.Readings.{version_shown as version_of}
use Rattle.tql_plan.specs.Nodes.{source_of}
use Rattle.tql_exec_read.specs.Found.{versions_in}
use Rattle.tql_exec_read.proofs.OneOf.{distinct_more, found_all, found_more, with_any}
use Rattle.tql_exec_read.proofs.alternatives.versions_with_each.Goals as goal

pub loop-value-preserved : goal.loop-value-preserved
loop-value-preserved g c = record {
  distinct = distinct_more datum_of_view c.args.column c.args.values.now [] c.loop-value.value-index view.Null
      c.loop-value-test.true c.loop-value.invariant.distinct;
  found = λ copies working r.
      let all = versions_in c.args.snapshot.now copies working (source_of c.args.source.now) in
      found_more datum_of_view c.args.column c.args.values.now all c.loop-value.value-index _ c.loop-value-test.true
      (map version_of c.loop-value.found.items) (map version_of c.add_versions_at.new.found.items)
      (with_any c.args.column (map datum_of_view c.args.values.now) all) c.loop-value.invariant.distinct
      (c.in_ok-add_versions_at.ensures copies working r) (c.loop-value.invariant.found copies working r);
}

pub returns : goal.returns
returns g c copies working r =
    let all = versions_in c.args.snapshot.now copies working (source_of c.args.source.now) in
    found_all datum_of_view c.args.column c.args.values.now all c.loop-value.value-index c.loop-value-test.false
    (map version_of c.loop-value.found.items) (with_any c.args.column (map datum_of_view c.args.values.now) all)
    (c.loop-value.invariant.found copies working r)

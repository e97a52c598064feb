use Rattle.std.proofs.Common.{get_or, rules, arith}
use Rattle.std.proofs.lemmas.Grind.{common_steps}
use Rattle.tql_versions.proofs.Steps.{emptied_step, taken_step}
use Rattle.tql_versions.proofs.kept.retire.Goals as goal

pub loop-place-preserved : goal.loop-place-preserved
loop-place-preserved c = record {
  left = emptied_step _ c.args.places.now c.loop-place.place-index c.loop-place.versions
      (get_or c.args.places.now c.loop-place.place-index 0) c.take_version-version.new.version _
      (search rules) (search rules) (search rules) c.loop-place.invariant.left;
  taken = taken_step _ c.args.places.now c.loop-place.place-index c.loop-place.versions c.loop-place.closed.items
      c.push_reserved.new.self.items (get_or c.args.places.now c.loop-place.place-index 0)
      c.index-versions-place.result c.take_version-version.result c.take_version-version.new.version _
      (search rules) (search rules) (search rules) (search rules) (search rules) (search rules) (search rules)
      c.loop-place.invariant.taken;
  room = first_of (search rules, grind (arith, common_steps));
}

use Rattle.std.proofs.Common.{rules, arith, ◌∙◌}
use Rattle.std.proofs.lemmas.Grind.{common_steps}
use Rattle.tql_standing.proofs.Sweeping.{less_more, shut_read}
use Rattle.tql_versions.specs.Views.{versions_of}
use Rattle.tql_store_rows.proofs.clearing.clear_place.Goals as goal

pub loop-versions-preserved : goal.loop-versions-preserved
loop-versions-preserved c = record {
  shorter = first_of (search rules, grind (arith, common_steps));
  others = λ k f l d. c.drop_version.ensures.others k f (let s = c.drop_version.ensures.shorter in omega
      (arith, l, s)) d
      ∙ c.loop-versions.invariant.others k f (let s = c.drop_version.ensures.shorter in omega (arith, l, s)) d;
  less = λ n low. less_more n (versions_of c.args.versions.now.items) (versions_of c.loop-versions.versions.items)
      (versions_of c.drop_version.new.versions.items) c.args.seats.now c.loop-versions.seats c.drop_version.new.seats
      (c.loop-versions.invariant.less n low)
      (c.drop_version.ensures.less n low
      (shut_read c.loop-versions.versions.items c.args.place c.drop_version.result c.index.result.now (search rules)
      (search rules) (search rules) c.drop_version.ensures.value));
}

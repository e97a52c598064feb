use Rattle.std.proofs.Common.{◌<◌, ◌≤◌, length, refl, rules, arith}
use Rattle.std.proofs.lemmas.Grind.{common_steps}
use Rattle.std.proofs.Math.Facts.{to_z-of_z}
use Rattle.tql_store.proofs.Pruned.{all_pruned, ended_here, one_pruned}
use Rattle.tql_store.proofs.pruning.prune_each.Goals as goal

pub prune-requires : goal.prune-requires
prune-requires g c =
    let l : c.loop-number.number < length c.loop-number.rows = first_of (search rules, grind (arith, common_steps)) in
    ended_here _ c.loop-number.number c.args.rows.now c.loop-number.rows _ c.index-rows-number.result c.requires
    c.loop-number.invariant l refl

pub loop-number-preserved : goal.loop-number-preserved
loop-number-preserved g c =
    let l : c.loop-number.number < length c.loop-number.rows = first_of (search rules, grind (arith, common_steps)) in
    one_pruned _ c.loop-number.number c.args.rows.now c.loop-number.rows c.prune.new.self c.index-rows-number.result l
    c.prune.ensures c.loop-number.invariant

pub returns : goal.returns
returns g c =
    let l : length c.loop-number.rows ≤ c.loop-number.number = first_of (search rules, grind (arith, common_steps)) in
    all_pruned c.args.horizon _ c.loop-number.number c.args.rows.now c.loop-number.rows (to_z-of_z c.ranges.horizon) l
    c.loop-number.invariant

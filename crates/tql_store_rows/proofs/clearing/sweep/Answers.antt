use Rattle.std.proofs.Common.{rules, arith, get_or}
use Rattle.tql_standing.proofs.Sweeping.{Cleared, less_more, still_open, listed_step, listed_all}
use Rattle.tql_versions.specs.Views.{versions_of}
use Rattle.tql_store_rows.proofs.clearing.sweep.Goals as goal

pub loop-place-preserved : goal.loop-place-preserved
loop-place-preserved c =
    let cleared : Cleared c.loop-place.versions.items c.clear_place.new.versions.items
    (get_or c.args.places.now c.loop-place.place-index 0) = record {
      clear = c.clear_place.ensures.clear;
      shorter = c.clear_place.ensures.shorter;
      others = c.clear_place.ensures.others;
    } in
    record {
      shorter = let a = c.clear_place.ensures.shorter in let b = c.loop-place.invariant.shorter in omega arith;
      listed = listed_step _ _ c.args.places.now c.loop-place.place-index cleared c.loop-place.invariant.listed;
      kept = λ k l h. still_open _ _ _ k cleared l (λ w. c.loop-place.invariant.kept k w h);
      less = λ n low. less_more n (versions_of c.args.versions.now.items) (versions_of c.loop-place.versions.items)
          (versions_of c.clear_place.new.versions.items) c.args.seats.now c.loop-place.seats c.clear_place.new.seats
          (c.loop-place.invariant.less n low)
          (c.clear_place.ensures.less n (low c.loop-place.place-index 0 (search rules)));
    }

pub returns-clause-left : goal.returns-clause-left
returns-clause-left c =
    λ k l. (
      listed_all _ c.args.places.now c.loop-place.place-index (search rules) c.loop-place.invariant.listed k l,
      c.loop-place.invariant.kept k l,
    )

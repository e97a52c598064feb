-- What is promised for runs, for sessions that take turns.
use Rattle.std.specs.Prelude.{List}
use Rattle.tql_spec.specs.HorizonLaws.{RunsWithout, other_pieces, other_replies}
use Rattle.tql_spec.specs.Machine.{State, Reply}
use Rattle.tql_spec.specs.Reached.{IsInOrder}
use Rattle.tql_spec.specs.Run.{Run, ConstraintsHold}
use Rattle.tql_spec.specs.Script.{Piece}
use Rattle.tql_points.specs.PointRun.{AgreesBehind}
use Rattle.tql_turns.specs.Merge.{Tagged, Step, all, pieces, replies}

-- the merge agrees with the models of all points, also after earlier runs; it keeps keys and references; and pruning
-- is unseen in it
pub record KeepsPromises (s : State) (ps : List Piece) (rs : List Reply) (new : State) : Type 0 where
  pub points : AgreesBehind s ps rs new
  pub constraints : ConstraintsHold s → ConstraintsHold new
  pub unseen : IsInOrder s → RunsWithout s (other_pieces ps rs) (other_replies rs) new

-- the law: for every merge that is a run of the reference model
abbrev pub MergesKeepPromises : Type 0
MergesKeepPromises =
    (s new : State) (done : List (Tagged (Step Reply))) → Run s (pieces (all done)) (replies (all done)) new
    → KeepsPromises s (pieces (all done)) (replies (all done)) new

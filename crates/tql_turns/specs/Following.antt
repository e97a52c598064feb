-- Runs that follow earlier runs, compared with the models of all points.
use Rattle.std.specs.Prelude.{◌≡◌, List, ◌++◌, length}
use Rattle.tql_spec.specs.Machine.{State, Reply}
use Rattle.tql_spec.specs.Meaning.{SensesAreOne}
use Rattle.tql_spec.specs.Run.{Run}
use Rattle.tql_spec.specs.Script.{Piece}
use Rattle.tql_points.specs.PointRun.{PointMachines, machines_of, RunsBeside, IsAtStart, AreInScope, AgreesAtPoints}
use Rattle.tql_points.specs.PointRun.{AgreesBehind}

-- the law: what agrees after earlier runs agrees by itself
abbrev pub AgreesAlone : Type 0
AgreesAlone =
    (s : State) (pieces : List Piece) (replies : List Reply) (new : State) → AgreesBehind s pieces replies new
    → AgreesAtPoints s pieces replies new

-- ---- models that go on

-- a run next to the models, and one more from where both are
pub record RunsInTwo (s : State) (machines : PointMachines) (xs ys : List Piece) (rs qs : List Reply) (new : State)
    (after : PointMachines) : Type 0 where
  pub mid : State
  pub between : PointMachines
  pub one : RunsBeside s machines xs rs mid between
  pub two : RunsBeside mid between ys qs new after

-- the law: a run next to the models can be divided at each piece
abbrev pub RunsAreDivided : Type 0
RunsAreDivided =
    (s new : State) (machines after : PointMachines) (xs ys : List Piece) (rs qs : List Reply)
    → length rs ≡ length xs → RunsBeside s machines (xs ++ ys) (rs ++ qs) new after
    → RunsInTwo s machines xs ys rs qs new after

-- the law: two runs, the second from where the first ended, are one
abbrev pub RunsAreJoined : Type 0
RunsAreJoined =
    (s new : State) (machines after : PointMachines) (xs ys : List Piece) (rs qs : List Reply)
    → RunsInTwo s machines xs ys rs qs new after → RunsBeside s machines (xs ++ ys) (rs ++ qs) new after

-- statements in scope led to the state and to the models, from tables in scope without a commit
pub record AreReached (s : State) (machines : PointMachines) : Type 0 where
  pub start : State
  pub at_start : IsAtStart start
  pub pieces : List Piece
  pub replies : List Reply
  pub scope : AreInScope start pieces replies
  pub ran : RunsBeside start (machines_of start) pieces replies s machines

-- the models after a run from there, and that they are reached again
pub record GoesOn (s : State) (machines : PointMachines) (pieces : List Piece) (replies : List Reply) (new : State)
    : Type 0 where
  pub after : PointMachines
  pub beside : RunsBeside s machines pieces replies new after
  pub reached : AreReached new after

-- the law: from any such state and models, statements in scope run next to these very models. It needs that each piece
-- has one sense
abbrev pub ModelsGoOn : Type 0
ModelsGoOn =
    SensesAreOne → (s : State) (machines : PointMachines) → AreReached s machines → (pieces : List Piece)
    (replies : List Reply) (new : State) → AreInScope s pieces replies → Run s pieces replies new
    → GoesOn s machines pieces replies new

use Rattle.std.proofs.Common.{◌≡◌, drop, map}
use Rattle.tql_plan_screen.specs.Coded.{among_test}
use Rattle.tql_plan_screen.specs.Screens.{is_admitted}
use Rattle.tql_plan_screen.proofs.sets.are_among.Given as goal

-- the sets that are left decide
abbrev pub invariant-loop-set : goal.invariant-loop-set
invariant-loop-set l =
    is_admitted (map among_test (drop l.set-index l.sets)) l.row
    ≡ is_admitted (map among_test l.sets) l.row

use Rattle.std.proofs.Common.{◌≡◌, drop, map}
use Rattle.tql_plan_screen.specs.Coded.{compared_test}
use Rattle.tql_plan_screen.specs.Screens.{is_admitted}
use Rattle.tql_plan_screen.proofs.compared.are_met.Given as goal

-- the comparisons that are left decide
abbrev pub invariant-loop-compared : goal.invariant-loop-compared
invariant-loop-compared l =
    is_admitted (map compared_test (drop l.compared-index l.comparisons)) l.row
    ≡ is_admitted (map compared_test l.comparisons) l.row

-- The number of generated columns before the column.
use Rattle.std.proofs.Common.{◌≡◌, ◌-◌, refl, rules, tests, true, false, arith}
use Rattle.tql_catalog.proofs.StoredNumbers.{fewer}
use Rattle.tql_plan.proofs.StoredColumns.{stored_where}
use Rattle.tql_plan.proofs.stored.number_in.Goals as goal

pub returns-in-true-true : goal.returns-in-true-true
returns-in-true-true c =
    stored_where c.args.system c.in-Some.start c.in-Some.end c.in-Some.is c.args.width c.args.column _ true true
    (search (rules, tests)) (search (rules, tests)) refl c.requires

pub returns-in-true-false : goal.returns-in-true-false
returns-in-true-false c =
    stored_where c.args.system c.in-Some.start c.in-Some.end c.in-Some.is c.args.width c.args.column _ true false
    (search (rules, tests)) (search (rules, tests)) refl c.requires

pub returns-in-false-true : goal.returns-in-false-true
returns-in-false-true c =
    stored_where c.args.system c.in-Some.start c.in-Some.end c.in-Some.is c.args.width c.args.column _ false true
    (search (rules, tests)) (search (rules, tests)) refl c.requires

pub returns-in-false-false : goal.returns-in-false-false
returns-in-false-false c =
    let same : c.args.column - fewer false false ≡ c.args.column = omega arith in
    stored_where c.args.system c.in-Some.start c.in-Some.end c.in-Some.is c.args.width c.args.column _ false false
    (search (rules, tests)) (search (rules, tests)) same c.requires

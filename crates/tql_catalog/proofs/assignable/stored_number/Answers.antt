use Rattle.std.proofs.Common.{◌≡◌, ◌∙◌, ◌-◌, refl, rules, tests, true, false, ap, arith}
use Rattle.std.specs.Prelude.{option_map}
use Rattle.tql_spec.specs.Definition.{cell}
use Rattle.tql_catalog.specs.Definitions.{system_of}
use Rattle.tql_catalog.proofs.StoredNumbers.{stored_so, fewer}
use Rattle.tql_catalog.proofs.assignable.stored_number.Goals as goal

pub returns-in-true-true : goal.returns-in-true-true
returns-in-true-true c =
    stored_so (option_map system_of c.args.system) (system_of c.in-Some.system)
    (ap (option_map system_of) c.in-Some.is) c.args.width c.args.column true true (search (rules, tests))
    (search (rules, tests)) c.requires.there c.requires.stored

pub returns-in-true-false : goal.returns-in-true-false
returns-in-true-false c =
    stored_so (option_map system_of c.args.system) (system_of c.in-Some.system)
    (ap (option_map system_of) c.in-Some.is) c.args.width c.args.column true false (search (rules, tests))
    (search (rules, tests)) c.requires.there c.requires.stored

pub returns-in-false-true : goal.returns-in-false-true
returns-in-false-true c =
    stored_so (option_map system_of c.args.system) (system_of c.in-Some.system)
    (ap (option_map system_of) c.in-Some.is) c.args.width c.args.column false true (search (rules, tests))
    (search (rules, tests)) c.requires.there c.requires.stored

pub returns-in-false-false : goal.returns-in-false-false
returns-in-false-false c = λ cells m e long.
    let nothing : fewer false false ≡ 0 = refl in
    let same : c.args.column - fewer false false ≡ c.args.column = omega arith in
    stored_so (option_map system_of c.args.system) (system_of c.in-Some.system)
    (ap (option_map system_of) c.in-Some.is) c.args.width c.args.column false false (search (rules, tests))
    (search (rules, tests)) c.requires.there c.requires.stored cells m e long
    ∙ ap (cell cells) same

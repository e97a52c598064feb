use Rattle.std.proofs.Common.{◌-◌, length, take, rules, arith, subst}
use Rattle.std.proofs.lemmas.Grind.{common_steps}
use Rattle.tql_store_index.specs.Basis.{filed}
use Rattle.tql_store_index.specs.Places.{whole}
use Rattle.tql_store_index.specs.ValueIndexes.{index_at}
use Rattle.tql_store_rows.proofs.Owing.{has_last, row_read, settled_last, settled_not}
use Rattle.tql_store_rows.specs.Loans.{AreLent}
use Rattle.tql_standing.specs.RowsStanding.{rows_of}
use Rattle.tql_versions.specs.Views.{versions_of}
use Rattle.tql_store_rows.proofs.borrowing.settle_last.Goals as goal

pub index-requires : goal.index-requires
index-requires g c =
    let x = has_last c.args.base c.args.loans.now.items (c.len.result - 1) c.index-loan.result.now c.args.seats.now
    c.swap.new.self c.args.indexes.now c.args.versions.now.items c.requires.some
    (first_of (search rules, grind (arith, common_steps))) (search rules) c.requires.indexed c.swap.ensures.swapped
    c.requires.standing in
    let w = x.within in
    let k = c.args.versions.now.ok in omega (arith, w, k.0, k.1)

pub enter-requires-clause-there : goal.enter-requires-clause-there
enter-requires-clause-there g c =
    let x = has_last c.args.base c.args.loans.now.items (c.len.result - 1) c.index-loan.result.now c.args.seats.now
    c.swap.new.self c.args.indexes.now c.args.versions.now.items c.requires.some
    (first_of (search rules, grind (arith, common_steps))) (search rules) c.requires.indexed c.swap.ensures.swapped
    c.requires.standing in
    let w = x.borrower in
    let e = x.even in omega (arith, w, e)

pub enter-requires-clause-loose : goal.enter-requires-clause-loose
enter-requires-clause-loose g c =
    let x = has_last c.args.base c.args.loans.now.items (c.len.result - 1) c.index-loan.result.now c.args.seats.now
    c.swap.new.self c.args.indexes.now c.args.versions.now.items c.requires.some
    (first_of (search rules, grind (arith, common_steps))) (search rules) c.requires.indexed c.swap.ensures.swapped
    c.requires.standing in
    x.loose

pub overflow_add-borrower : goal.overflow_add-borrower
overflow_add-borrower g c =
    let x = has_last c.args.base c.args.loans.now.items (c.len.result - 1) c.index-loan.result.now c.args.seats.now
    c.swap.new.self c.args.indexes.now c.args.versions.now.items c.requires.some
    (first_of (search rules, grind (arith, common_steps))) (search rules) c.requires.indexed c.swap.ensures.swapped
    c.requires.standing in
    let w = x.within in
    let k = c.args.versions.now.ok in grind (arith, common_steps)

pub leave-requires-clause-room : goal.leave-requires-clause-room
leave-requires-clause-room g c =
    let x = has_last c.args.base c.args.loans.now.items (c.len.result - 1) c.index-loan.result.now c.args.seats.now
    c.swap.new.self c.args.indexes.now c.args.versions.now.items c.requires.some
    (first_of (search rules, grind (arith, common_steps))) (search rules) c.requires.indexed c.swap.ensures.swapped
    c.requires.standing in
    let w = x.borrower in
    let e = x.even in omega (arith, w, e)

pub returns-in-Err-clause-err : goal.returns-in-Err-clause-err
returns-in-Err-clause-err g c =
    let x = has_last c.args.base c.args.loans.now.items (c.len.result - 1) c.index-loan.result.now c.args.seats.now
    c.swap.new.self c.args.indexes.now c.args.versions.now.items c.requires.some
    (first_of (search rules, grind (arith, common_steps))) (search rules) c.requires.indexed c.swap.ensures.swapped
    c.requires.standing in
    let v = x.lender in
    let w = x.borrower in
    let e = x.even in
    settled_not c.args.base c.args.loans.now.items c.index-loan.result.now c.args.seats.now c.swap.new.self
    c.swap-in-Err.new.self c.args.indexes.now c.enter.new.self c.leave.new.self
    (rows_of (versions_of c.args.versions.now.items)) x.swapped
    (c.swap-in-Err.ensures.swapped (omega (arith, v, e)) (omega (arith, w, e))) c.in-Err.ensures.each
    c.leave.ensures.each c.leave.ensures.gone x.last.member c.requires.standing

pub returns-clause-ok : goal.returns-clause-ok
returns-clause-ok g c =
    let x = has_last c.args.base c.args.loans.now.items (c.len.result - 1) c.index-loan.result.now c.args.seats.now
    c.swap.new.self c.args.indexes.now c.args.versions.now.items c.requires.some
    (first_of (search rules, grind (arith, common_steps))) (search rules) c.requires.indexed c.swap.ensures.swapped
    c.requires.standing in
    settled_last c.args.base (take (length c.args.loans.now.items - 1) c.args.loans.now.items) c.index-loan.result.now
    c.args.seats.now c.swap.new.self c.args.indexes.now c.enter.new.self
    (rows_of (versions_of c.args.versions.now.items)) (filed c.index.result.now.row whole) x.swapped
    (record { each = c.in_default.ensures.each; came = c.in_default.ensures.came })
    (λ i l. row_read c.args.versions.now.items c.index-loan.result.now.borrower c.index.result.now x.within
    (search rules) (index_at c.args.indexes.now i).basis)
    (subst (λ ls. AreLent c.args.base ls c.args.seats.now c.args.indexes.now
    (rows_of (versions_of c.args.versions.now.items))) x.last.parts c.requires.standing)

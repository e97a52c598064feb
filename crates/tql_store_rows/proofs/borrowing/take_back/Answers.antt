use Rattle.std.proofs.Common.{rules, arith, subst, take}
use Rattle.std.proofs.lemmas.Grind.{common_steps}
use Rattle.tql_store_rows.proofs.Owing.{owing_done, owing_nowhere, rest_is}
use Rattle.tql_store_rows.specs.Loans.{AreOwing}
use Rattle.tql_store_rows.proofs.borrowing.take_back.Goals as goal

pub returns-then-not-is_empty-clause-standing : goal.returns-then-not-is_empty-clause-standing
returns-then-not-is_empty-clause-standing g c = λ base rows h.
    owing_done base c.args.from c.args.to (take c.args.kept c.args.loans.now.items) c.give_back.new.seats
    c.args.indexes.now c.leave.new.self rows c.leave.ensures.each c.leave.ensures.gone
    (c.give_back.ensures.given base c.args.from c.args.to (take c.args.kept c.args.loans.now.items) c.args.indexes.now
    rows (subst (λ ls. AreOwing base c.args.from c.args.to (take c.args.kept c.args.loans.now.items) ls
    c.args.seats.now c.args.indexes.now rows)
    (rest_is c.args.loans.now.items c.deref.result.now c.args.kept c.deref.ensures.value) h))

pub returns-else-not-is_empty-clause-standing : goal.returns-else-not-is_empty-clause-standing
returns-else-not-is_empty-clause-standing g c = λ base rows h.
    owing_nowhere base c.args.from c.args.to (take c.args.kept c.args.loans.now.items) c.give_back.new.seats
    c.args.indexes.now rows (first_of (search rules, grind (arith, common_steps)))
    (c.give_back.ensures.given base c.args.from c.args.to (take c.args.kept c.args.loans.now.items) c.args.indexes.now
    rows (subst (λ ls. AreOwing base c.args.from c.args.to (take c.args.kept c.args.loans.now.items) ls
    c.args.seats.now c.args.indexes.now rows)
    (rest_is c.args.loans.now.items c.deref.result.now c.args.kept c.deref.ensures.value) h))

use Rattle.std.proofs.Common.{[], rules, arith, refl}
use Rattle.std.proofs.lemmas.Grind.{common_steps}
use Rattle.tql_store_rows.proofs.Loans.{lent_exact}
use Rattle.tql_store_rows.proofs.Owing.{owing_cleared}
use Rattle.tql_store_rows.proofs.borrowing.undo_rows.Goals as goal

pub returns-then-base-eq0-clause-standing : goal.returns-then-base-eq0-clause-standing
returns-then-base-eq0-clause-standing g c = λ rows h.
    owing_cleared c.args.base c.args.all c.args.loans.now.items c.args.seats.now c.new.result c.args.indexes.now
    c.clear-then-base-eq0.new.self rows (first_of (search rules, grind (arith, common_steps))) (search rules)
    c.clear-then-base-eq0.ensures h

pub returns-else-base-eq0-clause-standing : goal.returns-else-base-eq0-clause-standing
returns-else-base-eq0-clause-standing g c = λ rows h.
    lent_exact c.args.base [] c.take_back.new.seats c.take_back.new.indexes rows refl
    (c.take_back.ensures.standing c.args.base rows h)

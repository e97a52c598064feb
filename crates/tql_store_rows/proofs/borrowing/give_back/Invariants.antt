use Rattle.std.proofs.Common.{◌≡◌, ℕ, List, drop, length}
use Rattle.tql_store_index.specs.Basis.{Filed}
use Rattle.tql_store_index.specs.ValueIndexes.{ValueIndex}
use Rattle.tql_store_rows.specs.Loans.{AreOwing}
use Rattle.tql_store_rows.specs.declared.borrowing.Loan.{Loan}
use Rattle.tql_store_rows.proofs.borrowing.give_back.Given as goal

-- the remaining row slots are owed
abbrev pub invariant-loop-loan : goal.invariant-loop-loan
invariant-loop-loan l = record {
  even : length l.seats.seats ≡ length l.fn.seats.seats;
  given : (base from to : ℕ) (kept : List Loan) (indexes : List ValueIndex) (rows : List Filed)
      → AreOwing base from to kept l.loans l.fn.seats indexes rows
      → AreOwing base from to kept (drop l.loan-index l.loans) l.seats indexes rows;
}

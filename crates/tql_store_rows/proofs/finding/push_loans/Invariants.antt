use Rattle.std.proofs.Common.{◌≡◌, ◌++◌, drop}
use Rattle.tql_store_rows.specs.Loans.{lending_places}
use Rattle.tql_store_rows.proofs.finding.push_loans.Given as goal

-- the positions so far, with those of the remaining lenders, are all
abbrev pub invariant-loop-loan : goal.invariant-loop-loan
invariant-loop-loan l =
    l.places.items ++ lending_places (drop l.loan-index l.loans)
    ≡ l.initial.places.items ++ lending_places l.loans

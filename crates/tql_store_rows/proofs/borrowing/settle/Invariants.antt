use Rattle.std.proofs.Common.{◌<◌, length}
use Rattle.tql_store_rows.specs.Loans.{AreLent, IsFront}
use Rattle.tql_standing.specs.RowsStanding.{rows_of}
use Rattle.tql_versions.specs.Views.{versions_of}
use Rattle.tql_store_rows.proofs.borrowing.settle.Given as goal

-- the first loans are left
abbrev pub invariant-loop-indexes : goal.invariant-loop-indexes
invariant-loop-indexes g l = record {
  indexes : 0 < length l.indexes;
  standing : AreLent l.base l.loans.items l.seats l.indexes (rows_of (versions_of l.versions.items));
  fewer : IsFront l.loans.items l.fn.loans.items;
}

abbrev pub decreases-loop-indexes : goal.decreases-loop-indexes
decreases-loop-indexes g l = length l.loans.items

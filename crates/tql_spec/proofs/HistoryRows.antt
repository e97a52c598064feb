-- Worked statements of pruned history and of readers, computed by the reference model.
use Rattle.std.specs.Prelude.{◌≡◌, refl, ℕ, List, [], ◌∷◌, ◌++◌, codes, pos, ◌-ℤ◌, false, None}
use Rattle.std.specs.Fmt.{digits}
use Rattle.tql_spec.specs.Calendar.{high}
use Rattle.tql_spec.specs.History.{Now, AsOf, FromTo}
use Rattle.tql_spec.specs.Query.{Query}
use Rattle.tql_spec.specs.Change.{Remove}
use Rattle.tql_spec.specs.Expression.{Column}
use Rattle.tql_spec.specs.Machine.{Bound, CreateTable, SetClock, ChangeRows, Modify, InsertTuples, Start, Commit, Prune}
use Rattle.tql_spec.specs.Machine.{OpenReader, Read, CloseReader}
use Rattle.tql_spec.proofs.Rows.{printed}
use Rattle.tql_spec.proofs.Samples.{empty_log, ask, midnight, num, plain, all_log, log_names}

-- 7 is current through January, 8 from March on
abbrev two_months : List Bound
two_months = empty_log ++ ChangeRows (InsertTuples 0 (0 ∷ []) ((num (pos 7) ∷ []) ∷ []))
    ∷ SetClock (midnight 2011 2 1) ∷ ChangeRows (Modify 0 None Remove [])
    ∷ SetClock (midnight 2011 3 1) ∷ ChangeRows (InsertTuples 0 (0 ∷ []) ((num (pos 8) ∷ []) ∷ [])) ∷ []

abbrev two_months_text : List ℕ
two_months_text = codes "CREATE TABLE\nAT\nINSERT 1\nAT\nDELETE 1\nAT\nINSERT 1\n"

-- a question before the horizon is refused, and the horizon cannot move back
pub pruned_between :
    printed (two_months ++ Prune (midnight 2011 2 10)
    ∷ ask 0 3 (AsOf (midnight 2011 2 10 -ℤ pos 1)) [] all_log log_names
    ∷ ask 0 3 (FromTo (midnight 2011 2 10) (midnight 2012 1 1)) [] all_log log_names
    ∷ Prune (midnight 2011 1 15) ∷ [])
    ≡ two_months_text ++ codes "PRUNE HISTORY\nREFUSED E45 before the horizon\nX|S|E\n"
    ++ codes "8|2011-03-01 00:00:00|9999-12-31 23:59:59.999999\n(1 rows)\nREFUSED E45 before the horizon\n"
unfolding digits
pruned_between = refl

-- a version that began before the horizon and is valid at it is kept
pub pruned_within :
    printed (two_months ++ Prune (midnight 2011 1 15) ∷ ask 0 3 (AsOf (midnight 2011 1 15)) [] all_log log_names ∷ [])
    ≡ two_months_text ++ codes "PRUNE HISTORY\nX|S|E\n7|2011-01-01 00:00:00|2011-02-01 00:00:00\n(1 rows)\n"
unfolding digits
pruned_within = refl

-- even at the highest moment, the current rows are kept
pub pruned_to_the_end :
    printed (two_months ++ Prune high ∷ ask 0 3 Now [] all_log log_names
    ∷ ask 0 3 (AsOf (midnight 2011 3 1)) [] all_log log_names ∷ [])
    ≡ two_months_text ++ codes "PRUNE HISTORY\nX|S|E\n8|2011-03-01 00:00:00|9999-12-31 23:59:59.999999\n(1 rows)\n"
    ++ codes "REFUSED E45 before the horizon\n"
unfolding digits
pruned_to_the_end = refl

-- a query of the whole log
abbrev the_log : Query
the_log = record {
  chains = record { first = record { table = 0; when = Now; width = 3 }; joins = [] } ∷ [];
  filter = [];
  grouping = None;
  having = [];
  items = Column 0 ∷ Column 1 ∷ Column 2 ∷ [];
  headings = log_names;
  distinct = false;
  ordering = [];
}

-- until it is closed, a reader sees the commits up to its opening
pub reader_stays :
    printed (empty_log ++ ChangeRows (InsertTuples 0 (0 ∷ []) ((num (pos 7) ∷ []) ∷ [])) ∷ OpenReader (codes "R")
    ∷ Start ∷ ChangeRows (Modify 0 None Remove []) ∷ Read (codes "R") the_log ∷ Commit ∷ Read (codes "R") the_log
    ∷ CreateTable (plain (codes "Z")) ∷ Prune (midnight 2011 1 2) ∷ CloseReader (codes "R")
    ∷ Read (codes "R") the_log ∷ [])
    ≡ codes "CREATE TABLE\nAT\nINSERT 1\nOPEN READER\nSTART TRANSACTION\nDELETE 1\nX|S|E\n"
    ++ codes "7|2011-01-01 00:00:00|9999-12-31 23:59:59.999999\n(1 rows)\nCOMMIT\nX|S|E\n"
    ++ codes "7|2011-01-01 00:00:00|9999-12-31 23:59:59.999999\n(1 rows)\nREFUSED E47 readers are open\n"
    ++ codes "REFUSED E47 readers are open\nCLOSE READER\nREFUSED E46 reader not usable\n"
unfolding digits
reader_stays = refl

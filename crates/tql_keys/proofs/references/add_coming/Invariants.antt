use Rattle.std.proofs.Common.{◌≡◌, drop, map}
use Rattle.std.specs.Prelude.{◌||◌, ℤ}
use Rattle.tql_expr.specs.Shown.{shown_by}
use Rattle.tql_value.specs.Views.{datum_of_view}
use Rattle.tql_key_rows.specs.Coming.{any_with}
use Rattle.tql_keys.specs.Parents.{any_holds, row_holds}
use Rattle.tql_keys.proofs.references.add_coming.Given as goal

-- the periods collected so far, with those of the remaining rows, hold what is to be collected
abbrev pub invariant-loop-row : goal.invariant-loop-row
invariant-loop-row l = (x : ℤ)
    → any_holds l.periods.items x
    || any_with l.columns (map datum_of_view l.tuple) (row_holds l.definition x)
    (map shown_by (drop l.row-index l.coming))
    ≡ any_holds l.fn.periods.items x
    || any_with l.columns (map datum_of_view l.tuple) (row_holds l.definition x) (map shown_by l.coming)

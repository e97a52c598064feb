-- The parts into which the portion of a change cuts a row.
use Rattle.std.specs.Prelude.{◌≡◌, Bool, true, false, List, ◌++◌, map, Option, option_map, Some, None}
use Rattle.tql_spec.specs.Words.{◌>>=◌}
use Rattle.tql_spec.specs.Datum.{Row}
use Rattle.tql_spec.specs.Definition.{TableDef, without_generated, period_of, with_period}
use Rattle.tql_spec.specs.Change.{Work, made_of, pieces}
use Rattle.tql_spec.specs.Period.{Period, share_a_point}
use Rattle.tql_period.specs.Points.{points_of, points_of_piece}
use Rattle.tql_period.specs.declared.period.Period as code
use Rattle.tql_period.specs.declared.pieces.Pieces.{Pieces}

-- whether a change, with a portion or without, can touch a row
abbrev pub reaches : TableDef → Option Period → Row → Bool
reaches d None row = true
reaches d (Some portion) row = share_a_point (period_of d row) portion

-- a row with its period replaced, or unchanged if no period is given
abbrev pub within : TableDef → Option Period → Row → Row
within d None row = row
within d (Some p) row = with_period d p row

-- a row with its old values, once for each of these periods
abbrev pub left : TableDef → Row → List Period → List Row
left d row ps = map (λ p. with_period d p row) ps

-- the stored cells of these rows
abbrev pub left_cells : TableDef → Row → Option code.Period → List Row
left_cells d row part = map (without_generated d.system) (left d row (points_of_piece part))

-- the stored cells of a new row, with its period replaced if one is given
abbrev pub stored_of : TableDef → Option Period → Option Row → Option Row
stored_of d part made = made >>= λ row. Some (without_generated d.system (within d part row))

-- the same for the rows that a touched row becomes
abbrev pub made_cells : TableDef → Option Period → Work → Row → Option (List Row)
made_cells d part work row =
    made_of work row >>= λ made. Some (map (without_generated d.system) (map (within d part) made))

-- a row that can be touched is replaced by its old values before the portion, what it becomes within, and its old
-- values after
pub record IsCut (d : TableDef) (portion : Option Period) (row : Row) (cut : Pieces) : Type 0 where
  pub reached : reaches d portion row ≡ true
  pub replaced : (made : List Row)
      → pieces d portion row made
      ≡ (left d row (points_of_piece cut.before) ++ map (within d (option_map points_of cut.inside)) made) ++ left d
      row (points_of_piece cut.after)

-- None if the row can not be touched
abbrev pub Cuts : TableDef → Option Period → Row → Option Pieces → Type 0
Cuts d portion row None = reaches d portion row ≡ false
Cuts d portion row (Some cut) = IsCut d portion row cut

-- The effect of a modification, version by version and without moments.
use Rattle.std.specs.Prelude.{ℕ, Bool, true, false, List, [], ◌∷◌, ◌++◌, map, Option, Some, None}
use Rattle.tql_spec.specs.Words.{◌>>=◌}
use Rattle.tql_spec.specs.Datum.{Row}
use Rattle.tql_spec.specs.Definition.{TableDef, without_generated, shown}
use Rattle.tql_spec.specs.Expression.{Cond}
use Rattle.tql_spec.specs.Change.{Work, made_of, is_touched, pieces}
use Rattle.tql_spec.specs.Period.{Period}
use Rattle.tql_versions.specs.Readings.{version_shown as version_of}
use Rattle.tql_versions.specs.declared.version.Version.{Version}
use Rattle.tql_dml.specs.declared.modification.Changed.{Changed}

-- the ids of removed versions, and the stored cells of added rows
pub record Parts : Type 0 where
  pub gone : List ℕ
  pub come : List Row

-- no effect
abbrev pub no_part : Parts
no_part = record { gone = []; come = [] }

-- the first effect followed by the second; None if the second is out of range
abbrev pub before : Parts → Option Parts → Option Parts
before p None = None
before p (Some q) = Some (record { gone = p.gone ++ q.gone; come = p.come ++ q.come })

-- the effect with more added rows; None if these are out of range
abbrev pub with_rows : Parts → Option (List Row) → Option Parts
with_rows p None = None
with_rows p (Some rows) = Some (record { gone = p.gone; come = p.come ++ rows })

-- a touched version is removed; what it becomes is added, with the parts before and after the portion
abbrev pub touched_part : TableDef → Option Period → Work → ℕ → Row → Option Parts
touched_part d portion work id row =
    made_of work row >>= λ made. Some
    (record { gone = id ∷ []; come = map (without_generated d.system) (pieces d portion row made) })

-- a version that is not touched stays
abbrev pub part_where : Bool → Option Parts → Option Parts
part_where true o = o
part_where false o = Some no_part

-- the effect on a version; None if an evaluation is out of range
abbrev pub part_of : TableDef → Option Period → Work → List Cond → ℕ → Row → Option Parts
part_of d portion work conds id row =
    is_touched d portion conds row >>= λ b. part_where b (touched_part d portion work id row)

-- the effect on several versions
abbrev pub parts : TableDef → Option Period → Work → List Cond → List Version → Option Parts
parts d portion work conds [] = Some no_part
parts d portion work conds (v ∷ vs) =
    part_of d portion work conds v.id (shown d (version_of v).row) >>= λ p. before p (parts d portion work conds vs)

-- the effect so far
abbrev pub parts_in : Changed → Parts
parts_in c = record { gone = c.removed.items; come = c.added.items }

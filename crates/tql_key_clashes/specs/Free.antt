-- Keys by tuples: the rows that an added row can clash with.
use Rattle.std.specs.Prelude.{Bool, not, List}
use Rattle.std.specs.List.{list_all}
use Rattle.tql_spec.specs.Constraint.{key_holds}
use Rattle.tql_spec.specs.Datum.{Row}
use Rattle.tql_spec.specs.Definition.{TableDef, Key, period_of}
use Rattle.tql_key_rows.specs.Touched.{tuple, is_touched, with_tuple}

-- whether two rows of one tuple clash: always, or by period if they share a point
abbrev pub collide : TableDef → Bool → Row → Row → Bool
collide d by_period r s = is_touched d by_period (period_of d s) r

-- whether a row clashes with none of the rows with its tuple
abbrev pub is_free : TableDef → Key → List Row → Row → Bool
is_free d k rows a = list_all (λ r. not (collide d k.by_period r a)) (with_tuple k.columns (tuple k.columns a) rows)

-- whether all keys of a table hold
abbrev pub keys_hold_of : TableDef → List Row → Bool
keys_hold_of d rows = list_all (key_holds d rows) d.keys

-- References by tuples: the child rows that a removed parent row can affect.
use Rattle.std.specs.Prelude.{Bool, true, false, ◌&&◌, ◌||◌, List, [], ◌∷◌, filter}
use Rattle.std.specs.List.{list_all}
use Rattle.tql_spec.specs.Datum.{Row}
use Rattle.tql_spec.specs.Definition.{TableDef, Reference, period_of}
use Rattle.tql_spec.specs.Constraint.{is_met}
use Rattle.tql_key_rows.specs.Touched.{tuple, has_tuple, is_touched}

-- whether a child row has a parent row's tuple and, with PERIOD, shares a point with it
abbrev pub is_child_of : TableDef → TableDef → Reference → Row → Row → Bool
is_child_of child parent f g r =
    has_tuple f.columns (tuple f.parent_columns g) r && is_touched child f.by_period (period_of parent g) r

-- whether each child row of a parent row is met by these parents
abbrev pub is_spared : TableDef → TableDef → Reference → List Row → List Row → Row → Bool
is_spared child parent f parents rows g =
    list_all (is_met child parent f parents) (filter (is_child_of child parent f g) rows)

-- whether a child row belongs to the first of these parent rows
abbrev pub is_child_of_first : TableDef → TableDef → Reference → List Row → Row → Bool
is_child_of_first child parent f [] r = false
is_child_of_first child parent f (g ∷ gs) r = is_child_of child parent f g r

-- whether the child rows of a parent row are met by these parents, except those that belong to the first of `others`
abbrev pub is_spared_but : TableDef → TableDef → Reference → List Row → List Row → List Row → Row → Bool
is_spared_but child parent f parents rows others g =
    list_all (λ r. is_child_of_first child parent f others r || is_met child parent f parents r)
    (filter (is_child_of child parent f g) rows)

-- whether the child rows of the first of some parent rows are met, except those that belong to the next one
abbrev pub is_first_spared : TableDef → TableDef → Reference → List Row → List Row → List Row → Bool
is_first_spared child parent f parents rows [] = true
is_first_spared child parent f parents rows (g ∷ gs) = is_spared_but child parent f parents rows gs g

-- whether the child rows of each of them are met
abbrev pub are_spared : TableDef → TableDef → Reference → List Row → List Row → List Row → Bool
are_spared child parent f parents rows [] = true
are_spared child parent f parents rows (g ∷ gs) =
    is_first_spared child parent f parents rows (g ∷ gs) && are_spared child parent f parents rows gs

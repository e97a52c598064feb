-- Which tables have references to which.
use Rattle.std.specs.Prelude.{◌≡◌, ◌<◌, ◌-◌, ◌==◌, ◌++◌, ℕ, Bool, not, nat_lt, List, [], ◌∷◌, map, filter, length, Vec}
use Rattle.std.specs.Prelude.{vec_len, vec_capacity, if◌then◌else◌}
use Rattle.std.specs.List.{list_any, range_with_len}
use Rattle.tql_spec.specs.Words.{same_text}
use Rattle.tql_spec.specs.Definition.{Name, TableDef, Reference, table_at}
use Rattle.tql_catalog.specs.Sought.{lists_of}
use Rattle.tql_catalog.specs.Tables.{definitions_of}
use Rattle.tql_catalog.specs.declared.catalog.Table.{Table}

-- whether a table has a reference to the table of this name
abbrev pub refers_to : Name → TableDef → Bool
refers_to n d = list_any (λ (f : Reference). same_text n f.parent) d.references

-- the positions of the tables that have a reference to the table of this name, in order
abbrev pub referring_to : Name → List TableDef → List ℕ
referring_to n defs = filter (λ p. refers_to n (table_at defs p)) (range_with_len 0 (length defs))

-- each table has the list of the tables that have a reference to it
abbrev pub AreReferring : {A : Type 0} → List Table → List (Vec ℕ A) → Type 0
AreReferring tables lists =
    lists_of lists ≡ map (λ (t : Table). referring_to t.definition.name (definitions_of tables)) tables

-- ---- how the lists are kept up to date

-- the list has room for one more position
abbrev pub HasRoom : {A : Type 0} → Vec ℕ A → Type 0
HasRoom list = vec_len list < vec_capacity list

-- a list with a position appended, if the test says so
abbrev pub noted_if : Bool → ℕ → List ℕ → List ℕ
noted_if b p list = list ++ (if b then p ∷ [] else [])

-- the lists of these tables after a table of this definition was added at a position
abbrev pub noted : TableDef → ℕ → List TableDef → List (List ℕ) → List (List ℕ)
noted d p (t ∷ ts) (list ∷ lists) = noted_if (refers_to t.name d) p list ∷ noted d p ts lists
noted d p _ lists = lists

-- the position of a table after the one at `gone` was dropped
abbrev pub moved_down : ℕ → ℕ → ℕ
moved_down gone p = if nat_lt gone p then p - 1 else p

-- a list of positions after the table at `gone` was dropped
abbrev pub closed_up : ℕ → List ℕ → List ℕ
closed_up gone list = map (moved_down gone) (filter (λ p. not (p == gone)) list)

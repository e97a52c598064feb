-- Keys and references, at each point.
use Rattle.std.specs.Prelude.{ℕ, Bool, true, false, not, ◌&&◌, ◌||◌, ◌⊎◌, IsTrue, List, [], ◌∷◌, map, filter, ℤ}
use Rattle.std.specs.Prelude.{Contains, AllPairs, All, Option, Some, None}
use Rattle.std.specs.Bool.{Decides}
use Rattle.std.specs.List.{list_all, list_any}
use Rattle.tql_spec.specs.Words.{all_pairs}
use Rattle.tql_spec.specs.Truth.{is_true}
use Rattle.tql_spec.specs.Datum.{Row, Equals, compare, is_null}
use Rattle.tql_spec.specs.Period.{Period, Holds, holds, share_a_point}
use Rattle.tql_spec.specs.Definition.{TableDef, Key, Reference, Stamped, cell, period_of, shown, table_at, place_of}
use Rattle.tql_spec.specs.Definition.{no_table}
use Rattle.tql_spec.specs.History.{Copy, rows_in}

-- whether the cells of r in some columns equal those of s in others; a null equals nothing
abbrev pub match_on : List ℕ → Row → List ℕ → Row → Bool
match_on [] r [] s = true
match_on (c ∷ cs) r (k ∷ ks) s = is_true (compare Equals (cell r c) (cell s k)) && match_on cs r ks s
match_on _ r _ s = false

-- ---- keys

-- whether two rows have the same key
abbrev pub same_key : Key → Row → Row → Bool
same_key k r s = match_on k.columns r k.columns s

-- WITHOUT OVERLAPS: at each point, no two rows that hold there have the same key; plain: no two rows have the same key
abbrev pub KeyHolds : TableDef → Key → Bool → List Row → Type 0
KeyHolds d k true rows =
    (p : ℤ) → AllPairs (λ r s. IsTrue (same_key k r s) → Holds (period_of d r) p → Holds (period_of d s) p → ⊥) rows
KeyHolds d k false rows = AllPairs (λ r s. IsTrue (same_key k r s) → ⊥) rows

-- whether two rows violate the key: they have the same key and, with WITHOUT OVERLAPS, share a point
abbrev pub clash : TableDef → Key → Row → Row → Bool
clash d k r s = same_key k r s && (not k.by_period || share_a_point (period_of d r) (period_of d s))

-- whether no two rows violate the key
abbrev pub key_holds : TableDef → List Row → Key → Bool
key_holds d rows k = all_pairs (λ r s. not (clash d k r s)) rows

-- the law: the test decides whether the key holds
abbrev pub KeyTestIsRight : Type 0
KeyTestIsRight = (d : TableDef) (k : Key) (rows : List Row)
    → Decides (key_holds d rows k) (KeyHolds d k k.by_period rows)

-- ---- references

-- the parent rows that match a child row
abbrev pub parents_of : Reference → List Row → Row → List Row
parents_of f parents r = filter (λ s. match_on f.columns r f.parent_columns s) parents

-- whether a column of the reference is null
abbrev pub has_null : List ℕ → Row → Bool
has_null columns r = list_any (λ c. is_null (cell r c)) columns

-- PERIOD: at each point of the child's period some matching parent holds; plain: some parent matches
abbrev pub IsMet : TableDef → TableDef → Reference → Bool → List Row → Row → Type 0
IsMet child parent f true parents r =
    (p : ℤ) → Holds (period_of child r) p
    → (s : Row) × Contains (parents_of f parents r) s × Holds (period_of parent s) p
IsMet child parent f false parents r = (s : Row) × Contains (parents_of f parents r) s

-- the reference holds: each child row has a null in it, or is met
abbrev pub ReferenceHolds : TableDef → TableDef → Reference → List Row → List Row → Type 0
ReferenceHolds child parent f parents rows =
    All (λ r. IsTrue (has_null f.columns r) ⊎ IsMet child parent f f.by_period parents r) rows

-- whether some parent holds at the point
abbrev pub held_at : TableDef → List Row → ℤ → Bool
held_at parent parents p = list_any (λ s. holds (period_of parent s) p) parents

-- whether parents hold at each point of a period; it suffices to test its start and the parents' ends inside it
abbrev pub covered : TableDef → List Row → Period → Bool
covered parent parents x =
    list_all (λ p. not (holds x p) || held_at parent parents p) (x.start ∷ map (λ s. (period_of parent s).end) parents)

-- whether a child row is met by its matching parents, with PERIOD or without
abbrev pub is_met_by : TableDef → TableDef → Bool → List Row → Row → Bool
is_met_by child parent true parents r = covered parent parents (period_of child r)
is_met_by child parent false parents r = list_any (λ s. true) parents

-- whether a child row satisfies the reference, as any row with a null in it does
abbrev pub is_met : TableDef → TableDef → Reference → List Row → Row → Bool
is_met child parent f parents r = has_null f.columns r || is_met_by child parent f.by_period (parents_of f parents r) r

-- whether each child row satisfies the reference
abbrev pub reference_holds : TableDef → TableDef → Reference → List Row → List Row → Bool
reference_holds child parent f parents rows = list_all (is_met child parent f parents) rows

-- the law: the test decides whether the reference holds
abbrev pub ReferenceTestIsRight : Type 0
ReferenceTestIsRight = (child parent : TableDef) (f : Reference) (parents rows : List Row)
    → Decides (reference_holds child parent f parents rows) (ReferenceHolds child parent f parents rows)

-- ---- a whole copy

-- the rows of a table in a copy, column by column
abbrev pub shown_rows : TableDef → List Stamped → List Row
shown_rows d rows = map (shown d) rows

-- whether the test accepts each definition with its rows
abbrev pub each_table : (TableDef → List Row → Bool) → List TableDef → Copy → Bool
each_table test (d ∷ defs) (rows ∷ copy) = test d (shown_rows d rows) && each_table test defs copy
each_table test _ _ = true

-- whether each key of each table holds
abbrev pub keys_hold : List TableDef → Copy → Bool
keys_hold defs copy = each_table (λ d rows. list_all (key_holds d rows) d.keys) defs copy

-- whether a reference of a table holds, with the parent at this index; a parent that does not exist has no rows
abbrev pub reference_to : List TableDef → Copy → TableDef → List Row → Reference → Option ℕ → Bool
reference_to defs copy d rows f None = reference_holds d no_table f [] rows
reference_to defs copy d rows f (Some t) =
    reference_holds d (table_at defs t) f (shown_rows (table_at defs t) (rows_in copy t)) rows

-- whether each reference of each table holds
abbrev pub references_hold : List TableDef → Copy → Bool
references_hold defs copy =
    each_table (λ d rows. list_all (λ f. reference_to defs copy d rows f (place_of f.parent defs)) d.references) defs
    copy

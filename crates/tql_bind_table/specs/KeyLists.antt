-- The tables that a statement references, with the columns of their keys sorted.
use Rattle.std.specs.Prelude.{◌≡◌, ℕ, ◌<◌, Bool, true, false, not, if◌then◌else◌, List, [], ◌∷◌, length, slice_index_or}
use Rattle.std.specs.Cmp.Lexicographic.{slice_cmp}
use Rattle.std.specs.List.{list_any}
use Rattle.std.specs.List.Sorted.{IsSortedBy}
use Rattle.std.specs.Ordering.{is_lt, nat_cmp}
use Rattle.tql_spec.specs.Creation.{is_declared_key, same_numbers}
use Rattle.tql_spec.specs.Definition.{Key, TableDef, table_at}
use Rattle.tql_bind_table.specs.declared.parent_keys.KeyList.{KeyList}
use Rattle.tql_bind_table.specs.declared.parent_keys.ParentKeys.{ParentKeys}

-- the columns of a list
abbrev pub columns_in : KeyList → List ℕ
columns_in l = l.columns.now

-- whether a key has WITHOUT OVERLAPS, or has not
abbrev pub is_of_sort : Bool → Key → Bool
is_of_sort by_period k = if by_period then k.by_period else not k.by_period

-- the columns of a key of this sort; nothing for another key
abbrev pub listed_key : Bool → Key → List (List ℕ)
listed_key by_period k = if is_of_sort by_period k then k.columns ∷ [] else []

-- whether one list comes before another
abbrev pub is_before : KeyList → KeyList → Bool
is_before a b = is_lt (slice_cmp nat_cmp a.columns.now b.columns.now)

-- lists in order
abbrev pub AreRising : List KeyList → Type 0
AreRising ls = IsSortedBy is_before ls

-- lists in order, with the columns of the keys of one sort that a table declares, and no others
pub record AreKeyLists (d : TableDef) (by_period : Bool) (ls : List KeyList) : Type 0 where
  pub rise : AreRising ls
  pub declared : (is : List ℕ)
      → list_any (λ (l : KeyList). same_numbers l.columns.now is) ls ≡ is_declared_key d by_period is

-- the lists of a table are of its keys
pub record AreTableKeys (p : ParentKeys) : Type 0 where
  pub plain : AreKeyLists p.definition.now false p.plain.items
  pub by_period : AreKeyLists p.definition.now true p.by_period.items

-- a table of the catalog at its position, with its keys
pub record IsParent (defs : List TableDef) (p : ParentKeys) : Type 0 where
  pub definition : table_at defs p.place ≡ p.definition.now
  pub keys : AreTableKeys p

-- an index at which the table of this position is
pub record IsIndexOf (ps : List ParentKeys) (place i : ℕ) : Type 0 where
  pub within : i < length ps
  pub at : (d : ParentKeys) → (slice_index_or ps i d).place ≡ place

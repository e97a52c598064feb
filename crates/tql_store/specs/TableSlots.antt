-- The slots of table numbers.
use Rattle.std.specs.Prelude.{ℕ, Bool, true, false, List, slice_index_or}
use Rattle.tql_store.specs.declared.tables.TableSlot.{TableSlot}
use Rattle.tql_store.specs.declared.tables.TableSlot.TheVariants.{Free, Versioned, Unversioned}

-- the slot of a number
abbrev pub slot_at : List TableSlot → ℕ → TableSlot
slot_at places t = slice_index_or places t Free

-- whether a slot has a table
abbrev pub is_taken : TableSlot → Bool
is_taken Free = false
is_taken Versioned = true
is_taken Unversioned = true

-- whether the table has history
abbrev pub is_kept : TableSlot → Bool
is_kept Free = false
is_kept Versioned = true
is_kept Unversioned = false

-- whether it keeps only its last copy
abbrev pub is_brief : TableSlot → Bool
is_brief Free = false
is_brief Versioned = false
is_brief Unversioned = true

-- the slot of a table that is versioned, or not
abbrev pub place_for : Bool → TableSlot
place_for true = Versioned
place_for false = Unversioned

-- The store shown at a pin: as it was when the commit of that moment was the last one.
use Rattle.std.specs.Prelude.{◌≡◌, ℕ, List, [], ◌∷◌, map, ℤ, int_le, Option, Some, None}
use Rattle.std.specs.Prelude.{if◌then◌else◌}
use Rattle.tql_spec.specs.Bag.{In}
use Rattle.tql_spec.specs.Definition.{Version}
use Rattle.tql_spec.specs.History.{TableEntry}
use Rattle.tql_pinned.specs.Asked.{shown_at}
use Rattle.tql_store.specs.Changes.{emptied}
use Rattle.tql_store.specs.Represents.{Copies, Working, Represents}
use Rattle.tql_store.specs.StoreModel.{StoreModel}
use Rattle.tql_store.specs.TableSlots.{slot_at, is_kept, is_brief}
use Rattle.tql_store.specs.declared.snapshot.Position.{Position}
use Rattle.tql_store.specs.declared.snapshot.Position.TheVariants.{Now, At}
use Rattle.tql_store.specs.declared.tables.TableSlot.{TableSlot}
use Rattle.tql_store.specs.declared.tables.TableSlot.TheVariants.{Free}

-- ---- tables

-- the slot shown at a pin: free for a table that keeps only its last copy
abbrev pub slot_pinned : TableSlot → TableSlot
slot_pinned s = if is_brief s then Free else s

-- the versions shown at a pin: none for a table without history
abbrev pub versions_of_slot : Option ℤ → TableSlot → List Version → List Version
versions_of_slot pin s vs = if is_kept s then map (shown_at pin) vs else []

-- the versions shown of each table, by its number
abbrev pub versions_pinned : Option ℤ → List TableSlot → List (List Version) → List (List Version)
versions_pinned pin (s ∷ slots) (vs ∷ tables) = versions_of_slot pin s vs ∷ versions_pinned pin slots tables
versions_pinned pin _ _ = []

-- the store when the commit of a pin was the last one: it shows the tables with history; positions, and thus ids, do
-- not change
abbrev pub pinned : Option ℤ → StoreModel → StoreModel
pinned pin h = record {
  tables = map slot_pinned h.tables;
  versions = versions_pinned pin h.tables h.versions;
  working = None;
  last = pin;
  horizon = h.horizon;
}

-- the store shown at a position
abbrev pub store_at : Position → StoreModel → StoreModel
store_at Now h = h
store_at (At pin) h = pinned pin h

-- ---- copies

-- the copies of the commits that are not after a moment
abbrev pub not_after : ℤ → List TableEntry → List TableEntry
not_after p [] = []
not_after p (e ∷ older) = if int_le e.moment p then e ∷ older else not_after p older

-- the copies up to a pin; before any commit there are none
abbrev pub until_pin : Option ℤ → List TableEntry → List TableEntry
until_pin None entries = []
until_pin (Some p) entries = not_after p entries

-- a pin is none, or the moment of a copy
abbrev pub IsPin : Option ℤ → List TableEntry → Type 0
IsPin None entries = Unit {0}
IsPin (Some p) entries = (e : TableEntry) × In e entries × (e.moment ≡ p)

-- the copies of each table up to a pin; for a number without a shown table, copies without rows
abbrev pub copies_until : Option ℤ → List TableSlot → Copies → Copies
copies_until pin slots copies t =
    if is_kept (slot_at slots t) then until_pin pin (copies t) else emptied (until_pin pin (copies t))

-- if the pin is the moment of a copy, the store shown represents the copies up to it
abbrev pub PinCopies : Option ℤ → StoreModel → StoreModel → Type 0
PinCopies pin old shown = (copies : Copies) (working any : Working) → ((t : ℕ) → IsPin pin (copies t))
    → Represents old copies working → Represents shown (copies_until pin old.tables copies) any

-- The entries of a run, in either form.
use Rattle.std.specs.Prelude.{◌≡◌, ◌-◌, List, length, map, slice_index_or}
use Rattle.tql_index.specs.Entry.{Entry}
use Rattle.tql_index.specs.Spans.{all_of_group, span_of}
use Rattle.tql_index.specs.declared.slot.Slot.{Slot}
use Rattle.tql_index.specs.declared.slots.GroupSlot.{GroupSlot}
use Rattle.tql_index.specs.declared.slots.Kept.{Kept}
use Rattle.tql_index.specs.declared.slots.Kept.TheVariants.{Groups, Spans}

-- the model of an entry with its span
abbrev pub entry_of : Slot → Entry
entry_of s = record { period = span_of s.span; id = s.id }

-- the model of an entry whose span is a whole group
abbrev pub entry_of_group : GroupSlot → Entry
entry_of_group s = record { period = all_of_group s.group; id = s.id }

-- the models of entries in the one form, in the other, and in either
abbrev pub entries_in : List Slot → List Entry
entries_in ss = map entry_of ss

abbrev pub entries_of_groups : List GroupSlot → List Entry
entries_of_groups ss = map entry_of_group ss

abbrev pub entries_kept : {A : Type 0} → Kept A → List Entry
entries_kept (Groups ss) = entries_of_groups ss.items
entries_kept (Spans ss) = entries_in ss.items

-- these are the first and the last entry of a run, if it has any
pub record HasEnds (es : List Entry) (first last : Entry) : Type 0 where
  pub first_is : first ≡ slice_index_or es 0 first
  pub last_is : last ≡ slice_index_or es (length es - 1) last

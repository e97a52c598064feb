use Rattle.std.specs.Prelude.{◌≡◌, map, List}
use Rattle.std.proofs.Common.{arith, rules, ap, sym, subst, ◌∙◌}
use Rattle.std.proofs.lemmas.List.Sorted.{IsPartitionPoint-from_clause}
use Rattle.tql_index.specs.Entry.{Entry}
use Rattle.tql_index.specs.Slots.{entry_of, entry_of_group, entries_kept}
use Rattle.tql_index.specs.Tree.{is_before, IsInOrder, IsPlace}
use Rattle.tql_index.specs.declared.slot.Slot.{Slot}
use Rattle.tql_index.specs.declared.slots.GroupSlot.{GroupSlot}
use Rattle.tql_index.specs.declared.slots.Kept.{Kept}
use Rattle.tql_index.proofs.Forms.{parted, place_is}
use Rattle.tql_index.proofs.slots.Slots.place_in.Goals as goal

pub returns-in-Groups : goal.returns-in-Groups
returns-in-Groups g c =
    let e = entry_of c.args.slot in
    let ss = c.deref.result.now in
    let k = c.partition_point.result in
    let v : map entry_of_group ss ≡ c.args.self.now =
    ap (map entry_of_group) c.deref.ensures.value
    ∙ ap (λ (x : Kept g.row.A.Denot). entries_kept x) (sym c.in-Groups.is) ∙ c.self.view_is in
    let o : IsInOrder (map entry_of_group ss) = subst (λ (es : List Entry). IsInOrder es) (sym v) c.requires in
    subst (λ (es : List Entry). IsPlace e es k) v
    (place_is entry_of_group e ss k c.partition_point.ensures.bound
    (IsPartitionPoint-from_clause (λ (s : GroupSlot). is_before (entry_of_group s) e) ss k
    c.partition_point.ensures.partitioned (parted entry_of_group e ss o)
    (λ a r f h. (grind arith, search rules))))

pub returns-in-Spans : goal.returns-in-Spans
returns-in-Spans g c =
    let e = entry_of c.args.slot in
    let ss = c.deref-in-Spans.result.now in
    let k = c.partition_point-in-Spans.result in
    let v : map entry_of ss ≡ c.args.self.now =
    ap (map entry_of) c.deref-in-Spans.ensures.value
    ∙ ap (λ (x : Kept g.row.A.Denot). entries_kept x) (sym c.in-Spans.is) ∙ c.self.view_is in
    let o : IsInOrder (map entry_of ss) = subst (λ (es : List Entry). IsInOrder es) (sym v) c.requires in
    subst (λ (es : List Entry). IsPlace e es k) v
    (place_is entry_of e ss k c.partition_point-in-Spans.ensures.bound
    (IsPartitionPoint-from_clause (λ (s : Slot). is_before (entry_of s) e) ss k
    c.partition_point-in-Spans.ensures.partitioned (parted entry_of e ss o) (λ a r f h. (search rules, search rules))))

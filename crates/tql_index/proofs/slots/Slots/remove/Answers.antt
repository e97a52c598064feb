use Rattle.std.specs.Prelude.{◌≡◌, map}
use Rattle.std.proofs.Common.{ap, sym, ◌∙◌}
use Rattle.tql_index.specs.Slots.{entry_of, entry_of_group, entries_kept}
use Rattle.tql_index.specs.declared.slots.Kept.{Kept}
use Rattle.tql_index.proofs.Forms.{removed_as}
use Rattle.tql_index.proofs.slots.Slots.remove.Goals.{in-Groups, in-Spans}
use Rattle.tql_index.proofs.slots.Slots.remove.Goals as goal

pub returns : goal.returns
returns g c = elim c.match-self.branch [
  | in-Groups w ↦
      let v : map entry_of_group w.in-Groups.groups.items ≡ c.args.self.now =
      ap (λ (k : Kept g.row.A.Denot). entries_kept k) (sym w.in-Groups.is) ∙ c.self.view_is in
      rw w.self-inside-is (removed_as entry_of_group w.in-Groups.groups.items w.remove.new.self.items c.args.self.now
      c.args.place w.remove.ensures.items v)
  | in-Spans w ↦
      let v : map entry_of w.in-Spans.spans.items ≡ c.args.self.now =
      ap (λ (k : Kept g.row.A.Denot). entries_kept k) (sym w.in-Spans.is) ∙ c.self.view_is in
      rw w.self-inside-is (removed_as entry_of w.in-Spans.spans.items w.remove-in-Spans.new.self.items c.args.self.now
      c.args.place w.remove-in-Spans.ensures.items v)
]

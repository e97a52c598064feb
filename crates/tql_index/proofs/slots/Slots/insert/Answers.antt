use Rattle.std.specs.Prelude.{◌≡◌, map}
use Rattle.std.proofs.Common.{ap, refl, sym, ◌∙◌}
use Rattle.tql_index.specs.Slots.{entry_of, entry_of_group, entries_kept}
use Rattle.tql_index.specs.declared.slots.Kept.{Kept}
use Rattle.tql_index.proofs.Forms.{inserted_as}
use Rattle.tql_index.proofs.slots.Slots.insert.Goals as goal

pub returns-in-Some-clause-inserted : goal.returns-in-Some-clause-inserted
returns-in-Some-clause-inserted g c =
    let v : map entry_of_group c.reserve.new.self.items ≡ c.args.self.now =
    ap (map entry_of_group) c.reserve.ensures.items
    ∙ ap (λ (x : Kept g.row.A.Denot). entries_kept x) (sym c.in-Groups.is) ∙ c.self.view_is in
    inserted_as entry_of_group c.reserve.new.self.items c.insert.new.self.items c.args.self.now c.args.place
    c.in-Some.short (entry_of c.args.slot) c.in_ok-insert-in-Groups.ensures.items v c.in-Some.ensures.whole

pub returns-in-Spans-clause-inserted : goal.returns-in-Spans-clause-inserted
returns-in-Spans-clause-inserted g c =
    let v : map entry_of c.in-Spans.spans.items ≡ c.args.self.now =
    ap (λ (x : Kept g.row.A.Denot). entries_kept x) (sym c.in-Spans.is) ∙ c.self.view_is in
    inserted_as entry_of c.in-Spans.spans.items c.insert-in-Spans.new.self.items c.args.self.now c.args.place
    c.args.slot (entry_of c.args.slot) c.in_ok-insert-in-Spans.ensures.items v refl

pub returns-clause-inserted : goal.returns-clause-inserted
returns-clause-inserted g c =
    let v : map entry_of c.in_ok-spans.spans.items ≡ c.args.self.now =
    c.in_ok-spans.ensures ∙ ap (λ (x : Kept g.row.A.Denot). entries_kept x) (sym c.in-Groups.is) ∙ c.self.view_is in
    inserted_as entry_of c.in_ok-spans.spans.items c.insert-2.new.self.items c.args.self.now c.args.place c.args.slot
    (entry_of c.args.slot) c.in_ok-insert.ensures.items v refl

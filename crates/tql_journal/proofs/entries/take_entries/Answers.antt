use Rattle.std.proofs.Common.{ap, subst, ◌∙◌, ℕ, List, length, take, arith, length-drop}
use Rattle.tql_journal.specs.Seals.{HoldsBytes}
use Rattle.tql_journal.specs.Fronts.{FitsIn, IsFront}
use Rattle.tql_journal.specs.Entries.{Adds}
use Rattle.tql_journal.proofs.EntryLemmas.{takes_none, takes_more, takes_torn, takes_damaged, TakesSome}
use Rattle.tql_journal.proofs.entries.take_entries.Goals as goal

pub loop-front-init : goal.loop-front-init
loop-front-init c = record {
  room = c.requires.end;
  takes = takes_none c.args.sought.now c.args.window.now c.args.found.now c.next-front.result c.next-front.new.seal
      c.requires.statements c.requires.lines
      (subst (λ (z : List ℕ). FitsIn z c.next-front.result) c.view.ensures c.next-front.ensures.fits)
      (λ before h. subst (λ (z : List ℕ). IsFront before z (HoldsBytes c.next-front.new.seal) c.next-front.result)
      c.view.ensures (c.next-front.ensures.is before h));
}

pub loop-front-preserved : goal.loop-front-preserved
loop-front-preserved c =
    let t = subst (λ f. TakesSome c.args.sought.now c.args.window.now c.loop-front.window c.args.found.now
    c.loop-front.found f) c.in-Entry.is c.loop-front.invariant.takes in
    let room = c.loop-front.invariant.room in
    let end = c.add.ensures.end in
    let fits = t.fits in
    let left = ap length c.skip.ensures.bytes ∙ length-drop c.in-Entry.entry.count c.loop-front.window.bytes in
    record {
      room = omega (arith, room, end, fits, left);
      takes = takes_more c.args.sought.now c.args.window.now c.loop-front.window c.skip.new.self c.args.found.now
          c.loop-front.found c.add.new.found c.in-Entry.entry c.next-front-in-Entry.result
          c.next-front-in-Entry.new.seal t
          (subst (λ (z : List ℕ). Adds c.args.sought.now (take c.in-Entry.entry.text z) c.in-Entry.entry
          c.loop-front.found c.add.new.found) c.view-in-Entry.ensures c.add.ensures)
          c.skip.ensures.bytes c.skip.ensures.total
          (subst (λ (z : List ℕ). FitsIn z c.next-front-in-Entry.result) c.view-in-Entry-2.ensures
          c.next-front-in-Entry.ensures.fits)
          (λ before h. subst (λ (z : List ℕ). IsFront before z (HoldsBytes c.next-front-in-Entry.new.seal)
          c.next-front-in-Entry.result) c.view-in-Entry-2.ensures (c.next-front-in-Entry.ensures.is before h));
    }

pub returns-in-Torn : goal.returns-in-Torn
returns-in-Torn c =
    takes_torn c.args.sought.now c.args.window.now c.loop-front.window c.args.found.now c.loop-front.found
    c.loop-front.front c.loop-front.invariant.takes c.in-Torn.is

pub returns-in_default-matches : goal.returns-in_default-matches
returns-in_default-matches c =
    takes_damaged c.args.sought.now c.args.window.now c.loop-front.window c.args.found.now c.loop-front.found
    c.loop-front.front c.loop-front.invariant.takes c.in_default.not-Entry c.in_default-matches.not-Torn

use Rattle.std.proofs.Common.{rules, ◌≤◌, refl, ap, ◌∙◌, ℕ, ◌+◌, ◌-◌, List, ◌++◌, length, take, drop, arith}
use Rattle.tql_journal.specs.Windows.{Seen}
use Rattle.tql_journal.proofs.WindowLemmas.{fed_none, fed_on, filled, moved_front}
use Rattle.tql_journal.proofs.window.Window.fill.Goals as goal

pub loop-self-init : goal.loop-self-init
loop-self-init g c =
    let inv = c.self.invariant in
    let order = inv.0 in
    let within = inv.1 in
    let size = inv.2 in
    let whole = c.as_mut_slice.ensures.len in
    let same = c.move_to_front.ensures.length in
    record {
      start = refl;
      stop = omega (arith, within, size);
      size = size;
      limit = inv.3;
      fed = fed_none (g.R.Read.remaining c.args.reader.now) c.args.self.now.bytes _ c.args.self.now.total
          c.self.inside.total
          (moved_front c.move_to_front.new.bytes c.self.inside.bytes.items
          (drop (length c.move_to_front.new.bytes) c.self.inside.bytes.items) c.self.inside.start c.self.inside.stop
          c.self.inside.bytes.len (omega (arith, within)) (omega (arith, within, whole, same))
          (c.move_to_front.ensures.front
          ∙ ap (λ (z : List ℕ). take (c.self.inside.stop - c.self.inside.start) (drop c.self.inside.start z))
          c.as_mut_slice.ensures.value)
          ∙ ap (λ (s : Seen). s.bytes) c.self.view_is)
          (ap (λ (s : Seen). s.total) c.self.view_is);
    }

pub loop-self-preserved : goal.loop-self-preserved
loop-self-preserved g c =
    let inv = c.loop-self.invariant in
    let stop : ℕ = c.loop-self.self-inside.stop in
    let n : ℕ = c.in_ok-count.count in
    let xs : List ℕ = c.as_mut_slice-in-loop-self.result.now in
    let value = c.as_mut_slice-in-loop-self.ensures.value in
    let whole = c.as_mut_slice-in-loop-self.ensures.len in
    let within = inv.stop in
    let size = inv.size in
    let bound = c.in_ok-count.ensures.bound in
    let room : stop + n ≤ 1_114_182 = search rules in
    record {
      start = inv.start;
      stop = room;
      size = inv.size;
      limit = search rules;
      fed = fed_on (g.R.Read.remaining c.args.reader.now) (g.R.Read.remaining c.loop-self.reader)
          (g.R.Read.remaining c.read.new.self) c.args.self.now.bytes (take stop c.loop-self.self-inside.bytes.items) _
          (take n c.read.new.buf) c.args.self.now.total c.loop-self.self-inside.total n
          inv.fed c.in_ok-count.ensures.bytes.0
          (filled xs c.read.new.buf _ _ stop n c.loop-self.self-inside.bytes.len (omega (arith, within, size, whole))
          bound.0 (omega (arith, room, size))
          ∙ ap (λ (z : List ℕ). take stop z ++ take n c.read.new.buf) value)
          bound.1;
    }

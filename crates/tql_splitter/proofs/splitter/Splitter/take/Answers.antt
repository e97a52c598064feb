use Rattle.std.proofs.Common.{◌∙◌, ap, sym, ◌≡◌, false}
use Rattle.tql_spec.specs.Script.{can_end}
use Rattle.tql_splitter.specs.Stream.{Stream}
use Rattle.tql_splitter.proofs.CuttingLemmas.{ends}
use Rattle.tql_splitter.proofs.HoldLemmas.{end_here, no_end_here, other_byte, taken_end, taken_on}
use Rattle.tql_splitter.proofs.RunLemmas.{taken_with}
use Rattle.tql_splitter.proofs.splitter.Splitter.take.Goals as goal
use Rattle.tql_splitter.proofs.splitter.Splitter.take.Goals.{else-byte-eq59-via-then-byte-eq59+else-can_end}
use Rattle.tql_splitter.proofs.splitter.Splitter.take.Goals.{else-byte-eq59-via-else-byte-eq59}

pub returns-then-can_end : goal.returns-then-can_end
returns-then-can_end c =
    taken_end c.args.byte c.close.result c.args.self.now c.close.new.self c.close.ensures c.requires
    (end_here c.args.self.now.place c.args.byte c.if-byte-eq59.true
    (ap (λ (s : Stream). can_end s.place) (sym c.self.view_is) ∙ sym c.can_end.ensures ∙ c.if-can_end.true))

pub returns-else-byte-eq59 : goal.returns-else-byte-eq59
returns-else-byte-eq59 c =
    let goes : ends c.args.self.now.place c.args.byte ≡ false = elim c.else-byte-eq59.branch [
      | else-byte-eq59-via-then-byte-eq59+else-can_end w ↦ no_end_here c.args.self.now.place c.args.byte
          (ap (λ (s : Stream). can_end s.place) (sym w.self.view_is) ∙ sym w.can_end.ensures ∙ w.if-can_end.false)
      | else-byte-eq59-via-else-byte-eq59 w ↦ other_byte c.args.self.now.place c.args.byte w.if-byte-eq59.false
    ] in
    taken_with _ c.look.new.self c.look_on.new.self
    (taken_on c.args.byte c.args.self.now c.look.new.self c.look.ensures c.requires goes) c.look_on.ensures

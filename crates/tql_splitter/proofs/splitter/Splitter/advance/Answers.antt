use Rattle.std.proofs.Common.{◌∙◌, ap, sym, ◌≡◌, false, true, List, ℕ}
use Rattle.tql_splitter.specs.Stream.{Stream, is_begun}
use Rattle.tql_splitter.specs.Cutting.{state_of}
use Rattle.tql_splitter.proofs.HoldLemmas.{gives_end, gives_none, none_taken, reached, Reached}
use Rattle.tql_splitter.proofs.splitter.Splitter.advance.Goals as goal
use Rattle.tql_splitter.proofs.splitter.Splitter.advance.Goals.{else-self-via-then-self+else-is_begun}
use Rattle.tql_splitter.proofs.splitter.Splitter.advance.Goals.{else-self-via-else-self}

pub returns-then-is_begun : goal.returns-then-is_begun
returns-then-is_begun c =
    let i = c.loop-byte.invariant in
    let n = none_taken c.take.result c.self.inside.ready c.take.new.self c.take.ensures c.in_default.not-Some in
    let now : Stream = record {
      kept = c.self.inside.pending;
      given = c.self.inside.given;
      place = state_of c.self.inside.place;
      ready = c.take.new.self;
      ended = c.self.inside.ended;
      feeds = c.self.inside.feeds;
      begun = c.self.inside.begun;
      line = c.self.inside.line;
    } in
    let same : now ≡ c.loop-byte.self = ap (λ (r : List ℕ). record now { ready = r }) (n.1 ∙ sym n.0)
    ∙ c.self.view_is in
    let all : Reached c.args.self.now now = reached c.args.self.now c.loop-byte.self now same i.still i.ended i.line
    i.no_more
    i.holds (ap (λ (s : Stream). s.ready) (sym same) ∙ n.1) in
    gives_end c.close.result c.args.self.now now c.close.new.self all c.close.ensures
    (ap (λ (s : Stream). s.ended) (sym c.self-2.view_is) ∙ c.if-self.true)
    (ap (λ (s : Stream). is_begun s.kept) (sym c.self-2.view_is) ∙ sym c.is_begun.ensures ∙ c.if-is_begun.true)

pub returns : goal.returns
returns c =
    let i = c.loop-byte.invariant in
    let n = none_taken c.take.result c.self.inside.ready c.take.new.self c.take.ensures c.in_default.not-Some in
    let now : Stream = record {
      kept = c.self.inside.pending;
      given = c.self.inside.given;
      place = state_of c.self.inside.place;
      ready = c.take.new.self;
      ended = c.self.inside.ended;
      feeds = c.self.inside.feeds;
      begun = c.self.inside.begun;
      line = c.self.inside.line;
    } in
    let same : now ≡ c.loop-byte.self = ap (λ (r : List ℕ). record now { ready = r }) (n.1 ∙ sym n.0)
    ∙ c.self.view_is in
    let all : Reached c.args.self.now now = reached c.args.self.now c.loop-byte.self now same i.still i.ended i.line
    i.no_more
    i.holds (ap (λ (s : Stream). s.ready) (sym same) ∙ n.1) in
    gives_none c.args.self.now now all (λ (e : now.ended ≡ true). elim c.else-self.branch [
      | else-self-via-then-self+else-is_begun w ↦
          ap (λ (s : Stream). is_begun s.kept) (sym c.self-2.view_is) ∙ sym w.is_begun.ensures ∙ w.if-is_begun.false
      | else-self-via-else-self w ↦ let no : true ≡ false =
          sym e ∙ ap (λ (s : Stream). s.ended) (sym c.self-2.view_is) ∙ w.if-self.false in absurd cc
    ])

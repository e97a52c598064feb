use Rattle.std.specs.Prelude.{◌≡◌, false, int_lt}
use Rattle.std.proofs.Common.{arith, ap, ◌∙◌}
use Rattle.std.proofs.lemmas.Int.{ints}
use Rattle.tql_spec.specs.Period.{share_a_point}
use Rattle.tql_index.specs.Entry.{Entry}
use Rattle.tql_index.specs.Line.{place_of}
use Rattle.tql_index.specs.Spans.{points_between}
use Rattle.tql_index.specs.Tree.{greatest_end}
use Rattle.tql_index.proofs.Finding.{nothing_here, in_period}
use Rattle.tql_index.proofs.run.Run.find.Goals as goal

pub returns-then-not-is_before-clause-found : goal.returns-then-not-is_before-clause-found
returns-then-not-is_before-clause-found g c =
    let x = points_between c.args.from c.args.to in
    let q = λ (e : Entry). share_a_point e.period x in
    let n : int_lt x.start (place_of c.self.inside.ends.greatest) ≡ false =
    grind (arith, ints, c.is_before.ensures, c.if-not-is_before.true) in
    nothing_here q x.start x.end (place_of c.self.inside.ends.greatest) c.args.self.now c.args.found.now.items
    (in_period x) (c.self.invariant.0.greatest_is ∙ ap greatest_end c.self.view_is) n

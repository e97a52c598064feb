use Rattle.std.specs.Prelude.{◌≡◌, ◌+ℤ◌, pos, List, ℕ, IfOk}
use Rattle.std.proofs.Common.{arith, subst, to_z, of_z, w64}
use Rattle.std.proofs.lemmas.Int.{ints}
use Rattle.tql_spec.specs.Bag.{SameBag}
use Rattle.tql_index.specs.Line.{place_of}
use Rattle.tql_index.specs.Spans.{points_between}
use Rattle.tql_index.specs.declared.line.Place as line
use Rattle.tql_index.proofs.Finding.{same_at}
use Rattle.tql_tree_index.proofs.tree_index.TreeIndexIntervalIndex.stab.Goals as goal

pub returns : goal.returns
returns c =
    let from : line.Place = record { group = pos 0; point = to_z w64 (of_z w64 c.args.point) } in
    let start : place_of from ≡ c.args.point = omega (arith, ints) in
    let end : place_of c.after.result ≡ c.args.point +ℤ pos 1 = omega (arith, ints, c.after.ensures) in
    subst (λ (ns : List ℕ). IfOk c.between.result (λ ids. SameBag ids.items ns))
    (same_at c.args.point (points_between from c.after.result) c.args.self.now start end) c.between.ensures

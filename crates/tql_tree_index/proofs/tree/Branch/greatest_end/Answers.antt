use Rattle.std.specs.Prelude.{◌≡◌}
use Rattle.std.specs.Int.{int_max}
use Rattle.std.proofs.Common.{refl, sym, ◌∙◌}
use Rattle.tql_index.specs.Line.{place_of}
use Rattle.tql_index.specs.Tree.{greatest_end}
use Rattle.tql_index.proofs.Branches.{greater_of, greatest_of_parts}
use Rattle.tql_tree_index.proofs.tree.Branch.greatest_end.Goals as goal

pub returns : goal.returns
returns g c =
    let b = c.args.self.now in
    let m : place_of c.later.result ≡ int_max (greatest_end b.left.entries) (greatest_end b.run) =
    greater_of (place_of c.later.result) (place_of c.later.result) (greatest_end b.left.entries) (greatest_end b.run)
    (place_of c.greatest.result) (place_of c.end.result) c.later.ensures refl c.greatest.ensures c.end.ensures in
    greater_of (place_of c.later-2.result) (place_of c.later-2.result)
    (int_max (greatest_end b.left.entries) (greatest_end b.run)) (greatest_end b.right.entries)
    (place_of c.later.result) (place_of c.greatest-2.result) c.later-2.ensures refl m c.greatest-2.ensures
    ∙ sym (greatest_of_parts b.left.entries b.run b.right.entries)

use Rattle.std.specs.Prelude.{◌≤◌, ◌++◌, length}
use Rattle.std.proofs.Common.{arith, ap, length-append, ◌∙◌}
use Rattle.tql_index.specs.Line.{place_of}
use Rattle.tql_index.specs.Tree.{IsInOrder}
use Rattle.tql_index.proofs.Runs.{is_joined}
use Rattle.tql_index.proofs.run.Run.join.Goals as goal

pub invariant_of-self-2 : goal.invariant_of-self-2
invariant_of-self-2 g c =
    let es = c.self.inside.slots in
    let fs = c.next.inside.slots in
    let ms = c.append.new.self in
    let o : IsInOrder (es ++ fs) = rw (c.self.view_is, c.next.view_is) c.requires in
    let l : length ms ≤ 32 = omega (
      arith,
      ap length c.if-not-append.ensures.appended,
      length-append es fs,
      c.if-together-gt-JOINED.false,
      c.len-2.ensures,
      c.len-3.ensures,
    ) in (
      is_joined es fs ms (place_of c.ends_of-self-inside.result.greatest) (place_of c.self.inside.ends.greatest)
          (place_of c.next.inside.ends.greatest) c.if-not-append.ensures.appended o l
          (ap place_of c.ends_of-self-inside.ensures.greatest ∙ c.later-greatest.ensures)
          c.self.invariant.0.greatest_is c.next.invariant.0.greatest_is,
      c.ends_of-self-inside.ensures.ends,
    )

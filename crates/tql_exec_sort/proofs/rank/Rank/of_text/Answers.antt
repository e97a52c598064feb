-- The first eight bytes of a text, and the next eight.
use Rattle.std.proofs.Common.{rules, refl, ◌∙◌, ap, w64}
use Rattle.std.specs.Prelude.{pos, ◌^◌, ◌+ℤ◌, neg_ℤ}
use Rattle.std.proofs.lemmas.Int.{to_z-of_z}
use Rattle.tql_exec_sort.specs.Rank.{start_of}
use Rattle.tql_exec_sort.proofs.rank.Rank.of_text.Goals as goal

pub returns : goal.returns
returns c =
    let z = c.strict_add_unsigned.result in
    record {
      kind = refl;
      number = (
        to_z-of_z w64 z (search rules) ∙ c.strict_add_unsigned.ensures
            ∙ ap (λ n. neg_ℤ (pos (2 ^ 63)) +ℤ pos n) c.start.ensures.number,
        c.start.ensures.bytes,
      );
      rest = c.start-2.ensures.number ∙ ap (start_of 8) c.behind.ensures;
    }

use Rattle.std.proofs.Common.{◌≡◌, ◌++◌, ◌∙◌, ap, length, map, sym, rules, List, ℕ, arith}
use Rattle.std.proofs.lemmas.List.{length-map}
use Rattle.tql_value.specs.Views.{datum_of_view}
use Rattle.tql_row.specs.Cells.{front_of_row}
use Rattle.tql_row.proofs.RowLemmas.{written_at}
use Rattle.tql_row.proofs.writing.packed.Goals as goal

pub returns : goal.returns
returns c =
    let front = front_of_row (length c.args.values.now) in
    let wide : length (map datum_of_view c.args.values.now) ≡ length c.args.values.now =
    length-map c.args.values.now datum_of_view in
    record {
      fits = rw wide (first_of (search rules, omega arith));
      written = written_at _ (front_of_row (length (map datum_of_view c.args.values.now))) _ _
          (c.in_ok-put_width.ensures ∙ ap (λ (bs : List ℕ). bs ++ front) c.in_ok-bytes.ensures.items
          ∙ ap front_of_row (sym wide)) c.in_ok-put_each.ensures;
    }

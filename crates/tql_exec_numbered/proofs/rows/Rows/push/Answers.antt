-- The row behind the others.
use Rattle.std.proofs.Common.{◌≡◌, ◌++◌, ◌∷◌, [], ◌∙◌, ap, length, subst, sym}
use Rattle.std.specs.Prelude.{List, Result, Ok, Err, OnOk, false}
use Rattle.std.specs.Result.{is_err}
use Rattle.std.proofs.lemmas.List.{length-map}
use Rattle.tql_spec.specs.Datum.{Row}
use Rattle.tql_value.specs.Views.{datum_of_value, row_of}
use Rattle.tql_exec_numbered.specs.Numbered.{seen}
use Rattle.tql_exec_numbered.specs.Rows.{parts, AreMarks}
use Rattle.tql_exec_numbered.specs.declared.rows.Mark.{Mark}
use Rattle.tql_exec_numbered.proofs.Parts.{marks_behind, parts_behind}
use Rattle.tql_exec_numbered.proofs.rows.Rows.push.Goals as goal

told : {T E P : Type 0} (r : Result T E) → OnOk r P → is_err r ≡ false → P
told (Ok x) ok e = ok
told (Err x) ok e = cc

holds : {T E P : Type 0} (r : Result T E) → P → OnOk r P
holds (Ok x) p = p
holds (Err x) p = tt

pub invariant_of-self-else-is_err : goal.invariant_of-self-else-is_err
invariant_of-self-else-is_err c =
    let marks = c.self.inside.marks.items in
    let items = c.self.inside.values.items in
    let news = c.add_row-added.new.values.items in
    let row : Row = seen c.args.row.now in
    let fine = sym c.if-is_err.ensures.value in
    let values : row_of news ≡ row_of items ++ row = told c.add_row-added.result c.add_row-added.ensures.values fine in
    let mark : Mark = record { end = length news; digest = c.args.digest } in
    let added : c.add_row-added.new.marks.items ≡ marks ++ mark ∷ [] =
    told c.add_row-added.result c.add_row-added.ensures.marks fine in
    let end : length news ≡ length (row_of items ++ row) = sym (length-map news datum_of_value) ∙ ap length values in
    subst (λ ms. AreMarks 0 ms (row_of news)) (sym added)
    (subst (AreMarks 0 (marks ++ mark ∷ [])) (sym values)
    (marks_behind (row_of items) row mark end 0 marks c.requires c.self.invariant))

pub returns-else-is_err-clause-rows : goal.returns-else-is_err-clause-rows
returns-else-is_err-clause-rows c =
    let marks = c.self.inside.marks.items in
    let items = c.self.inside.values.items in
    let news = c.add_row-added.new.values.items in
    let row : Row = seen c.args.row.now in
    let fine = sym c.if-is_err.ensures.value in
    let values : row_of news ≡ row_of items ++ row = told c.add_row-added.result c.add_row-added.ensures.values fine in
    let mark : Mark = record { end = length news; digest = c.args.digest } in
    let added : c.add_row-added.new.marks.items ≡ marks ++ mark ∷ [] =
    told c.add_row-added.result c.add_row-added.ensures.marks fine in
    let end : length news ≡ length (row_of items ++ row) = sym (length-map news datum_of_value) ∙ ap length values in
    holds c.add_row-added.result
    (ap (λ ms. parts 0 ms (row_of news)) added ∙ ap (parts 0 (marks ++ mark ∷ [])) values
    ∙ parts_behind (row_of items) row mark end 0 marks c.self.invariant
    ∙ ap (λ (rows : List Row). rows ++ row ∷ []) c.self.view_is)

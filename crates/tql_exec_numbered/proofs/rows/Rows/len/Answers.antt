-- A row has a mark.
use Rattle.std.proofs.Common.{◌∙◌, ap, length, sym}
use Rattle.tql_value.specs.Views.{row_of}
use Rattle.tql_exec_numbered.proofs.Parts.{parts_length}
use Rattle.tql_exec_numbered.proofs.rows.Rows.len.Goals as goal

pub returns-clause-count : goal.returns-clause-count
returns-clause-count c =
    c.len.ensures ∙ c.self.inside.marks.ok.0
    ∙ sym (parts_length 0 c.self.inside.marks.items (row_of c.self.inside.values.items))
    ∙ ap length c.self.view_is

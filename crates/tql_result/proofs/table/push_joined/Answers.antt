use Rattle.std.proofs.Common.{refl, sym, ap, subst}
use Rattle.std.proofs.lemmas.List.Elements.{All-head, All-rest, All-same}
use Rattle.tql_spec.specs.Text.{cell_text}
use Rattle.tql_value.specs.Views.{datum_of_value}
use Rattle.tql_value.specs.Points.{IsPrintable}
use Rattle.tql_result.proofs.Joining.{joined_parts}
use Rattle.tql_result.proofs.Pushing.{sent_none, step, last}
use Rattle.tql_result.proofs.table.push_joined.Goals as goal

pub write_cell-requires : goal.write_cell-requires
write_cell-requires g c =
    subst IsPrintable (sym c.view.ensures)
    (All-head (λ v. IsPrintable (datum_of_value v)) _ _
    (All-same (λ v. IsPrintable (datum_of_value v)) _ _ (sym c.in-Some.ensures.cases.0) c.requires))

pub push_next_cells-requires : goal.push_next_cells-requires
push_next_cells-requires g c = All-rest (λ v. IsPrintable (datum_of_value v)) _ _ _ c.in-Some.ensures.cases.0 c.requires

pub returns-in_ok-write_cell-in-Some : goal.returns-in_ok-write_cell-in-Some
returns-in_ok-write_cell-in-Some g c =
    last _
    (step _ (sent_none _ _ _)
    (joined_parts cell_text datum_of_value 124 _ _ _ _ c.in-Some.ensures.cases.0 (ap cell_text (sym c.view.ensures)))
    c.in_ok-write_cell-in-Some.ensures)
    refl c.push_next_cells.ensures

use Rattle.std.proofs.Common.{[], ◌∙◌, ap, map, string_bytes}
use Rattle.std.proofs.lemmas.List.{take_all}
use Rattle.tql_result_box.specs.Box.{column_layout}
use Rattle.tql_result_box.proofs.RowByRow.{heading_layouts_are}
use Rattle.tql_result_box.proofs.layout.heading_layouts.Goals as goal

pub returns : goal.returns
returns c =
    c.loop-name.invariant
    ∙ ap (map (λ n. column_layout (string_bytes n) []))
    (take_all c.loop-name.name-index c.args.names.now c.loop-name-test.false)
    ∙ heading_layouts_are string_bytes c.args.names.now

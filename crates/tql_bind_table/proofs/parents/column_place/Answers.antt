use Rattle.std.proofs.Common.{rules, tests, List, map, ap, ◌∙◌}
use Rattle.std.proofs.lemmas.Iterator.{YieldsList-from_slice}
use Rattle.std.proofs.lemmas.Iterator.Search.{position_from_yields_List}
use Rattle.tql_spec.specs.Definition.{Column}
use Rattle.tql_spec.specs.Creation.{number_in}
use Rattle.tql_bind_table.proofs.Places.{is_called, place_of-columns}
use Rattle.tql_bind_table.proofs.parents.column_place.Goals as goal

pub returns : goal.returns
returns c =
    let n = c.args.name.now in
    let columns = c.columns.result.now in
    position_from_yields_List (is_called n) _ _ _ c.position.ensures.ran (YieldsList-from_slice columns cc)
    (λ x b q k. search (rules, tests)) ∙ place_of-columns n columns
    ∙ ap (λ (cs : List Column). number_in n (map (λ (k : Column). k.name) cs)) c.columns.ensures.columns

use Rattle.std.proofs.Common.{rules, arith, List, map, ap, ◌∙◌}
use Rattle.std.specs.Prelude.{slice_index_or}
use Rattle.std.proofs.lemmas.Grind.{common_steps}
use Rattle.tql_spec.specs.Datum.{Ints}
use Rattle.tql_spec.specs.Definition.{Column}
use Rattle.tql_bind_table.proofs.Places.{kind_there}
use Rattle.tql_bind_table.proofs.parents.column_kind.Goals as goal

pub returns-in-Some : goal.returns-in-Some
returns-in-Some c =
    kind_there Ints c.columns.result.now c.args.number c.in-Some.column.now
    (first_of (search rules, grind (arith, common_steps))) (first_of (search rules, grind (arith, common_steps)))
    ∙ ap (λ (cs : List Column). slice_index_or (map (λ (k : Column). k.kind) cs) c.args.number Ints)
    c.columns.ensures.columns

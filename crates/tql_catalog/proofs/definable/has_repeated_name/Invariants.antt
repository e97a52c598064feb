use Rattle.std.proofs.Common.{◌≡◌, ◌++◌, length, Bor}
use Rattle.std.specs.Prelude.{option_map}
use Rattle.tql_spec.specs.Creation.{repeats, application_name}
use Rattle.tql_catalog.specs.Columns.{names_in}
use Rattle.tql_catalog.specs.Definitions.{application_of}
use Rattle.tql_catalog.specs.declared.definition.Application.{Application}
use Rattle.tql_catalog.proofs.definable.has_repeated_name.Given as goal

abbrev pub invariant-loop-left : goal.invariant-loop-left
invariant-loop-left l =
    repeats (names_in l.fn.columns ++ application_name
    (option_map (λ (a : Bor Application). application_of a.now) l.fn.application))
    ≡ repeats (names_in l.left ++ application_name
    (option_map (λ (a : Bor Application). application_of a.now) l.fn.application))

abbrev pub decreases-loop-left : goal.decreases-loop-left
decreases-loop-left l = length l.left

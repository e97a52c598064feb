use Rattle.std.proofs.Common.{◌≡◌, drop}
use Rattle.std.specs.Prelude.{option_map}
use Rattle.tql_spec.specs.Creation.{shares_number, period_columns}
use Rattle.tql_catalog.specs.Definitions.{application_of}
use Rattle.tql_bind_draft.proofs.lists.shares_period.Given as goal

abbrev pub invariant-loop-number : goal.invariant-loop-number
invariant-loop-number l =
    shares_number (drop l.number-index l.numbers)
    (period_columns (option_map (λ a. application_of a.now) l.application))
    ≡ shares_number l.numbers (period_columns (option_map (λ a. application_of a.now) l.application))

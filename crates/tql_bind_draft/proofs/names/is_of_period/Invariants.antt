use Rattle.std.proofs.Common.{◌≡◌, drop, map}
use Rattle.std.specs.List.{flat_map}
use Rattle.tql_spec.specs.Creation.{has_name, part_names}
use Rattle.tql_bind_draft.specs.Drafts.{application_part}
use Rattle.tql_bind_draft.proofs.names.is_of_period.Given as goal

abbrev pub invariant-loop-period : goal.invariant-loop-period
invariant-loop-period l =
    has_name l.name (flat_map part_names (map application_part (drop l.period-index l.periods))) ≡ has_name l.name
    (flat_map part_names (map application_part l.periods))

-- The model of a limit of the code.
use Rattle.tql_spec.specs.Datum.{Comparison, Datum}
use Rattle.tql_value.specs.Views.{datum_of_view, plain_comparison}
use Rattle.tql_plan_access.specs.declared.limits.Limit.{Limit}

-- the comparison and the literal
abbrev pub plain_limit : Limit → Comparison × Datum
plain_limit l = (plain_comparison l.sign, datum_of_view l.value)

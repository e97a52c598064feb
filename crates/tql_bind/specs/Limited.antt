-- How a statement is bound under limits.
use Rattle.std.specs.Prelude.{Bool, false, not, ◌||◌, nat_le, List, length, ◌++◌, ℤ, int_lt, is_none}
use Rattle.tql_spec.specs.Definition.{TableDef, table_at}
use Rattle.tql_spec.specs.Horizon.{is_before, asks_before}
use Rattle.tql_spec.specs.Limits.{most_readers}
use Rattle.tql_spec.specs.Machine.{Bound, bound_faults, ChangeRows, InsertQuery, AnswerQuery, Prune, OpenReader, Read}
use Rattle.tql_spec.specs.Machine.{CloseReader}
use Rattle.tql_spec.specs.Names.{Checked}
use Rattle.tql_spec.specs.Readers as readers
use Rattle.tql_spec.specs.Readers.{is_named, reads_plain}
use Rattle.tql_spec.specs.Syntax.{Statement}
use Rattle.tql_spec.specs.Binding.{bind}
use Rattle.tql_value.specs.When.{when_of}
use Rattle.tql_bound.specs.Readers.{names_of}
use Rattle.tql_bound.specs.declared.reference.Reference.{Reference}
use Rattle.tql_bind.specs.declared.limits.Limits.{Limits}

-- the limits as the specification has them
abbrev pub limits_of : Limits → readers.Limits
limits_of l = record { horizon = l.horizon; names = names_of l.readers.now }

-- ---- references

-- whether a table reference reads moments before the horizon
abbrev pub asks : ℤ → Reference → Bool
asks h r = is_before h (when_of r.when)

-- whether a table reference is to a table that is not system-versioned
abbrev pub is_plain : List TableDef → Reference → Bool
is_plain defs r = is_none (table_at defs r.table).system

-- ---- the faults of the limits, each by its test

-- OPEN READER with one reader too many
abbrev pub opens_too_many : readers.Limits → Bound → Bool
opens_too_many l (OpenReader n) = nat_le most_readers (length l.names)
opens_too_many l _ = false

-- OPEN READER, READ or CLOSE READER with a reader that does not allow it
abbrev pub is_unusable : readers.Limits → List TableDef → Bound → Bool
is_unusable l defs (OpenReader n) = is_named n l.names
is_unusable l defs (Read n q) = not (is_named n l.names) || reads_plain defs q
is_unusable l defs (CloseReader n) = not (is_named n l.names)
is_unusable l defs _ = false

-- a query reads moments before the horizon, or PRUNE HISTORY sets the horizon to an earlier moment
abbrev pub is_too_early : readers.Limits → Bound → Bool
is_too_early l (ChangeRows (InsertQuery t columns q)) = asks_before l.horizon q
is_too_early l (AnswerQuery q) = asks_before l.horizon q
is_too_early l (Prune m) = int_lt m l.horizon
is_too_early l (Read n q) = asks_before l.horizon q
is_too_early l _ = false

-- ---- statements

-- the statement as it is bound; its faults are those of the limits, then those of names, types, forms and literals
abbrev pub bind_under : readers.Limits → List TableDef → Statement → Checked Bound
bind_under l defs s =
    let b : Checked Bound = bind defs s in record { value = b.value; faults = bound_faults l defs b.value ++ b.faults }

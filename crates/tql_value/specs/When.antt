-- The versions of a table that are read, as the definitions represent them.
use Rattle.std.specs.Prelude.{Bool, true, false}
use Rattle.tql_spec.specs.History as history
use Rattle.tql_value.specs.declared.when.When.{When}
use Rattle.tql_value.specs.declared.when.When.TheVariants as when

-- the versions that are read
abbrev pub when_of : When → history.When
when_of when.Now = history.Now
when_of (when.AsOf m) = history.AsOf m
when_of (when.FromTo a b) = history.FromTo a b
when_of (when.Between a b) = history.Between a b

-- whether the current rows are read
abbrev pub is_now : history.When → Bool
is_now history.Now = true
is_now _ = false

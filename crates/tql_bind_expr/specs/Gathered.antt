-- Faults that are collected during binding.
use Rattle.std.specs.Prelude.{◌≡◌, List, ◌++◌, Option}
use Rattle.tql_spec.specs.Words.{listed}
use Rattle.tql_spec.specs.Refusal.{Refusal, first}
use Rattle.tql_spec.specs.Names.{Checked}

-- the first of the fault so far and these faults
unfoldable pub after : Option Refusal → List Refusal → Option Refusal
after least faults = first (listed least ++ faults)

-- the value is that of the definition; the final fault is the first of the fault so far and the definition's faults
pub record Gathers {B : Type 0} (c : Checked B) (old new : Option Refusal) (x : B) : Type 0 where
  pub value : x ≡ c.value
  pub least : new ≡ after old c.faults

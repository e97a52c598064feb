-- The result of binding.
use Rattle.std.specs.Prelude.{◌≡◌, Some, None, Result, Ok, Err, ⊤}
use Rattle.tql_spec.specs.Refusal.{first}
use Rattle.tql_spec.specs.Names.{Checked}
use Rattle.tql_value.specs.Refusals.{refusal_of}
use Rattle.tql_value.specs.declared.refusal.Refusal.{Refusal}
use Rattle.tql_value.specs.declared.refusal.Refusal.TheVariants.{OutOfMemory}

-- the value if there is no fault, else the first fault; or memory ran out
abbrev pub Binds : {A B : Type 0} → (A → B) → Checked B → Result A Refusal → Type 0
Binds view c (Ok a) = (first c.faults ≡ None) × (c.value ≡ view a)
Binds view c (Err OutOfMemory) = ⊤
Binds view c (Err e) = first c.faults ≡ Some (refusal_of e)

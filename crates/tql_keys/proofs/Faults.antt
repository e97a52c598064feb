-- The faults of a copy, from the tests of its keys and references.
use Rattle.std.proofs.Common.{◌≡◌, refl, ap, ◌∙◌, Bool, true, false, List, [], ◌++◌}
use Rattle.std.specs.Prelude.{not, Some, None}
use Rattle.tql_spec.specs.Definition.{TableDef}
use Rattle.tql_spec.specs.History.{Copy}
use Rattle.tql_spec.specs.Constraint.{keys_hold, references_hold}
use Rattle.tql_spec.specs.Machine.{constraint_faults}
use Rattle.tql_spec.specs.Refusal.{Refusal, DuplicateKey, ReferenceNotMet, fault_if, first}

abbrev pub tested : Bool → Bool → List Refusal
tested a b = fault_if (not a) DuplicateKey ++ fault_if (not b) ReferenceNotMet

none : (a b : Bool) → tested a b ≡ [] → (a ≡ true) × (b ≡ true)
none true true e = (refl, refl)
none true false e = absurd (cc)
none false b e = absurd (cc)

-- without a fault, all keys and references hold
pub no_faults : (defs : List TableDef) (copy : Copy) → constraint_faults defs copy ≡ []
    → (keys_hold defs copy ≡ true) × (references_hold defs copy ≡ true)
no_faults defs copy e = none (keys_hold defs copy) (references_hold defs copy) e

-- if a key fails, that is the first fault
pub key_first : (defs : List TableDef) (copy : Copy) → keys_hold defs copy ≡ false
    → first (constraint_faults defs copy) ≡ Some DuplicateKey
key_first defs copy e =
    ap (λ a. first (tested a (references_hold defs copy))) e ∙ before (references_hold defs copy)
  where
    before : (b : Bool) → first (tested false b) ≡ Some DuplicateKey
    before true = refl
    before false = refl

-- if all keys hold and a reference fails, that is the first fault
pub reference_first : (defs : List TableDef) (copy : Copy) → keys_hold defs copy ≡ true
    → references_hold defs copy ≡ false → first (constraint_faults defs copy) ≡ Some ReferenceNotMet
reference_first defs copy e f =
    ap (λ a. first (tested a (references_hold defs copy))) e ∙ ap (λ b. first (tested true b)) f

-- if all keys and references hold, there is no fault
pub none_first : (defs : List TableDef) (copy : Copy) → keys_hold defs copy ≡ true
    → references_hold defs copy ≡ true → first (constraint_faults defs copy) ≡ None
none_first defs copy e f =
    ap (λ a. first (tested a (references_hold defs copy))) e ∙ ap (λ b. first (tested true b)) f

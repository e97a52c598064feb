-- The faults of a new table, collected part by part.
use Rattle.std.specs.Prelude.{◌≡◌, Bool, List, ◌++◌, Option, None, Some, Ok, Err}
use Rattle.std.proofs.Common.{ap, sym, ◌∙◌}
use Rattle.tql_spec.specs.Refusal as spec
use Rattle.tql_spec.specs.Refusal.{fault_if, first}
use Rattle.tql_spec.specs.Names.{Checked, refuse_if}
use Rattle.tql_bind_expr.specs.Gathered.{after, Gathers}
use Rattle.tql_bind_expr.proofs.Gathering.{after_append, first_is}
use Rattle.tql_value.specs.Refusals.{refusal_of}
use Rattle.tql_value.specs.declared.refusal.Refusal.{Refusal}
use Rattle.tql_value.specs.declared.refusal.Refusal.TheVariants.{OutOfMemory}
use Rattle.tql_bind_table.specs.Binds.{Binds}

-- ---- lists of faults

-- a fault that was tested
pub asked : (b b' : Bool) (e : spec.Refusal) (old new : Option spec.Refusal) → b ≡ b'
    → Gathers (refuse_if b e) old new tt → new ≡ after old (fault_if b' e)
asked b b' e old new is g = g.least ∙ ap (λ (t : Bool). after old (fault_if t e)) is

-- two lists in sequence
pub more : (old mid new : Option spec.Refusal) (xs ys : List spec.Refusal) → mid ≡ after old xs → new ≡ after mid ys
    → new ≡ after old (xs ++ ys)
more old mid new xs ys e f = f ∙ ap (λ (o : Option spec.Refusal). after o ys) e ∙ sym (after_append old xs ys)

-- ---- the result of binding

-- the refusal is the first of the faults
pub told : {A B : Type 0} (view : A → B) (c : Checked B) (e : Refusal) → first c.faults ≡ Some (refusal_of e)
    → Binds view c (Err e)
told view c OutOfMemory h = tt
told view c _ h = h

-- no fault was found
pub clean : {A B : Type 0} (view : A → B) (c : Checked B) (old new : Option spec.Refusal) (a : A) → old ≡ None
    → new ≡ None → Gathers c old new (view a) → Binds view c (Ok a)
clean view c old new a none end g = (first_is c old new (view a) none g ∙ end, sym g.value)

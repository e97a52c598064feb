-- The tests of a copy give the same answer as those of the tables at all points of time.
use Rattle.std.proofs.Common.{◌≡◌, ◌≤◌, ap, Bool, true, false, List, [], length, arith}
use Rattle.std.specs.Prelude.{ℤ, Some, Result, Ok, Err}
use Rattle.tql_spec.specs.Constraint.{keys_hold, references_hold}
use Rattle.tql_spec.specs.Definition.{TableDef}
use Rattle.tql_spec.specs.History.{Copy}
use Rattle.tql_spec.specs.Machine.{constraint_faults}
use Rattle.tql_spec.specs.Refusal as spec
use Rattle.tql_spec.specs.Refusal.{first, place}
use Rattle.tql_spec.proofs.FirstFaults as faults
use Rattle.tql_points.specs.PointTable.{point_tables}
use Rattle.tql_points.specs.Scope.{ArePointTables}
use Rattle.tql_points.proofs.KeyPoints.{keys_fail, references_fail}
use Rattle.tql_points.proofs.PointKeys.{constraints_then, keys_then}
use Rattle.tql_points.proofs.Related.{SameCopy}
use Rattle.tql_value.specs.declared.refusal.Refusal.{Refusal}
use Rattle.tql_value.specs.declared.refusal.Refusal.TheVariants as r
use Rattle.tql_keys.specs.Checked.{TellsTests}
use Rattle.tql_keys.specs.PointTests.{IsCopyAt, IsFirstOfTests, IsRefusedAsPoints}
use Rattle.tql_keys.proofs.Faults.{tested, key_first, reference_first, none_first}

-- a first fault is that of a key or a reference
at_least : (a b : Bool) (f : spec.Refusal) → first (tested a b) ≡ Some f → 22 ≤ place f
at_least true true f q = absurd (cc)
at_least true false f q = let e : spec.ReferenceNotMet ≡ f = cc in omega (arith, ap place e)
at_least false true f q = let e : spec.DuplicateKey ≡ f = cc in omega (arith, ap place e)
at_least false false f q = let e : spec.DuplicateKey ≡ f = cc in omega (arith, ap place e)

-- if the keys hold, a first fault is that of a reference
not_keys : (a b : Bool) (f : spec.Refusal) → a ≡ true → first (tested a b) ≡ Some f → 23 ≤ place f
not_keys true true f k q = absurd (cc)
not_keys true false f k q = let e : spec.ReferenceNotMet ≡ f = cc in omega (arith, ap place e)
not_keys false b f k q = absurd (cc)

module _ (defs : List TableDef) (copy : Copy) (n : length copy ≡ length defs) (all : ArePointTables defs)
    (others : ℤ → Copy) (s : (p : ℤ) → IsCopyAt defs p copy (others p)) where
  same : (p : ℤ) → SameCopy defs p copy (others p)
  same p = record { as_many = n; as_many_then = (s p).as_many; each = (s p).each }

  abbrev faults_at : ℤ → List spec.Refusal
  faults_at p = constraint_faults (point_tables defs) (others p)

  none_at : keys_hold defs copy ≡ true → references_hold defs copy ≡ true → (p : ℤ) → faults_at p ≡ []
  none_at k f p = constraints_then defs all p copy (others p) (same p)
      (faults.none_first (constraint_faults defs copy) (none_first defs copy k f))

  key_at_some : keys_hold defs copy ≡ false → IsFirstOfTests faults_at spec.DuplicateKey
  key_at_some k =
      let y = keys_fail defs all copy n k in
      record {
        point = y.0;
        refused = key_first (point_tables defs) (others y.0) (y.1 (others y.0) (same y.0));
        least = λ p f q. at_least (keys_hold (point_tables defs) (others p))
            (references_hold (point_tables defs) (others p)) f q;
      }

  reference_at_some : keys_hold defs copy ≡ true → references_hold defs copy ≡ false
      → IsFirstOfTests faults_at spec.ReferenceNotMet
  reference_at_some k f =
      let y = references_fail defs all copy n f in
      record {
        point = y.0;
        refused = reference_first (point_tables defs) (others y.0)
            (keys_then defs all y.0 copy (others y.0) (same y.0) k) (y.1 (others y.0) (same y.0));
        least = λ p g q. not_keys (keys_hold (point_tables defs) (others p))
            (references_hold (point_tables defs) (others p)) g (keys_then defs all p copy (others p) (same p) k) q;
      }

pub refused_as_points : {A : Type 0} (defs : List TableDef) (copy : Copy) (result : Result A Refusal)
    → length copy ≡ length defs → TellsTests (keys_hold defs copy) (references_hold defs copy) result
    → IsRefusedAsPoints defs copy result
refused_as_points defs copy (Ok x) n h all others s = none_at defs copy n all others s h.0 h.1
refused_as_points defs copy (Err r.DuplicateKey) n h all others s = key_at_some defs copy n all others s h
refused_as_points defs copy (Err r.ReferenceNotMet) n h all others s =
    reference_at_some defs copy n all others s h.0 h.1
refused_as_points defs copy (Err r.OutOfMemory) n h all others s = tt
refused_as_points defs copy (Err e) n h all others s = absurd h

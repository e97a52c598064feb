-- The tests of a copy decide whether its keys and references hold at every point.
use Rattle.std.proofs.Common.{◌≡◌, ◌<◌, refl, sym, ap, subst, ◌∙◌, ℕ, zero, suc, Bool, true, List, [], ◌∷◌, length, inl}
use Rattle.std.proofs.Common.{inr, arith}
use Rattle.std.specs.Prelude.{Option, Some, None}
use Rattle.std.specs.List.{list_all, AllByRecursion}
use Rattle.tql_spec.specs.Bag.{In}
use Rattle.tql_spec.specs.Datum.{Row}
use Rattle.tql_spec.specs.Definition.{TableDef, Reference, table_at, place_of}
use Rattle.tql_spec.specs.History.{Copy, Entry}
use Rattle.tql_spec.specs.Constraint.{key_holds, reference_holds, shown_rows, each_table, reference_to}
use Rattle.tql_spec.specs.Machine.{entries, new_state}
use Rattle.tql_spec.specs.Run.{CopyHolds}
use Rattle.tql_spec.specs.AtPoints.{table_rows, parent_at, parent_rows, HoldsAtPoints, CopyTestsAreRight}
use Rattle.tql_spec.specs.AtPoints.{RunsKeepPoints, ReachedHoldAtPoints}
use Rattle.tql_spec.proofs.Members.{both}
use Rattle.tql_spec.proofs.Tests.{key_test_is_right}
use Rattle.tql_spec.proofs.Coverage.{reference_test_is_right}
use Rattle.tql_spec.proofs.Constraints.{and_true, key_test, reference_test}
use Rattle.tql_spec.proofs.ConstraintRuns.{runs_keep_constraints}

-- ---- tests over members and tables

-- a test that passes for a list passes for each member
pub all_in : {A : Type 0} (p : A → Bool) (xs : List A) (x : A) → list_all p xs ≡ true → In x xs → p x ≡ true
all_in p [] x e m = absurd m
all_in p (y ∷ xs) x e (inl q) = ap p q ∙ (both (p y) (list_all p xs) e).0
all_in p (y ∷ xs) x e (inr m) = all_in p xs x (both (p y) (list_all p xs) e).1 m

-- the converse: a test that passes for each member passes for the list
pub in_all : {A : Type 0} (p : A → Bool) (xs : List A) → ((x : A) → In x xs → p x ≡ true) → list_all p xs ≡ true
in_all p [] h = refl
in_all p (x ∷ xs) h = and_true (p x) (list_all p xs) (h x (inl refl)) (in_all p xs (λ y m. h y (inr m)))

-- a test that passes for a copy passes for each table
pub table_in : (test : TableDef → List Row → Bool) (defs : List TableDef) (copy : Copy) → length copy ≡ length defs
    → each_table test defs copy ≡ true → (t : ℕ) → t < length defs
    → test (table_at defs t) (table_rows defs copy t) ≡ true
table_in test [] copy n e t l = absurd (omega arith)
table_in test (d ∷ defs) [] n e t l = absurd (omega arith)
table_in test (d ∷ defs) (rows ∷ copy) n e zero l =
    (both (test d (shown_rows d rows)) (each_table test defs copy) e).0
table_in test (d ∷ defs) (rows ∷ copy) n e (suc t) l =
    table_in test defs copy (omega arith) (both (test d (shown_rows d rows)) (each_table test defs copy) e).1 t
    (omega arith)

-- the converse: a test that passes for each table passes for the copy
pub in_tables : (test : TableDef → List Row → Bool) (defs : List TableDef) (copy : Copy)
    → ((t : ℕ) → t < length defs → test (table_at defs t) (table_rows defs copy t) ≡ true)
    → each_table test defs copy ≡ true
in_tables test [] copy h = refl
in_tables test (d ∷ defs) [] h = refl
in_tables test (d ∷ defs) (rows ∷ copy) h =
    and_true (test d (shown_rows d rows)) (each_table test defs copy) (h 0 (omega arith))
    (in_tables test defs copy (λ t l. h (suc t) (omega arith)))

-- the test of a reference, by the table and the rows of its parent
pub reference_is : (defs : List TableDef) (copy : Copy) (d : TableDef) (rows : List Row) (f : Reference) (o : Option ℕ)
    → reference_to defs copy d rows f o ≡ reference_holds d (parent_at defs o) f (parent_rows defs copy o) rows
reference_is defs copy d rows f None = refl
reference_is defs copy d rows f (Some t) = refl

-- ---- a copy

-- if the tests pass, keys and references hold at every point
to_points : (defs : List TableDef) (copy : Copy) → CopyHolds defs copy → HoldsAtPoints defs copy
to_points defs copy h = record {
  as_many = h.as_many;
  keys = λ t l k m.
      let d : TableDef = table_at defs t in
      (key_test_is_right d k (table_rows defs copy t)).0
      (all_in (key_holds d (table_rows defs copy t)) d.keys k (table_in key_test defs copy h.as_many h.keys t l) m);
  references = λ t l f m.
      let d : TableDef = table_at defs t in
      let o : Option ℕ = place_of f.parent defs in
      let tested = all_in (λ (g : Reference). reference_to defs copy d (table_rows defs copy t) g
      (place_of g.parent defs)) d.references f
      (table_in (reference_test defs copy) defs copy h.as_many h.references t l) m in
      (reference_test_is_right d (parent_at defs o) f (parent_rows defs copy o) (table_rows defs copy t)).0
      (sym (reference_is defs copy d (table_rows defs copy t) f o) ∙ tested);
}

-- the converse: if keys and references hold at every point, the tests pass
from_points : (defs : List TableDef) (copy : Copy) → HoldsAtPoints defs copy → CopyHolds defs copy
from_points defs copy h = record {
  as_many = h.as_many;
  keys = in_tables key_test defs copy (λ t l.
      in_all (key_holds (table_at defs t) (table_rows defs copy t)) (table_at defs t).keys
      (λ k m. (key_test_is_right (table_at defs t) k (table_rows defs copy t)).1 (h.keys t l k m)));
  references = in_tables (reference_test defs copy) defs copy (λ t l.
      in_all (λ (g : Reference). reference_to defs copy (table_at defs t) (table_rows defs copy t) g
      (place_of g.parent defs)) (table_at defs t).references
      (λ f m. reference_is defs copy (table_at defs t) (table_rows defs copy t) f (place_of f.parent defs)
      ∙ (reference_test_is_right (table_at defs t) (parent_at defs (place_of f.parent defs)) f
      (parent_rows defs copy (place_of f.parent defs)) (table_rows defs copy t)).1 (h.references t l f m)));
}

-- the law: the tests of a copy are right
pub copy_tests_are_right : CopyTestsAreRight
copy_tests_are_right defs copy = (to_points defs copy, from_points defs copy)

-- ---- runs

-- from the tests to every point, for each copy of a list
each_to_points : (defs : List TableDef) (es : List Entry) → AllByRecursion (λ (e : Entry). CopyHolds defs e.copy) es
    → (e : Entry) → In e es → HoldsAtPoints defs e.copy
each_to_points defs [] h e m = absurd m
each_to_points defs (x ∷ es) h e (inl q) =
    subst (λ (y : Entry). HoldsAtPoints defs y.copy) (sym q) (to_points defs x.copy h.0)
each_to_points defs (x ∷ es) h e (inr m) = each_to_points defs es h.1 e m

-- from every point to the tests, for each copy of a list
each_from_points : (defs : List TableDef) (es : List Entry) → ((e : Entry) → In e es → HoldsAtPoints defs e.copy)
    → AllByRecursion (λ (e : Entry). CopyHolds defs e.copy) es
each_from_points defs [] h = tt
each_from_points defs (x ∷ es) h =
    (from_points defs x.copy (h x (inl refl)), each_from_points defs es (λ e m. h e (inr m)))

-- the law: a run preserves keys and references at every point
pub runs_keep_points : RunsKeepPoints
runs_keep_points old new pieces replies h r =
    each_to_points new.definitions (entries new)
    (runs_keep_constraints old new pieces replies (each_from_points old.definitions (entries old) h) r)

-- the law: they hold in every state that a run reaches
pub reached_hold_at_points : ReachedHoldAtPoints
reached_hold_at_points s r = runs_keep_points new_state s r.pieces r.replies (λ e m. absurd m) r.run

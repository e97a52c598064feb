-- The results of the tests of a copy, as its first fault and at every point of time.
use Rattle.std.proofs.Common.{◌≡◌, sym, ◌∙◌, Bool, true, false, List, length}
use Rattle.std.specs.Prelude.{Result, Ok, Err}
use Rattle.tql_spec.specs.AtPoints.{table_rows, parent_at, parent_rows, HoldsAtPoints}
use Rattle.tql_spec.specs.Constraint.{key_holds, keys_hold, references_hold, reference_to}
use Rattle.tql_spec.specs.Definition.{TableDef, Reference, table_at, place_of}
use Rattle.tql_spec.specs.History.{Copy}
use Rattle.tql_spec.specs.Machine.{constraint_faults}
use Rattle.tql_spec.specs.Refusal.{first}
use Rattle.tql_spec.specs.Run.{CopyHolds}
use Rattle.tql_spec.proofs.AtPoints.{all_in, in_all, table_in, in_tables, reference_is, copy_tests_are_right}
use Rattle.tql_spec.proofs.Constraints.{key_test, reference_test}
use Rattle.tql_spec.proofs.Coverage.{reference_test_is_right}
use Rattle.tql_spec.proofs.Tests.{key_test_is_right}
use Rattle.tql_value.specs.declared.refusal.Refusal.{Refusal}
use Rattle.tql_value.specs.declared.refusal.Refusal.TheVariants.{StatementTooLong, NotUtf8, UnfinishedStatement}
use Rattle.tql_value.specs.declared.refusal.Refusal.TheVariants.{NestedTooDeep, NotAStatement, TooManyColumnsOrTables}
use Rattle.tql_value.specs.declared.refusal.Refusal.TheVariants.{NotInThisTransactionState, MomentNotAllowed}
use Rattle.tql_value.specs.declared.refusal.Refusal.TheVariants.{ReadersAreOpen, TableUnknownOrAlreadyThere}
use Rattle.tql_value.specs.declared.refusal.Refusal.TheVariants.{NameUnknownAmbiguousOrRepeated, TypesDoNotFit}
use Rattle.tql_value.specs.declared.refusal.Refusal.TheVariants.{FormNotAllowedHere, TableIsReferenced}
use Rattle.tql_value.specs.declared.refusal.Refusal.TheVariants.{TooManyTablesOrReaders, BeforeTheHorizon}
use Rattle.tql_value.specs.declared.refusal.Refusal.TheVariants.{ReaderNotUsable, ValueOutOfRange, PortionNotRising}
use Rattle.tql_value.specs.declared.refusal.Refusal.TheVariants.{NullNotAllowed, PeriodNotRising, CheckFailed}
use Rattle.tql_value.specs.declared.refusal.Refusal.TheVariants.{DuplicateKey, ReferenceNotMet, OutOfMemory}
use Rattle.tql_keys.specs.Checked.{TellsTests, TellsFirst, TellsAtPoints, KeysAtPoints, ReferencesAtPoints}
use Rattle.tql_keys.proofs.Faults.{key_first, reference_first, none_first}

-- ---- as the first fault

pub told_first : {A : Type 0} (defs : List TableDef) (copy : Copy) (result : Result A Refusal)
    → TellsTests (keys_hold defs copy) (references_hold defs copy) result
    → TellsFirst (first (constraint_faults defs copy)) result
told_first defs copy (Ok x) h = none_first defs copy h.0 h.1
told_first defs copy (Err DuplicateKey) h = key_first defs copy h
told_first defs copy (Err ReferenceNotMet) h = reference_first defs copy h.0 h.1
told_first defs copy (Err OutOfMemory) h = tt
told_first defs copy (Err StatementTooLong) h = absurd h
told_first defs copy (Err NotUtf8) h = absurd h
told_first defs copy (Err UnfinishedStatement) h = absurd h
told_first defs copy (Err NestedTooDeep) h = absurd h
told_first defs copy (Err NotAStatement) h = absurd h
told_first defs copy (Err TooManyColumnsOrTables) h = absurd h
told_first defs copy (Err NotInThisTransactionState) h = absurd h
told_first defs copy (Err MomentNotAllowed) h = absurd h
told_first defs copy (Err ReadersAreOpen) h = absurd h
told_first defs copy (Err TableUnknownOrAlreadyThere) h = absurd h
told_first defs copy (Err NameUnknownAmbiguousOrRepeated) h = absurd h
told_first defs copy (Err TypesDoNotFit) h = absurd h
told_first defs copy (Err FormNotAllowedHere) h = absurd h
told_first defs copy (Err TableIsReferenced) h = absurd h
told_first defs copy (Err TooManyTablesOrReaders) h = absurd h
told_first defs copy (Err BeforeTheHorizon) h = absurd h
told_first defs copy (Err ReaderNotUsable) h = absurd h
told_first defs copy (Err ValueOutOfRange) h = absurd h
told_first defs copy (Err PortionNotRising) h = absurd h
told_first defs copy (Err NullNotAllowed) h = absurd h
told_first defs copy (Err PeriodNotRising) h = absurd h
told_first defs copy (Err CheckFailed) h = absurd h

-- ---- at every point

-- if keys hold at every point, their tests pass
keys_from : (defs : List TableDef) (copy : Copy) → KeysAtPoints defs copy → keys_hold defs copy ≡ true
keys_from defs copy h = in_tables key_test defs copy (λ t l.
    in_all (key_holds (table_at defs t) (table_rows defs copy t)) (table_at defs t).keys
    (λ k m. (key_test_is_right (table_at defs t) k (table_rows defs copy t)).1 (h t l k m)))

-- the converse
keys_to : (defs : List TableDef) (copy : Copy) → length copy ≡ length defs → keys_hold defs copy ≡ true
    → KeysAtPoints defs copy
keys_to defs copy n h t l k m =
    (key_test_is_right (table_at defs t) k (table_rows defs copy t)).0
    (all_in (key_holds (table_at defs t) (table_rows defs copy t)) (table_at defs t).keys k
    (table_in key_test defs copy n h t l) m)

-- the same for references
references_from : (defs : List TableDef) (copy : Copy) → ReferencesAtPoints defs copy
    → references_hold defs copy ≡ true
references_from defs copy h = in_tables (reference_test defs copy) defs copy (λ t l.
    in_all (λ (g : Reference). reference_to defs copy (table_at defs t) (table_rows defs copy t) g
    (place_of g.parent defs)) (table_at defs t).references
    (λ f m. reference_is defs copy (table_at defs t) (table_rows defs copy t) f (place_of f.parent defs)
    ∙ (reference_test_is_right (table_at defs t) (parent_at defs (place_of f.parent defs)) f
    (parent_rows defs copy (place_of f.parent defs)) (table_rows defs copy t)).1 (h t l f m)))

never : {b : Bool} → b ≡ true → b ≡ false → ⊥
never e f = let w : true ≡ false = sym e ∙ f in cc

pub told_at_points : {A : Type 0} (defs : List TableDef) (copy : Copy) (result : Result A Refusal)
    → length copy ≡ length defs → TellsTests (keys_hold defs copy) (references_hold defs copy) result
    → TellsAtPoints defs copy result
told_at_points defs copy (Ok x) n h =
    (copy_tests_are_right defs copy).0 (record { as_many = n; keys = h.0; references = h.1 })
told_at_points defs copy (Err DuplicateKey) n h = λ k. never (keys_from defs copy k) h
told_at_points defs copy (Err ReferenceNotMet) n h =
    (keys_to defs copy n h.0, λ r. never (references_from defs copy r) h.1)
told_at_points defs copy (Err OutOfMemory) n h = tt
told_at_points defs copy (Err StatementTooLong) n h = absurd h
told_at_points defs copy (Err NotUtf8) n h = absurd h
told_at_points defs copy (Err UnfinishedStatement) n h = absurd h
told_at_points defs copy (Err NestedTooDeep) n h = absurd h
told_at_points defs copy (Err NotAStatement) n h = absurd h
told_at_points defs copy (Err TooManyColumnsOrTables) n h = absurd h
told_at_points defs copy (Err NotInThisTransactionState) n h = absurd h
told_at_points defs copy (Err MomentNotAllowed) n h = absurd h
told_at_points defs copy (Err ReadersAreOpen) n h = absurd h
told_at_points defs copy (Err TableUnknownOrAlreadyThere) n h = absurd h
told_at_points defs copy (Err NameUnknownAmbiguousOrRepeated) n h = absurd h
told_at_points defs copy (Err TypesDoNotFit) n h = absurd h
told_at_points defs copy (Err FormNotAllowedHere) n h = absurd h
told_at_points defs copy (Err TableIsReferenced) n h = absurd h
told_at_points defs copy (Err TooManyTablesOrReaders) n h = absurd h
told_at_points defs copy (Err BeforeTheHorizon) n h = absurd h
told_at_points defs copy (Err ReaderNotUsable) n h = absurd h
told_at_points defs copy (Err ValueOutOfRange) n h = absurd h
told_at_points defs copy (Err PortionNotRising) n h = absurd h
told_at_points defs copy (Err NullNotAllowed) n h = absurd h
told_at_points defs copy (Err PeriodNotRising) n h = absurd h
told_at_points defs copy (Err CheckFailed) n h = absurd h

-- if all hold at every point, all tests pass
pub tests_before : (defs : List TableDef) (copy : Copy) → HoldsAtPoints defs copy
    → (keys_hold defs copy ≡ true) × (references_hold defs copy ≡ true)
tests_before defs copy h = let t : CopyHolds defs copy = (copy_tests_are_right defs copy).1 h in (t.keys, t.references)

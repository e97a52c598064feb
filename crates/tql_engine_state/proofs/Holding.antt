-- Each step keeps the keys and references of all copies.
use Rattle.std.proofs.Common.{◌≡◌, refl, ap, subst, ◌∙◌, ℕ, zero, suc, Bool, true, false, List, [], ◌∷◌, ◌++◌}
use Rattle.std.proofs.Common.{map, length}
use Rattle.std.specs.Prelude.{not, remove, ℤ, Option, Some, None, if◌then◌else◌}
use Rattle.std.specs.List.{AllByRecursion}
use Rattle.std.proofs.Math.ListN.{length-set}
use Rattle.tql_spec.specs.Refusal.{TableIsReferenced, DuplicateKey, ReferenceNotMet, fault_if, first}
use Rattle.tql_spec.specs.Words.{same_text}
use Rattle.tql_spec.specs.Definition.{Name, TableDef, place_of, next_place, table_at}
use Rattle.tql_spec.specs.History.{Copy, Entry}
use Rattle.tql_spec.specs.Constraint.{keys_hold, references_hold}
use Rattle.tql_spec.specs.Machine.{State, Bound, CreateTable, DropTable, SetClock, Start, Commit, Rollback, ChangeRows}
use Rattle.tql_spec.specs.Machine.{AnswerQuery, step}
use Rattle.tql_spec.specs.Machine.{changed_table, class_of, state_faults, effect, newest_copy, constraint_faults}
use Rattle.tql_spec.specs.Syntax.{Statement, CreateTree, DropTree, InsertValues, InsertSelect, UpdateTree, DeleteTree}
use Rattle.tql_spec.specs.Syntax.{QueryTree, StartTree, CommitTree, RollbackTree, AtTree}
use Rattle.tql_spec.specs.Binding.{bind, or_no_table, is_referenced}
use Rattle.tql_spec.specs.Run.{CopyHolds, ConstraintsHold}
use Rattle.tql_engine_state.specs.Dropping.{IsDropped}
use Rattle.tql_spec.proofs.FirstFaults.{none_first}
use Rattle.tql_spec.proofs.RunKeeps.{no_left, no_right, asked_stays, changed_copy, altered_keeps, unless_either}
use Rattle.tql_spec.proofs.InOrder.{state, no_fault}
use Rattle.tql_spec.proofs.Constraints.{holds_empty, holds_more, holds_less, same_text-is}
use Rattle.tql_spec.specs.Horizon.{pruned}
use Rattle.tql_spec.specs.Machine.{Prune, OpenReader, Read, CloseReader, limit_faults}
use Rattle.tql_spec.specs.Syntax.{PruneTree, OpenTree, ReadTree, CloseTree}
use Rattle.std.specs.Prelude.{int_le}

-- ---- DROP TABLE

-- DROP TABLE without a fault drops a table that no reference names
pub dropped : (defs : List TableDef) (st : Statement) → (bind defs st).faults ≡ [] → (t : ℕ)
    → (bind defs st).value ≡ DropTable t → IsDropped defs t
dropped defs (DropTree n) e t q = by_place (place_of n defs) refl e q
  where
    by_place : (o : Option ℕ) → place_of n defs ≡ o
        → (or_no_table o).faults ++ fault_if (is_referenced n defs) TableIsReferenced ≡ []
        → DropTable (or_no_table o).value ≡ DropTable t → IsDropped defs t
    by_place None p f v = absurd (cc)
    by_place (Some k) p f v =
        record {
          name = n;
          there = p ∙ ap (λ i. Some i) (cc);
          free =
              no_fault (is_referenced n defs) TableIsReferenced f;
        }
dropped defs (CreateTree n x es versioned) e t q = absurd (cc)
dropped defs (InsertValues n ns x ts) e t q = absurd (cc)
dropped defs (InsertSelect n ns s) e t q = absurd (cc)
dropped defs (UpdateTree n p s ss c) e t q = absurd (cc)
dropped defs (DeleteTree n p c) e t q = absurd (cc)
dropped defs (QueryTree s keys) e t q = absurd (cc)
dropped defs StartTree e t q = absurd (cc)
dropped defs CommitTree e t q = absurd (cc)
dropped defs RollbackTree e t q = absurd (cc)
dropped defs (AtTree m) e t q = absurd (cc)
dropped defs (PruneTree m) e t q = absurd (cc)
dropped defs (OpenTree n) e t q = absurd (cc)
dropped defs (ReadTree n s keys) e t q = absurd (cc)
dropped defs (CloseTree n) e t q = absurd (cc)

-- the table at the index where a name is found has that name
at_first : (d : TableDef) (defs : List TableDef) (t : ℕ) (n : Name) → Some zero ≡ Some t → n ≡ d.name
    → n ≡ (table_at (d ∷ defs) t).name
at_first d defs t n k same =
    let z : zero ≡ t = cc in subst (λ i. n ≡ (table_at (d ∷ defs) i).name) z same

further : (d : TableDef) (defs : List TableDef) (t : ℕ) (n : Name) (o : Option ℕ)
    → ((i : ℕ) → o ≡ Some i → n ≡ (table_at defs i).name) → next_place o ≡ Some t
    → n ≡ (table_at (d ∷ defs) t).name
further d defs t n None found k = absurd (cc)
further d defs t n (Some i) found k =
    let z : suc i ≡ t = cc in subst (λ j. n ≡ (table_at (d ∷ defs) j).name) z (found i refl)

by_test : (d : TableDef) (defs : List TableDef) (t : ℕ) (n : Name) (b : Bool) → same_text n d.name ≡ b
    → ((i : ℕ) → place_of n defs ≡ Some i → n ≡ (table_at defs i).name)
    → (if b then Some 0 else next_place (place_of n defs)) ≡ Some t → n ≡ (table_at (d ∷ defs) t).name
by_test d defs t n true is found k = at_first d defs t n k (same_text-is n d.name is)
by_test d defs t n false is found k = further d defs t n (place_of n defs) found k

pub name_there : (defs : List TableDef) (t : ℕ) (n : Name) → place_of n defs ≡ Some t → n ≡ (table_at defs t).name
name_there [] t n e = absurd (cc)
name_there (d ∷ defs) t n e =
    by_test d defs t n (same_text n d.name) refl (λ i k. name_there defs i n k) e

-- ---- copies

-- keys and references hold in each of some copies
abbrev pub EachHolds : List TableDef → List Entry → Type 0
EachHolds defs es = AllByRecursion (λ (e : Entry). CopyHolds defs e.copy) es

-- a change of every copy, as by CREATE and DROP, that keeps keys and references in each
holds_in_each : (g : Copy → Copy) (defs new : List TableDef)
    → ((copy : Copy) → CopyHolds defs copy → CopyHolds new (g copy)) → (es : List Entry) → EachHolds defs es
    → EachHolds new (map (λ (e : Entry). record e { copy = g e.copy }) es)
holds_in_each g defs new k [] h = tt
holds_in_each g defs new k (e ∷ es) h = (k e.copy h.0, holds_in_each g defs new k es h.1)

-- they hold in the copies that pruning leaves
holds_pruned : (defs : List TableDef) (m : ℤ) (es : List Entry) → EachHolds defs es → EachHolds defs (pruned m es)
holds_pruned defs m [] h = tt
holds_pruned defs m (e ∷ es) h = (h.0, either (int_le e.moment m) (holds_pruned defs m es h.1))
  where
    either : (b : Bool) → EachHolds defs (pruned m es) → EachHolds defs (if b then [] else pruned m es)
    either true k = tt
    either false k = k

-- they hold in the newest copy
pub newest_holds : (defs : List TableDef) (es : List Entry) → EachHolds defs es → CopyHolds defs (newest_copy defs es)
newest_holds defs [] h = holds_empty defs
newest_holds defs (e ∷ es) h = h.0

-- if the negation is false, the test is true
not_not : (b : Bool) → not b ≡ false → b ≡ true
not_not true e = refl
not_not false e = cc

-- a change without a fault of keys or references keeps them
changed_holds : (defs : List TableDef) (copy : Copy) → length copy ≡ length defs → constraint_faults defs copy ≡ []
    → CopyHolds defs copy
changed_holds defs copy n e =
    let first = no_left (fault_if (not (keys_hold defs copy)) DuplicateKey)
    (fault_if (not (references_hold defs copy)) ReferenceNotMet) e in
    let second = no_right (fault_if (not (keys_hold defs copy)) DuplicateKey)
    (fault_if (not (references_hold defs copy)) ReferenceNotMet) e in
    record {
      as_many = n;
      keys = not_not (keys_hold defs copy) (no_fault (not (keys_hold defs copy)) DuplicateKey first);
      references = not_not (references_hold defs copy)
          (no_fault (not (references_hold defs copy)) ReferenceNotMet second);
    }

-- ---- statements and runs

-- each effect keeps keys and references
effect_holds : (base : State) (defs : List TableDef) (history : List Entry) (next : ℤ) (begun : Option Entry)
    (b : Bound)
    → state_faults (state base defs history next begun) (class_of b) ≡ []
    → ((t : ℕ) → b ≡ DropTable t → IsDropped defs t)
    → ConstraintsHold (state base defs history next begun)
    → ConstraintsHold (effect (state base defs history next begun) b).1
effect_holds base defs history next None (CreateTable d) e g h =
    holds_in_each (λ copy. copy ++ [] ∷ []) defs (defs ++ d ∷ []) (holds_more defs d) history h
effect_holds base defs history next (Some w) (CreateTable d) e g h = absurd (cc)
effect_holds base defs history next None (DropTable t) e g h =
    let k = g t refl in holds_in_each (λ copy. remove copy t) defs (remove defs t)
    (λ copy. holds_less defs copy k.name t k.there k.free) history h
effect_holds base defs history next (Some w) (DropTable t) e g h = absurd (cc)
effect_holds base defs history next begun (SetClock m) e g h = h
effect_holds base defs history next begun (OpenReader n) e g h = h
effect_holds base defs history next begun (CloseReader n) e g h = h
effect_holds base defs history next begun (Read n q) e g h =
    asked_stays ConstraintsHold (state base defs history next begun) q _ h
effect_holds base defs history next None (Prune m) e g h = holds_pruned defs m history h
effect_holds base defs history next (Some w) (Prune m) e g h = absurd (cc)
effect_holds base defs history next None Start e g h = (newest_holds defs history h, h)
effect_holds base defs history next (Some w) Start e g h = absurd (cc)
effect_holds base defs history next None Commit e g h = h
effect_holds base defs history next (Some w) Commit e g h = h
effect_holds base defs history next None Rollback e g h = h
effect_holds base defs history next (Some w) Rollback e g h = h.1
effect_holds base defs history next None (ChangeRows c) e g h =
    let s : State = state base defs history next None in
    altered_keeps ConstraintsHold s c h
    (λ q. (
      changed_holds defs (changed_copy s c)
          (length-set (newest_copy defs history) (changed_table c) _ ∙ (newest_holds defs history h).as_many) q.holds,
      h,
    ))
effect_holds base defs history next (Some w) (ChangeRows c) e g h =
    let s : State = state base defs history next (Some w) in
    altered_keeps ConstraintsHold s c h
    (λ q. (
      changed_holds defs (changed_copy s c) (length-set w.copy (changed_table c) _ ∙ h.0.as_many) q.holds,
      h.1,
    ))
effect_holds base defs history next begun (AnswerQuery q) e g h =
    asked_stays ConstraintsHold (state base defs history next begun) q _ h

-- so does a step
pub steps_hold : (s : State) (b : Bound) → ((t : ℕ) → b ≡ DropTable t → IsDropped s.definitions t) → ConstraintsHold s
    → ConstraintsHold (step s b).1
steps_hold s b g h =
    unless_either ConstraintsHold (first (limit_faults s b ++ state_faults s (class_of b))) s (effect s b).0
    (effect s b).1 h
    (λ e. effect_holds s s.definitions s.history s.next s.transaction b
    (no_right (limit_faults s b) (state_faults s (class_of b))
    (none_first (limit_faults s b ++ state_faults s (class_of b)) e)) g h)

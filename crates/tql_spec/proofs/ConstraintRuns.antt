-- Keys and references hold in every copy after each statement of a run.
use Rattle.std.proofs.Common.{◌≡◌, refl, ap, ◌∙◌, ℕ, Bool, true, false, List, [], ◌∷◌, ◌++◌, map, length}
use Rattle.std.specs.Prelude.{not, remove, ℤ, Option, Some, None, int_le, if◌then◌else◌}
use Rattle.std.specs.List.{AllByRecursion}
use Rattle.std.proofs.Math.ListN.{length-set}
use Rattle.tql_spec.specs.Refusal.{TableIsReferenced, DuplicateKey, ReferenceNotMet, fault_if}
use Rattle.tql_spec.specs.Definition.{Name, TableDef, place_of}
use Rattle.tql_spec.specs.History.{Copy, Entry}
use Rattle.tql_spec.specs.Constraint.{keys_hold, references_hold}
use Rattle.tql_spec.specs.Machine.{State, Bound, CreateTable, DropTable, SetClock, Start, Commit, Rollback, ChangeRows}
use Rattle.tql_spec.specs.Machine.{AnswerQuery}
use Rattle.tql_spec.specs.Machine.{changed_table, class_of, state_faults, effect, newest_copy, constraint_faults, Prune}
use Rattle.tql_spec.specs.Syntax.{Statement, CreateTree, DropTree, InsertValues, InsertSelect, UpdateTree, DeleteTree}
use Rattle.tql_spec.specs.Syntax.{QueryTree, StartTree, CommitTree, RollbackTree, AtTree, PruneTree}
use Rattle.tql_spec.specs.Horizon.{pruned}
use Rattle.tql_spec.specs.Machine.{OpenReader, Read, CloseReader}
use Rattle.tql_spec.specs.Syntax.{OpenTree, ReadTree, CloseTree}
use Rattle.tql_spec.specs.Binding.{bind, or_no_table, is_referenced}
use Rattle.tql_spec.specs.Run.{CopyHolds, ConstraintsHold, RunsKeepConstraints}
use Rattle.tql_spec.proofs.RunKeeps.{no_left, no_right, asked_stays, changed_copy, altered_keeps, EffectKeeps}
use Rattle.tql_spec.proofs.RunKeeps.{run_keeps}
use Rattle.tql_spec.proofs.InOrder.{state, no_fault}
use Rattle.tql_spec.proofs.Constraints.{holds_empty, holds_more, holds_less}

-- ---- DROP TABLE

-- the table has a name, and no reference names it
record IsDropped (defs : List TableDef) (t : ℕ) : Type 0 where
  name : Name
  there : place_of name defs ≡ Some t
  free : is_referenced name defs ≡ false

-- DROP TABLE without a fault drops a table of this form
dropped : (defs : List TableDef) (st : Statement) → (bind defs st).faults ≡ [] → (t : ℕ)
    → (bind defs st).value ≡ DropTable t → IsDropped defs t
dropped defs (DropTree n) e t q = by_place (place_of n defs) refl e q
  where
    by_place : (o : Option ℕ) → place_of n defs ≡ o
        → (or_no_table o).faults ++ fault_if (is_referenced n defs) TableIsReferenced ≡ []
        → DropTable (or_no_table o).value ≡ DropTable t → IsDropped defs t
    by_place None p f v = absurd (cc)
    by_place (Some k) p f v =
        record {
          name = n;
          there = p ∙ ap (λ i. Some i) (cc);
          free =
              no_fault (is_referenced n defs) TableIsReferenced f;
        }
dropped defs (CreateTree n x es versioned) e t q = absurd (cc)
dropped defs (InsertValues n ns x ts) e t q = absurd (cc)
dropped defs (InsertSelect n ns s) e t q = absurd (cc)
dropped defs (UpdateTree n p s ss c) e t q = absurd (cc)
dropped defs (DeleteTree n p c) e t q = absurd (cc)
dropped defs (QueryTree s keys) e t q = absurd (cc)
dropped defs StartTree e t q = absurd (cc)
dropped defs CommitTree e t q = absurd (cc)
dropped defs RollbackTree e t q = absurd (cc)
dropped defs (AtTree m) e t q = absurd (cc)
dropped defs (PruneTree m) e t q = absurd (cc)
dropped defs (OpenTree n) e t q = absurd (cc)
dropped defs (ReadTree n s keys) e t q = absurd (cc)
dropped defs (CloseTree n) e t q = absurd (cc)

-- ---- copies

-- keys and references hold in each of these copies
abbrev EachHolds : List TableDef → List Entry → Type 0
EachHolds defs es = AllByRecursion (λ (e : Entry). CopyHolds defs e.copy) es

-- they hold after the same change of every copy, for CREATE and DROP
holds_in_each : (g : Copy → Copy) (defs new : List TableDef)
    → ((copy : Copy) → CopyHolds defs copy → CopyHolds new (g copy)) → (es : List Entry) → EachHolds defs es
    → EachHolds new (map (λ (e : Entry). record e { copy = g e.copy }) es)
holds_in_each g defs new k [] h = tt
holds_in_each g defs new k (e ∷ es) h = (k e.copy h.0, holds_in_each g defs new k es h.1)

-- they hold in the copies that a horizon leaves
holds_pruned : (defs : List TableDef) (m : ℤ) (es : List Entry) → EachHolds defs es → EachHolds defs (pruned m es)
holds_pruned defs m [] h = tt
holds_pruned defs m (e ∷ es) h = (h.0, either (int_le e.moment m) (holds_pruned defs m es h.1))
  where
    either : (b : Bool) → EachHolds defs (pruned m es) → EachHolds defs (if b then [] else pruned m es)
    either true k = tt
    either false k = k

-- they hold in the newest copy
newest_holds : (defs : List TableDef) (es : List Entry) → EachHolds defs es → CopyHolds defs (newest_copy defs es)
newest_holds defs [] h = holds_empty defs
newest_holds defs (e ∷ es) h = h.0

-- a test is true if its negation is false
not_not : (b : Bool) → not b ≡ false → b ≡ true
not_not true e = refl
not_not false e = cc

-- if a change has no fault by keys and references, they hold in its copy
changed_holds : (defs : List TableDef) (copy : Copy) → length copy ≡ length defs → constraint_faults defs copy ≡ []
    → CopyHolds defs copy
changed_holds defs copy n e =
    let first = no_left (fault_if (not (keys_hold defs copy)) DuplicateKey)
    (fault_if (not (references_hold defs copy)) ReferenceNotMet) e in
    let second = no_right (fault_if (not (keys_hold defs copy)) DuplicateKey)
    (fault_if (not (references_hold defs copy)) ReferenceNotMet) e in
    record {
      as_many = n;
      keys = not_not (keys_hold defs copy) (no_fault (not (keys_hold defs copy)) DuplicateKey first);
      references = not_not (references_hold defs copy)
          (no_fault (not (references_hold defs copy)) ReferenceNotMet second);
    }

-- ---- statements and runs

-- each effect preserves keys and references
effect_holds : (base : State) (defs : List TableDef) (history : List Entry) (next : ℤ) (begun : Option Entry)
    (b : Bound)
    → state_faults (state base defs history next begun) (class_of b) ≡ []
    → ((t : ℕ) → b ≡ DropTable t → IsDropped defs t)
    → ConstraintsHold (state base defs history next begun)
    → ConstraintsHold (effect (state base defs history next begun) b).1
effect_holds base defs history next None (CreateTable d) e g h =
    holds_in_each (λ copy. copy ++ [] ∷ []) defs (defs ++ d ∷ []) (holds_more defs d) history h
effect_holds base defs history next (Some w) (CreateTable d) e g h = absurd (cc)
effect_holds base defs history next None (DropTable t) e g h =
    let k = g t refl in holds_in_each (λ copy. remove copy t) defs (remove defs t)
    (λ copy. holds_less defs copy k.name t k.there k.free) history h
effect_holds base defs history next (Some w) (DropTable t) e g h = absurd (cc)
effect_holds base defs history next begun (SetClock m) e g h = h
effect_holds base defs history next begun (OpenReader n) e g h = h
effect_holds base defs history next begun (CloseReader n) e g h = h
effect_holds base defs history next begun (Read n q) e g h =
    asked_stays ConstraintsHold (state base defs history next begun) q _ h
effect_holds base defs history next None (Prune m) e g h = holds_pruned defs m history h
effect_holds base defs history next (Some w) (Prune m) e g h = absurd (cc)
effect_holds base defs history next None Start e g h = (newest_holds defs history h, h)
effect_holds base defs history next (Some w) Start e g h = absurd (cc)
effect_holds base defs history next None Commit e g h = h
effect_holds base defs history next (Some w) Commit e g h = h
effect_holds base defs history next None Rollback e g h = h
effect_holds base defs history next (Some w) Rollback e g h = h.1
effect_holds base defs history next None (ChangeRows c) e g h =
    let s : State = state base defs history next None in
    altered_keeps ConstraintsHold s c h
    (λ q. (
      changed_holds defs (changed_copy s c)
          (length-set (newest_copy defs history) (changed_table c) _ ∙ (newest_holds defs history h).as_many) q.holds,
      h,
    ))
effect_holds base defs history next (Some w) (ChangeRows c) e g h =
    let s : State = state base defs history next (Some w) in
    altered_keeps ConstraintsHold s c h
    (λ q. (
      changed_holds defs (changed_copy s c) (length-set w.copy (changed_table c) _ ∙ h.0.as_many) q.holds,
      h.1,
    ))
effect_holds base defs history next begun (AnswerQuery q) e g h =
    asked_stays ConstraintsHold (state base defs history next begun) q _ h

-- each accepted statement preserves them
keeps_constraints : EffectKeeps ConstraintsHold
keeps_constraints s t k h =
    effect_holds s s.definitions s.history s.next s.transaction (bind s.definitions t).value k.free
    (λ i q. dropped s.definitions t k.sound i q) h

-- the law: a run preserves them
pub runs_keep_constraints : RunsKeepConstraints
runs_keep_constraints old new pieces replies h r =
    run_keeps ConstraintsHold keeps_constraints old pieces replies new r h

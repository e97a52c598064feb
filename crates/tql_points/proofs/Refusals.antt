-- A change is refused exactly if some point refuses it, with the first of their refusals.
use Rattle.std.proofs.Common.{◌≡◌, ◌≤◌, ◌<◌, refl, sym, ap, subst, ◌∙◌, ℕ, Bool, true, false, List, [], ◌∷◌, ◌++◌}
use Rattle.std.proofs.Common.{flat_map, length, inl, inr, arith}
use Rattle.std.specs.Prelude.{not, ◌&&◌, ◌==◌, nat_lt, ℤ, pos, Option, Some, None}
use Rattle.std.specs.List.{list_all, sum_by}
use Rattle.std.proofs.lemmas.Bool.Decides.{nat_tests}
use Rattle.tql_spec.specs.Words.{map_all}
use Rattle.tql_spec.specs.Truth.{Truth, is_false}
use Rattle.tql_spec.specs.Bag.{In}
use Rattle.tql_spec.specs.Datum.{Row, is_null}
use Rattle.tql_spec.specs.Period.{rises}
use Rattle.tql_spec.specs.Refusal.{Refusal, ValueOutOfRange, NullNotAllowed, PeriodNotRising, CheckFailed, DuplicateKey}
use Rattle.tql_spec.specs.Refusal.{ReferenceNotMet, place, fault_if, first}
use Rattle.tql_spec.specs.Expression.{eval, judge}
use Rattle.tql_spec.specs.Definition as D
use Rattle.tql_spec.specs.Definition.{TableDef, Application, Stamped, cell, table_at, period_of, shown}
use Rattle.tql_spec.specs.History.{Copy, rows_in}
use Rattle.tql_spec.specs.Constraint.{keys_hold, references_hold}
use Rattle.tql_spec.specs.Change.{Outcome, Fate, fate, is_too_long, cell_faults, period_faults_by, check_fault}
use Rattle.tql_spec.specs.Change.{row_faults, new_rows, insert, modify, outcome_of}
use Rattle.tql_spec.specs.Query.{answer}
use Rattle.tql_spec.specs.Machine.{bag_of, State, Reply, Done, Refused, Verb, Bound, ChangeRows, Change, InsertTuples}
use Rattle.tql_spec.specs.Machine.{InsertQuery, Modify, step, unless_refused, changed, outcome}
use Rattle.tql_spec.specs.Machine.{changed_table, constraint_faults, verb_of, working, with_working}
use Rattle.tql_spec.proofs.FaultBags.{IsFirst, first_is, one_place}
use Rattle.tql_spec.proofs.FirstFaults.{none_first}
use Rattle.tql_spec.proofs.Members.{by_bool, sum-least}
use Rattle.tql_spec.proofs.MemberLists.{in_left, in_right, in_either}
use Rattle.tql_spec.proofs.RunKeeps.{changed_copy}
use Rattle.tql_points.specs.PointTable.{moved, point_table, point_tables}
use Rattle.tql_points.specs.PointStatement.{change_at, statement_at, columns_at, tuples_at, renumbered_work, conds_at}
use Rattle.tql_points.specs.Scope.{ArePointTables, is_free_work, is_free_cond, is_change_of, is_in_scope}
use Rattle.tql_points.specs.RefusalLaw.{once, gives_period, gives_periods, state_at, RefusalsReduce}
use Rattle.tql_points.specs.PointMachine.{is_refused, after_all, beginning, point_beginning}
use Rattle.tql_points.proofs.Changes.{works_free}
use Rattle.tql_points.proofs.FaultPoints.{FaultsAtPoints, find_positive, modify_at_points}
use Rattle.tql_points.proofs.GoodStates.{GoodState, working_good, step_good}
use Rattle.tql_points.proofs.InsertPoints.{insert_at_points}
use Rattle.tql_points.proofs.KeyPoints.{keys_fail, references_fail}
use Rattle.tql_points.proofs.Pairs.{one_if}
use Rattle.tql_points.proofs.PointKeys.{constraints_then, keys_then, references_then}
use Rattle.tql_points.proofs.Numbers.{equal, equal_test}
use Rattle.tql_points.proofs.Related.{SameCopy, Related}
use Rattle.tql_points.proofs.Runs.{alike}
use Rattle.tql_points.proofs.Steps.{ConstraintsThen, done_then, refusal_of, refused_stays, working_same}
use Rattle.tql_points.proofs.Steps.{own_table, their_table, changed_copies, change_reduces, same_table, step_same}
use Rattle.tql_points.proofs.Steps.{lists_same, step_faults, step_faults_same}
use Rattle.tql_points.proofs.Views.{both_true}

-- ---- the places of the faults of rows in the report order

abbrev pub Within : List Refusal → Type 0
Within xs = (f : Refusal) → In f xs → (17 ≤ place f) × (place f ≤ 21)

within_append : (xs ys : List Refusal) → Within xs → Within ys → Within (xs ++ ys)
within_append xs ys h k f n = elim (in_either f xs ys n) [ inl i ↦ h f i | inr i ↦ k f i ]

within_if : (b : Bool) (e : Refusal) → 17 ≤ place e → place e ≤ 21 → Within (fault_if b e)
within_if true e l m f (inl q) = (omega (arith, l, ap place q), omega (arith, m, ap place q))
within_if true e l m f (inr n) = absurd n
within_if false e l m f n = absurd n

within_cells : (cs : List D.Column) (row : Row) → Within (cell_faults cs row)
within_cells [] row f n = absurd n
within_cells (c ∷ cs) [] f n = absurd n
within_cells (c ∷ cs) (v ∷ row) f n =
    within_append (fault_if (is_too_long c.limit v) ValueOutOfRange ++ fault_if (c.required && is_null v)
    NullNotAllowed) (cell_faults cs row)
    (within_append (fault_if (is_too_long c.limit v) ValueOutOfRange)
    (fault_if (c.required && is_null v) NullNotAllowed)
    (within_if (is_too_long c.limit v) ValueOutOfRange (omega arith) (omega arith))
    (within_if (c.required && is_null v) NullNotAllowed (omega arith) (omega arith)))
    (within_cells cs row) f n

within_period : (o : Option Application) (d : TableDef) (row : Row) → Within (period_faults_by o d row)
within_period None d row f n = absurd n
within_period (Some a) d row f n =
    within_if (not (is_null (cell row a.start)) && not (is_null (cell row a.end)) && not (rises (period_of d row)))
    PeriodNotRising (omega arith) (omega arith) f n

within_check : (o : Option Truth) → Within (check_fault o)
within_check None f (inl q) = (omega (arith, ap place q), omega (arith, ap place q))
within_check None f (inr n) = absurd n
within_check (Some t) f n = within_if (is_false t) CheckFailed (omega arith) (omega arith) f n

pub within_flat : {A : Type 0} (g : A → List Refusal) (xs : List A) → ((x : A) → Within (g x)) → Within (flat_map g xs)
within_flat g [] h f n = absurd n
within_flat g (x ∷ xs) h f n = within_append (g x) (flat_map g xs) (h x) (within_flat g xs h) f n

pub within_row : (d : TableDef) (row : Row) → Within (row_faults d row)
within_row d row =
    within_append (cell_faults d.columns row ++ period_faults_by d.application d row)
    (flat_map (λ c. check_fault (judge [] row c)) d.checks)
    (within_append (cell_faults d.columns row) (period_faults_by d.application d row) (within_cells d.columns row)
    (within_period d.application d row))
    (within_flat (λ c. check_fault (judge [] row c)) d.checks (λ c. within_check (judge [] row c)))

pub within_out : Within (ValueOutOfRange ∷ [])
within_out f (inl q) = (omega (arith, ap place q), omega (arith, ap place q))
within_out f (inr n) = absurd n

within_outcome : (s : State) (m : ℤ) (copy : Copy) (c : Change) → Within (outcome s m copy c).faults
within_outcome s m copy (InsertTuples t columns tuples) = by_values (map_all (map_all (eval [] [])) tuples)
  where
    by_values : (v : Option (List Row)) → Within (insert (table_at s.definitions t) m (rows_in copy t) columns v).faults
    by_values None = within_out
    by_values (Some valued) = within_flat
        (λ r. row_faults (table_at s.definitions t) (shown (table_at s.definitions t) r)) _
        (λ r. within_row (table_at s.definitions t) (shown (table_at s.definitions t) r))
within_outcome s m copy (InsertQuery t columns q) = by_values (answer (bag_of s) q)
  where
    by_values : (v : Option (List Row)) → Within (insert (table_at s.definitions t) m (rows_in copy t) columns v).faults
    by_values None = within_out
    by_values (Some valued) = within_flat
        (λ r. row_faults (table_at s.definitions t) (shown (table_at s.definitions t) r)) _
        (λ r. within_row (table_at s.definitions t) (shown (table_at s.definitions t) r))
within_outcome s m copy (Modify t portion work conds) =
    by_fates (map_all (λ r. fate (table_at s.definitions t) m portion work conds (shown (table_at s.definitions t) r))
    (rows_in copy t))
  where
    by_fates : (v : Option (List Fate)) → Within (outcome_of (table_at s.definitions t) (rows_in copy t) v).faults
    by_fates None = within_out
    by_fates (Some fates) = within_flat
        (λ r. row_faults (table_at s.definitions t) (shown (table_at s.definitions t) r)) (new_rows fates)
        (λ r. within_row (table_at s.definitions t) (shown (table_at s.definitions t) r))

-- ---- marks

-- one for a fault at this place, otherwise zero
abbrev pub mark : ℕ → Refusal → ℕ
mark n f = one_if (place f == n)

pub marked : (f : Refusal) (xs : List Refusal) → In f xs → 0 < sum_by (mark (place f)) xs
marked f xs n =
    let one : mark (place f) f ≡ 1 = ap one_if (equal_test (place f) (place f) refl) in
    omega (arith, one, sum-least (mark (place f)) f xs n)

pub found_mark : (n : ℕ) (xs : List Refusal) → 0 < sum_by (mark n) xs → (f : Refusal) × In f xs × (place f ≡ n)
found_mark n xs l =
    let k = find_positive (mark n) xs l in (k.0, k.1, there k.0 (place k.0 == n) refl k.2)
  where
    there : (f : Refusal) (b : Bool) → (place f == n) ≡ b → 0 < one_if (place f == n) → place f ≡ n
    there f true q z = equal (place f) n q
    there f false q z = let e : one_if (place f == n) ≡ 0 = ap one_if q in absurd (omega (arith, z, e))

-- faults at the same place are equal
pub one_fault : (a b : Refusal) → place a ≡ place b → a ≡ b
one_fault a b e = let q = one_place a b e in cc

-- a fault that depends on a test
of_if : (b : Bool) (e f : Refusal) → In f (fault_if b e) → (b ≡ true) × (f ≡ e)
of_if true e f (inl q) = (refl, q)
of_if true e f (inr n) = absurd n
of_if false e f n = absurd n

if_of : (b : Bool) (e : Refusal) → b ≡ true → In e (fault_if b e)
if_of b e q = subst (λ c. In e (fault_if c e)) (sym q) (inl refl)

unnot : (b : Bool) → not b ≡ true → b ≡ false
unnot true q = absurd (cc)
unnot false q = refl

-- ---- replies

refused_so : (o : Option Refusal) (old : State) (v : Verb) (n : Option ℕ) (new : State) (e : Refusal)
    → (unless_refused o old (Done v n) new).0 ≡ Refused e → o ≡ Some e
refused_so None old v n new e q = absurd (cc)
refused_so (Some f) old v n new e q = let z : f ≡ e = cc in ap (λ (x : Refusal). Some x) z

pub so_refused : (o : Option Refusal) (old : State) (reply : Reply) (new : State) (e : Refusal) → o ≡ Some e
    → (unless_refused o old reply new).0 ≡ Refused e
so_refused o old reply new e q = ap (λ z. (unless_refused z old reply new).0) q

pub same_refusal : (e f : Refusal) → Refused e ≡ Refused f → e ≡ f
same_refusal e f q = cc

-- equal outcomes can be replaced
same_points : (w w' : Outcome) (r r' : ℤ → Outcome) → FaultsAtPoints w r → w' ≡ w → ((p : ℤ) → r' p ≡ r p)
    → FaultsAtPoints w' r'
same_points w w' r r' h q k =
    subst (λ x. FaultsAtPoints w' x) (sym (λ i p. k p i)) (subst (λ x. FaultsAtPoints x r) (sym q) h)

module _ (defs : List TableDef) (all : ArePointTables defs) (s : State) (others : ℤ → State)
    (r : (p : ℤ) → Related defs p s (others p)) (g : GoodState defs s) (c : Change) (l : changed_table c < length defs)
    (k : is_change_of (table_at defs (changed_table c)) c ≡ true) (z : gives_periods defs (ChangeRows c) ≡ true) where
  abbrev then' : (p : ℤ) → ConstraintsThen defs p
  then' p = constraints_then defs all p

  abbrev c' : ℤ → Change
  c' p = change_at (table_at defs (changed_table c)) p c

  abbrev whole : Outcome
  whole = outcome s (working s s.transaction).moment (working s s.transaction).copy c

  abbrev reduced : ℤ → Outcome
  reduced p = outcome (others p) (working (others p) (others p).transaction).moment
      (working (others p) (others p).transaction).copy (c' p)

  abbrev copy : Copy
  copy = changed_copy s c

  abbrev copy' : ℤ → Copy
  copy' p = changed_copy (others p) (c' p)

  -- all faults of the change, and the change given to a point
  abbrev all_faults : List Refusal
  all_faults = whole.faults ++ constraint_faults s.definitions copy

  abbrev faults_at : ℤ → List Refusal
  faults_at p = (reduced p).faults ++ constraint_faults (others p).definitions (copy' p)

  copies : whole.faults ≡ [] → (p : ℤ) → SameCopy defs p copy (copy' p)
  copies sound p = changed_copies defs all p (then' p) s (others p) (r p) (changed_table c) l c (c' p) refl
      (same_table defs all p (then' p) (table_at defs (changed_table c)) c)
      (change_reduces defs all p (then' p) s (others p) (r p) c l k) sound

  faults_of : FaultsAtPoints whole reduced
  faults_of = by_change c l k z
    where
      by_change : (c : Change) (l : changed_table c < length defs) → is_change_of (table_at defs (changed_table c)) c
          ≡ true
          → gives_periods defs (ChangeRows c) ≡ true
          → FaultsAtPoints (outcome s (working s s.transaction).moment (working s s.transaction).copy c)
          (λ p. outcome (others p) (working (others p) (others p).transaction).moment
          (working (others p) (others p).transaction).copy (change_at (table_at defs (changed_table c)) p c))
      by_change (InsertQuery t columns q) l k z = absurd (cc)
      by_change (InsertTuples t columns tuples) l k z =
          let m : ℤ = (working s s.transaction).moment in
          let rows : List Stamped = rows_in (working s s.transaction).copy t in
          let w = λ (p : ℤ). working_same defs all p (then' p) s (others p) (r p) in
          let y = both_true (once columns) (list_all (gives_period (table_at defs t) columns) tuples) z in
          same_points (insert (table_at defs t) m rows columns (map_all (map_all (eval [] [])) tuples)) _
          (λ p. insert (point_table defs (table_at defs t)) m
          (rows_in (working (others p) (others p).transaction).copy t) (columns_at (table_at defs t) columns)
          (map_all (map_all (eval [] [])) (tuples_at (table_at defs t) p columns tuples))) _
          (insert_at_points defs (table_at defs t) (all t l) m rows columns tuples
          (λ p. rows_in (working (others p) (others p).transaction).copy t) (λ p. (w p).copy.each t l) k y.0 y.1)
          (ap (λ d. insert d m rows columns (map_all (map_all (eval [] [])) tuples))
          (own_table defs all m (then' m) s (others m) (r m) t))
          (λ p. ap (λ d. insert d (working (others p) (others p).transaction).moment
          (rows_in (working (others p) (others p).transaction).copy t) (columns_at (table_at defs t) columns)
          (map_all (map_all (eval [] [])) (tuples_at (table_at defs t) p columns tuples)))
          (their_table defs all p (then' p) s (others p) (r p) t l)
          ∙ ap (λ n. insert (point_table defs (table_at defs t)) n
          (rows_in (working (others p) (others p).transaction).copy t) (columns_at (table_at defs t) columns)
          (map_all (map_all (eval [] [])) (tuples_at (table_at defs t) p columns tuples))) (w p).moment)
      by_change (Modify t portion work conds) l k z =
          let m : ℤ = (working s s.transaction).moment in
          let rows : List Stamped = rows_in (working s s.transaction).copy t in
          let w = λ (p : ℤ). working_same defs all p (then' p) s (others p) (r p) in
          let y = both_true (is_free_work (table_at defs t) work) (list_all (is_free_cond (table_at defs t)) conds) k in
          same_points (modify (table_at defs t) m rows portion work conds) _
          (λ p. modify (point_table defs (table_at defs t)) m
          (rows_in (working (others p) (others p).transaction).copy t) None
          (renumbered_work (moved (table_at defs t)) work) (conds_at (table_at defs t) p portion conds)) _
          (modify_at_points defs (table_at defs t) (all t l) m rows portion work conds
          (λ p. rows_in (working (others p) (others p).transaction).copy t) (λ p. (w p).copy.each t l)
          (working_good defs all m s g t l) (works_free (table_at defs t) work y.0) y.1)
          (ap (λ d. modify d m rows portion work conds) (own_table defs all m (then' m) s (others m) (r m) t))
          (λ p. ap (λ d. modify d (working (others p) (others p).transaction).moment
          (rows_in (working (others p) (others p).transaction).copy t) None
          (renumbered_work (moved (table_at defs t)) work) (conds_at (table_at defs t) p portion conds))
          (their_table defs all p (then' p) s (others p) (r p) t l)
          ∙ ap (λ n. modify (point_table defs (table_at defs t)) n
          (rows_in (working (others p) (others p).transaction).copy t) None
          (renumbered_work (moved (table_at defs t)) work) (conds_at (table_at defs t) p portion conds))
          (w p).moment)

  -- the faults of keys and references, in terms of the definitions
  own_constraints : constraint_faults s.definitions copy ≡ constraint_faults defs copy
  own_constraints = ap (λ ds. constraint_faults ds copy) (r (pos 0)).definitions

  their_constraints : (p : ℤ) → constraint_faults (others p).definitions (copy' p)
      ≡ constraint_faults (point_tables defs) (copy' p)
  their_constraints p = ap (λ ds. constraint_faults ds (copy' p)) (r p).definitions_then

  -- faults of keys and references come after those of rows
  late : (ds : List TableDef) (x : Copy) (f : Refusal) → In f (constraint_faults ds x) → 22 ≤ place f
  late ds x f n = elim (in_either f (fault_if (not (keys_hold ds x)) DuplicateKey)
      (fault_if (not (references_hold ds x)) ReferenceNotMet) n) [
        | inl i ↦ omega (arith, ap place (of_if (not (keys_hold ds x)) DuplicateKey f i).1)
        | inr i ↦ omega (arith, ap place (of_if (not (references_hold ds x)) ReferenceNotMet f i).1)
      ]

  -- a failed key is among the faults
  key_fault : keys_hold defs copy ≡ false → In DuplicateKey all_faults
  key_fault e = in_right DuplicateKey whole.faults (constraint_faults s.definitions copy)
      (subst (λ xs. In DuplicateKey xs) (sym own_constraints)
      (in_left DuplicateKey (fault_if (not (keys_hold defs copy)) DuplicateKey)
      (fault_if (not (references_hold defs copy)) ReferenceNotMet)
      (if_of (not (keys_hold defs copy)) DuplicateKey (ap not e))))

  reference_fault : references_hold defs copy ≡ false → In ReferenceNotMet all_faults
  reference_fault e = in_right ReferenceNotMet whole.faults (constraint_faults s.definitions copy)
      (subst (λ xs. In ReferenceNotMet xs) (sym own_constraints)
      (in_right ReferenceNotMet (fault_if (not (keys_hold defs copy)) DuplicateKey)
      (fault_if (not (references_hold defs copy)) ReferenceNotMet)
      (if_of (not (references_hold defs copy)) ReferenceNotMet (ap not e))))

  -- no point has an earlier fault
  none_earlier : (e : Refusal) → IsFirst e all_faults → (p : ℤ) (f : Refusal) → In f (faults_at p) → place e ≤ place f
  none_earlier e h p f n =
      elim (in_either f (reduced p).faults (constraint_faults (others p).definitions (copy' p)) n) [
        | inl i ↦ of_rows i
        | inr i ↦ of_constraints whole.faults refl i
      ]
    where
      of_rows : In f (reduced p).faults → place e ≤ place f
      of_rows i = elim faults_of.less [
        | inl q ↦ omega (
          arith,
          h.least ValueOutOfRange (in_left ValueOutOfRange whole.faults (constraint_faults s.definitions copy)
              (subst (λ xs. In ValueOutOfRange xs) (sym q) (inl refl))),
          (within_outcome (others p) (working (others p) (others p).transaction).moment
              (working (others p) (others p).transaction).copy (c' p) f i).0,
        )
        | inr less ↦
            let y = found_mark (place f) whole.faults (more (marked f (reduced p).faults i) (less (mark (place f)) p))
            in
            omega (arith, h.least y.0 (in_left y.0 whole.faults (constraint_faults s.definitions copy) y.1), y.2)
      ]
        where
          more : {a b : ℕ} → 0 < a → a ≤ b → 0 < b
          more {a} {b} x y = omega (arith, x, y)

      of_constraints : (xs : List Refusal) → whole.faults ≡ xs
          → In f (constraint_faults (others p).definitions (copy' p)) → place e ≤ place f
      of_constraints (x ∷ xs) q i =
          let there : In x whole.faults = subst (λ ys. In x ys) (sym q) (inl refl) in
          omega (
            arith,
            h.least x (in_left x whole.faults (constraint_faults s.definitions copy) there),
            (within_outcome s (working s s.transaction).moment (working s s.transaction).copy c x there).1,
            late (others p).definitions (copy' p) f i,
          )
      of_constraints [] q i =
          let same = copies q p in
          elim (in_either f (fault_if (not (keys_hold (point_tables defs) (copy' p))) DuplicateKey)
          (fault_if (not (references_hold (point_tables defs) (copy' p))) ReferenceNotMet)
          (subst (λ xs. In f xs) (their_constraints p) i)) [
            | inl j ↦
                let w = of_if (not (keys_hold (point_tables defs) (copy' p))) DuplicateKey f j in
                by_bool (keys_hold defs copy)
                (λ y. let never : true ≡ false = sym (keys_then defs all p copy (copy' p) same y)
                ∙ unnot (keys_hold (point_tables defs) (copy' p)) w.0 in absurd (cc))
                (λ y. omega (arith, h.least DuplicateKey (key_fault y), ap place w.1))
            | inr j ↦
                let w = of_if (not (references_hold (point_tables defs) (copy' p))) ReferenceNotMet f j in
                by_bool (references_hold defs copy)
                (λ y. let never : true ≡ false = sym (references_then defs all p copy (copy' p) same y)
                ∙ unnot (references_hold (point_tables defs) (copy' p)) w.0 in absurd (cc))
                (λ y. omega (arith, h.least ReferenceNotMet (reference_fault y), ap place w.1))
          ]

  -- some point has the first fault
  some_has : (e : Refusal) → IsFirst e all_faults → (p : ℤ) × In e (faults_at p)
  some_has e h = elim (in_either e whole.faults (constraint_faults s.definitions copy) h.there) [
    | inl i ↦ of_rows i
    | inr i ↦ of_constraints whole.faults refl i
  ]
    where
      of_rows : In e whole.faults → (p : ℤ) × In e (faults_at p)
      of_rows i =
          let y = faults_of.some (mark (place e)) (marked e whole.faults i) in
          let x = found_mark (place e) (reduced y.0).faults y.1 in (
            y.0,
            in_left e (reduced y.0).faults (constraint_faults (others y.0).definitions (copy' y.0))
                (subst (λ f. In f (reduced y.0).faults) (one_fault x.0 e x.2) x.1),
          )

      at : (p : ℤ) → In e (constraint_faults (point_tables defs) (copy' p)) → In e (faults_at p)
      at p i = in_right e (reduced p).faults (constraint_faults (others p).definitions (copy' p))
          (subst (λ xs. In e xs) (sym (their_constraints p)) i)

      of_constraints : (xs : List Refusal) → whole.faults ≡ xs → In e (constraint_faults s.definitions copy) → (p : ℤ)
          × In e (faults_at p)
      of_constraints (x ∷ xs) q i =
          let there : In x whole.faults = subst (λ ys. In x ys) (sym q) (inl refl) in
          absurd (omega (
            arith,
            h.least x (in_left x whole.faults (constraint_faults s.definitions copy) there),
            (within_outcome s (working s s.transaction).moment (working s s.transaction).copy c x there).1,
            late s.definitions copy e i,
          ))
      of_constraints [] q i =
          let many = (copies q (pos 0)).as_many in
          elim (in_either e (fault_if (not (keys_hold defs copy)) DuplicateKey)
          (fault_if (not (references_hold defs copy)) ReferenceNotMet)
          (subst (λ xs. In e xs) own_constraints i)) [
            | inl j ↦
                let w = of_if (not (keys_hold defs copy)) DuplicateKey e j in
                let y = keys_fail defs all copy many (unnot (keys_hold defs copy) w.0) in
                let fails = y.1 (copy' y.0) (copies q y.0) in (
                  y.0,
                  at y.0 (in_left e (fault_if (not (keys_hold (point_tables defs) (copy' y.0))) DuplicateKey)
                      (fault_if (not (references_hold (point_tables defs) (copy' y.0))) ReferenceNotMet)
                      (subst (λ f. In f (fault_if (not (keys_hold (point_tables defs) (copy' y.0))) DuplicateKey))
                      (sym w.1)
                      (if_of (not (keys_hold (point_tables defs) (copy' y.0))) DuplicateKey (ap not fails)))),
                )
            | inr j ↦
                let w = of_if (not (references_hold defs copy)) ReferenceNotMet e j in
                let y = references_fail defs all copy many (unnot (references_hold defs copy) w.0) in
                let fails = y.1 (copy' y.0) (copies q y.0) in (
                  y.0,
                  at y.0 (in_right e (fault_if (not (keys_hold (point_tables defs) (copy' y.0))) DuplicateKey)
                      (fault_if (not (references_hold (point_tables defs) (copy' y.0))) ReferenceNotMet)
                      (subst (λ f. In f (fault_if (not (references_hold (point_tables defs) (copy' y.0)))
                      ReferenceNotMet)) (sym w.1)
                      (if_of (not (references_hold (point_tables defs) (copy' y.0))) ReferenceNotMet (ap not fails)))),
                )
          ]

  -- ---- replies

  abbrev Refuses : ℤ → Refusal → Type 0
  Refuses p f = (step (others p) (statement_at defs p (ChangeRows c))).0 ≡ Refused f

  -- the change is refused at some point with e, and nowhere with an earlier refusal
  pub record FirstRefusal (e : Refusal) : Type 0 where
    pub point : ℤ
    pub refused : Refuses point e
    pub least : (p : ℤ) (f : Refusal) → Refuses p f → place e ≤ place f

  -- the refusal of a state before a change is executed
  abbrev before : State → Change → Option Refusal
  before x y = first (step_faults x (ChangeRows y))

  same_state : (p : ℤ) → before (others p) (c' p) ≡ before s c
  same_state p = ap first (step_faults_same defs all p (then' p) s (others p) (r p) (ChangeRows c))

  -- without that refusal, the step executes the change
  step_changed : (x : State) (y : Change) → before x y ≡ None → step x (ChangeRows y) ≡ changed x y
  step_changed x y q = done_then (before x y) x (changed x y).0 (changed x y).1 q

  refused_at : (p : ℤ) → before s c ≡ None → (f : Refusal) → Refuses p f → first (faults_at p) ≡ Some f
  refused_at p q f x =
      refused_so (first (faults_at p)) (others p) (verb_of (c' p)) (Some (reduced p).count)
      (with_working (others p) (others p).transaction
      (record { moment = (working (others p) (others p).transaction).moment; copy = copy' p })) f
      (sym (ap (λ (y : Reply × State). y.0) (step_changed (others p) (c' p) (same_state p ∙ q))) ∙ x)

  pub to_points : (e : Refusal) → (step s (ChangeRows c)).0 ≡ Refused e → FirstRefusal e
  to_points e x = by_state (before s c) refl
    where
      by_state : (o : Option Refusal) → before s c ≡ o → FirstRefusal e
      by_state (Some f) q =
          let same : e ≡ f = same_refusal e f
          (sym x ∙ so_refused (before s c) s (changed s c).0 (changed s c).1 f q) in
          record {
            point = pos 0;
            refused = so_refused (before (others (pos 0)) (c' (pos 0))) (others (pos 0))
                (changed (others (pos 0)) (c' (pos 0))).0 (changed (others (pos 0)) (c' (pos 0))).1 e
                (same_state (pos 0) ∙ q ∙ ap (λ (y : Refusal). Some y) (sym same));
            least = λ p g y. let z : g ≡ f =
                same_refusal g f (sym y ∙ so_refused (before (others p) (c' p)) (others p)
                (changed (others p) (c' p)).0 (changed (others p) (c' p)).1 f (same_state p ∙ q)) in
                omega (arith, ap place same, ap place z);
          }
      by_state None q =
          let is : first all_faults ≡ Some e =
          refused_so (first all_faults) s (verb_of c) (Some whole.count)
          (with_working s s.transaction (record { moment = (working s s.transaction).moment; copy = copy })) e
          (sym (ap (λ (y : Reply × State). y.0) (step_changed s c q)) ∙ x) in
          let h = first_is all_faults e is in
          let y = some_has e h in
          record {
            point = y.0;
            refused = ap (λ (v : Reply × State). v.0)
                (step_changed (others y.0) (c' y.0) (same_state y.0 ∙ q))
                ∙ so_refused (first (faults_at y.0)) (others y.0) (Done (verb_of (c' y.0)) (Some (reduced y.0).count))
                (with_working (others y.0) (others y.0).transaction
                (record { moment = (working (others y.0) (others y.0).transaction).moment; copy = copy' y.0 })) e
                (by_first h y.0 y.1 (first (faults_at y.0)) refl);
            least = λ p f v. none_earlier e h p f (first_is (faults_at p) f (refused_at p q f v)).there;
          }
        where
          by_first : IsFirst e all_faults → (p : ℤ) → In e (faults_at p) → (o : Option Refusal) → first (faults_at p)
              ≡ o → first (faults_at p) ≡ Some e
          by_first h p i None v = absurd (subst (λ xs. In e xs) (none_first (faults_at p) v) i)
          by_first h p i (Some f) v =
              let w = first_is (faults_at p) f v in
              v ∙ ap (λ (y : Refusal). Some y)
              (one_fault f e (omega (arith, w.least e i, none_earlier e h p f w.there)))

  pub from_points : is_in_scope defs (ChangeRows c) ≡ true → (e : Refusal) → FirstRefusal e → (step s (ChangeRows c)).0
      ≡ Refused e
  from_points scope e h = by_bool (is_refused (step s (ChangeRows c)).0)
      (λ q. let k = refusal_of (step s (ChangeRows c)).0 q in
      let x = to_points k.0 k.1 in
      k.1 ∙ ap (λ (y : Refusal). Refused y)
      (one_fault k.0 e (omega (arith, x.least h.point e h.refused, h.least x.point k.0 x.refused))))
      (λ q. let k =
      (step_same defs all h.point (then' h.point) s (others h.point) (r h.point) (ChangeRows c) scope q).0 in
      let never : true ≡ false = sym (ap is_refused h.refused) ∙ k in absurd (cc))

-- ---- lists

all_append : {A : Type 0} (p : A → Bool) (xs ys : List A) → list_all p (xs ++ ys) ≡ true → (list_all p xs ≡ true)
    × (list_all p ys ≡ true)
all_append p [] ys e = (refl, e)
all_append p (x ∷ xs) ys e =
    let s = both_true (p x) (list_all p (xs ++ ys)) e in
    let k = all_append p xs ys s.1 in
    (ap (λ b. b && list_all p xs) s.0 ∙ k.0, k.1)

all_both : {A : Type 0} (p q : A → Bool) (xs : List A) → list_all (λ x. p x && q x) xs ≡ true → (list_all p xs ≡ true)
    × (list_all q xs ≡ true)
all_both p q [] e = (refl, refl)
all_both p q (x ∷ xs) e =
    let s = both_true (p x && q x) (list_all (λ y. p y && q y) xs) e in
    let k = both_true (p x) (q x) s.0 in
    let more = all_both p q xs s.1 in
    (ap (λ b. b && list_all p xs) k.0 ∙ more.0, ap (λ b. b && list_all q xs) k.1 ∙ more.1)

-- after the statements, the rows are good
lists_good : (defs : List TableDef) (all : ArePointTables defs) (p : ℤ) (bs : List Bound) (s other : State)
    → Related defs p s other
    → GoodState defs s → list_all (is_in_scope defs) bs ≡ true → list_all (gives_periods defs) bs ≡ true
    → GoodState defs (after_all s bs)
lists_good defs all p [] s other r g k z = g
lists_good defs all p (b ∷ bs) s other r g k z =
    let x = both_true (is_in_scope defs b) (list_all (is_in_scope defs) bs) k in
    let y = both_true (gives_periods defs b) (list_all (gives_periods defs) bs) z in
    let good = step_good defs all p s other r g b x.0 y.0 in
    by_bool (is_refused (step s b).0)
    (λ e. lists_good defs all p bs (step s b).1 other
    (subst (λ v. Related defs p v other) (sym (refused_stays s b e)) r) good x.1 y.1)
    (λ e. lists_good defs all p bs (step s b).1 (step other (statement_at defs p b)).1
    (step_same defs all p (constraints_then defs all p) s other r b x.0 e).1 good x.1 y.1)

pub refusals_reduce : RefusalsReduce
refusals_reduce defs next horizon bs c e all k =
    let both = all_append (λ b. is_in_scope defs b && gives_periods defs b) bs (ChangeRows c ∷ []) k in
    let lists = all_both (is_in_scope defs) (gives_periods defs) bs both.0 in
    let last = both_true (is_in_scope defs (ChangeRows c)) (gives_periods defs (ChangeRows c))
    (both_true (is_in_scope defs (ChangeRows c) && gives_periods defs (ChangeRows c)) true both.1).0 in
    let scope = both_true (nat_lt (changed_table c) (length defs)) (is_change_of (table_at defs (changed_table c)) c)
    last.0 in
    let s : State = after_all (beginning defs next horizon) bs in
    let r : (p : ℤ) → Related defs p s (state_at defs next horizon bs p) =
    λ p. (lists_same defs all p (constraints_then defs all p) bs (beginning defs next horizon)
    (point_beginning defs next horizon)
    (alike defs next horizon p) lists.0).1 in
    let good = lists_good defs all (pos 0) bs (beginning defs next horizon) (point_beginning defs next horizon)
    (alike defs next horizon (pos 0))
    (record { history = tt; open_then = tt }) lists.0 lists.1 in (
      λ x. let h = to_points defs all s (state_at defs next horizon bs) r good c (below scope.0) scope.1 last.1 e x in
          record { point = h.point; refused = h.refused; first = h.least },
      λ h. from_points defs all s (state_at defs next horizon bs) r good c (below scope.0) scope.1 last.1 last.0 e
          (record { point = h.point; refused = h.refused; least = h.first }),
    )
  where
    below : {n : ℕ} → nat_lt n (length defs) ≡ true → n < length defs
    below {n} q = grind (arith, nat_tests, q)

-- After statements whose INSERTs give rising periods, the rows of every copy are good.
use Rattle.std.proofs.Common.{◌≡◌, ◌<◌, refl, sym, ap, subst, ◌∙◌, ℕ, true, false, List, [], ◌∷◌, ◌++◌, length, arith}
use Rattle.std.specs.Prelude.{◌==◌, nat_lt, ℤ, slice_set, Option, Some, None, Bool, int_le, if◌then◌else◌}
use Rattle.std.specs.List.{list_all}
use Rattle.std.proofs.lemmas.Bool.Decides.{nat_tests}
use Rattle.tql_spec.specs.Words.{listed, map_all}
use Rattle.tql_spec.specs.Bag.{In}
use Rattle.tql_spec.specs.Datum.{Datum}
use Rattle.tql_spec.specs.Refusal.{first}
use Rattle.tql_spec.specs.Expression.{eval}
use Rattle.tql_spec.specs.Definition.{TableDef, Stamped, table_at}
use Rattle.tql_spec.specs.History.{Copy, Entry, rows_in}
use Rattle.tql_spec.specs.Horizon.{pruned}
use Rattle.tql_spec.specs.Change.{insert, modify}
use Rattle.tql_spec.specs.Machine.{State, Reply, Bound, CreateTable, DropTable, SetClock, Start, Commit, Rollback}
use Rattle.tql_spec.specs.Machine.{ChangeRows, AnswerQuery, Change, InsertTuples, InsertQuery, Modify, Prune}
use Rattle.tql_spec.specs.Machine.{effect, step, changed, outcome, changed_table, working, with_working, with_commit}
use Rattle.tql_spec.specs.Machine.{newest_copy, entries}
use Rattle.tql_spec.specs.Machine.{OpenReader, Read, CloseReader}
use Rattle.tql_spec.proofs.Members.{by_bool}
use Rattle.tql_spec.proofs.RunKeeps.{changed_entry, altered_keeps}
use Rattle.tql_points.specs.Scope.{ArePointTables, is_free_work, is_free_cond, is_change_of, is_in_scope}
use Rattle.tql_points.specs.ChangeLaw.{AllFit}
use Rattle.tql_points.specs.RefusalLaw.{once, gives_period, gives_periods}
use Rattle.tql_points.specs.PointMachine.{is_refused}
use Rattle.tql_points.proofs.Changes.{works_free}
use Rattle.tql_points.proofs.Good.{AllGood, modify_good, insert_good}
use Rattle.tql_points.proofs.InsertPoints.{values_give}
use Rattle.tql_points.proofs.Insertions.{own_wide}
use Rattle.tql_points.proofs.Numbers.{equal, equal_test}
use Rattle.tql_points.proofs.PointKeys.{constraints_then}
use Rattle.tql_points.proofs.Related.{Related}
use Rattle.tql_points.proofs.Steps.{ConstraintsThen, unrefused, done_then, refused_stays, working_same, own_table}
use Rattle.tql_points.proofs.Steps.{step_faults}
use Rattle.tql_points.proofs.Steps.{own_fits, got_same, got_other, none_in}
use Rattle.tql_points.proofs.Views.{both_true}

-- ---- copies with good rows

abbrev pub GoodCopy : List TableDef → Copy → Type 0
GoodCopy defs copy = (t : ℕ) → t < length defs → AllGood (table_at defs t) (rows_in copy t)

abbrev pub GoodEntries : List TableDef → List Entry → Type 0
GoodEntries defs [] = Unit {0}
GoodEntries defs (e ∷ es) = GoodCopy defs e.copy × GoodEntries defs es

abbrev pub GoodOpen : List TableDef → Option Entry → Type 0
GoodOpen defs None = Unit {0}
GoodOpen defs (Some e) = GoodCopy defs e.copy

pub record GoodState (defs : List TableDef) (s : State) : Type 0 where
  pub history : GoodEntries defs s.history
  pub open_then : GoodOpen defs s.transaction

module _ (defs : List TableDef) (all : ArePointTables defs) (p : ℤ) where
  abbrev then' : ConstraintsThen defs p
  then' = constraints_then defs all p

  -- the newest copy
  newest_good : (ds : List TableDef) (es : List Entry) → GoodEntries defs es → GoodCopy defs (newest_copy ds es)
  newest_good ds [] g = λ t l r n. absurd (subst (λ xs. In r xs) (none_in ds t) n)
  newest_good ds (e ∷ es) g = g.0

  -- the copies left by a horizon
  pruned_good : (h : ℤ) (es : List Entry) → GoodEntries defs es → GoodEntries defs (pruned h es)
  pruned_good h [] g = tt
  pruned_good h (e ∷ es) g = (g.0, either (int_le e.moment h) (pruned_good h es g.1))
    where
      either : (b : Bool) → GoodEntries defs (pruned h es) → GoodEntries defs (if b then [] else pruned h es)
      either true k = tt
      either false k = k

  entries_good : (s : State) → GoodState defs s → GoodEntries defs (entries s)
  entries_good s g = by_open s.transaction g.open_then
    where
      by_open : (o : Option Entry) → GoodOpen defs o → GoodEntries defs (listed o ++ s.history)
      by_open None h = g.history
      by_open (Some e) h = (h, g.history)

  fresh_good : (s : State) → GoodState defs s → GoodCopy defs (working s None).copy
  fresh_good s g = newest_good s.definitions (entries s) (entries_good s g)

  pub working_good : (s : State) → GoodState defs s → GoodCopy defs (working s s.transaction).copy
  working_good s g = by_open s.transaction g.open_then
    where
      by_open : (o : Option Entry) → GoodOpen defs o → GoodCopy defs (working s o).copy
      by_open None h = fresh_good s g
      by_open (Some e) h = h

  -- a copy with one table changed
  set_good : (copy : Copy) → length copy ≡ length defs → GoodCopy defs copy → (t : ℕ) → t < length defs
      → (rows : List Stamped)
      → AllGood (table_at defs t) rows → GoodCopy defs (slice_set copy t rows)
  set_good copy many g t l rows k u n = by_bool (t == u)
      (λ e. subst (λ v. AllGood (table_at defs v) (rows_in (slice_set copy t rows) v)) (equal t u e)
      (subst (AllGood (table_at defs t)) (sym (got_same copy t rows [] (omega (arith, l, many)))) k))
      (λ e. subst (AllGood (table_at defs u))
      (sym (got_other copy t u rows [] (λ q. let z : true ≡ false = sym (equal_test t u q) ∙ e in absurd (cc))))
      (g u n))

  -- the result of a change without a fault
  outcome_good : (s other : State) → Related defs p s other → GoodState defs s → (c : Change)
      → (l : changed_table c < length defs)
      → is_change_of (table_at defs (changed_table c)) c ≡ true → gives_periods defs (ChangeRows c) ≡ true
      → (outcome s (working s s.transaction).moment (working s s.transaction).copy c).faults ≡ []
      → AllGood (table_at defs (changed_table c))
      (outcome s (working s s.transaction).moment (working s s.transaction).copy c).rows
  outcome_good s other r g (InsertQuery t columns q) l k z e = absurd (cc)
  outcome_good s other r g (InsertTuples t columns tuples) l k z e =
      by_values (map_all (map_all (eval [] [])) tuples) refl e
    where
      by_values : (v : Option (List (List Datum))) → map_all (map_all (eval [] [])) tuples ≡ v
          → (insert (table_at s.definitions t) (working s s.transaction).moment
          (rows_in (working s s.transaction).copy t) columns v).faults ≡ []
          → AllGood (table_at defs t) (insert (table_at s.definitions t) (working s s.transaction).moment
          (rows_in (working s s.transaction).copy t) columns v).rows
      by_values None q f = absurd (cc)
      by_values (Some valued) q f =
          let m : ℤ = (working s s.transaction).moment in
          let rows : List Stamped = rows_in (working s s.transaction).copy t in
          let same = own_table defs all p then' s other r t in
          let h = (working_same defs all p then' s other r).copy.each t l in
          let w = both_true (once columns) (list_all (gives_period (table_at defs t) columns) tuples) z in
          subst (λ d. (insert d m rows columns (Some valued)).faults ≡ []
          → AllGood (table_at defs t) (insert d m rows columns (Some valued)).rows) (sym same)
          (insert_good defs (table_at defs t) (all t l) m rows columns valued (working_good s g t l)
          (values_give (table_at defs t) columns tuples w.1 valued q)
          (own_wide defs (table_at defs t) p m rows (rows_in (working other other.transaction).copy t) columns h k)) f
  outcome_good s other r g (Modify t portion work conds) l k z e =
      let m : ℤ = (working s s.transaction).moment in
      let rows : List Stamped = rows_in (working s s.transaction).copy t in
      let same = own_table defs all p then' s other r t in
      let h = (working_same defs all p then' s other r).copy.each t l in
      let free = both_true (is_free_work (table_at defs t) work) (list_all (is_free_cond (table_at defs t)) conds) k in
      subst (λ d. (modify d m rows portion work conds).faults ≡ []
      → AllFit (table_at defs t) (modify d m rows portion work conds).rows
      → AllGood (table_at defs t) (modify d m rows portion work conds).rows) (sym same)
      (λ f fits. modify_good defs (table_at defs t) (all t l) m rows portion work conds
      (works_free (table_at defs t) work free.0)
      (working_good s g t l) h.fits fits f)
      e (own_fits defs all p then' s other r t l (Modify t portion work conds) refl m (working s s.transaction).copy
      h.fits)

  -- ---- statements

  changed_good : (s other : State) → Related defs p s other → GoodState defs s → (c : Change)
      → changed_table c < length defs
      → is_change_of (table_at defs (changed_table c)) c ≡ true → gives_periods defs (ChangeRows c) ≡ true
      → GoodState defs (changed s c).1
  changed_good s other r g c l k z = altered_keeps (GoodState defs) s c g
      (λ h. with_good s.transaction (changed_entry s c)
      (set_good (working s s.transaction).copy (working_same defs all p then' s other r).copy.as_many (working_good s g)
      (changed_table c) l
      (outcome s (working s s.transaction).moment (working s s.transaction).copy c).rows
      (outcome_good s other r g c l k z h.sound)))
    where
      with_good : (o : Option Entry) (e : Entry) → GoodCopy defs e.copy → GoodState defs (with_working s o e)
      with_good None e h = record { history = (h, g.history); open_then = tt }
      with_good (Some x) e h = record { history = g.history; open_then = h }

  effect_good : (s other : State) → Related defs p s other → GoodState defs s → (b : Bound) → is_in_scope defs b ≡ true
      → gives_periods defs b ≡ true → GoodState defs (effect s b).1
  effect_good s other r g (CreateTable d) k z = absurd (cc)
  effect_good s other r g (DropTable t) k z = absurd (cc)
  effect_good s other r g (AnswerQuery q) k z = absurd (cc)
  effect_good s other r g (OpenReader n) k z = record { history = g.history; open_then = g.open_then }
  effect_good s other r g (Read n q) k z = absurd (cc)
  effect_good s other r g (CloseReader n) k z = record { history = g.history; open_then = g.open_then }
  effect_good s other r g (SetClock m) k z = record { history = g.history; open_then = g.open_then }
  effect_good s other r g (Prune m) k z =
      record { history = pruned_good m s.history g.history; open_then = g.open_then }
  effect_good s other r g Start k z = record { history = g.history; open_then = fresh_good s g }
  effect_good s other r g Commit k z = by_open s.transaction g.open_then
    where
      by_open : (o : Option Entry) → GoodOpen defs o → GoodState defs (with_commit s o)
      by_open None h = g
      by_open (Some e) h = record { history = (h, g.history); open_then = tt }
  effect_good s other r g Rollback k z = record { history = g.history; open_then = tt }
  effect_good s other r g (ChangeRows c) k z =
      let y = both_true (nat_lt (changed_table c) (length defs)) (is_change_of (table_at defs (changed_table c)) c) k in
      changed_good s other r g c (below y.0) y.1 z
    where
      below : {n : ℕ} → nat_lt n (length defs) ≡ true → n < length defs
      below {n} q = grind (arith, nat_tests, q)

  -- a step keeps the rows good
  pub step_good : (s other : State) → Related defs p s other → GoodState defs s → (b : Bound) → is_in_scope defs b
      ≡ true
      → gives_periods defs b ≡ true → GoodState defs (step s b).1
  step_good s other r g b k z = by_bool (is_refused (step s b).0)
      (λ e. subst (GoodState defs) (sym (refused_stays s b e)) g)
      (λ e. let none = unrefused (first (step_faults s b)) s (effect s b).0 (effect s b).1 e in
      subst (GoodState defs) (sym (ap (λ (x : Reply × State). x.1)
      (done_then (first (step_faults s b)) s (effect s b).0 (effect s b).1 none)))
      (effect_good s other r g b k z))

-- Every run of statements that are written in scope agrees with the models of all points.
use Rattle.std.proofs.Common.{◌≡◌, ◌<◌, length, refl, sym, ap, subst, ◌∙◌, ℕ, true, false, List, [], ◌∷◌, ◌++◌}
use Rattle.std.proofs.Common.{map, arith}
use Rattle.std.proofs.Common.{inl, inr}
use Rattle.std.specs.Prelude.{not, ◌&&◌, nat_lt, ℤ, pos, IsTrue, Option, Some, None, is_some, remove}
use Rattle.std.specs.List.{list_all}
use Rattle.std.proofs.lemmas.Bool.Decides.{nat_tests}
use Rattle.tql_spec.specs.Words.{is_empty}
use Rattle.tql_spec.specs.Calendar.{read_timestamp}
use Rattle.tql_spec.specs.Datum.{Row}
use Rattle.tql_spec.specs.Refusal.{Refusal, OutOfMemory, ValueOutOfRange, NotInThisTransactionState, ReadersAreOpen}
use Rattle.tql_spec.specs.Refusal.{TableIsReferenced, fault_if, place, first}
use Rattle.tql_spec.specs.Definition.{Name, TableDef, table_at, place_of}
use Rattle.tql_spec.specs.History.{Entry}
use Rattle.tql_spec.specs.Query.{Query, answer, in_order}
use Rattle.tql_spec.specs.Horizon.{pruned}
use Rattle.tql_spec.specs.Machine.{State, Bound, CreateTable, DropTable, SetClock, Start, Commit, Rollback, ChangeRows}
use Rattle.tql_spec.specs.Machine.{AnswerQuery, Prune, changed_table, Verb, Reply, Done, Table, Refused}
use Rattle.tql_spec.specs.Machine.{state_faults, limit_faults, effect, step, unless_refused, asked, bag_of, bag_in}
use Rattle.tql_spec.specs.Machine.{class_of, Defines, with_commit, with_working, CreatedTable, DroppedTable}
use Rattle.tql_spec.specs.Readers.{pinned_of, is_any_open}
use Rattle.tql_spec.specs.Script.{Piece}
use Rattle.tql_spec.specs.Syntax.{Statement, CreateTree, DropTree, InsertValues, InsertSelect, UpdateTree, DeleteTree}
use Rattle.tql_spec.specs.Syntax.{QueryTree, StartTree, CommitTree, RollbackTree, AtTree, PruneTree}
use Rattle.tql_spec.specs.Creation.{create, application_parts, constraints_of}
use Rattle.tql_spec.specs.Binding.{bind, select, statement_class, or_bad_moment, or_no_table, is_referenced}
use Rattle.tql_spec.specs.Run.{Sense, Says, Faulty, HasSense, Run, Answers, respond, respond_to, statement_faults}
use Rattle.tql_spec.specs.Machine.{OpenReader, Read, CloseReader}
use Rattle.tql_spec.specs.Syntax.{OpenTree, ReadTree, CloseTree}
use Rattle.tql_spec.proofs.FirstFaults.{none_first, bound_steps, manner_kept}
use Rattle.tql_spec.proofs.InOrder.{no_fault}
use Rattle.tql_spec.proofs.Members.{by_bool}
use Rattle.tql_spec.proofs.RunKeeps.{no_left, no_right, unless_either, taken, altered_keeps, changed_entry}
use Rattle.tql_spec.proofs.RunKeeps.{asked_stays as query_stays}
use Rattle.tql_points.specs.PointStatement.{statement_at}
use Rattle.tql_points.specs.Scope.{ArePointTables, is_in_scope, is_change_of}
use Rattle.tql_points.specs.RefusalLaw.{gives_periods}
use Rattle.tql_points.specs.PointMachine.{is_refused, beginning}
use Rattle.tql_points.specs.StatementScope.{written_names, is_point_constraint, prepares, is_query}
use Rattle.tql_points.specs.StatementScope.{defines, is_statement_in_scope}
use Rattle.tql_points.specs.ScopeLaw.{CreationsAreInScope, StatementsAreInScope}
use Rattle.tql_points.specs.PointRun.{PointMachines, machines_of, after_each, IsFirstRefusal}
use Rattle.tql_points.specs.PointRun.{GoAlong, RunsBeside, IsAtStart, ArePreparing, IsInScope, AreInScope}
use Rattle.tql_points.specs.PointRun.{AreInScopeOf, ScopesAreKept}
use Rattle.tql_points.specs.PointRun.{StartsAreKept, RunsAgreeAtPoints, RunsAgreeBehind}
use Rattle.tql_points.proofs.Creations.{creation_in_scope}
use Rattle.tql_points.proofs.GoodStates.{GoodState, GoodEntries, GoodOpen, step_good}
use Rattle.tql_points.proofs.PointKeys.{constraints_then}
use Rattle.tql_points.proofs.Refusals.{so_refused, same_refusal, to_points}
use Rattle.tql_points.proofs.Readers.{readers_themselves, slices_agree}
use Rattle.tql_points.proofs.Related.{SameEntries, SameOpen, Related}
use Rattle.tql_points.proofs.Steps.{step_faults, step_faults_same, refusal_of, refused_stays, step_same, unrefused}
use Rattle.tql_points.proofs.Steps.{done_then}
use Rattle.tql_points.proofs.TableLists.{more_rows, relisted_more, relisted_less, related_relisted}
use Rattle.tql_points.proofs.TableLists.{good_state_relisted, point_tables_more, point_tables_less}
use Rattle.tql_points.specs.PointTable.{point_table}
use Rattle.tql_points.proofs.Tables.{not_true}
use Rattle.tql_points.proofs.Views.{both_true}
use Rattle.tql_points.proofs.WholeRuns.{faulty}
use Rattle.tql_points.proofs.WrittenChanges.{bound_within}

-- ---- statements that are written in scope

pub creations_in_scope : CreationsAreInScope
creations_in_scope defs (CreateTree n e es versioned) all k z =
    let s = both_true (not (is_empty (application_parts (e ∷ es))))
    (list_all (is_point_constraint (written_names (e ∷ es))) (constraints_of (e ∷ es))) k in
    record {
      made = (create defs n (e ∷ es) versioned).value;
      bound = refl;
      tables = creation_in_scope defs n (e ∷ es) versioned
          (no_left (create defs n (e ∷ es) versioned).faults [] z)
          (not_true (is_empty (application_parts (e ∷ es))) s.0) s.1 all;
    }
creations_in_scope defs (DropTree n) all k z = absurd (cc)
creations_in_scope defs (InsertValues n ns t ts) all k z = absurd (cc)
creations_in_scope defs (InsertSelect n ns s) all k z = absurd (cc)
creations_in_scope defs (UpdateTree n p s ss c) all k z = absurd (cc)
creations_in_scope defs (DeleteTree n p c) all k z = absurd (cc)
creations_in_scope defs (QueryTree s keys) all k z = absurd (cc)
creations_in_scope defs StartTree all k z = absurd (cc)
creations_in_scope defs CommitTree all k z = absurd (cc)
creations_in_scope defs RollbackTree all k z = absurd (cc)
creations_in_scope defs (AtTree m) all k z = absurd (cc)
creations_in_scope defs (PruneTree m) all k z = absurd (cc)
creations_in_scope defs (OpenTree n) all k z = absurd (cc)
creations_in_scope defs (ReadTree n s keys) all k z = absurd (cc)
creations_in_scope defs (CloseTree n) all k z = absurd (cc)

pub statements_in_scope : StatementsAreInScope
statements_in_scope defs t all k q l e =
    let w = bound_within defs all t q l k e in
    ap (λ b. b && gives_periods defs (bind defs t).value) w.scope ∙ w.periods

-- DROP TABLE without a fault drops a table that no reference names
dropped_one : (defs : List TableDef) (n : Name) → (bind defs (DropTree n)).faults ≡ []
    → (i : ℕ) × ((bind defs (DropTree n)).value ≡ DropTable i) × (place_of n defs ≡ Some i)
    × (is_referenced n defs ≡ false)
dropped_one defs n e = by_place (place_of n defs) refl e
  where
    by_place : (o : Option ℕ) → place_of n defs ≡ o
        → (or_no_table o).faults ++ fault_if (is_referenced n defs) TableIsReferenced ≡ []
        → (i : ℕ) × (DropTable (or_no_table o).value ≡ DropTable i) × (place_of n defs ≡ Some i)
        × (is_referenced n defs ≡ false)
    by_place None p f = absurd (cc)
    by_place (Some i) p f = (i, refl, p, no_fault (is_referenced n defs) TableIsReferenced f)

-- ---- replies

-- the reply of a statement that is not refused
replied : (o : Option Refusal) (old : State) (reply : Reply) (new : State)
    → is_refused (unless_refused o old reply new).0 ≡ false → (unless_refused o old reply new).0 ≡ reply
replied None old reply new e = refl
replied (Some f) old reply new e = absurd (cc)

module _ (defs : List TableDef) (all : ArePointTables defs) where
  -- an accepted statement has been executed
  done_of : (s : State) (b : Bound) → is_in_scope defs b ≡ true → is_refused (step s b).0 ≡ false
      → (v : Verb) × (n : Option ℕ) × ((step s b).0 ≡ Done v n)
  done_of s (CreateTable d) k e = absurd (cc)
  done_of s (DropTable t) k e = absurd (cc)
  done_of s (AnswerQuery q) k e = absurd (cc)
  done_of s (OpenReader n) k e = (_, _, replied _ s _ _ e)
  done_of s (Read n q) k e = absurd (cc)
  done_of s (CloseReader n) k e = (_, _, replied _ s _ _ e)
  done_of s (SetClock m) k e = (_, _, replied _ s _ _ e)
  done_of s (Prune m) k e = (_, _, replied _ s _ _ e)
  done_of s Start k e = (_, _, replied _ s _ _ e)
  done_of s Commit k e = (_, _, replied _ s _ _ e)
  done_of s Rollback k e = (_, _, replied _ s _ _ e)
  done_of s (ChangeRows c) k e =
      let one = replied _ s _ _ e in
      (_, _, one ∙ replied _ s _ _ (sym (ap is_refused one) ∙ e))

  module _ (s : State) (machines : PointMachines) (r : (p : ℤ) → Related defs p s (machines p))
      (g : GoodState defs s) where
    -- if the state refuses a statement, the model of each point does
    by_state : (b : Bound) → ((x : State) → is_refused (effect x b).0 ≡ false)
        → (e : Refusal) → (step s b).0 ≡ Refused e → IsFirstRefusal defs machines b e
    by_state b open_then e x = by_fault (first (step_faults s b)) refl x
      where
        there : (p : ℤ) → first (step_faults (machines p) (statement_at defs p b)) ≡ first (step_faults s b)
        there p = ap first (step_faults_same defs all p (constraints_then defs all p) s (machines p) (r p) b)

        by_fault : (o : Option Refusal) → first (step_faults s b) ≡ o
            → (unless_refused o s (effect s b).0 (effect s b).1).0 ≡ Refused e → IsFirstRefusal defs machines b e
        by_fault None q y =
            let never : true ≡ false = sym (ap is_refused y) ∙ open_then s in absurd (cc)
        by_fault (Some f) q y =
            let is : f ≡ e = same_refusal f e y in
            let each : (p : ℤ) → (step (machines p) (statement_at defs p b)).0 ≡ Refused f = λ p.
            so_refused (first (step_faults (machines p) (statement_at defs p b))) (machines p)
            (effect (machines p) (statement_at defs p b)).0 (effect (machines p) (statement_at defs p b)).1 f
            (there p ∙ q) in
            record {
              point = pos 0;
              refused = each (pos 0) ∙ ap (λ (z : Refusal). Refused z) is;
              first = λ p h z.
                  let other : h ≡ f = same_refusal h f (sym z ∙ each p) in omega (arith, ap place is, ap place other);
            }

    -- a refused statement has the first refusal of the models
    first_refusal : (b : Bound) → is_in_scope defs b ≡ true → gives_periods defs b ≡ true → (e : Refusal)
        → (step s b).0 ≡ Refused e → IsFirstRefusal defs machines b e
    first_refusal (CreateTable d) k z e x = absurd (cc)
    first_refusal (DropTable t) k z e x = absurd (cc)
    first_refusal (AnswerQuery q) k z e x = absurd (cc)
    first_refusal (OpenReader n) k z e x = by_state (OpenReader n) (λ y. refl) e x
    first_refusal (Read n q) k z e x = absurd (cc)
    first_refusal (CloseReader n) k z e x = by_state (CloseReader n) (λ y. refl) e x
    first_refusal (SetClock m) k z e x = by_state (SetClock m) (λ y. refl) e x
    first_refusal (Prune m) k z e x = by_state (Prune m) (λ y. refl) e x
    first_refusal Start k z e x = by_state Start (λ y. refl) e x
    first_refusal Commit k z e x = by_state Commit (λ y. refl) e x
    first_refusal Rollback k z e x = by_state Rollback (λ y. refl) e x
    first_refusal (ChangeRows c) k z e x =
        let y = both_true _ (is_change_of (table_at defs (changed_table c)) c) k in
        let h = to_points defs all s machines r g c (within y.0) y.1 z e x in
        record { point = h.point; refused = h.refused; first = h.least }
      where
        within : {n : ℕ} → nat_lt n (length defs) ≡ true → n < length defs
        within {n} q = grind (arith, nat_tests, q)

    -- ---- one piece

    -- the models follow an answer, and remain related to the state
    abbrev Goes : Piece → Reply → State → Type 0
    Goes x reply mid =
        (next : PointMachines) × GoAlong defs machines x reply next × ((p : ℤ) → Related defs p mid (next p))
        × GoodState defs mid

    -- nothing changes
    stays : (x : Piece) (reply : Reply) (mid : State) → mid ≡ s → GoAlong defs machines x reply machines
        → Goes x reply mid
    stays x reply mid q h =
        (machines, h, λ p. subst (λ z. Related defs p z (machines p)) (sym q) (r p), subst (GoodState defs) (sym q) g)

    -- a bound statement that is not a query
    bound_goes : (x : Piece) (t : Statement) → HasSense x (Says t)
        → is_in_scope defs (bind defs t).value ≡ true → gives_periods defs (bind defs t).value ≡ true
        → Goes x (step s (bind defs t).value).0 (step s (bind defs t).value).1
    bound_goes x t h k z = by_bool (is_refused (step s b).0)
        (λ e. let f = refusal_of (step s b).0 e in
        subst (λ y. Goes x y (step s b).1) (sym f.1)
        (stays x (Refused f.0) (step s b).1 (refused_stays s b e)
        (refl, inr (Says t, h, λ sound open_then. first_refusal b k z f.0 f.1))))
        (λ e. let d = done_of s b k e in
        let same = λ (p : ℤ). step_same defs all p (constraints_then defs all p) s (machines p) (r p) b k e in
        subst (λ y. Goes x y (step s b).1) (sym d.2) (
          after_each defs machines b,
          (t, h, (λ p. (same p).0), refl),
          (λ p. (same p).1),
          step_good defs all (pos 0) s (machines (pos 0)) (r (pos 0)) g b k z,
        ))
      where
        b : Bound
        b = (bind defs t).value

    -- a query
    asked_goes : (x : Piece) (t : Statement) → HasSense x (Says t) → is_query t ≡ true → (q : Query)
        → (o : Option (List Row)) → Goes x (asked s q o).0 (asked s q o).1
    asked_goes x t h k q None = stays x (Refused ValueOutOfRange) s refl
        (refl, inr (Says t, h, λ sound open_then. let never : true ≡ false = sym k ∙ open_then in absurd (cc)))
    asked_goes x t h k q (Some rows) = stays x (Table q.headings (in_order q.ordering rows)) s refl refl

    -- a query, refused or answered
    answered_goes : (x : Piece) (t : Statement) → HasSense x (Says t) → is_query t ≡ true → (q : Query)
        → (found : Option (List Row)) (o : Option Refusal)
        → Goes x (unless_refused o s (asked s q found).0 (asked s q found).1).0
        (unless_refused o s (asked s q found).0 (asked s q found).1).1
    answered_goes x t h k q found None = asked_goes x t h k q found
    answered_goes x t h k q found (Some f) = stays x (Refused f) s refl
        (refl, inr (Says t, h, λ sound open_then. let never : true ≡ false = sym k ∙ open_then in absurd (cc)))

    -- a statement without a fault that neither creates nor drops a table
    sound_goes : (x : Piece) (t : Statement) → HasSense x (Says t) → defines t ≡ false
        → is_statement_in_scope defs t ≡ true
        → (bind defs t).faults ≡ [] → Goes x (step s (bind defs t).value).0 (step s (bind defs t).value).1
    sound_goes x (QueryTree y keys) h l k e =
        let q : Query = (select defs y keys).value.query in
        answered_goes x (QueryTree y keys) h refl q (answer (bag_of s) q)
        (first (limit_faults s (AnswerQuery q) ++ []))
    sound_goes x (ReadTree n y keys) h l k e =
        let q : Query = (select defs y keys).value.query in
        answered_goes x (ReadTree n y keys) h refl q
        (answer (bag_in s.definitions (pinned_of n s.readers)) q) (first (limit_faults s (Read n q) ++ []))
    sound_goes x (CreateTree n y es versioned) h l k e = absurd (cc)
    sound_goes x (DropTree n) h l k e = absurd (cc)
    sound_goes x (InsertSelect n ns y) h l k e = absurd (cc)
    sound_goes x (InsertValues n ns y ys) h l k e =
        let w = bound_within defs all (InsertValues n ns y ys) refl l k e in
        bound_goes x (InsertValues n ns y ys) h w.scope w.periods
    sound_goes x (UpdateTree n p y ys c) h l k e =
        let w = bound_within defs all (UpdateTree n p y ys c) refl l k e in
        bound_goes x (UpdateTree n p y ys c) h w.scope w.periods
    sound_goes x (DeleteTree n p c) h l k e =
        let w = bound_within defs all (DeleteTree n p c) refl l k e in
        bound_goes x (DeleteTree n p c) h w.scope w.periods
    sound_goes x StartTree h l k e = bound_goes x StartTree h refl refl
    sound_goes x CommitTree h l k e = bound_goes x CommitTree h refl refl
    sound_goes x RollbackTree h l k e = bound_goes x RollbackTree h refl refl
    sound_goes x (AtTree m) h l k e = bound_goes x (AtTree m) h refl refl
    sound_goes x (PruneTree m) h l k e = bound_goes x (PruneTree m) h refl refl
    sound_goes x (OpenTree n) h l k e = bound_goes x (OpenTree n) h refl refl
    sound_goes x (CloseTree n) h l k e = bound_goes x (CloseTree n) h refl refl

    -- the same where the list of tables may change
    abbrev Follows : Piece → Reply → State → Type 0
    Follows x reply mid =
        (next : PointMachines) × GoAlong defs machines x reply next × ArePointTables mid.definitions
        × ((p : ℤ) → Related mid.definitions p mid (next p)) × GoodState mid.definitions mid

    follow_at : (x : Piece) (reply : Reply) (mid : State) (new : List TableDef) → mid.definitions ≡ new
        → (next : PointMachines) → GoAlong defs machines x reply next → ArePointTables new
        → ((p : ℤ) → Related new p mid (next p)) → GoodState new mid → Follows x reply mid
    follow_at x reply mid new e next h made related good = (
      next,
      h,
      subst ArePointTables (sym e) made,
      λ p. subst (λ ds. Related ds p mid (next p)) (sym e) (related p),
      subst (λ ds. GoodState ds mid) (sym e) good,
    )

    follows : (x : Piece) (reply : Reply) (mid : State) → Goes x reply mid → Follows x reply mid
    follows x reply mid k = follow_at x reply mid defs (k.2 (pos 0)).definitions k.0 k.1 all k.2 k.3

    -- CREATE or DROP TABLE without a fault: the list that it makes, and what is related then
    listed_follows : (x : Piece) (t : Statement) → HasSense x (Says t) → (b : Bound) → (bind defs t).value ≡ b
        → class_of b ≡ Defines → (v : Verb) → ((y : State) → (effect y b).0 ≡ Done v None)
        → ((p : ℤ) → is_refused (effect (machines p) (statement_at defs p b)).0 ≡ false)
        → (new : List TableDef) → (effect s b).1.definitions ≡ new → ArePointTables new
        → (is_some s.transaction ≡ false → is_any_open s.readers ≡ false
        → ((p : ℤ) → Related new p (effect s b).1 (effect (machines p) (statement_at defs p b)).1)
        × GoodState new (effect s b).1)
        → Follows x (step s b).0 (step s b).1
    listed_follows x t h b is c v says taken new own made kept = by_bool (is_refused (step s b).0)
        (λ e. let f = refusal_of (step s b).0 e in
        subst (λ y. Follows x y (step s b).1) (sym f.1)
        (follows x (Refused f.0) (step s b).1 (stays x (Refused f.0) (step s b).1 (refused_stays s b e) (
          refl,
          inr (
            Says t,
            h,
            λ sound open_then. subst (λ z. IsFirstRefusal defs machines z f.0) (sym is)
                (by_state b (λ y. ap is_refused (says y)) f.0 f.1),
          ),
        ))))
        (λ e. let none = unrefused (first (step_faults s b)) s (effect s b).0 (effect s b).1 e in
        let k = kept (idle none) (closed none) in
        subst (λ (z : Reply × State). Follows x z.0 z.1)
        (sym (done_then (first (step_faults s b)) s (effect s b).0 (effect s b).1 none))
        (subst (λ y. Follows x y (effect s b).1) (sym (says s))
        (follow_at x (Done v None) (effect s b).1 new own (after_each defs machines b) (
          t,
          h,
          (λ p. subst (λ z. is_refused (step (machines p) (statement_at defs p z)).0 ≡ false) (sym is)
              (ap (λ (z : Reply × State). is_refused z.0) (there none p) ∙ taken p)),
          ap (after_each defs machines) (sym is),
        ) made
        (λ p. subst (λ z. Related new p (effect s b).1 z) (sym (ap (λ (z : Reply × State). z.1) (there none p)))
        (k.0 p))
        k.1)))
      where
        there : first (step_faults s b) ≡ None → (p : ℤ)
            → step (machines p) (statement_at defs p b) ≡ effect (machines p) (statement_at defs p b)
        there none p = done_then (first (step_faults (machines p) (statement_at defs p b))) (machines p)
            (effect (machines p) (statement_at defs p b)).0 (effect (machines p) (statement_at defs p b)).1
            (ap first (step_faults_same defs all p (constraints_then defs all p) s (machines p) (r p) b) ∙ none)

        free : first (step_faults s b) ≡ None → state_faults s Defines ≡ []
        free none = sym (ap (state_faults s) c)
            ∙ no_right (limit_faults s b) (state_faults s (class_of b)) (none_first (step_faults s b) none)

        idle : first (step_faults s b) ≡ None → is_some s.transaction ≡ false
        idle none = no_fault (is_some s.transaction) NotInThisTransactionState
            (no_left (fault_if (is_some s.transaction) NotInThisTransactionState)
            (fault_if (is_any_open s.readers) ReadersAreOpen) (free none))

        closed : first (step_faults s b) ≡ None → is_any_open s.readers ≡ false
        closed none = no_fault (is_any_open s.readers) ReadersAreOpen
            (no_right (fault_if (is_some s.transaction) NotInThisTransactionState)
            (fault_if (is_any_open s.readers) ReadersAreOpen) (free none))

    created_follows : (x : Piece) (t : Statement) → HasSense x (Says t) → (d : TableDef)
        → (bind defs t).value ≡ CreateTable d → ArePointTables (defs ++ d ∷ [])
        → Follows x (step s (CreateTable d)).0 (step s (CreateTable d)).1
    created_follows x t h d is made =
        let k = relisted_more defs d all made in
        listed_follows x t h (CreateTable d) is refl CreatedTable (λ y. refl) (λ p. refl) (defs ++ d ∷ [])
        (ap (λ ds. ds ++ d ∷ []) (r (pos 0)).definitions) made
        (λ idle closed. (
          λ p. related_relisted defs (defs ++ d ∷ []) more_rows k p s (machines p) (r p) idle closed
              (s.definitions ++ d ∷ []) ((machines p).definitions ++ point_table (defs ++ d ∷ []) d ∷ [])
              (ap (λ ds. ds ++ d ∷ []) (r p).definitions)
              (ap (λ ds. ds ++ point_table (defs ++ d ∷ []) d ∷ []) (r p).definitions_then
              ∙ point_tables_more defs d all),
          good_state_relisted defs (defs ++ d ∷ []) more_rows k (pos 0) s (machines (pos 0)) (r (pos 0)) idle g
              (s.definitions ++ d ∷ []),
        ))

    dropped_follows : (x : Piece) (t : Statement) → HasSense x (Says t) → (n : Name) (i : ℕ)
        → (bind defs t).value ≡ DropTable i → place_of n defs ≡ Some i → is_referenced n defs ≡ false
        → Follows x (step s (DropTable i)).0 (step s (DropTable i)).1
    dropped_follows x t h n i is place free =
        let k = relisted_less defs n i all place free in
        listed_follows x t h (DropTable i) is refl DroppedTable (λ y. refl) (λ p. refl) (remove defs i)
        (ap (λ ds. remove ds i) (r (pos 0)).definitions) k.all
        (λ idle closed. (
          λ p. related_relisted defs (remove defs i) (λ copy. remove copy i) k p s (machines p) (r p) idle closed
              (remove s.definitions i) (remove (machines p).definitions i)
              (ap (λ ds. remove ds i) (r p).definitions)
              (ap (λ ds. remove ds i) (r p).definitions_then ∙ point_tables_less defs n i place free),
          good_state_relisted defs (remove defs i) (λ copy. remove copy i) k (pos 0) s (machines (pos 0)) (r (pos 0))
              idle g (remove s.definitions i),
        ))

    -- a statement without a fault
    sound_follows : (x : Piece) (t : Statement) → HasSense x (Says t) → is_statement_in_scope defs t ≡ true
        → (bind defs t).faults ≡ [] → Follows x (step s (bind defs t).value).0 (step s (bind defs t).value).1
    sound_follows x (CreateTree n y es versioned) h k e =
        let m = creations_in_scope defs (CreateTree n y es versioned) all k e in
        created_follows x (CreateTree n y es versioned) h (create defs n (y ∷ es) versioned).value refl
        (subst (λ d. ArePointTables (defs ++ d ∷ [])) (made_is m.made m.bound) m.tables)
      where
        made_is : (d : TableDef) → CreateTable (create defs n (y ∷ es) versioned).value ≡ CreateTable d
            → d ≡ (create defs n (y ∷ es) versioned).value
        made_is d q = cc
    sound_follows x (DropTree n) h k e =
        let m = dropped_one defs n e in
        subst (λ b. Follows x (step s b).0 (step s b).1) (sym m.1)
        (dropped_follows x (DropTree n) h n m.0 m.1 m.2 m.3)
    sound_follows x (InsertValues n ns y ys) h k e =
        follows x _ _ (sound_goes x (InsertValues n ns y ys) h refl k e)
    sound_follows x (InsertSelect n ns y) h k e = absurd (cc)
    sound_follows x (UpdateTree n p y ys c) h k e = follows x _ _ (sound_goes x (UpdateTree n p y ys c) h refl k e)
    sound_follows x (DeleteTree n p c) h k e = follows x _ _ (sound_goes x (DeleteTree n p c) h refl k e)
    sound_follows x (QueryTree y keys) h k e = follows x _ _ (sound_goes x (QueryTree y keys) h refl k e)
    sound_follows x StartTree h k e = follows x _ _ (sound_goes x StartTree h refl k e)
    sound_follows x CommitTree h k e = follows x _ _ (sound_goes x CommitTree h refl k e)
    sound_follows x RollbackTree h k e = follows x _ _ (sound_goes x RollbackTree h refl k e)
    sound_follows x (AtTree m) h k e = follows x _ _ (sound_goes x (AtTree m) h refl k e)
    sound_follows x (PruneTree m) h k e = follows x _ _ (sound_goes x (PruneTree m) h refl k e)
    sound_follows x (OpenTree n) h k e = follows x _ _ (sound_goes x (OpenTree n) h refl k e)
    sound_follows x (ReadTree n y keys) h k e = follows x _ _ (sound_goes x (ReadTree n y keys) h refl k e)
    sound_follows x (CloseTree n) h k e = follows x _ _ (sound_goes x (CloseTree n) h refl k e)

    -- a statement that is in scope if it has no fault
    said_follows : (x : Piece) (t : Statement) → HasSense x (Says t)
        → ((bind defs t).faults ≡ [] → is_statement_in_scope defs t ≡ true)
        → Follows x (respond s t).0 (respond s t).1
    said_follows x t h k = by_faults (first (bind s.definitions t).faults) refl
      where
        here : s.definitions ≡ defs
        here = (r (pos 0)).definitions

        by_faults : (o : Option Refusal) → first (bind s.definitions t).faults ≡ o
            → Follows x (respond s t).0 (respond s t).1
        by_faults None e =
            let same : respond s t ≡ step s (bind defs t).value =
            bound_steps s t e ∙ ap (λ ds. step s (bind ds t).value) here in
            let sound = none_first (bind defs t).faults (sym (ap (λ ds. first (bind ds t).faults) here) ∙ e) in
            subst (λ (z : Reply × State). Follows x z.0 z.1) (sym same) (sound_follows x t h (k sound) sound)
        by_faults (Some f) e =
            let y = faulty defs all s t f e in
            let w = refusal_of (respond s t).0 y.0 in
            subst (λ z. Follows x z (respond s t).1) (sym w.1)
            (follows x (Refused w.0) (respond s t).1 (stays x (Refused w.0) (respond s t).1 y.1 (
              refl,
              inr (
                Says t,
                h,
                λ sound open_then.
                    let none : first (bind s.definitions t).faults ≡ None =
                    ap (λ ds. first (bind ds t).faults) here ∙ ap first sound in
                    let never : None ≡ Some f = sym none ∙ e in absurd (cc),
              ),
            )))

    -- an answer to a piece
    answer_follows : (x : Piece) (reply : Reply) (mid : State) → IsInScope defs x → Answers s x reply mid
        → Follows x reply mid
    answer_follows x reply mid scope (inr e) = subst (λ z. Follows x z mid) (sym e.0)
        (follows x (Refused OutOfMemory) mid (stays x (Refused OutOfMemory) mid e.1 (refl, inl refl)))
    answer_follows x reply mid scope (inl a) =
        subst (λ (z : Reply × State). Follows x z.0 z.1) (sym a.2) (by_sense a.0 a.1)
      where
        by_sense : (sense : Sense) → HasSense x sense → Follows x (respond_to s sense).0 (respond_to s sense).1
        by_sense (Faulty e) h =
            follows x (Refused e) s (stays x (Refused e) s refl (refl, inr (Faulty e, h, refl)))
        by_sense (Says t) h = said_follows x t h (scope t h)

-- ---- runs

run_beside : (xs : List Piece) (rs : List Reply) (s new : State) (machines : PointMachines)
    → ArePointTables s.definitions → ((p : ℤ) → Related s.definitions p s (machines p)) → GoodState s.definitions s
    → AreInScope s xs rs → Run s xs rs new → (after : PointMachines) × RunsBeside s machines xs rs new after
run_beside [] [] s new machines all r g scope run = (machines, (run, refl))
run_beside [] (y ∷ rs) s new machines all r g scope run = absurd run
run_beside (x ∷ xs) [] s new machines all r g scope run = absurd run
run_beside (x ∷ xs) (y ∷ rs) s new machines all r g scope run =
    let k = answer_follows s.definitions all s machines r g x y run.0 scope.0 run.1 in
    let more = run_beside xs rs run.0 new k.0 k.2 k.3 k.4 (scope.1 run.0 run.1) run.2 in
    (more.0, (run.0, k.0, run.1, k.1, (λ p. slices_agree run.0.definitions p run.0 (k.0 p) (k.3 p)), more.1))

-- ---- pieces in scope of the same tables

-- other statements leave the list of tables
not_defined : (t : Statement) → defines t ≡ false → statement_class t ≡ Defines → ⊥
not_defined (CreateTree n e es versioned) k q = absurd (cc)
not_defined (DropTree n) k q = absurd (cc)
not_defined (InsertValues n ns t ts) k q = cc
not_defined (InsertSelect n ns s) k q = cc
not_defined (UpdateTree n p s ss c) k q = cc
not_defined (DeleteTree n p c) k q = cc
not_defined (QueryTree s keys) k q = cc
not_defined StartTree k q = cc
not_defined CommitTree k q = cc
not_defined RollbackTree k q = cc
not_defined (AtTree m) k q = cc
not_defined (PruneTree m) k q = cc
not_defined (OpenTree n) k q = cc
not_defined (ReadTree n s keys) k q = cc
not_defined (CloseTree n) k q = cc

list_stays : (s : State) (b : Bound) → (class_of b ≡ Defines → ⊥) → (effect s b).1.definitions ≡ s.definitions
list_stays s (CreateTable d) h = absurd (h refl)
list_stays s (DropTable i) h = absurd (h refl)
list_stays s (SetClock m) h = refl
list_stays s Start h = refl
list_stays s Commit h = by_open s.transaction
  where
    by_open : (o : Option Entry) → (with_commit s o).definitions ≡ s.definitions
    by_open None = refl
    by_open (Some e) = refl
list_stays s Rollback h = refl
list_stays s (ChangeRows c) h =
    altered_keeps (λ z. z.definitions ≡ s.definitions) s c refl (λ k. by_open s.transaction (changed_entry s c))
  where
    by_open : (o : Option Entry) (e : Entry) → (with_working s o e).definitions ≡ s.definitions
    by_open None e = refl
    by_open (Some x) e = refl
list_stays s (AnswerQuery q) h =
    query_stays (λ z. z.definitions ≡ s.definitions) s q (answer (bag_of s) q) refl
list_stays s (Prune m) h = refl
list_stays s (OpenReader n) h = refl
list_stays s (Read n q) h = query_stays (λ z. z.definitions ≡ s.definitions) s q
    (answer (bag_in s.definitions (pinned_of n s.readers)) q) refl
list_stays s (CloseReader n) h = refl

list_after : (s : State) (x : Piece) (reply : Reply) (mid : State)
    → ((t : Statement) → HasSense x (Says t) → (bind s.definitions t).faults ≡ [] → defines t ≡ false)
    → Answers s x reply mid → mid.definitions ≡ s.definitions
list_after s x reply mid scope (inr e) = ap (λ (z : State). z.definitions) e.1
list_after s x reply mid scope (inl a) = ap (λ (z : Reply × State). z.1.definitions) a.2 ∙ by_sense a.0 a.1
  where
    by_sense : (sense : Sense) → HasSense x sense → (respond_to s sense).1.definitions ≡ s.definitions
    by_sense (Faulty e) h = refl
    by_sense (Says t) h =
        let r = effect s (bind s.definitions t).value in
        unless_either (λ z. z.definitions ≡ s.definitions) (first (statement_faults s t)) s r.0 r.1 refl (λ e.
        let sound = (taken s t e).sound in
        list_stays s (bind s.definitions t).value (λ q. not_defined t (scope t h sound)
        (manner_kept s.definitions t (ap first sound) ∙ q)))

pub scopes_kept : ScopesAreKept
scopes_kept s [] rs h = tt
scopes_kept s (x ∷ xs) [] h = tt
scopes_kept s (x ∷ xs) (r ∷ rs) h = (
  λ t k e. (h x (inl refl) t k e).0,
  λ mid a. scopes_kept mid xs rs
      (subst (λ ds. AreInScopeOf ds xs) (sym (list_after s x r mid (λ t k e. (h x (inl refl) t k e).1) a))
      (λ y n. h y (inr n))),
)

-- ---- the statements that create tables

-- a query changes nothing
asked_stays : (s : State) (q : Query) (o : Option (List Row)) → IsAtStart s → IsAtStart (asked s q o).1
asked_stays s q None h = h
asked_stays s q (Some rows) h = h

-- a statement keeps the history empty and the tables in scope
prepared_stays : (s : State) (t : Statement) → IsTrue (prepares t) → IsAtStart s → (bind s.definitions t).faults ≡ []
    → IsAtStart (effect s (bind s.definitions t).value).1
prepared_stays s (CreateTree n e es versioned) k h z =
    let both = both_true (not (is_empty (application_parts (e ∷ es))))
    (list_all (is_point_constraint (written_names (e ∷ es))) (constraints_of (e ∷ es))) k in
    record {
      tables = creation_in_scope s.definitions n (e ∷ es) versioned
          (no_left (create s.definitions n (e ∷ es) versioned).faults [] z)
          (not_true (is_empty (application_parts (e ∷ es))) both.0) both.1 h.tables;
      uncommitted = ap (map (λ (x : Entry). record x { copy = x.copy ++ [] ∷ [] })) h.uncommitted;
      idle = h.idle;
    }
prepared_stays s (AtTree m) k h z = record { tables = h.tables; uncommitted = h.uncommitted; idle = h.idle }
prepared_stays s (PruneTree m) k h z = record {
  tables = h.tables;
  uncommitted = ap (pruned (or_bad_moment (read_timestamp m)).value) h.uncommitted;
  idle = h.idle;
}
prepared_stays s (DropTree n) k h z = absurd (cc)
prepared_stays s (InsertValues n ns t ts) k h z = absurd (cc)
prepared_stays s (InsertSelect n ns y) k h z = absurd (cc)
prepared_stays s (UpdateTree n p y ss c) k h z = absurd (cc)
prepared_stays s (DeleteTree n p c) k h z = absurd (cc)
prepared_stays s (QueryTree y keys) k h z =
    let q : Query = (select s.definitions y keys).value.query in asked_stays s q (answer (bag_of s) q) h
prepared_stays s (OpenTree n) k h z = record { tables = h.tables; uncommitted = h.uncommitted; idle = h.idle }
prepared_stays s (ReadTree n y keys) k h z =
    let q : Query = (select s.definitions y keys).value.query in
    asked_stays s q (answer (bag_in s.definitions (pinned_of n s.readers)) q) h
prepared_stays s (CloseTree n) k h z = record { tables = h.tables; uncommitted = h.uncommitted; idle = h.idle }
prepared_stays s StartTree k h z = absurd (cc)
prepared_stays s CommitTree k h z = absurd (cc)
prepared_stays s RollbackTree k h z = absurd (cc)

prepared_answer : (s : State) (x : Piece) (reply : Reply) (mid : State)
    → ((t : Statement) → HasSense x (Says t) → IsTrue (prepares t)) → IsAtStart s → Answers s x reply mid
    → IsAtStart mid
prepared_answer s x reply mid scope h (inr e) = subst IsAtStart (sym e.1) h
prepared_answer s x reply mid scope h (inl a) =
    subst IsAtStart (sym (ap (λ (z : Reply × State). z.1) a.2)) (by_sense a.0 a.1)
  where
    by_sense : (sense : Sense) → HasSense x sense → IsAtStart (respond_to s sense).1
    by_sense (Faulty e) y = h
    by_sense (Says t) y = unless_either IsAtStart (first (statement_faults s t)) s
        (effect s (bind s.definitions t).value).0 (effect s (bind s.definitions t).value).1 h
        (λ q. prepared_stays s t (scope t y) h
        (no_right (state_faults s (statement_class t)) (bind s.definitions t).faults
        (no_right (limit_faults s (bind s.definitions t).value)
        (state_faults s (statement_class t) ++ (bind s.definitions t).faults)
        (none_first (statement_faults s t) q))))

prepared_run : (xs : List Piece) (rs : List Reply) (s new : State) → IsAtStart s → ArePreparing xs → Run s xs rs new
    → IsAtStart new
prepared_run [] [] s new h scope run = subst IsAtStart (sym run) h
prepared_run [] (y ∷ rs) s new h scope run = absurd run
prepared_run (x ∷ xs) [] s new h scope run = absurd run
prepared_run (x ∷ xs) (y ∷ rs) s new h scope run =
    prepared_run xs rs run.0 new (prepared_answer s x y run.0 (scope x (inl refl)) h run.1)
    (λ z n. scope z (inr n)) run.2

-- a state without a commit and without a transaction is the initial state of its tables
begins : (s : State) → s.history ≡ [] → s.transaction ≡ None
    → s ≡ record (beginning s.definitions s.next s.horizon) { readers = s.readers }
begins s e f =
    ap (λ h. record s { history = h }) e ∙ ap (λ o. record s { history = []; transaction = o }) f

pub starts_kept : StartsAreKept
starts_kept s pieces rs new h scope run =
    let k = prepared_run pieces rs s new h scope run in (k, begins new k.uncommitted k.idle)

-- ---- the law

-- a run, divided into two parts
record TwoRuns (s : State) (xs ys : List Piece) (rs : List Reply) (new : State) : Type 0 where
  first : List Reply
  later : List Reply
  both : rs ≡ first ++ later
  mid : State
  one : Run s xs first mid
  two : Run mid ys later new

two_runs : (xs ys : List Piece) (rs : List Reply) (s new : State) → Run s (xs ++ ys) rs new → TwoRuns s xs ys rs new
two_runs [] ys rs s new run = record { first = []; later = rs; both = refl; mid = s; one = refl; two = run }
two_runs (x ∷ xs) ys [] s new run = absurd run
two_runs (x ∷ xs) ys (y ∷ rs) s new run =
    let k = two_runs xs ys rs run.0 new run.2 in
    record {
      first = y ∷ k.first;
      later = k.later;
      both = ap (λ zs. y ∷ zs) k.both;
      mid = k.mid;
      one = (run.0, run.1, k.one);
      two = k.two;
    }

pub runs_agree : RunsAgreeAtPoints
runs_agree s pieces rs new run start made others e scope =
    let k = two_runs made others rs s new (subst (λ xs. Run s xs rs new) e run) in
    let h = prepared_run made k.first s k.mid start scope k.one in
    let defs : List TableDef = k.mid.definitions in
    record {
      first = k.first;
      later = k.later;
      both = k.both;
      start = k.mid;
      prepared = k.one;
      at_start = h;
      ran = k.two;
      beside = λ inside. run_beside others k.later k.mid new (machines_of k.mid) h.tables
          (λ p. record {
            definitions = refl;
            definitions_then = refl;
            clock = refl;
            horizon = refl;
            readers = readers_themselves defs p k.mid.readers;
            history = subst (λ (es : List Entry). SameEntries defs p es []) (sym h.uncommitted) tt;
            open_then = subst (λ (o : Option Entry). SameOpen defs p o None) (sym h.idle) tt;
          })
          (record {
            history = subst (λ (es : List Entry). GoodEntries defs es) (sym h.uncommitted) tt;
            open_then = subst (λ (o : Option Entry). GoodOpen defs o) (sym h.idle) tt;
          })
          inside k.two;
    }

-- ---- after earlier runs

-- two runs, the second after the first
run_on : (first : List Piece) (heard : List Reply) (old mid new : State) (more : List Piece) (told : List Reply)
    → Run old first heard mid → Run mid more told new → Run old (first ++ more) (heard ++ told) new
run_on [] [] old mid new more told r k = subst (λ s. Run s more told new) r k
run_on [] (h ∷ hs) old mid new more told r k = absurd r
run_on (f ∷ fs) [] old mid new more told r k = absurd r
run_on (f ∷ fs) (h ∷ hs) old mid new more told (s, a, r) k = (s, a, run_on fs hs s mid new more told r k)

pub runs_agree_behind : RunsAgreeBehind
runs_agree_behind s pieces replies new run old earlier answers led =
    runs_agree old (earlier ++ pieces) (answers ++ replies) new
    (run_on earlier answers old s new pieces replies led run)

-- A run over pieces in scope, seen at each point.
use Rattle.std.proofs.Common.{◌≡◌, ◌<◌, length, arith, refl, sym, ap, subst, ◌∙◌, ℕ, true, false, List, [], ◌∷◌, map}
use Rattle.std.proofs.Common.{◌++◌}
use Rattle.std.proofs.Common.{inl, inr}
use Rattle.std.specs.Prelude.{not, ◌&&◌, nat_lt, ℤ, pos, Option, Some, None}
use Rattle.std.specs.List.{list_all}
use Rattle.std.proofs.lemmas.Bool.Decides.{nat_tests}
use Rattle.tql_spec.specs.Refusal.{Refusal, first}
use Rattle.tql_spec.specs.Definition.{TableDef, table_at}
use Rattle.tql_spec.specs.Machine.{State, Bound, ChangeRows, changed_table, Reply, effect, state_faults, step, replies}
use Rattle.tql_spec.specs.Machine.{unless_refused, limit_faults}
use Rattle.tql_spec.specs.Script.{Piece}
use Rattle.tql_spec.specs.Syntax.{Statement}
use Rattle.tql_spec.specs.Names.{Checked}
use Rattle.tql_spec.specs.Binding.{bind, statement_class}
use Rattle.tql_spec.specs.Run.{Sense, Says, Faulty, HasSense, Run, Answers, respond, respond_to, statement_faults}
use Rattle.tql_spec.proofs.FirstFaults.{none_first, bound_steps}
use Rattle.tql_spec.proofs.Members.{by_bool}
use Rattle.tql_spec.proofs.RunKeeps.{no_right}
use Rattle.tql_points.specs.PointStatement.{statement_at}
use Rattle.tql_points.specs.Scope.{ArePointTables, is_in_scope, is_change_of}
use Rattle.tql_points.specs.PointMachine.{is_refused, after_all, AllTaken, beginning, point_beginning}
use Rattle.tql_points.specs.RunLaw.{IsSenseInScope, ArePiecesInScope, IsFront, AreTaken, RunsReduce}
use Rattle.tql_points.specs.RunLaw.{PiecesGivePeriods, RunRefusalsReduce}
use Rattle.tql_points.specs.RefusalLaw.{gives_periods}
use Rattle.tql_points.proofs.GoodStates.{GoodState, step_good}
use Rattle.tql_points.proofs.Refusals.{to_points, from_points}
use Rattle.tql_points.proofs.Views.{both_true}
use Rattle.tql_points.proofs.PointKeys.{constraints_then}
use Rattle.tql_points.proofs.Readers.{slices_agree}
use Rattle.tql_points.proofs.Related.{Related}
use Rattle.tql_points.proofs.Runs.{alike}
use Rattle.tql_points.proofs.Steps.{refused_stays, step_same}

module _ (defs : List TableDef) (all : ArePointTables defs) where
  -- one answered piece: either refused without a change, or an accepted statement in scope
  pub data OneAnswer (old : State) (x : Piece) (reply : Reply) (mid : State) : Type 0 where
    Kept : is_refused reply ≡ true → mid ≡ old → OneAnswer old x reply mid
    Taken : (t : Statement) → HasSense x (Says t) → (bind defs t).faults ≡ []
        → is_in_scope defs (bind defs t).value ≡ true
        → is_refused reply ≡ false → (reply, mid) ≡ step old (bind defs t).value → OneAnswer old x reply mid

  -- a statement with a fault in its names is refused
  pub faulty : (s : State) (t : Statement) (f : Refusal) → first (bind s.definitions t).faults ≡ Some f
      → (is_refused (respond s t).0 ≡ true) × ((respond s t).1 ≡ s)
  faulty s t f e = by_first (first (statement_faults s t)) refl
    where
      by_first : (o : Option Refusal) → first (statement_faults s t) ≡ o
          → (is_refused (unless_refused o s (effect s (bind s.definitions t).value).0
          (effect s (bind s.definitions t).value).1).0 ≡ true)
          × ((unless_refused o s (effect s (bind s.definitions t).value).0 (effect s (bind s.definitions t).value).1).1
          ≡ s)
      by_first None q =
          let b : Checked Bound = bind s.definitions t in
          let none = no_right (state_faults s (statement_class t)) b.faults
          (no_right (limit_faults s b.value) (state_faults s (statement_class t) ++ b.faults)
          (none_first (statement_faults s t) q)) in
          let never : None ≡ Some f = sym (ap first none) ∙ e in absurd (cc)
      by_first (Some g) q = (refl, refl)

  one_answer : (old : State) (x : Piece) (reply : Reply) (mid : State) → old.definitions ≡ defs
      → ((sense : Sense) → HasSense x sense → IsSenseInScope defs sense) → Answers old x reply mid
      → OneAnswer old x reply mid
  one_answer old x reply mid d scope (inr e) = Kept (ap is_refused e.0) e.1
  one_answer old x reply mid d scope (inl a) = by_sense a.0 a.1 a.2
    where
      by_sense : (sense : Sense) → HasSense x sense → (reply, mid) ≡ respond_to old sense
          → OneAnswer old x reply mid
      by_sense (Faulty e) h q =
          Kept (ap (λ (z : Reply × State). is_refused z.0) q) (ap (λ (z : Reply × State). z.1) q)
      by_sense (Says t) h q = by_faults (first (bind old.definitions t).faults) refl
        where
          by_faults : (o : Option Refusal) → first (bind old.definitions t).faults ≡ o → OneAnswer old x reply mid
          by_faults (Some f) e =
              let k = faulty old t f e in
              Kept (ap (λ (z : Reply × State). is_refused z.0) q ∙ k.0) (ap (λ (z : Reply × State). z.1) q ∙ k.1)
          by_faults None e =
              let same : (reply, mid) ≡ step old (bind defs t).value =
              q ∙ bound_steps old t e ∙ ap (λ ds. step old (bind ds t).value) d in
              let sound : (bind defs t).faults ≡ [] =
              none_first (bind defs t).faults (sym (ap (λ ds. first (bind ds t).faults) d) ∙ e) in
              by_bool (is_refused reply)
              (λ r. Kept r (ap (λ (z : Reply × State). z.1) same
              ∙ refused_stays old (bind defs t).value (sym (ap (λ (z : Reply × State). is_refused z.0) same) ∙ r)))
              (λ r. Taken t h sound (scope (Says t) h sound) r same)

  -- the statements that a run accepts
  abbrev RunTakes : (ℤ → State) → List Piece → List Reply → State → Type 0
  RunTakes others xs rs new =
      (taken : List Bound) × AreTaken defs xs rs taken
      × ((p : ℤ) → AllTaken (others p) (map (statement_at defs p) taken)
      × Related defs p new (after_all (others p) (map (statement_at defs p) taken)))

  run_takes : (xs : List Piece) (rs : List Reply) (s new : State) (others : ℤ → State)
      → ((p : ℤ) → Related defs p s (others p))
      → ArePiecesInScope defs xs → Run s xs rs new → RunTakes others xs rs new
  run_takes [] [] s new others r scope run =
      ([], refl, λ p. (refl, subst (λ z. Related defs p z (others p)) (sym run) (r p)))
  run_takes [] (y ∷ rs) s new others r scope run = absurd run
  run_takes (x ∷ xs) [] s new others r scope run = absurd run
  run_takes (x ∷ xs) (y ∷ rs) s new others r scope run =
      by_answer (one_answer s x y run.0 (r (pos 0)).definitions (λ sense h. scope x (inl refl) sense h) run.1)
      (λ states related. run_takes xs rs run.0 new states related (λ z n. scope z (inr n)) run.2)
    where
      by_answer : OneAnswer s x y run.0
          → ((states : ℤ → State) → ((p : ℤ) → Related defs p run.0 (states p)) → RunTakes states xs rs new)
          → RunTakes others (x ∷ xs) (y ∷ rs) new
      by_answer (Kept e q) rest =
          let k = rest others (λ p. subst (λ z. Related defs p z (others p)) (sym q) (r p)) in
          (k.0, subst (λ b. IsFront defs x b (AreTaken defs xs rs) k.0) (sym e) k.1, k.2)
      by_answer (Taken t h sound scoped e same) rest =
          let b : Bound = (bind defs t).value in
          let open_then : is_refused (step s b).0 ≡ false = sym (ap (λ (z : Reply × State). is_refused z.0) same) ∙ e in
          let kept = λ (p : ℤ). step_same defs all p (constraints_then defs all p) s (others p) (r p) b scoped open_then
          in
          let k = rest (λ p. (step (others p) (statement_at defs p b)).1)
          (λ p. subst (λ z. Related defs p z (step (others p) (statement_at defs p b)).1)
          (sym (ap (λ (z : Reply × State). z.1) same)) (kept p).1) in (
            b ∷ k.0,
            subst (λ c. IsFront defs x c (AreTaken defs xs rs) (b ∷ k.0)) (sym e) (t, k.0, h, refl, k.1),
            λ p. (
              ap (λ c. not c && list_all (λ v. not (is_refused v))
                  (replies (step (others p) (statement_at defs p b)).1 (map (statement_at defs p) k.0))) (kept p).0
                  ∙ (k.2 p).0,
              (k.2 p).1,
            ),
          )

  -- after a run, the rows are good
  run_good : (xs : List Piece) (rs : List Reply) (s new other : State) → (p : ℤ) → Related defs p s other
      → GoodState defs s
      → ArePiecesInScope defs xs → PiecesGivePeriods defs xs → Run s xs rs new → GoodState defs new
  run_good [] [] s new other p r g scope gives run = subst (GoodState defs) (sym run) g
  run_good [] (y ∷ rs) s new other p r g scope gives run = absurd run
  run_good (x ∷ xs) [] s new other p r g scope gives run = absurd run
  run_good (x ∷ xs) (y ∷ rs) s new other p r g scope gives run =
      by_answer (one_answer s x y run.0 r.definitions (λ sense h. scope x (inl refl) sense h) run.1)
      (λ other' related good. run_good xs rs run.0 new other' p related good (λ z n. scope z (inr n))
      (λ z n. gives z (inr n)) run.2)
    where
      by_answer : OneAnswer s x y run.0
          → ((other' : State) → Related defs p run.0 other' → GoodState defs run.0 → GoodState defs new)
          → GoodState defs new
      by_answer (Kept e q) rest =
          rest other (subst (λ z. Related defs p z other) (sym q) r) (subst (GoodState defs) (sym q) g)
      by_answer (Taken t h sound scoped e same) rest =
          let b : Bound = (bind defs t).value in
          let open_then : is_refused (step s b).0 ≡ false = sym (ap (λ (z : Reply × State). is_refused z.0) same) ∙ e in
          let there = ap (λ (z : Reply × State). z.1) same in
          rest (step other (statement_at defs p b)).1
          (subst (λ z. Related defs p z (step other (statement_at defs p b)).1) (sym there)
          (step_same defs all p (constraints_then defs all p) s other r b scoped open_then).1)
          (subst (GoodState defs) (sym there)
          (step_good defs all p s other r g b scoped (gives x (inl refl) t h sound)))

pub runs_reduce : RunsReduce
runs_reduce defs next horizon pieces rs new all scope run =
    let k = run_takes defs all pieces rs (beginning defs next horizon) new (λ p. point_beginning defs next horizon)
    (alike defs next horizon)
    scope run in (
      k.0,
      k.1,
      λ p. record {
        all = (k.2 p).0;
        slices = slices_agree defs p new
            (after_all (point_beginning defs next horizon) (map (statement_at defs p) k.0)) (k.2 p).1;
      },
    )

pub run_refusals_reduce : RunRefusalsReduce
run_refusals_reduce defs next horizon pieces rs new all scope gives run =
    let k = run_takes defs all pieces rs (beginning defs next horizon) new (λ p. point_beginning defs next horizon)
    (alike defs next horizon)
    scope run in
    let good = run_good defs all pieces rs (beginning defs next horizon) new (point_beginning defs next horizon) (pos 0)
    (alike defs next horizon (pos 0))
    (record { history = tt; open_then = tt }) scope gives run in
    let others : ℤ → State = λ p. after_all (point_beginning defs next horizon) (map (statement_at defs p) k.0) in (
      k.0,
      k.1,
      λ t c e sound is both.
          let s = both_true (is_in_scope defs (ChangeRows c)) (gives_periods defs (ChangeRows c)) both in
          let y = both_true (nat_lt (changed_table c) (length defs)) (is_change_of (table_at defs (changed_table c)) c)
          s.0 in
          let d = (k.2 (pos 0)).1.definitions in
          let same : respond new t ≡ step new (ChangeRows c) =
          bound_steps new t (ap (λ ds. first (bind ds t).faults) d ∙ ap first sound)
          ∙ ap (λ ds. step new (bind ds t).value) d ∙ ap (step new) is in (
            λ x. let h = to_points defs all new others (λ p. (k.2 p).1) good c (below y.0) y.1 s.1 e
                (sym (ap (λ (z : Reply × State). z.0) same) ∙ x) in
                record { point = h.point; refused = h.refused; first = h.least },
            λ h. ap (λ (z : Reply × State). z.0) same
                ∙ from_points defs all new others (λ p. (k.2 p).1) good c (below y.0) y.1 s.1 s.0 e
                (record { point = h.point; refused = h.refused; least = h.first }),
          ),
    )
  where
    below : {n : ℕ} → nat_lt n (length defs) ≡ true → n < length defs
    below {n} q = grind (arith, nat_tests, q)

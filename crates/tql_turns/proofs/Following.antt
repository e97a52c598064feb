-- Runs that follow earlier runs, compared with the models of all points.
use Rattle.std.proofs.Common.{◌≡◌, refl, sym, ap, subst, ◌∙◌, arith, List, [], ◌∷◌, ◌++◌, length, inl, inr}
use Rattle.tql_spec.specs.Definition.{TableDef}
use Rattle.tql_spec.specs.Machine.{State, Reply, Done, Table, Refused}
use Rattle.tql_spec.specs.Meaning.{SensesAreOne}
use Rattle.tql_spec.specs.Refusal.{OutOfMemory}
use Rattle.tql_spec.specs.Run.{Sense, Says, Answers, Run, respond_to}
use Rattle.tql_spec.specs.Script.{Piece}
use Rattle.tql_spec.specs.Binding.{bind}
use Rattle.tql_spec.specs.Syntax.{Statement}
use Rattle.tql_spec.proofs.Laws.{respond_keeps}
use Rattle.tql_points.specs.PointRun.{PointMachines, machines_of, after_each, GoAlong, RunsBeside, AreInScope}
use Rattle.tql_points.specs.PointRun.{ArePreparing, IsAtStart}
use Rattle.tql_points.proofs.PointRuns.{runs_agree}
use Rattle.tql_turns.specs.Following.{AgreesAlone, RunsAreDivided, RunsAreJoined, ModelsGoOn}

-- two runs, the second after the first
pub run_on : (first : List Piece) (heard : List Reply) (old mid new : State) (more : List Piece) (told : List Reply)
    → Run old first heard mid → Run mid more told new → Run old (first ++ more) (heard ++ told) new
run_on [] [] old mid new more told r k = subst (λ s. Run s more told new) r k
run_on [] (h ∷ hs) old mid new more told r k = absurd r
run_on (f ∷ fs) [] old mid new more told r k = absurd r
run_on (f ∷ fs) (h ∷ hs) old mid new more told (s, a, r) k = (s, a, run_on fs hs s mid new more told r k)

pub agrees_alone : AgreesAlone
agrees_alone s pieces replies new h = h s [] [] refl

-- ---- dividing and joining

pub runs_are_divided : RunsAreDivided
runs_are_divided s new machines after [] ys [] qs e run =
    record { mid = s; between = machines; one = (refl, refl); two = run }
runs_are_divided s new machines after [] ys (r ∷ rs) qs e run = absurd (cc)
runs_are_divided s new machines after (x ∷ xs) ys [] qs e run = absurd (cc)
runs_are_divided s new machines after (x ∷ xs) ys (r ∷ rs) qs e (mid, next, a, g, slices, rest) =
    let k = runs_are_divided mid new next after xs ys rs qs (omega (arith, e)) rest in
    record { mid = k.mid; between = k.between; one = (mid, next, a, g, slices, k.one); two = k.two }

joined : (s mid new : State) (machines between after : PointMachines) (xs ys : List Piece)
    (rs qs : List Reply) → RunsBeside s machines xs rs mid between → RunsBeside mid between ys qs new after
    → RunsBeside s machines (xs ++ ys) (rs ++ qs) new after
joined s mid new machines between after [] ys [] qs (e, f) two =
    subst (λ z. RunsBeside z machines ys qs new after) e
    (subst (λ m. RunsBeside mid m ys qs new after) f two)
joined s mid new machines between after [] ys (r ∷ rs) qs one two = absurd one
joined s mid new machines between after (x ∷ xs) ys [] qs one two = absurd one
joined s mid new machines between after (x ∷ xs) ys (r ∷ rs) qs (z, next, a, g, slices, rest) two =
    (z, next, a, g, slices, joined z mid new next between after xs ys rs qs rest two)

pub runs_are_joined : RunsAreJoined
runs_are_joined s new machines after xs ys rs qs k =
    joined s k.mid new machines k.between after xs ys rs qs k.one k.two

-- a run next to the models is a run, with as many replies as pieces
run_of : (s new : State) (machines after : PointMachines) (xs : List Piece) (rs : List Reply)
    → RunsBeside s machines xs rs new after → Run s xs rs new
run_of s new machines after [] [] run = run.0
run_of s new machines after [] (r ∷ rs) run = absurd run
run_of s new machines after (x ∷ xs) [] run = absurd run
run_of s new machines after (x ∷ xs) (r ∷ rs) (mid, next, a, g, slices, rest) =
    (mid, a, run_of mid new next after xs rs rest)

even : (s new : State) (machines after : PointMachines) (xs : List Piece) (rs : List Reply)
    → RunsBeside s machines xs rs new after → length rs ≡ length xs
even s new machines after [] [] run = refl
even s new machines after [] (r ∷ rs) run = absurd run
even s new machines after (x ∷ xs) [] run = absurd run
even s new machines after (x ∷ xs) (r ∷ rs) (mid, next, a, g, slices, rest) =
    let k = even mid new next after xs rs rest in omega (arith, k)

-- ---- models that go on

module _ (one : SensesAreOne) where
  -- two answers with the same reply leave the same state
  one_after : (old new new' : State) (p : Piece) (r : Reply) → Answers old p r new → Answers old p r new' → new ≡ new'
  one_after old new new' p r (inl (a, h, e)) (inl (b, k, f)) =
      ap (λ (x : Reply × State). x.1) (e ∙ ap (respond_to old) (one p a b h k) ∙ sym f)
  one_after old new new' p r (inl (a, h, e)) (inr k) =
      ap (λ (x : Reply × State). x.1) e
      ∙ respond_keeps old a OutOfMemory (sym (ap (λ (x : Reply × State). x.0) e) ∙ k.0) ∙ sym k.1
  one_after old new new' p r (inr h) (inl (b, k, f)) =
      h.1 ∙ sym (ap (λ (x : Reply × State). x.1) f
      ∙ respond_keeps old b OutOfMemory (sym (ap (λ (x : Reply × State). x.0) f) ∙ h.0))
  one_after old new new' p r (inr h) (inr k) = h.1 ∙ sym k.1

  -- a piece says at most one statement
  said : (t u : Statement) → ◌≡◌ {A = Sense} (Says t) (Says u) → t ≡ u
  said t u e = cc

  -- the models follow a reply in one way
  one_way : (defs : List TableDef) (old new new' : PointMachines) (x : Piece) (r : Reply) → GoAlong defs old x r new
      → GoAlong defs old x r new' → new ≡ new'
  one_way defs old new new' x (Done verb count) (t, h, n, e) (u, k, m, f) =
      e ∙ ap (λ (v : Statement). after_each defs old (bind defs v).value) (said t u (one x (Says t) (Says u) h k))
      ∙ sym f
  one_way defs old new new' x (Table headings rows) e f = e ∙ sym f
  one_way defs old new new' x (Refused e) k l = k.0 ∙ sym l.0

  -- two runs with the same replies end in the same state, next to the same models
  one_end : (s new new' : State) (machines after after' : PointMachines) (xs : List Piece) (rs : List Reply)
      → RunsBeside s machines xs rs new after → RunsBeside s machines xs rs new' after'
      → (new ≡ new') × (after ≡ after')
  one_end s new new' machines after after' [] [] k l = (k.0 ∙ sym l.0, k.1 ∙ sym l.1)
  one_end s new new' machines after after' [] (r ∷ rs) k l = absurd k
  one_end s new new' machines after after' (x ∷ xs) [] k l = absurd k
  one_end s new new' machines after after' (x ∷ xs) (r ∷ rs) (mid, next, a, g, slices, rest)
      (mid', next', a', g', slices', rest') =
      one_end mid' new new' next' after after' xs rs
      (subst (λ m. RunsBeside mid' m xs rs new after) (one_way s.definitions machines next next' x r g g')
      (subst (λ z. RunsBeside z next xs rs new after) (one_after s mid mid' x r a a') rest)) rest'

  -- pieces in scope, and more from where they led, are in scope together
  scope_on : (s mid : State) (machines between : PointMachines) (xs ys : List Piece) (rs qs : List Reply)
      → RunsBeside s machines xs rs mid between → AreInScope s xs rs → AreInScope mid ys qs
      → AreInScope s (xs ++ ys) (rs ++ qs)
  scope_on s mid machines between [] ys [] qs run first later = subst (λ z. AreInScope z ys qs) run.0 later
  scope_on s mid machines between [] ys (r ∷ rs) qs run first later = absurd run
  scope_on s mid machines between (x ∷ xs) ys [] qs run first later = absurd run
  scope_on s mid machines between (x ∷ xs) ys (r ∷ rs) qs (z, next, a, g, slices, rest) first later = (
    first.0,
    λ other b. subst (λ v. AreInScope v (xs ++ ys) (rs ++ qs)) (one_after s z other x r a b)
        (scope_on z mid next between xs ys rs qs rest (first.1 z a) later),
  )

-- nothing creates no table
none_made : ArePreparing []
none_made x m t h = absurd m

-- a run over nothing
bare : (x start : State) (first : List Reply) → Run x [] first start → (first ≡ []) × (start ≡ x)
bare x start [] e = (refl, e)
bare x start (r ∷ rs) e = absurd e

-- a run from tables in scope without a commit goes next to the models
beside_all : (start new : State) (xs : List Piece) (rs : List Reply) → IsAtStart start → AreInScope start xs rs
    → Run start xs rs new → (after : PointMachines) × RunsBeside start (machines_of start) xs rs new after
beside_all start new xs rs h scope run =
    let r = runs_agree start xs rs new run h [] xs refl none_made in
    let b = bare start r.start r.first r.prepared in
    let later : r.later ≡ rs = ap (λ (zs : List Reply). zs ++ r.later) (sym b.0) ∙ sym r.both in
    let beside : (after : PointMachines) × RunsBeside r.start (machines_of r.start) xs r.later new after =
    r.beside (subst (λ (zs : List Reply). AreInScope r.start xs zs) (sym later)
    (subst (λ (z : State). AreInScope z xs rs) (sym b.1) scope)) in
    subst (λ (zs : List Reply). (after : PointMachines) × RunsBeside start (machines_of start) xs zs new after) later
    (subst (λ (z : State). (after : PointMachines) × RunsBeside z (machines_of z) xs r.later new after) b.1 beside)

pub models_go_on : ModelsGoOn
models_go_on one s machines k pieces replies new scope run =
    let there : Run k.start (k.pieces ++ pieces) (k.replies ++ replies) new =
    run_on k.pieces k.replies k.start s new pieces replies
    (run_of k.start s (machines_of k.start) machines k.pieces k.replies k.ran) run in
    let whole = scope_on one k.start s (machines_of k.start) machines k.pieces pieces k.replies replies k.ran k.scope
    scope in
    let b = beside_all k.start new (k.pieces ++ pieces) (k.replies ++ replies) k.at_start whole there in
    let c = runs_are_divided k.start new (machines_of k.start) b.0 k.pieces pieces k.replies replies
    (even k.start s (machines_of k.start) machines k.pieces k.replies k.ran) b.1 in
    let same = one_end one k.start c.mid s (machines_of k.start) c.between machines k.pieces k.replies c.one k.ran in
    record {
      after = b.0;
      beside = subst (λ m. RunsBeside s m pieces replies new b.0) same.1
          (subst (λ z. RunsBeside z c.between pieces replies new b.0) same.0 c.two);
      reached = record {
        start = k.start;
        at_start = k.at_start;
        pieces = k.pieces ++ pieces;
        replies = k.replies ++ replies;
        scope = whole;
        ran = b.1;
      };
    }

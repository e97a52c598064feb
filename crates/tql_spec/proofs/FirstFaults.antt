-- The first fault of joined lists, and of bound statements.
use Rattle.std.specs.Prelude.{◌≡◌, refl, ℤ, Bool, true, false, nat_lt, List, [], ◌∷◌, ◌++◌, Option, Some, None, ◌⊎◌}
use Rattle.std.proofs.Common.{sym, ap, ◌∙◌, arith, append-nil, inl, inr}
use Rattle.std.proofs.lemmas.Bool.Decides.{nat_tests}
use Rattle.tql_spec.specs.Calendar.{read_timestamp}
use Rattle.tql_spec.specs.Refusal.{Refusal, place, earlier, first}
use Rattle.tql_spec.specs.Definition.{TableDef}
use Rattle.tql_spec.specs.Machine.{State, Reply, Bound, StatementClass, SetsClock, class_of, state_faults, effect, step}
use Rattle.tql_spec.specs.Machine.{unless_refused, Prunes, limit_faults}
use Rattle.tql_spec.specs.Syntax.{Statement, CreateTree, DropTree, InsertValues, InsertSelect, UpdateTree, DeleteTree}
use Rattle.tql_spec.specs.Syntax.{QueryTree, StartTree, CommitTree, RollbackTree, AtTree, PruneTree}
use Rattle.tql_spec.specs.Syntax.{OpenTree, ReadTree, CloseTree}
use Rattle.tql_spec.specs.Binding.{bind, statement_class, or_bad_moment}
use Rattle.tql_spec.specs.Run.{respond}

-- the earlier of two faults, if there is one
abbrev pub sooner : Option Refusal → Option Refusal → Option Refusal
sooner None o = o
sooner (Some a) o = Some (earlier a o)

-- taking the earlier of three faults is associative
pick : (a b c : Refusal) (x y z : Bool) → nat_lt (place b) (place a) ≡ x → nat_lt (place c) (place b) ≡ y
    → nat_lt (place c) (place a) ≡ z
    → earlier a (Some (earlier b (Some c))) ≡ earlier (earlier a (Some b)) (Some c)
pick a b c true true true e f g = rw e (rw f (rw g refl))
pick a b c true true false e f g = absurd (grind (arith, nat_tests))
pick a b c true false z e f g = rw f (rw e (rw f refl))
pick a b c false true true e f g = rw f (rw e (rw g refl))
pick a b c false true false e f g = rw f (rw e (rw g refl))
pick a b c false false true e f g = absurd (grind (arith, nat_tests))
pick a b c false false false e f g = rw f (rw e (rw g refl))

behind : (a : Refusal) (p q : Option Refusal) → Some (earlier a (sooner p q)) ≡ sooner (Some (earlier a p)) q
behind a None q = refl
behind a (Some b) None = refl
behind a (Some b) (Some c) = ap (λ (r : Refusal). Some r) (pick a b c _ _ _ refl refl refl)

pub first_append : (xs ys : List Refusal) → first (xs ++ ys) ≡ sooner (first xs) (first ys)
first_append [] ys = refl
first_append (x ∷ xs) ys = ap (λ (o : Option Refusal). Some (earlier x o)) (first_append xs ys)
    ∙ behind x (first xs) (first ys)

-- one more fault is the first, or does not change the first
pub one_more : (xs : List Refusal) (e : Refusal) (ys : List Refusal)
    → (first (xs ++ e ∷ ys) ≡ Some e) ⊎ (first (xs ++ e ∷ ys) ≡ first (xs ++ ys))
one_more xs e ys = either (first xs) (first ys) (first_append xs (e ∷ ys)) (first_append xs ys)
  where
    by_tests : (a y : Refusal) (p q r : Bool) → nat_lt (place y) (place e) ≡ p → nat_lt (place e) (place a) ≡ q
        → nat_lt (place y) (place a) ≡ r
        → (earlier a (Some (earlier e (Some y))) ≡ e) ⊎ (earlier a (Some (earlier e (Some y))) ≡ earlier a (Some y))
    by_tests a y true q r f g h = inr (rw f refl)
    by_tests a y false true r f g h = inl (rw f (rw g refl))
    by_tests a y false false true f g h = absurd (grind (arith, nat_tests))
    by_tests a y false false false f g h = inr (rw f (rw g (rw h refl)))

    by_one : (y : Refusal) (p : Bool) → nat_lt (place y) (place e) ≡ p
        → (earlier e (Some y) ≡ e) ⊎ (earlier e (Some y) ≡ y)
    by_one y true f = inr (rw f refl)
    by_one y false f = inl (rw f refl)

    by_last : (a : Refusal) (p : Bool) → nat_lt (place e) (place a) ≡ p
        → (earlier a (Some e) ≡ e) ⊎ (earlier a (Some e) ≡ a)
    by_last a true f = inl (rw f refl)
    by_last a false f = inr (rw f refl)

    some : (x y : Refusal) → x ≡ y → Some x ≡ Some y
    some x y q = ap (λ (r : Refusal). Some r) q

    either : (o p : Option Refusal) → first (xs ++ e ∷ ys) ≡ sooner o (Some (earlier e p))
        → first (xs ++ ys) ≡ sooner o p
        → (first (xs ++ e ∷ ys) ≡ Some e) ⊎ (first (xs ++ e ∷ ys) ≡ first (xs ++ ys))
    either None None q r = inl q
    either None (Some y) q r = elim (by_one y _ refl) [
      | inl k ↦ inl (q ∙ some _ _ k)
      | inr k ↦ inr (q ∙ some _ _ k ∙ sym r)
    ]
    either (Some a) None q r = elim (by_last a _ refl) [
      | inl k ↦ inl (q ∙ some _ _ k)
      | inr k ↦ inr (q ∙ some _ _ k ∙ sym r)
    ]
    either (Some a) (Some y) q r = elim (by_tests a y _ _ _ refl refl refl) [
      | inl k ↦ inl (q ∙ some _ _ k)
      | inr k ↦ inr (q ∙ some _ _ k ∙ sym r)
    ]

-- a list without a first fault is empty
pub none_first : (xs : List Refusal) → first xs ≡ None → xs ≡ []
none_first [] e = refl
none_first (x ∷ xs) e = absurd (cc)

-- ---- bound statements

read_some : (m : Option ℤ) → first (or_bad_moment m).faults ≡ None
    → SetsClock m ≡ SetsClock (Some (or_bad_moment m).value)
read_some None e = absurd (cc)
read_some (Some m) e = refl

read_prunes : (m : Option ℤ) → first (or_bad_moment m).faults ≡ None
    → Prunes m ≡ Prunes (Some (or_bad_moment m).value)
read_prunes None e = absurd (cc)
read_prunes (Some m) e = refl

-- a statement without a fault has the class of its bound statement
pub manner_kept : (defs : List TableDef) (t : Statement) → first (bind defs t).faults ≡ None
    → statement_class t ≡ class_of (bind defs t).value
manner_kept defs (CreateTree n e es versioned) k = refl
manner_kept defs (DropTree n) k = refl
manner_kept defs (InsertValues n ns t ts) k = refl
manner_kept defs (InsertSelect n ns s) k = refl
manner_kept defs (UpdateTree n p s ss c) k = refl
manner_kept defs (DeleteTree n p c) k = refl
manner_kept defs (QueryTree s keys) k = refl
manner_kept defs StartTree k = refl
manner_kept defs CommitTree k = refl
manner_kept defs RollbackTree k = refl
manner_kept defs (AtTree m) k =
    read_some (read_timestamp m) (sym (ap first (append-nil (or_bad_moment (read_timestamp m)).faults)) ∙ k)
manner_kept defs (PruneTree m) k =
    read_prunes (read_timestamp m) (sym (ap first (append-nil (or_bad_moment (read_timestamp m)).faults)) ∙ k)
manner_kept defs (OpenTree n) k = refl
manner_kept defs (ReadTree n s keys) k = refl
manner_kept defs (CloseTree n) k = refl

-- the reply to a statement without a fault of names is a step of its bound statement
pub bound_steps : (s : State) (t : Statement) → first (bind s.definitions t).faults ≡ None
    → respond s t ≡ step s (bind s.definitions t).value
bound_steps s t k =
    let b : Bound = (bind s.definitions t).value in
    let r : Reply × State = effect s b in
    let limits : List Refusal = limit_faults s b in
    let none = none_first (bind s.definitions t).faults k in
    ap (λ (fs : List Refusal). unless_refused (first (limits ++ (state_faults s (statement_class t) ++ fs))) s r.0 r.1)
    none
    ∙ ap (λ (fs : List Refusal). unless_refused (first (limits ++ fs)) s r.0 r.1)
    (append-nil (state_faults s (statement_class t)))
    ∙ ap (λ (m : StatementClass). unless_refused (first (limits ++ state_faults s m)) s r.0 r.1)
    (manner_kept s.definitions t k)

-- A property that each statement preserves is preserved by a run.
use Rattle.std.proofs.Common.{◌≡◌, refl, sym, ap, subst, List, [], ◌∷◌, ◌++◌, inl, inr}
use Rattle.std.specs.Prelude.{Option, Some, None, slice_set}
use Rattle.tql_spec.specs.Refusal.{Refusal, first}
use Rattle.tql_spec.specs.Datum.{Row}
use Rattle.tql_spec.specs.Query.{Query}
use Rattle.tql_spec.specs.Change.{Outcome}
use Rattle.tql_spec.specs.History.{Copy, Entry}
use Rattle.tql_spec.specs.Machine.{State, Reply, Done, Change, effect, unless_refused, asked, changed, class_of}
use Rattle.tql_spec.specs.Machine.{state_faults, working, with_working, outcome, changed_table, constraint_faults}
use Rattle.tql_spec.specs.Machine.{verb_of, Bound, limit_faults}
use Rattle.tql_spec.specs.Script.{Piece}
use Rattle.tql_spec.specs.Syntax.{Statement}
use Rattle.tql_spec.specs.Names.{Checked}
use Rattle.tql_spec.specs.Binding.{bind, statement_class}
use Rattle.tql_spec.specs.Run.{Sense, Says, Faulty, Answers, Run, respond_to, statement_faults}
use Rattle.tql_spec.proofs.FirstFaults.{none_first, manner_kept}

-- if a joined list is empty, its first part is empty
pub no_left : {X : Type 0} (xs ys : List X) → xs ++ ys ≡ [] → xs ≡ []
no_left [] ys e = refl
no_left (x ∷ xs) ys e = absurd (cc)

-- if a joined list is empty, its second part is empty
pub no_right : {X : Type 0} (xs ys : List X) → xs ++ ys ≡ [] → ys ≡ []
no_right [] ys e = e
no_right (x ∷ xs) ys e = absurd (cc)

-- a property of the old state is preserved if it holds for the new state when there is no refusal
pub unless_either : (P : State → Type 0) (o : Option Refusal) (old : State) (reply : Reply) (new : State) → P old
    → (o ≡ None → P new) → P (unless_refused o old reply new).1
unless_either P None old reply new p q = q refl
unless_either P (Some e) old reply new p q = p

-- a query does not change the state
pub asked_stays : (P : State → Type 0) (s : State) (q : Query) (o : Option (List Row)) → P s → P (asked s q o).1
asked_stays P s q None p = p
asked_stays P s q (Some rows) p = p

-- the working copy after a change
abbrev pub changed_copy : State → Change → Copy
changed_copy s c =
    let e = working s s.transaction in
    let o = outcome s e.moment e.copy c in
    slice_set e.copy (changed_table c) o.rows

-- a change without a fault, after which keys and references hold
pub record IsChange (s : State) (c : Change) : Type 0 where
  pub sound : (outcome s (working s s.transaction).moment (working s s.transaction).copy c).faults ≡ []
  pub holds : constraint_faults s.definitions (changed_copy s c) ≡ []

-- the entry after a change
abbrev pub changed_entry : State → Change → Entry
changed_entry s c = record { moment = (working s s.transaction).moment; copy = changed_copy s c }

-- a change preserves a property if the change without a fault does
pub altered_keeps : (P : State → Type 0) (s : State) (c : Change) → P s
    → (IsChange s c → P (with_working s s.transaction (changed_entry s c))) → P (changed s c).1
altered_keeps P s c p k =
    let e : Entry = working s s.transaction in
    let o : Outcome = outcome s e.moment e.copy c in
    let copy : Copy = changed_copy s c in
    unless_either P (first (o.faults ++ constraint_faults s.definitions copy)) s (Done (verb_of c) (Some o.count))
    (with_working s s.transaction (changed_entry s c)) p
    (λ q. let none = none_first (o.faults ++ constraint_faults s.definitions copy) q in
    k (record {
      sound = no_left o.faults (constraint_faults s.definitions copy) none;
      holds = no_right o.faults
          (constraint_faults s.definitions copy) none;
    }))

-- a statement is accepted: no fault by names, by the state or by its limits
pub record IsTaken (s : State) (t : Statement) : Type 0 where
  pub sound : (bind s.definitions t).faults ≡ []
  pub free : state_faults s (class_of (bind s.definitions t).value) ≡ []
  pub within : limit_faults s (bind s.definitions t).value ≡ []

-- a statement without any fault is accepted
pub taken : (s : State) (t : Statement) → first (statement_faults s t) ≡ None → IsTaken s t
taken s t e =
    let b : Checked Bound = bind s.definitions t in
    let limits : List Refusal = limit_faults s b.value in
    let none = none_first (statement_faults s t) e in
    let rest = no_right limits (state_faults s (statement_class t) ++ b.faults) none in
    let sound = no_right (state_faults s (statement_class t)) b.faults rest in
    record {
      sound = sound;
      free = subst (λ m. state_faults s m ≡ []) (manner_kept s.definitions t (ap first sound))
          (no_left (state_faults s (statement_class t)) b.faults rest);
      within = no_left limits (state_faults s (statement_class t) ++ b.faults) none;
    }

-- the effect of each accepted statement preserves the property
abbrev pub EffectKeeps : (State → Type 0) → Type 0
EffectKeeps P = (s : State) (t : Statement) → IsTaken s t → P s → P (effect s (bind s.definitions t).value).1

-- a reply preserves a property that each effect preserves
pub answer_keeps : (P : State → Type 0) → EffectKeeps P → (s : State) (sense : Sense) → P s → P (respond_to s sense).1
answer_keeps P k s (Faulty e) p = p
answer_keeps P k s (Says t) p =
    let r = effect s (bind s.definitions t).value in
    unless_either P (first (statement_faults s t)) s r.0 r.1 p (λ e. k s t (taken s t e) p)

-- a run preserves a property that each effect preserves; used by the laws of reached states
pub run_keeps : (P : State → Type 0) → EffectKeeps P
    → (old : State) (pieces : List Piece) (replies : List Reply) (new : State) → Run old pieces replies new → P old
    → P new
run_keeps P k old [] [] new r p = subst P (sym r) p
run_keeps P k old [] (x ∷ xs) new r p = absurd r
run_keeps P k old (p' ∷ ps) [] new r p = absurd r
run_keeps P k old (p' ∷ ps) (x ∷ xs) new r p = run_keeps P k r.0 ps xs new r.2 (one r.1)
  where
    one : Answers old p' x r.0 → P r.0
    one (inl a) = subst P (sym (ap (λ (y : Reply × State). y.1) a.2)) (answer_keeps P k old a.0 p)
    one (inr e) = subst P (sym e.1) p

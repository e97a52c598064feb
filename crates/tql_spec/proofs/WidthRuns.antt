-- The generated columns of created tables, and rows that fit their tables in every state that a run reaches.
use Rattle.std.proofs.Common.{◌≡◌, ◌<◌, refl, sym, ap, subst, ◌∙◌, ℕ, zero, suc, Bool, true, false, List, [], ◌∷◌, ◌++◌}
use Rattle.std.proofs.Common.{map, get_or, length, inl, inr, arith}
use Rattle.std.specs.Prelude.{◌||◌, not, remove, slice_set, ℤ, Option, Some, None, if◌then◌else◌}
use Rattle.std.proofs.lemmas.List.{length-map}
use Rattle.std.proofs.Math.ListN.{get_or-append}
use Rattle.tql_spec.specs.Words.{same_text, listed}
use Rattle.tql_spec.specs.Bag.{In}
use Rattle.tql_spec.specs.Datum.{Moments, same_kind}
use Rattle.tql_spec.specs.Refusal.{Refusal, TypesDoNotFit, FormNotAllowedHere, fault_if}
use Rattle.tql_spec.specs.Definition.{Name, TableDef, Stamped, no_table, table_at, next_place}
use Rattle.tql_spec.specs.History.{Copy, Entry, rows_in}
use Rattle.tql_spec.specs.Syntax.{Element, Statement, CreateTree, DropTree, InsertValues, InsertSelect, UpdateTree}
use Rattle.tql_spec.specs.Syntax.{DeleteTree, QueryTree, StartTree, CommitTree, RollbackTree, AtTree, PruneTree}
use Rattle.tql_spec.specs.Names.{Checked, check_each}
use Rattle.tql_spec.specs.Creation.{PeriodPart, application_parts, system_parts, application_period, system_period}
use Rattle.tql_spec.specs.Creation.{whole_faults, column_names, columns_of, column_number, number_in, or_first, kind_in}
use Rattle.tql_spec.specs.Creation.{has_number, starts, stops, first_of, create}
use Rattle.tql_spec.specs.Machine.{State, Bound, CreateTable, DropTable, SetClock, Start, Commit, Rollback, ChangeRows}
use Rattle.tql_spec.specs.Machine.{AnswerQuery}
use Rattle.tql_spec.specs.Machine.{Change, outcome, changed_table, class_of, state_faults, effect, newest_copy}
use Rattle.tql_spec.specs.Machine.{new_state, Prune}
use Rattle.tql_spec.specs.Machine.{OpenReader, Read, CloseReader}
use Rattle.tql_spec.specs.Syntax.{OpenTree, ReadTree, CloseTree}
use Rattle.tql_spec.specs.Binding.{bind}
use Rattle.tql_spec.specs.Reached.{Fits, CopiesFit, RowsFit, ReachedFit}
use Rattle.tql_spec.proofs.Members.{by_bool}
use Rattle.tql_spec.proofs.MemberLists.{in_image}
use Rattle.tql_spec.proofs.RunKeeps.{no_left, no_right, asked_stays, changed_entry, altered_keeps, EffectKeeps}
use Rattle.tql_spec.proofs.RunKeeps.{run_keeps}
use Rattle.tql_spec.proofs.InOrder.{state, no_fault}
use Rattle.tql_spec.proofs.Constraints.{same_text-self, same_text-is}
use Rattle.tql_spec.proofs.Copies.{rows_more, skip, removed_at, rows_set, no_rows, keeps_fit, in_entries}
use Rattle.tql_spec.proofs.Widths.{IsPair, IsProper, Sound, AllFit, change_fits}

-- ---- the generated columns of a new table

-- the name is at index i of the list
pub record IsAt (n : Name) (names : List Name) (i : ℕ) : Type 0 where
  pub within : i < length names
  pub named : get_or names i [] ≡ n

-- an index that is found is one of the name
pub is_at : (n : Name) (names : List Name) (i : ℕ) → number_in n names ≡ Some i → IsAt n names i
is_at n [] i e = absurd (cc)
is_at n (x ∷ names) i e = by_bool (same_text n x)
    (λ b. let here : 0 ≡ i = some_is 0 i (sym (ap (λ c. if c then Some 0 else next_place (number_in n names)) b) ∙ e) in
    subst (IsAt n (x ∷ names)) here (record { within = omega arith; named = sym (same_text-is n x b) }))
    (λ b. further (number_in n names) (is_at n names)
    (sym (ap (λ c. if c then Some 0 else next_place (number_in n names)) b) ∙ e))
  where
    some_is : (a b : ℕ) → Some a ≡ Some b → a ≡ b
    some_is a b q = cc

    further : (o : Option ℕ) → ((k : ℕ) → o ≡ Some k → IsAt n names k) → next_place o ≡ Some i → IsAt n (x ∷ names) i
    further None h q = absurd (cc)
    further (Some k) h q =
        let at = h k refl in
        let l = at.within in
        subst (IsAt n (x ∷ names)) (some_is (suc k) i q) (record { within = omega arith; named = at.named })

-- a column reference without a fault is at its index
pub number_found : (names : List Name) (n : Name) → (column_number names n).faults ≡ []
    → IsAt n names (column_number names n).value
number_found names n e = by_number (number_in n names) refl e
  where
    by_number : (o : Option ℕ) → number_in n names ≡ o → (or_first o).faults ≡ [] → IsAt n names (or_first o).value
    by_number None q f = absurd (cc)
    by_number (Some i) q f = is_at n names i q

-- the first part of a false OR is false
pub first_false : (a b c : Bool) → a || b || c ≡ false → a ≡ false
first_false false b c e = refl
first_false true b c e = absurd (cc)

-- the columns of a system period without a fault are two different columns of the table
pub period_is_pair : (es : List Element) (p : PeriodPart) → (system_period es p).faults ≡ []
    → IsPair (length (columns_of es)) (system_period es p).value
period_is_pair es p e =
    let names : List Name = column_names es in
    let s : Checked ℕ = column_number names p.start in
    let t : Checked ℕ = column_number names p.end in
    let kinds : List Refusal = fault_if
    (not (same_kind (kind_in es s.value) Moments) || not (same_kind (kind_in es t.value) Moments)) TypesDoNotFit in
    let forms : List Refusal = fault_if
    (same_text p.start p.end || not (has_number s.value (starts es)) || not
    (has_number t.value (stops es))) FormNotAllowedHere in
    let second : t.faults ++ (kinds ++ (forms ++ [])) ≡ [] = no_right s.faults
    (t.faults ++ (kinds ++ (forms ++ []))) e in
    let third : kinds ++ (forms ++ []) ≡ [] = no_right t.faults (kinds ++ (forms ++ [])) second in
    let other : same_text p.start p.end ≡ false = first_false _ _ _
    (no_fault _ FormNotAllowedHere (no_left forms [] (no_right kinds (forms ++ []) third))) in
    let a : IsAt p.start names s.value = number_found names p.start
    (no_left s.faults (t.faults ++ (kinds ++ (forms ++ []))) e) in
    let b : IsAt p.end names t.value = number_found names p.end (no_left t.faults (kinds ++ (forms ++ [])) second) in
    let many : length names ≡ length (columns_of es) = length-map (columns_of es) _ in
    record {
      start_there = subst (λ n. s.value < n) many a.within;
      end_there = subst (λ n. t.value < n) many b.within;
      apart = λ q.
          let same : p.start ≡ p.end = sym a.named ∙ ap (λ i. get_or names i []) q ∙ b.named in
          never (sym (same_text-self p.start) ∙ ap (same_text p.start) same ∙ other);
    }
  where
    never : true ≡ false → ⊥
    never q = cc

-- the same for the first of several system periods
first_is_pair : (es : List Element) (parts : List PeriodPart) → (check_each (system_period es) parts).faults ≡ []
    → IsProper (length (columns_of es)) (first_of (check_each (system_period es) parts).value)
first_is_pair es [] e s q = absurd (cc)
first_is_pair es (p ∷ parts) e s q =
    let same : (system_period es p).value ≡ s = cc in
    subst (IsPair (length (columns_of es))) same (period_is_pair es p (no_left (system_period es p).faults _ e))

-- CREATE TABLE without a fault defines a table whose generated columns are two of its own
pub created_sound : (defs : List TableDef) (n : Name) (es : List Element) (versioned : Bool)
    → (create defs n es versioned).faults ≡ [] → Sound (create defs n es versioned).value
created_sound defs n es versioned e =
    let one = no_right (whole_faults defs n es versioned) _ e in
    let two = no_right (check_each (application_period es) (application_parts es)).faults _ one in
    let three = no_left (check_each (system_period es) (system_parts es)).faults _ two in
    subst (λ k. IsProper k (first_of (check_each (system_period es) (system_parts es)).value))
    (sym (length-map (columns_of es) _)) (first_is_pair es (system_parts es) three)

-- CREATE TABLE, bound without a fault, gives a sound definition
created : (defs : List TableDef) (st : Statement) → (bind defs st).faults ≡ [] → (d : TableDef)
    → (bind defs st).value ≡ CreateTable d → Sound d
created defs (CreateTree n x es versioned) e d q =
    let same : (create defs n (x ∷ es) versioned).value ≡ d = cc in
    subst Sound same (created_sound defs n (x ∷ es) versioned (no_left (create defs n (x ∷ es) versioned).faults [] e))
created defs (DropTree n) e d q = absurd (cc)
created defs (InsertValues n ns x ts) e d q = absurd (cc)
created defs (InsertSelect n ns s) e d q = absurd (cc)
created defs (UpdateTree n p s ss c) e d q = absurd (cc)
created defs (DeleteTree n p c) e d q = absurd (cc)
created defs (QueryTree s keys) e d q = absurd (cc)
created defs StartTree e d q = absurd (cc)
created defs CommitTree e d q = absurd (cc)
created defs RollbackTree e d q = absurd (cc)
created defs (AtTree m) e d q = absurd (cc)
created defs (PruneTree m) e d q = absurd (cc)
created defs (OpenTree n) e d q = absurd (cc)
created defs (ReadTree n s keys) e d q = absurd (cc)
created defs (CloseTree n) e d q = absurd (cc)

-- ---- definitions

-- each table's generated columns are two of its own
abbrev AllSound : List TableDef → Type 0
AllSound defs = (t : ℕ) → Sound (table_at defs t)

-- this stays so with one more definition
sound_more : (defs : List TableDef) (d : TableDef) → AllSound defs → Sound d → AllSound (defs ++ d ∷ [])
sound_more [] d h k zero s q = k s q
sound_more [] d h k (suc t) s q = absurd (cc)
sound_more (x ∷ defs) d h k zero s q = h zero s q
sound_more (x ∷ defs) d h k (suc t) s q = sound_more defs d (λ i. h (suc i)) k t s q

-- this stays so with one definition removed
sound_less : (defs : List TableDef) (k : ℕ) → AllSound defs → AllSound (remove defs k)
sound_less defs k h t = subst Sound (sym (removed_at defs k t no_table)) (h (skip k t))

-- ---- the rows of a copy

-- each row fits its table
abbrev CopyRowsFit : List TableDef → Copy → Type 0
CopyRowsFit defs copy = (t : ℕ) → AllFit (table_at defs t) (rows_in copy t)

-- a table with rows has an index within the copy
pub there_within : (copy : Copy) (t : ℕ) (r : Stamped) → In r (rows_in copy t) → t < length copy
there_within [] t r m = absurd m
there_within (rows ∷ copy) zero r m = omega arith
there_within (rows ∷ copy) (suc t) r m = let l = there_within copy t r m in omega arith

-- rows fit with one more table
rows_fit_more : (defs : List TableDef) (d : TableDef) (copy : Copy) → length copy ≡ length defs
    → CopyRowsFit defs copy → CopyRowsFit (defs ++ d ∷ []) (copy ++ [] ∷ [])
rows_fit_more defs d copy n h t r m =
    let there : In r (rows_in copy t) = subst (λ xs. In r xs) (rows_more copy t) m in
    let within = there_within copy t r there in
    subst (λ (x : TableDef). Fits x r) (sym (get_or-append defs (d ∷ []) no_table t (omega arith))) (h t r there)

-- rows fit with one table removed
rows_fit_less : (defs : List TableDef) (k : ℕ) (copy : Copy) → CopyRowsFit defs copy
    → CopyRowsFit (remove defs k) (remove copy k)
rows_fit_less defs k copy h t r m =
    subst (λ (x : TableDef). Fits x r) (sym (removed_at defs k t no_table))
    (h (skip k t) r (subst (λ xs. In r xs) (removed_at copy k t []) m))

-- each row of each copy fits its table
abbrev EntriesFit : List TableDef → List Entry → Type 0
EntriesFit defs es = (e : Entry) → In e es → CopyRowsFit defs e.copy

-- the rows of the newest copy fit
newest_rows_fit : (defs : List TableDef) (es : List Entry) → EntriesFit defs es
    → CopyRowsFit defs (newest_copy defs es)
newest_rows_fit defs [] h t r m = absurd (subst (λ xs. In r xs) (no_rows defs t) m)
newest_rows_fit defs (e ∷ es) h t r m = h e (inl refl) t r m

-- rows fit after the same change of every copy, for CREATE and DROP
rows_in_each : (g : Copy → Copy) (defs new : List TableDef) (es : List Entry)
    → ((e : Entry) → In e es → CopyRowsFit new (g e.copy))
    → EntriesFit new (map (λ (e : Entry). record e { copy = g e.copy }) es)
rows_in_each g defs new es k e m =
    let i = in_image (λ (x : Entry). record x { copy = g x.copy }) e es m in subst
    (λ (x : Entry). CopyRowsFit new x.copy) (sym i.2) (k i.0 i.1)

-- rows fit with one more entry in front
first_rows : (defs : List TableDef) (e : Entry) (es : List Entry) → CopyRowsFit defs e.copy → EntriesFit defs es
    → EntriesFit defs (e ∷ es)
first_rows defs e es h k x (inl q) = subst (λ (y : Entry). CopyRowsFit defs y.copy) (sym q) h
first_rows defs e es h k x (inr m) = k x m

-- rows fit after a change of one table in a copy
changed_rows_fit : (s : State) (m : ℤ) (copy : Copy) (c : Change) → AllSound s.definitions
    → CopyRowsFit s.definitions copy
    → CopyRowsFit s.definitions (slice_set copy (changed_table c) (outcome s m copy c).rows)
changed_rows_fit s m copy c k h t = elim (rows_set copy (changed_table c) (outcome s m copy c).rows t) [
  | inl e ↦ subst (AllFit (table_at s.definitions t)) (sym e) (h t)
  | inr e ↦ subst (AllFit (table_at s.definitions t)) (sym e.1)
      (subst (λ i. AllFit (table_at s.definitions i) (outcome s m copy c).rows) (sym e.0)
      (change_fits s m copy c (k (changed_table c)) (h (changed_table c))))
]

-- ---- statements and runs

-- copies, definitions and rows all fit
record AreFit (s : State) : Type 0 where
  copies : CopiesFit s
  sound : AllSound s.definitions
  rows : RowsFit s

-- definitions are sound, and rows fit
abbrev FitBoth : State → Type 0
FitBoth s = AllSound s.definitions × RowsFit s

-- each effect preserves this
effect_rows : (base : State) (defs : List TableDef) (history : List Entry) (next : ℤ) (begun : Option Entry) (b : Bound)
    → state_faults (state base defs history next begun) (class_of b) ≡ []
    → ((d : TableDef) → b ≡ CreateTable d → Sound d) → CopiesFit (state base defs history next begun)
    → FitBoth (state base defs history next begun) → FitBoth (effect (state base defs history next begun) b).1
effect_rows base defs history next None (CreateTable d) e g f h = (
  sound_more defs d h.0 (g d refl),
  rows_in_each (λ copy. copy ++ [] ∷ []) defs (defs ++ d ∷ []) history
      (λ x m. rows_fit_more defs d x.copy (f x m) (h.1 x m)),
)
effect_rows base defs history next (Some w) (CreateTable d) e g f h = absurd (cc)
effect_rows base defs history next None (DropTable t) e g f h = (
  sound_less defs t h.0,
  rows_in_each (λ copy. remove copy t) defs (remove defs t) history
      (λ x m. rows_fit_less defs t x.copy (h.1 x m)),
)
effect_rows base defs history next (Some w) (DropTable t) e g f h = absurd (cc)
effect_rows base defs history next begun (SetClock m) e g f h = h
effect_rows base defs history next begun (Prune m) e g f h =
    (h.0, λ x i. h.1 x (in_entries m x (listed begun) history i))
effect_rows base defs history next begun (OpenReader n) e g f h = h
effect_rows base defs history next begun (CloseReader n) e g f h = h
effect_rows base defs history next begun (Read n q) e g f h =
    asked_stays FitBoth (state base defs history next begun) q _ h
effect_rows base defs history next None Start e g f h =
    (h.0, first_rows defs _ history (newest_rows_fit defs history h.1) h.1)
effect_rows base defs history next (Some w) Start e g f h = absurd (cc)
effect_rows base defs history next None Commit e g f h = h
effect_rows base defs history next (Some w) Commit e g f h = h
effect_rows base defs history next None Rollback e g f h = h
effect_rows base defs history next (Some w) Rollback e g f h = (h.0, λ x m. h.1 x (inr m))
effect_rows base defs history next None (ChangeRows c) e g f h =
    let s : State = state base defs history next None in
    altered_keeps FitBoth s c h
    (λ q. (
      h.0,
      first_rows defs (changed_entry s c) history
          (changed_rows_fit s next (newest_copy defs history) c h.0 (newest_rows_fit defs history h.1)) h.1,
    ))
effect_rows base defs history next (Some w) (ChangeRows c) e g f h =
    let s : State = state base defs history next (Some w) in
    altered_keeps FitBoth s c h
    (λ q. (
      h.0,
      first_rows defs (changed_entry s c) history
          (changed_rows_fit s w.moment w.copy c h.0 (h.1 w (inl refl))) (λ x m. h.1 x (inr m)),
    ))
effect_rows base defs history next begun (AnswerQuery q) e g f h =
    asked_stays FitBoth (state base defs history next begun) q _ h

-- each accepted statement preserves that all fit
keeps_rows_fit : EffectKeeps AreFit
keeps_rows_fit s t k f =
    let both : FitBoth (effect s
    (bind s.definitions t).value).1 = effect_rows s s.definitions s.history s.next s.transaction
    (bind s.definitions t).value k.free (created s.definitions t k.sound) f.copies (f.sound, f.rows) in
    record { copies = keeps_fit s t k f.copies; sound = both.0; rows = both.1 }

-- in the first state all fit
first_fit : AreFit new_state
first_fit = record { copies = λ e m. absurd m; sound = λ t s q. absurd (cc); rows = λ e m. absurd m }

-- the law: in every state that a run reaches, copies and rows fit
pub reached_all_fit : ReachedFit
reached_all_fit s r =
    let f = run_keeps AreFit keeps_rows_fit new_state r.pieces r.replies s r.run first_fit in (f.copies, f.rows)

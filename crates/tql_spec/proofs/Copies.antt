-- The rows of a table in a copy that has changed, and the newest copy.
use Rattle.std.proofs.Common.{◌≡◌, refl, sym, ap, ◌∙◌, ℕ, zero, suc, ◌+◌, List, [], ◌∷◌, ◌++◌, map, get_or, length, inl}
use Rattle.std.proofs.Common.{inr, arith, length-append, Bool, true, false}
use Rattle.std.specs.Prelude.{◌⊎◌, remove, slice_set, ℤ, Option, Some, None, int_le, if◌then◌else◌}
use Rattle.std.proofs.lemmas.List.{length-map}
use Rattle.std.proofs.Math.ListN.{length-set}
use Rattle.tql_spec.specs.Bag.{In}
use Rattle.tql_spec.specs.Definition.{TableDef, Stamped}
use Rattle.tql_spec.specs.History.{Copy, Entry, rows_in}
use Rattle.tql_spec.specs.Machine.{State, Bound, CreateTable, DropTable, SetClock, Start, Commit, Rollback, ChangeRows}
use Rattle.tql_spec.specs.Machine.{AnswerQuery}
use Rattle.tql_spec.specs.Machine.{changed_table, class_of, state_faults, effect, newest_copy, Prune}
use Rattle.tql_spec.specs.Words.{listed}
use Rattle.tql_spec.specs.Horizon.{pruned}
use Rattle.tql_spec.specs.Machine.{OpenReader, Read, CloseReader}
use Rattle.tql_spec.specs.Binding.{bind}
use Rattle.tql_spec.specs.Reached.{CopiesFit}
use Rattle.tql_spec.proofs.MemberLists.{in_image, in_left, in_right, in_either}
use Rattle.tql_spec.proofs.RunKeeps.{asked_stays, changed_entry, altered_keeps, EffectKeeps}
use Rattle.tql_spec.proofs.InOrder.{state}

-- ---- the rows of one table

-- one more empty table does not change the rows of a table
pub rows_more : (copy : Copy) (t : ℕ) → rows_in (copy ++ [] ∷ []) t ≡ rows_in copy t
rows_more [] zero = refl
rows_more [] (suc t) = refl
rows_more (rows ∷ copy) zero = refl
rows_more (rows ∷ copy) (suc t) = rows_more copy t

-- the index before the removal of the element at k, from the index after it
abbrev pub skip : ℕ → ℕ → ℕ
skip zero i = suc i
skip (suc k) zero = zero
skip (suc k) (suc i) = suc (skip k i)

-- an element after the removal, by its index before it
pub removed_at : {X : Type 0} (xs : List X) (k i : ℕ) (d : X) → get_or (remove xs k) i d ≡ get_or xs (skip k i) d
removed_at [] zero i d = refl
removed_at [] (suc k) zero d = refl
removed_at [] (suc k) (suc i) d = refl
removed_at (x ∷ xs) zero i d = refl
removed_at (x ∷ xs) (suc k) zero d = refl
removed_at (x ∷ xs) (suc k) (suc i) d = removed_at xs k i d

-- after the rows of table k are replaced: a table has its old rows, or it is table k and has the new ones
pub rows_set : (copy : Copy) (k : ℕ) (rows : List Stamped) (t : ℕ)
    → (rows_in (slice_set copy k rows) t ≡ rows_in copy t) ⊎ ((t ≡ k) × (rows_in (slice_set copy k rows) t ≡ rows))
rows_set [] k rows t = inl refl
rows_set (x ∷ copy) zero rows zero = inr (refl, refl)
rows_set (x ∷ copy) zero rows (suc t) = inl refl
rows_set (x ∷ copy) (suc k) rows zero = inl refl
rows_set (x ∷ copy) (suc k) rows (suc t) =
    elim (rows_set copy k rows t) [ inl e ↦ inl e | inr e ↦ inr (ap suc e.0, e.1) ]

-- a new copy has no rows
pub no_rows : (defs : List TableDef) (t : ℕ) → rows_in (map (λ d. []) defs) t ≡ []
no_rows [] t = refl
no_rows (d ∷ defs) zero = refl
no_rows (d ∷ defs) (suc t) = no_rows defs t

-- a copy that a horizon leaves is one of the copies
pub in_pruned : (h : ℤ) (x : Entry) (es : List Entry) → In x (pruned h es) → In x es
in_pruned h x [] m = m
in_pruned h x (e ∷ es) (inl q) = inl q
in_pruned h x (e ∷ es) (inr m) = inr (either (int_le e.moment h) (in_pruned h x es) m)
  where
    either : (b : Bool) → (In x (pruned h es) → In x es) → In x (if b then [] else pruned h es) → In x es
    either true k n = absurd n
    either false k n = k n

-- the same with a transaction's copy in front
pub in_entries : (h : ℤ) (x : Entry) (first es : List Entry) → In x (first ++ pruned h es) → In x (first ++ es)
in_entries h x first es m = elim (in_either x first (pruned h es) m) [
  | inl i ↦ in_left x first es i
  | inr i ↦ in_right x first es (in_pruned h x es i)
]

-- ---- copies fit the definitions

-- removing the element at k from lists of equal length leaves lists of equal length
pub length_removed : {X Y : Type 0} (xs : List X) (ys : List Y) (k : ℕ) → length xs ≡ length ys
    → length (remove xs k) ≡ length (remove ys k)
length_removed [] [] zero e = refl
length_removed [] [] (suc k) e = refl
length_removed [] (y ∷ ys) k e = absurd (omega arith)
length_removed (x ∷ xs) [] k e = absurd (omega arith)
length_removed (x ∷ xs) (y ∷ ys) zero e = omega arith
length_removed (x ∷ xs) (y ∷ ys) (suc k) e = ap suc (length_removed xs ys k (omega arith))

-- the newest copy has rows for each definition
pub newest_fits : (defs : List TableDef) (es : List Entry) → ((e : Entry) → In e es → length e.copy ≡ length defs)
    → length (newest_copy defs es) ≡ length defs
newest_fits defs [] f = length-map defs _
newest_fits defs (e ∷ es) f = f e (inl refl)

-- copies fit after the same change of every copy, for CREATE and DROP
each_fits : (g : Copy → Copy) (defs new : List TableDef) (es : List Entry)
    → ((e : Entry) → In e es → length e.copy ≡ length defs)
    → ((copy : Copy) → length copy ≡ length defs → length (g copy) ≡ length new)
    → (e : Entry) → In e (map (λ (x : Entry). record x { copy = g x.copy }) es) → length e.copy ≡ length new
each_fits g defs new es f k e m =
    let i = in_image (λ (x : Entry). record x { copy = g x.copy }) e es m in ap (λ (x : Entry). length x.copy) i.2
    ∙ k i.0.copy (f i.0 i.1)

-- copies fit with one more entry in front
first_fits : (e : Entry) (es : List Entry) (n : ℕ) → length e.copy ≡ n → ((x : Entry) → In x es → length x.copy ≡ n)
    → (x : Entry) → In x (e ∷ es) → length x.copy ≡ n
first_fits e es n h k x (inl q) = ap (λ (y : Entry). length y.copy) q ∙ h
first_fits e es n h k x (inr m) = k x m

-- each effect preserves that copies fit
pub effect_fits : (base : State) (defs : List TableDef) (history : List Entry) (next : ℤ) (begun : Option Entry)
    (b : Bound)
    → state_faults (state base defs history next begun) (class_of b) ≡ []
    → CopiesFit (state base defs history next begun) → CopiesFit (effect (state base defs history next begun) b).1
effect_fits base defs history next None (CreateTable d) e f =
    each_fits (λ copy. copy ++ [] ∷ []) defs (defs ++ d ∷ []) history f
    (λ copy h. length-append copy ([] ∷ []) ∙ ap (λ n. n + 1) h ∙ sym (length-append defs (d ∷ [])))
effect_fits base defs history next (Some w) (CreateTable d) e f = absurd (cc)
effect_fits base defs history next None (DropTable t) e f =
    each_fits (λ copy. remove copy t) defs (remove defs t) history f (λ copy h. length_removed copy defs t h)
effect_fits base defs history next (Some w) (DropTable t) e f = absurd (cc)
effect_fits base defs history next begun (Prune m) e f = λ x i. f x (in_entries m x (listed begun) history i)
effect_fits base defs history next begun (SetClock m) e f = f
effect_fits base defs history next begun (OpenReader n) e f = f
effect_fits base defs history next begun (CloseReader n) e f = f
effect_fits base defs history next begun (Read n q) e f =
    asked_stays CopiesFit (state base defs history next begun) q _ f
effect_fits base defs history next None Start e f = first_fits _ history (length defs) (newest_fits defs history f) f
effect_fits base defs history next (Some w) Start e f = absurd (cc)
effect_fits base defs history next None Commit e f = f
effect_fits base defs history next (Some w) Commit e f = f
effect_fits base defs history next None Rollback e f = f
effect_fits base defs history next (Some w) Rollback e f = λ x m. f x (inr m)
effect_fits base defs history next None (ChangeRows c) e f =
    let s : State = state base defs history next None in
    altered_keeps CopiesFit s c f
    (λ q. first_fits (changed_entry s c) history (length defs)
    (length-set (newest_copy defs history) (changed_table c) _ ∙ newest_fits defs history f) f)
effect_fits base defs history next (Some w) (ChangeRows c) e f =
    let s : State = state base defs history next (Some w) in
    altered_keeps CopiesFit s c f
    (λ q. first_fits (changed_entry s c) history (length defs)
    (length-set w.copy (changed_table c) _ ∙ f w (inl refl)) (λ x m. f x (inr m)))
effect_fits base defs history next begun (AnswerQuery q) e f =
    asked_stays CopiesFit (state base defs history next begun) q _ f

-- each accepted statement preserves it
pub keeps_fit : EffectKeeps CopiesFit
keeps_fit s t k f = effect_fits s s.definitions s.history s.next s.transaction (bind s.definitions t).value k.free f

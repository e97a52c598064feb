-- The copies of an engine's tables, by table id.
use Rattle.std.proofs.Common.{◌≡◌, ℕ, zero, suc, Bool, true, false, List, [], ◌∷◌, ◌++◌, map, length, refl, sym, ap}
use Rattle.std.proofs.Common.{subst, ◌∙◌, arith}
use Rattle.std.specs.Prelude.{not, nat_eq, slice_get, slice_set, IsTrue, Some, None, if◌then◌else◌}
use Rattle.std.proofs.lemmas.Bool.Decides.{nat_tests}
use Rattle.tql_spec.proofs.Members.{both, by_bool}
use Rattle.tql_spec.specs.Definition.{Stamped, TableDef}
use Rattle.tql_spec.specs.History.{Copy, Entry, rows_in, table_history}
use Rattle.tql_store.specs.TableSlots.{slot_at, is_taken, is_kept}
use Rattle.tql_store.specs.Represents.{Copies, Working, horizon_of, StandsWith, Represents}
use Rattle.tql_store.specs.StoreModel.{StoreModel, live}
use Rattle.tql_catalog.specs.declared.catalog.Table.{Table}
use Rattle.tql_engine_state.specs.Fitting.{CopyFits}
use Rattle.tql_engine_state.specs.Stands.{ArePlaced, is_free, rows_of_id, copies_of}
use Rattle.tql_engine_state.proofs.Standing.{some_is}

-- ---- table ids

pub same_id : (n : ℕ) → nat_eq n n ≡ true
same_id n = grind (arith, nat_tests)

pub turned : (n m : ℕ) (b : Bool) → nat_eq n m ≡ b → nat_eq m n ≡ b
turned n m true e = grind (arith, nat_tests)
turned n m false e = grind (arith, nat_tests)

pub not_true : (b : Bool) → not b ≡ true → b ≡ false
not_true true e = cc
not_true false e = refl

-- a table of a list has another id than one that is free in the list
pub apart : (id : ℕ) (ps : List Table) (t : ℕ) (p : Table) → IsTrue (is_free id ps) → slice_get ps t ≡ Some p
    → nat_eq p.id id ≡ false
apart id [] t p f e = cc
apart id (q ∷ ps) zero p f e = ap (λ (x : Table). nat_eq x.id id) (sym (some_is q p e))
    ∙ not_true (nat_eq q.id id) (both _ _ f).0
apart id (q ∷ ps) (suc t) p f e = apart id ps t p (both _ _ f).1 e

-- ---- the rows of a table

pub chosen : {X : Type 0} (b : Bool) (x y : X) → b ≡ true → (if b then x else y) ≡ x
chosen b x y e = ap (λ (c : Bool). if c then x else y) e

pub passed : {X : Type 0} (b : Bool) (x y : X) → b ≡ false → (if b then x else y) ≡ y
passed b x y e = ap (λ (c : Bool). if c then x else y) e

pub rows_found : (h : StoreModel) (ps : List Table) (t : ℕ) (p : Table) → ArePlaced h ps → slice_get ps t ≡ Some p
    → (copy : Copy) → rows_of_id ps copy p.id ≡ rows_in copy t
rows_found h [] t p a e copy = cc
rows_found h (q ∷ ps) zero p a e [] = refl
rows_found h (q ∷ ps) zero p a e (rows ∷ copy) =
    chosen (nat_eq q.id p.id) rows (rows_of_id ps copy p.id)
    (ap (λ (x : Table). nat_eq q.id x.id) (sym (some_is q p e)) ∙ same_id q.id)
rows_found h (q ∷ ps) (suc t) p a e [] = refl
rows_found h (q ∷ ps) (suc t) p a e (rows ∷ copy) =
    passed (nat_eq q.id p.id) rows (rows_of_id ps copy p.id) (turned p.id q.id false (apart q.id ps t p a.0 e))
    ∙ rows_found h ps t p a.2 e copy

pub history_found : (h : StoreModel) (ps : List Table) (t : ℕ) (p : Table) → ArePlaced h ps → slice_get ps t ≡ Some p
    → (es : List Entry) → copies_of ps es p.id ≡ table_history t es
history_found h ps t p a e [] = refl
history_found h ps t p a e (x ∷ older) = λ i. record {
  moment = x.moment;
  rows = rows_found h ps t p a e x.copy i;
} ∷ history_found h ps t p a e older i

-- ---- a copy with other rows of one table

pub rows_set : (h : StoreModel) (ps : List Table) (t : ℕ) (p : Table) → ArePlaced h ps → slice_get ps t ≡ Some p
    → (copy : Copy) → length copy ≡ length ps → (rows : List Stamped) (id : ℕ)
    → rows_of_id ps (slice_set copy t rows) id ≡ (if nat_eq id p.id then rows else rows_of_id ps copy id)
rows_set h [] t p a e copy k rows id = cc
rows_set h (q ∷ ps) t p a e [] k rows id = cc
rows_set h (q ∷ ps) zero p a e (old ∷ copy) k rows id =
    let same : q ≡ p = some_is q p e in
    by_bool (nat_eq q.id id)
    (λ b. chosen (nat_eq q.id id) rows (rows_of_id ps copy id) b
    ∙ sym (chosen (nat_eq id p.id) rows (rows_of_id (q ∷ ps) (old ∷ copy) id)
    (ap (λ (x : Table). nat_eq id x.id) (sym same) ∙ turned q.id id true b)))
    (λ b. passed (nat_eq q.id id) rows (rows_of_id ps copy id) b
    ∙ sym (passed (nat_eq q.id id) old (rows_of_id ps copy id) b)
    ∙ sym (passed (nat_eq id p.id) rows (rows_of_id (q ∷ ps) (old ∷ copy) id)
    (ap (λ (x : Table). nat_eq id x.id) (sym same) ∙ turned q.id id false b)))
rows_set h (q ∷ ps) (suc t) p a e (old ∷ copy) k rows id =
    let later : rows_of_id ps (slice_set copy t rows) id ≡ (if nat_eq id p.id then rows else rows_of_id ps copy id) =
    rows_set h ps t p a.2 e copy (cc) rows id in
    let other : nat_eq p.id q.id ≡ false = apart q.id ps t p a.0 e in
    by_bool (nat_eq q.id id)
    (λ b. chosen (nat_eq q.id id) old (rows_of_id ps (slice_set copy t rows) id) b
    ∙ sym (chosen (nat_eq q.id id) old (rows_of_id ps copy id) b)
    ∙ sym (passed (nat_eq id p.id) rows (rows_of_id (q ∷ ps) (old ∷ copy) id) (differs q.id id p.id b other)))
    (λ b. passed (nat_eq q.id id) old (rows_of_id ps (slice_set copy t rows) id) b ∙ later
    ∙ ap (λ (xs : List Stamped). if nat_eq id p.id then rows else xs)
    (sym (passed (nat_eq q.id id) old (rows_of_id ps copy id) b)))
  where
    differs : (n m k : ℕ) → nat_eq n m ≡ true → nat_eq k n ≡ false → nat_eq m k ≡ false
    differs n m k e f = grind (arith, nat_tests)

nothing : (b : Bool) (xs : List Stamped) → xs ≡ [] → (if b then [] else xs) ≡ []
nothing true xs e = refl
nothing false xs e = e

-- in a copy without rows, no table has rows
pub rows_empty : (ps : List Table) (defs : List TableDef) (id : ℕ) → rows_of_id ps (map (λ d. []) defs) id ≡ []
rows_empty [] defs id = refl
rows_empty (q ∷ ps) [] id = refl
rows_empty (q ∷ ps) (d ∷ defs) id =
    nothing (nat_eq q.id id) (rows_of_id ps (map (λ d. []) defs) id) (rows_empty ps defs id)

-- one more table, without rows
pub rows_more : (ps : List Table) (q : Table) (copy : Copy) → length copy ≡ length ps → (id : ℕ)
    → rows_of_id (ps ++ q ∷ []) (copy ++ [] ∷ []) id ≡ rows_of_id ps copy id
rows_more [] q [] k id = nothing (nat_eq q.id id) [] refl
rows_more [] q (rows ∷ copy) k id = cc
rows_more (p ∷ ps) q [] k id = cc
rows_more (p ∷ ps) q (rows ∷ copy) k id =
    ap (λ (xs : List Stamped). if nat_eq p.id id then rows else xs) (rows_more ps q copy (cc) id)

-- a copy that fits has rows for each table
pub fits_length : (ps : List TableDef) (copy : Copy) → CopyFits ps copy → length copy ≡ length ps
fits_length [] [] f = refl
fits_length [] (rows ∷ copy) f = absurd f
fits_length (p ∷ ps) [] f = absurd f
fits_length (p ∷ ps) (rows ∷ copy) f = ap suc (fits_length ps copy f.1)

-- ---- a store that represents copies also represents equal copies

pub same_copies : (h : StoreModel) (copies others : Copies) (working : Working) → ((t : ℕ) → copies t ≡ others t)
    → Represents h copies working → Represents h others working
same_copies h copies others working e r = subst (λ (c : Copies). Represents h c working) (λ i t. e t i) r

-- and equal working copies
pub same_working : (h : StoreModel) (copies : Copies) (working others : Working) → ((t : ℕ) → working t ≡ others t)
    → Represents h copies working → Represents h copies others
same_working h copies working others e r = subst (λ (w : Working). Represents h copies w) (λ i t. e t i) r

-- without an open transaction, the working copy does not matter
pub any_working : (h : StoreModel) (copies : Copies) (working others : Working) → h.working ≡ None
    → Represents h copies working → Represents h copies others
any_working h copies working others idle r = record {
  dated = r.dated;
  stands = λ t. subst (λ o. StandsWith (horizon_of h.tables h.last h.horizon (copies t) t) o (live h t) (copies t)
      (others t)) (sym idle)
      (subst (λ o. StandsWith (horizon_of h.tables h.last h.horizon (copies t) t) o (live h t) (copies t) (working t))
      idle (r.stands t));
}

-- ---- tables by their ids

-- if all table slots are the same, the tables stay in place
pub same_places : (old new : StoreModel) (ps : List Table) → new.tables ≡ old.tables → ArePlaced old ps
    → ArePlaced new ps
same_places old new [] e a = tt
same_places old new (p ∷ ps) e a = (
  a.0,
  record {
    there = ap (λ places. is_taken (slot_at places p.id)) e ∙ a.1.there;
    versioned = ap (λ places. is_kept (slot_at places p.id)) e ∙ a.1.versioned;
  },
  same_places old new ps e a.2,
)

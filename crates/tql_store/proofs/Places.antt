-- The number of tables, and the lowest free number.
use Rattle.std.proofs.Common.{◌≡◌, ◌<◌, ◌≤◌, ℕ, zero, suc, ◌+◌, Bool, true, false, cond, List, [], ◌∷◌, length, refl}
use Rattle.std.proofs.Common.{sym, ap, ◌∙◌, arith}
use Rattle.std.specs.Prelude.{count_by, nat_eq, if◌then◌else◌}
use Rattle.std.proofs.lemmas.Bool.Decides.{nat_tests}
use Rattle.std.proofs.lemmas.List.Sums.{sum_by-cons}
use Rattle.tql_store.specs.Represents.{Takes, AddsTable}
use Rattle.tql_store.specs.StoreModel.{StoreModel, live}
use Rattle.tql_store.specs.TableSlots.{slot_at, place_for, is_taken}
use Rattle.tql_store.specs.declared.tables.TableSlot.{TableSlot}
use Rattle.tql_store.specs.declared.tables.TableSlot.TheVariants.{Free, Versioned, Unversioned}

-- one for a slot with a table, else zero
abbrev pub one : TableSlot → ℕ
one p = cond (is_taken p) 1 0

-- the slots after the first
abbrev pub rest : List TableSlot → List TableSlot
rest [] = []
rest (p ∷ ps) = ps

count-split : (ps : List TableSlot) → count_by is_taken ps ≡ one (slot_at ps 0) + count_by is_taken (rest ps)
count-split [] = refl
count-split (p ∷ ps) = sum_by-cons (λ x. cond (is_taken x) 1 0) p ps

rest-place : (ps : List TableSlot) (u : ℕ) → slot_at (rest ps) u ≡ slot_at ps (suc u)
rest-place [] u = refl
rest-place (p ∷ ps) u = refl

-- ---- numbers in use

-- a number below which all are in use is no greater than the number of tables
pub stand-below : (ps : List TableSlot) (i : ℕ) → ((k : ℕ) → k < i → is_taken (slot_at ps k) ≡ true) → i ≤ length ps
    → i ≤ count_by is_taken ps
stand-below ps zero h within = omega arith
stand-below [] (suc i) h within = absurd (omega arith)
stand-below (p ∷ ps) (suc i) h within =
    let first : one p ≡ 1 = ap (λ (b : Bool). cond {A = ℕ} b 1 0) (h 0 (omega arith)) in
    let later : i ≤ count_by is_taken ps = stand-below ps i (λ k l. h (suc k) (omega arith)) (omega arith) in
    omega (arith, sum_by-cons (λ x. cond (is_taken x) 1 0) p ps)

pub not_taken : (p : TableSlot) → is_taken p ≡ false → p ≡ Free
not_taken Free e = refl
not_taken Versioned e = cc
not_taken Unversioned e = cc

-- ---- the count after a change

none-count : (ps : List TableSlot) → ((u : ℕ) → slot_at ps u ≡ Free) → count_by is_taken ps ≡ 0
none-count [] h = refl
none-count (p ∷ ps) h =
    let first : one p ≡ 0 = ap one (h 0) in
    let later : count_by is_taken ps ≡ 0 = none-count ps (λ u. h (suc u)) in
    omega (arith, sum_by-cons (λ x. cond (is_taken x) 1 0) p ps)

same-count : (ps qs : List TableSlot) → ((u : ℕ) → slot_at ps u ≡ slot_at qs u)
    → count_by is_taken ps ≡ count_by is_taken qs
same-count [] qs h = sym (none-count qs (λ u. sym (h u)))
same-count (p ∷ ps) qs h =
    let first : one p ≡ one (slot_at qs 0) = ap one (h 0) in
    let later : count_by is_taken ps ≡ count_by is_taken (rest qs) = same-count ps (rest qs) (λ u. h (suc u)
    ∙ sym (rest-place qs u)) in
    omega (arith, count-split (p ∷ ps), count-split qs)

no_suc : (i : ℕ) → nat_eq 0 (suc i) ≡ false
no_suc i = grind (arith, nat_tests)

no_zero : (i : ℕ) → nat_eq (suc i) 0 ≡ false
no_zero i = grind (arith, nat_tests)

both_suc : (i j : ℕ) → nat_eq (suc i) (suc j) ≡ nat_eq i j
both_suc i j = grind (arith, nat_tests)

takes-count : (t : ℕ) (p : TableSlot) (old new : List TableSlot)
    → ((u : ℕ) → slot_at new u ≡ (if nat_eq u t then p else slot_at old u))
    → count_by is_taken new + one (slot_at old t) ≡ count_by is_taken old + one p
takes-count zero p old new h =
    let first : one (slot_at new 0) ≡ one p = ap one (h 0) in
    let later : count_by is_taken (rest new) ≡ count_by is_taken (rest old) =
    same-count (rest new) (rest old) (λ u. rest-place new u ∙ h (suc u)
    ∙ ap (λ (b : Bool). if b then p else slot_at old (suc u)) (no_zero u) ∙ sym (rest-place old u)) in
    omega (arith, count-split new, count-split old)
takes-count (suc t) p old new h =
    let first : one (slot_at new 0) ≡ one (slot_at old 0) = ap one (h 0
    ∙ ap (λ (b : Bool). if b then p else slot_at old 0) (no_suc t)) in
    let at : one (slot_at (rest old) t) ≡ one (slot_at old (suc t)) = ap one (rest-place old t) in
    let later : count_by is_taken (rest new) + one (slot_at (rest old) t) ≡ count_by is_taken (rest old) + one p =
    takes-count t p (rest old) (rest new) (λ u. rest-place new u ∙ h (suc u)
    ∙ ap (λ (b : Bool). if b then p else slot_at old (suc u)) (both_suc u t)
    ∙ ap (λ (q : TableSlot). if nat_eq u t then p else q) (sym (rest-place old u))) in
    omega (arith, count-split new, count-split old)

one_for : (b : Bool) → one (place_for b) ≡ 1
one_for true = refl
one_for false = refl

-- one table more
pub adds : (versioned : Bool) (t : ℕ) (old new : StoreModel) → slot_at old.tables t ≡ Free
    → Takes t (place_for versioned) old.tables new.tables → new.working ≡ old.working → new.last ≡ old.last
    → new.horizon ≡ old.horizon → ((u : ℕ) → live new u ≡ live old u)
    → AddsTable versioned t old new
adds versioned t old new free takes working last reach versions = record {
  free = free;
  takes = takes;
  count = let counts = takes-count t (place_for versioned) old.tables new.tables takes.places in let gone : one
      (slot_at old.tables t) ≡ 0 = ap one free in let come = one_for versioned in omega arith;
  working = working;
  last = last;
  horizon = reach;
  versions = versions;
}

-- one table fewer
pub drops : (t : ℕ) (old new : List TableSlot) → is_taken (slot_at old t) ≡ true → Takes t Free old new
    → count_by is_taken new + 1 ≡ count_by is_taken old
drops t old new there takes =
    let counts = takes-count t Free old new takes.places in
    let gone : one (slot_at old t) ≡ 1 = ap (λ (b : Bool). cond {A = ℕ} b 1 0) there in
    omega arith

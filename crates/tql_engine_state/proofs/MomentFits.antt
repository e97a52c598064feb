-- The clock's moments fit 64 bits.
use Rattle.std.proofs.Common.{◌≡◌, ◌∙◌, ℕ, List, refl, sym, ap, subst, arith, w64, to_z, of_z}
use Rattle.std.specs.Prelude.{ℤ, pos, ◌≤ℤ◌, ◌<ℤ◌, ◌+ℤ◌, false, int_le, Option, Some, None, IsNone, FitsSigned}
use Rattle.std.proofs.lemmas.Int.{ints}
use Rattle.std.proofs.Math.Facts.{to_z-of_z}
use Rattle.tql_spec.specs.Calendar.{first_moment, high}
use Rattle.tql_spec.specs.Machine.{State}
use Rattle.tql_spec.specs.Datum.{Row}
use Rattle.tql_store.specs.StoreModel.{StoreModel}
use Rattle.tql_versions.specs.Changes.{Under}
use Rattle.tql_engine_state.specs.Committing.{ChangesRows}
use Rattle.tql_engine_state.specs.Stands.{EngineModel, StandsFor}
use Rattle.tql_engine_state.proofs.Standing.{under_law}

moment_fits : (m : ℤ) → first_moment ≤ℤ m → m ≤ℤ high → FitsSigned w64 m
moment_fits m low up = grind (arith, ints, low, up)

-- the clock is read without loss
pub clock_reads : (h : EngineModel) (s : State) → StandsFor h s → to_z w64 (of_z w64 h.next) ≡ h.next
clock_reads h s st = to_z-of_z
    (subst (λ m. FitsSigned w64 m) (sym st.clock) (moment_fits s.next st.not_before st.not_after))

-- a microsecond later it still fits
pub clock_steps : (h : EngineModel) (s : State) → StandsFor h s → h.next <ℤ high
    → to_z w64 (of_z w64 (to_z w64 (of_z w64 h.next) +ℤ pos 1)) ≡ h.next +ℤ pos 1
clock_steps h s st below =
    ap (λ n. to_z w64 (of_z w64 (n +ℤ pos 1))) (clock_reads h s st)
    ∙ to_z-of_z (let e = st.clock in let low = st.not_before in let low2 : first_moment ≤ℤ h.next = subst
    (λ m. first_moment ≤ℤ m) (sym e) low in moment_fits (h.next +ℤ pos 1) (omega (arith, ints)) (omega (arith, ints)))

-- it is after the last commit
pub clock_under : (h : EngineModel) (s : State) → StandsFor h s → Under h.store.last (to_z w64 (of_z w64 h.next))
clock_under h s st = subst (λ m. Under h.store.last m) (sym (clock_reads h s st ∙ st.clock)) (under_law h s st)

-- if the clock is not at its end, it is before the end
pub clock_left : (h : EngineModel) (s : State) → StandsFor h s → int_le high (to_z w64 (of_z w64 h.next)) ≡ false
    → h.next <ℤ high
clock_left h s st e = before (h.next) (ap (int_le high) (sym (clock_reads h s st)) ∙ e)
  where
    before : (n : ℤ) → int_le high n ≡ false → n <ℤ high
    before n e = grind (arith, ints, e)

-- the same for the clock after a change
after_within : (w : Option ℤ) (n after : ℤ) (t : ℕ) (removed : List ℕ) (rows : List Row) (old new : StoreModel)
    → first_moment ≤ℤ n → n ≤ℤ high → (IsNone w → n <ℤ high)
    → ChangesRows w n after t removed rows old new → (first_moment ≤ℤ after) × (after ≤ℤ high)
after_within None n after t removed rows old new low up below c =
    let e = c.1 in
    let left = below refl in
    (omega (arith, ints), omega (arith, ints))
after_within (Some m) n after t removed rows old new low up below c =
    (subst (λ k. first_moment ≤ℤ k) (sym c.1) low, subst (λ k. k ≤ℤ high) (sym c.1) up)

pub after_reads : (h : EngineModel) (s : State) (after : ℤ) (t : ℕ) (removed : List ℕ) (rows : List Row)
    (new : StoreModel)
    → StandsFor h s → (IsNone h.store.working → h.next <ℤ high)
    → ChangesRows h.store.working h.next after t removed rows h.store new → to_z w64 (of_z w64 after) ≡ after
after_reads h s after t removed rows new st below c =
    let low : first_moment ≤ℤ h.next = subst (λ m. first_moment ≤ℤ m) (sym st.clock) st.not_before in
    let up : h.next ≤ℤ high = subst (λ m. m ≤ℤ high) (sym st.clock) st.not_after in
    let within = after_within h.store.working h.next after t removed rows h.store new low up below c in
    to_z-of_z (moment_fits after within.0 within.1)

-- The accumulators of one group, of which the first have taken a row.
use Rattle.std.specs.Prelude.{◌≡◌, ℕ, suc, ◌+◌, ◌*◌, ◌<◌, ◌≤◌, ◌^◌, List, [], ◌∷◌, ◌++◌, length, min, ◌-◌}
use Rattle.std.specs.Prelude.{slice_index_or, slice_set}
use Rattle.std.proofs.Common.{ap, ◌∙◌, arith}
use Rattle.std.proofs.lemmas.List.{get_or_append_left, get_or_default, length-append, length-set, set-append_left}
use Rattle.std.proofs.lemmas.Slice.Zip.{AllZip-long}
use Rattle.tql_spec.specs.Datum.{Row}
use Rattle.tql_expr.specs.declared.terms.Aggregate.{Aggregate}
use Rattle.tql_expr.specs.declared.terms.Terms.{Terms}
use Rattle.tql_exec_group.specs.Begun.{TakesAt}
use Rattle.tql_exec_fold.specs.Folded.{HasFolded, HaveFolded, Takes}
use Rattle.tql_exec_fold.specs.declared.fold.Accumulator.{Accumulator}
use Rattle.tql_exec_group.proofs.Turns.{all_turned, one_turned, AllTurned}

module _ {X : Type 0} (part after : List X) (i : ℕ) (within : i < length part) where
  read_in : (before : List X) (d : X) → slice_index_or (before ++ (part ++ after)) (length before + i) d
      ≡ slice_index_or part i d
  read_in [] d = ap (λ n. slice_index_or (part ++ after) n d) (let e : 0 + i ≡ i = omega arith in e)
      ∙ get_or_append_left part after d i within
  read_in (b ∷ before) d =
      let e : suc (length before) + i ≡ suc (length before + i) = omega arith in
      ap (λ n. slice_index_or (b ∷ (before ++ (part ++ after))) n d) e ∙ read_in before d

  written_in : (before : List X) (z : X) → slice_set (before ++ (part ++ after)) (length before + i) z
      ≡ before ++ (slice_set part i z ++ after)
  written_in [] z = ap (λ n. slice_set (part ++ after) n z) (let e : 0 + i ≡ i = omega arith in e)
      ∙ set-append_left part after i z within
  written_in (b ∷ before) z =
      let e : suc (length before) + i ≡ suc (length before + i) = omega arith in
      ap (λ n. slice_set (b ∷ (before ++ (part ++ after))) n z) e ∙ ap (λ xs. b ∷ xs) (written_in before z)

module _ (t : Terms) (ws : List Aggregate) (number : ℕ) (row : Row) (old : List Accumulator) where
  -- the first i have taken it
  abbrev pub Midway : ℕ → ℕ → List Accumulator → Type 0
  Midway i at now = (before part after : List Accumulator) (rows : List Row) → old ≡ before ++ (part ++ after)
      → length before ≡ number * length ws → HaveFolded t ws part rows
      → (turned : List Accumulator) × (now ≡ before ++ (turned ++ after)) × (length turned ≡ length ws)
      × (at ≡ length before + i)
      × AllTurned (λ w a. HasFolded t w a rows) (λ w a. HasFolded t w a (rows ++ row ∷ [])) i ws turned

  pub none_taken : (at : ℕ) → length old < 2 ^ 64 → at ≡ min (number * length ws) (2 ^ 64 - 1) → Midway 0 at old
  none_taken at small is before part after rows flat from h = (
    part,
    flat,
    AllZip-long (λ w a. HasFolded t w a rows) ws part h,
    omega (arith, small, is, from, ap length flat, length-append before (part ++ after)),
    h,
  )

  pub one_taken : (i at : ℕ) (now : List Accumulator) (d : Aggregate) (x z : Accumulator) → i < length ws
      → x ≡ slice_index_or now at x → Takes t (slice_index_or ws i d) x z row → Midway i at now
      → Midway (i + 1) (at + 1) (slice_set now at z)
  one_taken i at now d x z inside read takes midway before part after rows flat from h =
      let m = midway before part after rows flat from h in
      let turned : List Accumulator = m.0 in
      let within : i < length turned = omega (arith, inside, m.2) in
      let got : x ≡ slice_index_or turned i x =
      read ∙ ap (λ xs. slice_index_or xs at x) m.1
      ∙ ap (λ n. slice_index_or (before ++ (turned ++ after)) n x) m.3 ∙ read_in turned after i within before x in (
        slice_set turned i z,
        ap (λ xs. slice_set xs at z) m.1 ∙ ap (λ n. slice_set (before ++ (turned ++ after)) n z) m.3
            ∙ written_in turned after i within before z,
        length-set turned i z ∙ m.2,
        omega (arith, m.3),
        one_turned (λ w a. HasFolded t w a rows) (λ w a. HasFolded t w a (rows ++ row ∷ [])) i ws turned
            (slice_index_or ws i d) x z inside (get_or_default ws i d (slice_index_or ws i d) inside) within got
            (takes rows) m.4,
      )

  -- there is one for each aggregate
  pub not_past : (i at : ℕ) (now : List Accumulator) → i < length ws → length now ≤ at → Midway i at now
      → TakesAt t ws number old now row
  not_past i at now inside past midway before part after rows flat from h =
      let m = midway before part after rows flat from h in
      absurd (omega (
        arith,
        inside,
        past,
        m.2,
        m.3,
        ap length m.1,
        length-append before (m.0 ++ after),
        length-append m.0 after,
      ))

  pub all_taken : (i at : ℕ) (now : List Accumulator) → length ws ≤ i → Midway i at now
      → TakesAt t ws number old now row
  all_taken i at now past midway before part after rows flat from h =
      let m = midway before part after rows flat from h in (
        m.0,
        m.1,
        all_turned (λ w a. HasFolded t w a rows) (λ w a. HasFolded t w a (rows ++ row ∷ [])) i ws m.0
            (omega (arith, past, m.2)) m.4,
      )

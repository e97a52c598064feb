-- A store shown at a pin: its tables, its versions, and the copies that it represents.
use Rattle.std.proofs.Common.{◌≡◌, ℕ, zero, suc, Bool, true, false, List, [], ◌∷◌, map, filter, refl, sym, ap, subst}
use Rattle.std.proofs.Common.{◌∙◌, arith, inl, inr}
use Rattle.std.specs.Prelude.{◌⊎◌, ◌&&◌, ℤ, ◌≤ℤ◌, ◌<ℤ◌, int_le, int_lt, slice_index_or, Option, Some, None}
use Rattle.std.specs.Prelude.{if◌then◌else◌}
use Rattle.std.proofs.lemmas.Int.{ints}
use Rattle.tql_spec.proofs.Members.{by_bool, lt_tells, le_tells}
use Rattle.tql_spec.specs.Bag.{In}
use Rattle.tql_spec.specs.Calendar.{high}
use Rattle.tql_spec.specs.Definition.{Stamped, Version}
use Rattle.tql_spec.specs.History.{TableEntry, still}
use Rattle.tql_versions.specs.Changes.{alive, nothing}
use Rattle.tql_store.proofs.Apply.{lt_true, lt_false, le_false}
use Rattle.tql_store.proofs.Begin.{new-stands}
use Rattle.tql_store.proofs.Kept.{oldest_in}
use Rattle.tql_store.proofs.Pins.{begun_versions, pin-stands, told_below}
use Rattle.tql_store.proofs.TableLaws.{told-emptied, none-stands, newest-emptied}
use Rattle.tql_store.specs.Changes.{newest, emptied}
use Rattle.tql_store.specs.Kept.{kept_of, oldest}
use Rattle.tql_pinned.specs.Asked.{capped, shown_at}
use Rattle.tql_store.specs.Pinned.{slot_pinned, versions_of_slot, versions_pinned, pinned, not_after}
use Rattle.tql_store.specs.Pinned.{until_pin, IsPin, PinCopies}
use Rattle.tql_store.specs.Represents.{horizon_of, StandsWith}
use Rattle.tql_store.specs.Stands.{Within, Told, StandsFor}
use Rattle.tql_store.specs.StoreModel.{StoreModel, live}
use Rattle.tql_store.specs.TableSlots.{slot_at, is_kept, is_brief}
use Rattle.tql_store.specs.declared.tables.TableSlot.{TableSlot}
use Rattle.tql_store.specs.declared.tables.TableSlot.TheVariants.{Free, Versioned, Unversioned}

-- ---- tables

-- the slot shown for a number
pub slot_shown : (slots : List TableSlot) (t : ℕ) → slot_at (map slot_pinned slots) t ≡ slot_pinned (slot_at slots t)
slot_shown [] t = refl
slot_shown (s ∷ slots) zero = refl
slot_shown (s ∷ slots) (suc t) = slot_shown slots t

-- a table that is shown keeps its history
pub shown_kept : (s : TableSlot) → is_kept (slot_pinned s) ≡ is_kept s
shown_kept Free = refl
shown_kept Versioned = refl
shown_kept Unversioned = refl

shown_not_brief : (s : TableSlot) → is_brief (slot_pinned s) ≡ false
shown_not_brief Free = refl
shown_not_brief Versioned = refl
shown_not_brief Unversioned = refl

-- the versions shown for a number
pub versions_shown : (pin : Option ℤ) (slots : List TableSlot) (tables : List (List Version)) (t : ℕ)
    → slice_index_or (versions_pinned pin slots tables) t []
    ≡ versions_of_slot pin (slot_at slots t) (slice_index_or tables t [])
versions_shown pin [] tables t = refl
versions_shown pin (s ∷ slots) [] t = none (is_kept (slot_at (s ∷ slots) t))
  where
    none : (b : Bool) → ◌≡◌ {A = List Version} [] (if b then [] else [])
    none true = refl
    none false = refl
versions_shown pin (s ∷ slots) (vs ∷ tables) zero = refl
versions_shown pin (s ∷ slots) (vs ∷ tables) (suc t) = versions_shown pin slots tables t

-- the non-empty ones of these
pub live-pinned : (pin : Option ℤ) (h : StoreModel) (t : ℕ)
    → live (pinned pin h) t ≡ filter alive (versions_of_slot pin (slot_at h.tables t) (slice_index_or h.versions t []))
live-pinned pin h t = ap (filter alive) (versions_shown pin h.tables h.versions t)

-- ---- versions

nothing_dead : alive nothing ≡ false
nothing_dead = lt_false {a = high} {b = high} (omega (arith, ints))

-- before any commit every version shown is empty
pub none-live : (versions : List Version) → filter alive (map (shown_at None) versions) ≡ []
none-live [] = refl
none-live (v ∷ versions) = none-live versions

-- a version shown is non-empty if the version is and had begun
shown_alive : (p : ℤ) → p <ℤ high → (v : Version) → alive (shown_at (Some p) v) ≡ (alive v && int_le v.row.start p)
shown_alive p below v = either (le_tells v.row.start p)
  where
    and_false : (b : Bool) → (b && false) ≡ false
    and_false true = refl
    and_false false = refl

    and_true : (b : Bool) → (b && true) ≡ b
    and_true true = refl
    and_true false = refl

    same : v.row.start ≤ℤ p → alive (capped p v) ≡ alive v
    same began = elim (lt_tells p v.end) [
      | inl s ↦ ap (λ b. int_lt v.row.start (if b then high else v.end)) s.0
          ∙ lt_true {a = v.row.start} {b = high} (omega (arith, ints))
          ∙ sym (lt_true {a = v.row.start} {b = v.end} (let a = s.1 in omega (arith, ints)))
      | inr s ↦ ap (λ b. int_lt v.row.start (if b then high else v.end)) s.0
    ]

    either : ((int_le v.row.start p ≡ true) × (v.row.start ≤ℤ p))
        ⊎ ((int_le v.row.start p ≡ false) × (p <ℤ v.row.start))
        → alive (shown_at (Some p) v) ≡ (alive v && int_le v.row.start p)
    either (inl s) = rw (s.0) (same s.1 ∙ sym (and_true (alive v)))
    either (inr s) = rw (s.0) (nothing_dead ∙ sym (and_false (alive v)))

-- the non-empty versions shown
shown-live : (p : ℤ) → p <ℤ high → (versions : List Version)
    → filter alive (map (shown_at (Some p)) versions) ≡ begun_versions p (filter alive versions)
shown-live p below [] = refl
shown-live p below (v ∷ versions) = by_bool (alive v)
    (λ a. by_bool (int_le v.row.start p)
    (λ b. rw (shown_alive p below v, a, b) (ap (λ vs. capped p v ∷ vs) (shown-live p below versions)))
    (λ b. rw (shown_alive p below v, a, b) (shown-live p below versions)))
    (λ a. rw (shown_alive p below v, a) (shown-live p below versions))

-- ---- copies

-- the newest copy up to a pin, if the pin is the moment of a copy
newest-until : (horizon : Option ℤ) (rows : List Stamped) (ends : Stamped → ℤ) (until p : ℤ) (entries : List TableEntry)
    → Told horizon rows ends until entries → (e : TableEntry) → In e entries → e.moment ≡ p
    → newest (not_after p entries) ≡ Some p
newest-until horizon rows ends until p [] told e m q = absurd m
newest-until horizon rows ends until p (x ∷ older) told e m q =
    either (le_tells x.moment p) (λ n. newest-until horizon rows ends x.moment p older told.1.1 e n q) m
  where
    moment_of : e ≡ x → e.moment ≡ x.moment
    moment_of z = ap (λ (y : TableEntry). y.moment) z

    same : x.moment ≤ℤ p → In e (x ∷ older) → x.moment ≡ p
    same l (inl z) = sym (moment_of z) ∙ q
    same l (inr n) = let a = told_below horizon rows ends x.moment older told.1.1 e n in absurd (omega (arith, ints))

    either : ((int_le x.moment p ≡ true) × (x.moment ≤ℤ p)) ⊎ ((int_le x.moment p ≡ false) × (p <ℤ x.moment))
        → (In e older → newest (not_after p older) ≡ Some p) → In e (x ∷ older)
        → newest (if int_le x.moment p then x ∷ older else not_after p older) ≡ Some p
    either (inl s) k n = rw (s.0) (ap {B = Option ℤ} Some (same s.1 n))
    either (inr s) k (inl z) = absurd (let a = moment_of z in let b = s.1 in omega (arith, ints))
    either (inr s) k (inr n) = rw (s.0) (k n)

-- the copies up to a pin give the same moment from which versions are kept
kept-until : (k p : ℤ) (entries : List TableEntry) (e : TableEntry) → In e entries → e.moment ≡ p
    → kept_of k (not_after p entries) ≡ kept_of k entries
kept-until k p [] e m q = absurd m
kept-until k p (x ∷ older) e m q = either (le_tells x.moment p) (λ n. kept-until k p older e n q) m
  where
    more : (fs : List TableEntry) → In e fs → kept_of k fs ≡ kept_of k (x ∷ fs)
    more [] n = absurd n
    more (f ∷ fs) n = refl

    either : ((int_le x.moment p ≡ true) × (x.moment ≤ℤ p)) ⊎ ((int_le x.moment p ≡ false) × (p <ℤ x.moment))
        → (In e older → kept_of k (not_after p older) ≡ kept_of k older) → In e (x ∷ older)
        → kept_of k (if int_le x.moment p then x ∷ older else not_after p older) ≡ kept_of k (x ∷ older)
    either (inl s) h n = rw (s.0) refl
    either (inr s) h (inl z) =
        absurd (let a : e.moment ≡ x.moment = ap (λ (y : TableEntry). y.moment) z in let b = s.1 in omega (arith, ints))
    either (inr s) h (inr n) = rw (s.0) (h n ∙ more older n)

-- and the pin is not before that moment
reaches_pin : (horizon : Option ℤ) (rows : List Stamped) (ends : Stamped → ℤ) (until k p : ℤ)
    (entries : List TableEntry) → Told horizon rows ends until entries → (e : TableEntry) → In e entries
    → e.moment ≡ p → Within (kept_of k entries) p
reaches_pin horizon rows ends until k p [] told e m q = absurd m
reaches_pin horizon rows ends until k p (x ∷ older) told e m q = either (int_le (oldest x older) k)
  where
    back : oldest x older ≤ℤ p
    back = let a = oldest_in horizon rows ends until x older told e m in omega (arith, ints)

    either : (b : Bool) → Within (if b then Some (oldest x older) else None) p
    either true = back
    either false = tt

-- ---- with an open transaction

-- the copies that the versions represent: a working copy counts as committed
abbrev seen_with : Option ℤ → List Stamped → List TableEntry → List TableEntry
seen_with None rows entries = entries
seen_with (Some m) rows entries = record { moment = m; rows = rows } ∷ entries

stands-seen : (horizon o : Option ℤ) (versions : List Version) (entries : List TableEntry) (rows : List Stamped)
    → StandsWith horizon o versions entries rows → StandsFor horizon versions (seen_with o rows entries)
stands-seen horizon None versions entries rows s = s
stands-seen horizon (Some m) versions entries rows s = s.now

-- some versions represent the committed copies
record Stood (horizon : Option ℤ) (entries : List TableEntry) : Type 0 where
  pub versions : List Version
  pub stands : StandsFor horizon versions entries

stood : (horizon o : Option ℤ) (versions : List Version) (entries : List TableEntry) (rows : List Stamped)
    → StandsWith horizon o versions entries rows → Stood horizon entries
stood horizon None versions entries rows s = record { versions = versions; stands = s }
stood horizon (Some m) versions entries rows s = record { versions = _; stands = s.before }

in_seen : (o : Option ℤ) (rows : List Stamped) (entries : List TableEntry) (e : TableEntry) → In e entries
    → In e (seen_with o rows entries)
in_seen None rows entries e m = m
in_seen (Some n) rows entries e m = inr m

-- no pin is later than the last commit, so the copies up to it do not include the working copy
until_seen : (horizon o : Option ℤ) (versions : List Version) (entries : List TableEntry) (rows : List Stamped) (p : ℤ)
    → StandsWith horizon o versions entries rows → (e : TableEntry) → In e entries → e.moment ≡ p
    → not_after p (seen_with o rows entries) ≡ not_after p entries
until_seen horizon None versions entries rows p s e m q = refl
until_seen horizon (Some n) versions entries rows p s e m q =
    let later = told_below horizon s.now.rows s.now.ends n entries s.now.told.1.1 e m in
    let l : p <ℤ n = omega (arith, ints) in
    rw (le_false {a = n} {b = p} l) refl

-- ---- one table

kept-stands : (pin : Option ℤ) (k : ℤ) (o : Option ℤ) (versions : List Version) (entries : List TableEntry)
    (rows : List Stamped) → IsPin pin entries → StandsWith (kept_of k entries) o (filter alive versions) entries rows
    → StandsFor (kept_of k (until_pin pin entries)) (filter alive (map (shown_at pin) versions)) (until_pin pin entries)
kept-stands None k o versions entries rows is s =
    subst (λ (vs : List Version). StandsFor None vs []) (sym (none-live versions)) new-stands
kept-stands (Some p) k o versions entries rows is s =
    subst (λ (g : Option ℤ). StandsFor g (filter alive (map (shown_at (Some p)) versions)) (not_after p entries))
    (sym (kept-until k p entries is.0 is.1 is.2))
    (subst (λ (vs : List Version). StandsFor (kept_of k entries) vs (not_after p entries))
    (sym (shown-live p below versions))
    (subst (λ (es : List TableEntry). StandsFor (kept_of k entries) (begun_versions p (filter alive versions)) es)
    (until_seen (kept_of k entries) o (filter alive versions) entries rows p s is.0 is.1 is.2)
    (pin-stands (kept_of k entries) p (filter alive versions) (seen_with o rows entries) within
    (is.0, in_seen o rows entries is.0 is.1, is.2)
    (stands-seen (kept_of k entries) o (filter alive versions) entries rows s))))
  where
    before : Stood (kept_of k entries) entries
    before = stood (kept_of k entries) o (filter alive versions) entries rows s

    below : p <ℤ high
    below =
        let t = before.stands in
        let a = told_below (kept_of k entries) t.rows t.ends high entries t.told is.0 is.1 in
        let b = is.2 in omega (arith, ints)

    within : Within (kept_of k entries) p
    within =
        let t = before.stands in
        reaches_pin (kept_of k entries) t.rows t.ends high k p entries t.told is.0 is.1 is.2

wider : (m until : ℤ) (entries : List TableEntry) → m <ℤ until → Told None [] still m entries
    → Told None [] still until entries
wider m until [] l told = inr (λ r n. absurd n)
wider m until (e ∷ older) l told = (
  (let a = told.0 in omega (arith, ints)),
  (
    elim (told.1.0) [
      | inl out ↦ absurd out
      | inr f ↦ inr (record { copy = f.copy; starts = λ r n. absurd n; stops = λ r n. absurd n })
    ],
    told.1.1,
  ),
)

-- the copies up to a moment, without their rows, fit the empty list of rows
cut-emptied : (horizon : Option ℤ) (rows : List Stamped) (ends : Stamped → ℤ) (until p : ℤ) (entries : List TableEntry)
    → Told horizon rows ends until entries → Told None [] still until (emptied (not_after p entries))
cut-emptied horizon rows ends until p [] told = inr (λ r m. absurd m)
cut-emptied horizon rows ends until p (x ∷ older) told =
    either (le_tells x.moment p) (cut-emptied horizon rows ends x.moment p older told.1.1)
  where
    either : ((int_le x.moment p ≡ true) × (x.moment ≤ℤ p)) ⊎ ((int_le x.moment p ≡ false) × (p <ℤ x.moment))
        → Told None [] still x.moment (emptied (not_after p older))
        → Told None [] still until (emptied (if int_le x.moment p then x ∷ older else not_after p older))
    either (inl s) k = rw (s.0) (told-emptied horizon rows ends until (x ∷ older) told)
    either (inr s) k = rw (s.0) (wider x.moment until (emptied (not_after p older)) told.0 k)

gone-stands : (pin : Option ℤ) (k : ℤ) (horizon o : Option ℤ) (versions : List Version) (entries : List TableEntry)
    (rows : List Stamped) → StandsWith horizon o versions entries rows
    → StandsFor (kept_of k (emptied (until_pin pin entries))) [] (emptied (until_pin pin entries))
gone-stands None k horizon o versions entries rows s = new-stands
gone-stands (Some p) k horizon o versions entries rows s =
    let t = (stood horizon o versions entries rows s).stands in
    none-stands k (not_after p entries) (cut-emptied horizon t.rows t.ends high p entries t.told)

-- the copies of a table shown
abbrev copies_shown : Option ℤ → TableSlot → List TableEntry → List TableEntry
copies_shown pin s entries = if is_kept s then until_pin pin entries else emptied (until_pin pin entries)

table-stands : (s : TableSlot) (pin : Option ℤ) (k : ℤ) (last o : Option ℤ) (versions : List Version)
    (entries : List TableEntry) (rows : List Stamped) → IsPin pin entries
    → StandsWith (if is_brief s then last else kept_of k entries) o (filter alive versions) entries rows
    → StandsFor (kept_of k (copies_shown pin s entries)) (filter alive (versions_of_slot pin s versions))
    (copies_shown pin s entries)
table-stands Free pin k last o versions entries rows is s =
    gone-stands pin k (kept_of k entries) o (filter alive versions) entries rows s
table-stands Versioned pin k last o versions entries rows is s = kept-stands pin k o versions entries rows is s
table-stands Unversioned pin k last o versions entries rows is s =
    gone-stands pin k last o (filter alive versions) entries rows s

-- ---- the store

shown_horizon : (pin : Option ℤ) (slots : List TableSlot) (k : ℤ) (entries : List TableEntry) (t : ℕ)
    → horizon_of (map slot_pinned slots) pin k entries t ≡ kept_of k entries
shown_horizon pin slots k entries t =
    ap (λ (s : TableSlot). if is_brief s then pin else kept_of k entries) (slot_shown slots t)
    ∙ ap (λ (b : Bool). if b then pin else kept_of k entries) (shown_not_brief (slot_at slots t))

newest-shown : (pin : Option ℤ) (s : TableSlot) (horizon : Option ℤ) (versions : List Version)
    (entries : List TableEntry) → IsPin pin entries → StandsFor horizon versions entries
    → newest (copies_shown pin s entries) ≡ pin
newest-shown pin s horizon versions entries is t = either (is_kept s) (until_pin pin entries) ∙ last pin is
  where
    either : (b : Bool) (es : List TableEntry) → newest (if b then es else emptied es) ≡ newest es
    either true es = refl
    either false es = newest-emptied es

    last : (q : Option ℤ) → IsPin q entries → newest (until_pin q entries) ≡ q
    last None i = refl
    last (Some p) i = newest-until horizon t.rows t.ends high p entries t.told i.0 i.1 i.2

-- a store shown at a pin represents the copies up to it
pub pin-copies : (pin : Option ℤ) (h : StoreModel) → PinCopies pin h (pinned pin h)
pin-copies pin h = λ copies working any pins r. record {
  dated = λ t. let s = stood _ h.working _ _ _ (r.stands t) in
      newest-shown pin (slot_at h.tables t) _ s.versions (copies t) (pins t) s.stands;
  stands = λ t. subst
      (λ (g : Option ℤ). StandsFor g (live (pinned pin h) t) (copies_shown pin (slot_at h.tables t) (copies t)))
      (sym (shown_horizon pin h.tables h.horizon (copies_shown pin (slot_at h.tables t) (copies t)) t))
      (subst (λ (vs : List Version). StandsFor (kept_of h.horizon (copies_shown pin (slot_at h.tables t) (copies t))) vs
      (copies_shown pin (slot_at h.tables t) (copies t)))
      (sym (live-pinned pin h t))
      (table-stands (slot_at h.tables t) pin h.horizon h.last h.working (slice_index_or h.versions t []) (copies t)
      (working t) (pins t) (r.stands t)));
}

-- The versions shown at a pin represent the copies up to it.
use Rattle.std.proofs.Common.{◌≡◌, ℕ, Bool, true, false, cond, List, [], ◌∷◌, map, filter, refl, sym, ap, subst}
use Rattle.std.proofs.Common.{◌∙◌, arith, inl, inr}
use Rattle.std.specs.Prelude.{◌⊎◌, ◌&&◌, ℤ, ◌≤ℤ◌, ◌<ℤ◌, int_le, int_lt, if◌then◌else◌, Option, Some, None}
use Rattle.std.proofs.lemmas.Int.{ints}
use Rattle.tql_spec.proofs.Bags.{sum-map, sum-filter, same-filter, same-map, same-trans}
use Rattle.tql_spec.proofs.Members.{lt_tells, le_tells, sum-in}
use Rattle.tql_spec.specs.Bag.{SameBag, In}
use Rattle.tql_spec.specs.Calendar.{high}
use Rattle.tql_spec.specs.Definition.{Stamped, Version}
use Rattle.tql_spec.specs.History.{Entry, TableEntry, rows_in, table_history, with_end, completed}
use Rattle.tql_spec.specs.ReaderLaws as laws
use Rattle.tql_store.proofs.Apply.{in-filter, lt_true, le_true}
use Rattle.tql_store.proofs.Readings.{beyond, under, stands_tells, sum-picked}
use Rattle.tql_pinned.specs.Asked.{capped}
use Rattle.tql_store.specs.Pinned.{not_after, until_pin, IsPin}
use Rattle.tql_store.specs.Stands.{stands_at, Within, Fits, Told, StandsFor}

-- ---- one table

-- the end of a row as known at a moment
abbrev ends_at : ℤ → (Stamped → ℤ) → Stamped → ℤ
ends_at p ends r = if int_lt p (ends r) then high else ends r

-- the rows that had begun
abbrev begun_by : ℤ → List Stamped → List Stamped
begun_by p rows = filter (λ r. int_le r.start p) rows

-- a row that had begun starts no later than the moment
begun_says : (p : ℤ) (rows : List Stamped) (r : Stamped) → In r (begun_by p rows) → In r rows × (r.start ≤ℤ p)
begun_says p rows r m =
    let k = in-filter (λ x. int_le x.start p) r rows m in
    (k.0, elim (le_tells r.start p) [ inl s ↦ s.1 | inr s ↦ absurd (let a = s.0 in let b = k.1 in cc) ])

-- the two cases of a known end
ends_tell : (p : ℤ) (ends : Stamped → ℤ) (r : Stamped)
    → ((p <ℤ ends r) × (ends_at p ends r ≡ high)) ⊎ ((ends r ≤ℤ p) × (ends_at p ends r ≡ ends r))
ends_tell p ends r = elim (lt_tells p (ends r)) [
  | inl s ↦ inl (s.1, ap (λ b. if b then high else ends r) s.0)
  | inr s ↦ inr (s.1, ap (λ b. if b then high else ends r) s.0)
]

-- at a moment up to the pin, the same rows exist
stands_same : (p m : ℤ) (ends : Stamped → ℤ) (r : Stamped) → m ≤ℤ p → p <ℤ high
    → stands_at (ends_at p ends) m r ≡ stands_at ends m r
stands_same p m ends r l top = elim (ends_tell p ends r) [
  | inl s ↦ ap (λ n. int_le r.start m && int_lt m n) s.1
      ∙ ap (λ b. int_le r.start m && b) (lt_true {a = m} {b = high} (omega (arith, ints))
      ∙ sym (lt_true {a = m} {b = ends r} (let a = s.0 in omega (arith, ints))))
  | inr s ↦ ap (λ n. int_le r.start m && int_lt m n) s.1
]

copy_pinned : (p : ℤ) (rows : List Stamped) (ends : Stamped → ℤ) (e : TableEntry) → e.moment ≤ℤ p → p <ℤ high
    → SameBag e.rows (filter (stands_at ends e.moment) rows)
    → SameBag e.rows (filter (stands_at (ends_at p ends) e.moment) (begun_by p rows))
copy_pinned p rows ends e l top f = same-trans f (record {
  totals = λ w. sum-filter (stands_at ends e.moment) w rows
      ∙ sum-in _ (λ r. cond (int_le r.start p) (cond (stands_at (ends_at p ends) e.moment r) (w r) 0) 0) rows (one w)
      ∙ sym (sum-filter (stands_at (ends_at p ends) e.moment) w (begun_by p rows)
      ∙ sum-filter (λ r. int_le r.start p) (λ r. cond (stands_at (ends_at p ends) e.moment r) (w r) 0) rows);
})
  where
    nothing : (b : Bool) (w : ℕ) → 0 ≡ cond b (cond {A = ℕ} false w 0) 0
    nothing true w = refl
    nothing false w = refl

    one : (w : Stamped → ℕ) (r : Stamped) → In r rows
        → cond (stands_at ends e.moment r) (w r) 0 ≡ cond (int_le r.start p)
        (cond (stands_at (ends_at p ends) e.moment r) (w r) 0) 0
    one w r m = elim (stands_tells ends e.moment r) [
      | inl s ↦ ap (λ (b : Bool). cond b (w r) 0) s.0
          ∙ sym (ap (λ (b : Bool). cond b (cond (stands_at (ends_at p ends) e.moment r) (w r) 0) 0)
          (le_true {a = r.start} {b = p} (let a = s.1 in omega (arith, ints)))
          ∙ ap (λ (b : Bool). cond b (w r) 0) (stands_same p e.moment ends r l top ∙ s.0))
      | inr s ↦ ap (λ (b : Bool). cond b (w r) 0) s.0 ∙ nothing (int_le r.start p) (w r)
          ∙ sym (ap (λ (b : Bool). cond (int_le r.start p) (cond b (w r) 0) 0)
          (stands_same p e.moment ends r l top ∙ s.0))
    ]

-- the copies before the pin fit these rows
told_before : (horizon : Option ℤ) (p : ℤ) (rows : List Stamped) (ends : Stamped → ℤ) (until : ℤ)
    (entries : List TableEntry) → until ≤ℤ p → p <ℤ high → Told horizon rows ends until entries
    → Told horizon (begun_by p rows) (ends_at p ends) until entries
told_before horizon p rows ends until [] l top (inl past) = inl past
told_before horizon p rows ends until [] l top (inr born) = inr (λ r m. born r (begun_says p rows r m).0)
told_before horizon p rows ends until (e ∷ older) l top told = (
  told.0,
  (
    elim (told.1.0) [ inl past ↦ inl past | inr f ↦ inr (fits f) ],
    told_before horizon p rows ends e.moment older (let a = told.0 in omega (arith, ints)) top told.1.1,
  ),
)
  where
    fits : Fits rows ends e until → Fits (begun_by p rows) (ends_at p ends) e until
    fits f = record {
      copy = copy_pinned p rows ends e (let a = told.0 in omega (arith, ints)) top f.copy;
      starts = λ r m. f.starts r (begun_says p rows r m).0;
      stops = λ r m. elim (ends_tell p ends r) [
        | inl s ↦ inr (let a = s.1 in omega (arith, ints))
        | inr s ↦ elim (f.stops r (begun_says p rows r m).0)
            [ inl a ↦ inl (let b = s.1 in omega (arith, ints)) | inr a ↦ inr (let b = s.1 in omega (arith, ints)) ]
      ];
    }

-- each copy is earlier than the moment until which the newest lasts
pub told_below : (horizon : Option ℤ) (rows : List Stamped) (ends : Stamped → ℤ) (until : ℤ) (entries : List TableEntry)
    → Told horizon rows ends until entries → (e : TableEntry) → In e entries → e.moment <ℤ until
told_below horizon rows ends until [] told e m = absurd m
told_below horizon rows ends until (x ∷ older) told e (inl q) =
    let a = told.0 in let b : e.moment ≡ x.moment = ap (λ (y : TableEntry). y.moment) q in omega (arith, ints)
told_below horizon rows ends until (x ∷ older) told e (inr m) =
    let a = told.0 in let b = told_below horizon rows ends x.moment older told.1.1 e m in omega (arith, ints)

-- the copies up to the pin fit these rows, the one of the pin from then on
told_at : (horizon : Option ℤ) (p : ℤ) (rows : List Stamped) (ends : Stamped → ℤ) (until : ℤ)
    (entries : List TableEntry) → Within horizon p → p <ℤ until → until ≤ℤ high
    → (e : TableEntry) → In e entries → e.moment ≡ p → Told horizon rows ends until entries
    → Told horizon (begun_by p rows) (ends_at p ends) high (not_after p entries)
told_at horizon p rows ends until [] from l top e m q told = absurd m
told_at horizon p rows ends until (x ∷ older) from l top e m q told = elim (le_tells x.moment p) [
  | inl s ↦ subst
      (λ b. Told horizon (begun_by p rows) (ends_at p ends) high (if b then x ∷ older else not_after p older))
      (sym s.0) (
        (let a = told.0 in omega (arith, ints)),
        (
          inr (fits s.1 (beyond horizon until (under horizon from l) told.1.0)),
          told_before horizon p rows ends x.moment older s.1 (omega (arith, ints)) told.1.1,
        ),
      )
  | inr s ↦ subst
      (λ b. Told horizon (begun_by p rows) (ends_at p ends) high (if b then x ∷ older else not_after p older))
      (sym s.0)
      (told_at horizon p rows ends x.moment older from s.1 (let a = told.0 in omega (arith, ints)) e (later s.1 m) q
      told.1.1)
]
  where
    fits : x.moment ≤ℤ p → Fits rows ends x until → Fits (begun_by p rows) (ends_at p ends) x high
    fits k f = record {
      copy = copy_pinned p rows ends x k (omega (arith, ints)) f.copy;
      starts = λ r n. let b = begun_says p rows r n in elim (f.starts r b.0)
          [ inl a ↦ inl a | inr a ↦ absurd (let c = b.1 in omega (arith, ints)) ];
      stops = λ r n. elim (ends_tell p ends r) [
        | inl s ↦ inr (let a = s.1 in omega (arith, ints))
        | inr s ↦ elim (f.stops r (begun_says p rows r n).0) [
          | inl a ↦ inl (let b = s.1 in omega (arith, ints))
          | inr a ↦ absurd (let b = s.0 in omega (arith, ints))
        ]
      ];
    }

    later : p <ℤ x.moment → In e (x ∷ older) → In e older
    later k (inl z) = absurd (let a : e.moment ≡ x.moment = ap (λ (y : TableEntry). y.moment) z in omega (arith, ints))
    later k (inr n) = n

-- the versions that had begun, as they were at a moment
abbrev pub begun_versions : ℤ → List Version → List Version
begun_versions p versions = map (capped p) (filter (λ v. int_le v.row.start p) versions)

-- they represent the copies up to a moment, if history reaches back to it
pub pin-stands : (horizon : Option ℤ) (p : ℤ) (versions : List Version) (entries : List TableEntry) → Within horizon p
    → IsPin (Some p) entries → StandsFor horizon versions entries
    → StandsFor horizon (begun_versions p versions) (not_after p entries)
pin-stands horizon p versions entries from pin s = record {
  rows = begun_by p s.rows;
  ends = ends_at p s.ends;
  top = s.top;
  made = same-trans (same-map (capped p) (same-filter (λ v. int_le v.row.start p) s.made)) (record {
    totals = λ w. sum-map (capped p) w (filter (λ v. int_le v.row.start p) (completed s.ends s.rows))
        ∙ sum-picked (λ v. int_le v.row.start p) s.ends (λ v. w (capped p v)) s.rows
        ∙ sym (sum-map (with_end (ends_at p s.ends)) w (begun_by p s.rows)
        ∙ sum-filter (λ r. int_le r.start p) (λ r. w (with_end (ends_at p s.ends) r)) s.rows);
  });
  proper = λ r m.
      let k = begun_says p s.rows r m in
      let a = s.proper r k.0 in
      elim (ends_tell p s.ends r) [
        | inl t ↦ let b = t.1 in let c = k.1 in let d = below in
            ((omega (arith, ints)), (omega (arith, ints)))
        | inr t ↦ let b = t.1 in let c = a.0 in let d = a.1 in ((omega (arith, ints)), (omega (arith, ints)))
      ];
  told = told_at horizon p s.rows s.ends high entries from below (omega (arith, ints)) pin.0 pin.1 pin.2 s.told;
}
  where
    below : p <ℤ high
    below =
        let a = told_below horizon s.rows s.ends high entries s.told pin.0 pin.1 in let b = pin.2 in omega (arith, ints)

-- ---- the copies of one table and of all

-- up to a moment
pub history_not_after : (t : ℕ) (p : ℤ) (es : List Entry)
    → table_history t (laws.not_after p es) ≡ not_after p (table_history t es)
history_not_after t p [] = refl
history_not_after t p (e ∷ older) = either (int_le e.moment p) (history_not_after t p older)
  where
    here : TableEntry
    here = record { moment = e.moment; rows = rows_in e.copy t }

    either : (b : Bool) → table_history t (laws.not_after p older) ≡ not_after p (table_history t older)
        → ◌≡◌ {A = List TableEntry} (table_history t (if b then e ∷ older else laws.not_after p older))
        (if b then here ∷ table_history t older else not_after p (table_history t older))
    either true k = refl
    either false k = k

-- up to a pin
pub history-until-pin : (t : ℕ) (pin : Option ℤ) (es : List Entry)
    → table_history t (laws.until_pin pin es) ≡ until_pin pin (table_history t es)
history-until-pin t None es = refl
history-until-pin t (Some p) es = history_not_after t p es

-- What the definitions find in the copies equals what the versions give.
use Rattle.std.proofs.Common.{◌≡◌, ℕ, Bool, true, false, cond, List, [], ◌∷◌, filter, refl, sym, ap, ◌∙◌, arith, inl}
use Rattle.std.proofs.Common.{inr}
use Rattle.std.specs.Prelude.{◌⊎◌, ◌&&◌, ℤ, ◌≤ℤ◌, ◌<ℤ◌, int_lt, ltb, Option, Some, None}
use Rattle.std.specs.List.{sum_by}
use Rattle.std.proofs.lemmas.Int.{ints}
use Rattle.tql_spec.proofs.Bags.{sum-map, sum-filter}
use Rattle.tql_spec.proofs.Members.{lt_tells, le_tells, sum-in, sum-zero, any-total, picked}
use Rattle.tql_spec.specs.Bag.{SameBag, In}
use Rattle.tql_spec.specs.Definition.{Stamped, same_stamped, Version}
use Rattle.tql_spec.specs.History.{TableEntry, has_row, with_end, completed, ends_before, as_of_from}
use Rattle.tql_versions.specs.Changes.{Under, Past, holds}
use Rattle.tql_store.specs.Stands.{stands_at, Within, Fits, Told}

-- ---- horizons

-- a copy that lasts beyond the horizon fits the rows
pub beyond : (horizon : Option ℤ) (until : ℤ) {P : Type 0} → Under horizon until → Past horizon until ⊎ P → P
beyond None until u (inl a) = absurd a
beyond (Some h) until u (inl a) = absurd (omega (arith, ints))
beyond None until u (inr b) = b
beyond (Some h) until u (inr b) = b

-- if a moment is within the horizon, a later one is after it
pub under : (horizon : Option ℤ) {m until : ℤ} → Within horizon m → m <ℤ until → Under horizon until
under None w h = w
under (Some g) w h = omega (arith, ints)

-- ---- rows

-- whether a row exists at a moment, as inequalities
pub stands_tells : (ends : Stamped → ℤ) (m : ℤ) (r : Stamped)
    → ((stands_at ends m r ≡ true) × (r.start ≤ℤ m) × (m <ℤ ends r)) ⊎
    ((stands_at ends m r ≡ false) × ((m <ℤ r.start) ⊎ (ends r ≤ℤ m)))
stands_tells ends m r = elim (le_tells r.start m) [
  | inl a ↦ elim (lt_tells m (ends r)) [
    | inl b ↦ inl (ap (λ c. c && int_lt m (ends r)) a.0 ∙ b.0, a.1, b.1)
    | inr b ↦ inr (ap (λ c. c && int_lt m (ends r)) a.0 ∙ b.0, inr b.1)
  ]
  | inr a ↦ inr (ap (λ c. c && int_lt m (ends r)) a.0, inl a.1)
]

-- the totals of completed rows that pass a test
pub sum-picked : (p : Version → Bool) (ends : Stamped → ℤ) (w : Version → ℕ) (rows : List Stamped)
    → sum_by w (filter p (completed ends rows)) ≡ sum_by (λ r. cond (p (with_end ends r)) (w (with_end ends r)) 0) rows
sum-picked p ends w rows = sum-filter p w (completed ends rows) ∙ sum-map (with_end ends) (λ v. cond (p v) (w v) 0) rows

-- a copy has a row exactly if the row exists at its moment
pub has_is : {rows : List Stamped} {ends : Stamped
    → ℤ} {e : TableEntry} {until : ℤ} (f : Fits rows ends e until) (r : Stamped) → In r rows
    → has_row e.rows r ≡ stands_at ends e.moment r
has_is {rows} {ends} {e} f r m =
    any-total (same_stamped r) e.rows
    ∙ ap (ltb 0) (f.copy.totals (λ x. cond (same_stamped r x) 1 0)
    ∙ sum-filter (stands_at ends e.moment) (λ x. cond (same_stamped r x) 1 0) rows)
    ∙ picked (stands_at ends e.moment) r rows m

-- the known ends are right where they are needed
pub record Known (rows : List Stamped) (ends known : Stamped → ℤ) (until : ℤ) : Type 0 where
  pub agrees : (r : Stamped) → In r rows → r.start <ℤ until → until ≤ℤ ends r → known r ≡ ends r

pub known_at : {rows : List Stamped} {ends known : Stamped → ℤ} {e : TableEntry} {until : ℤ} → e.moment <ℤ until
    → Fits rows ends e until → Known rows ends known until → (r : Stamped) → In r rows → r.start ≤ℤ e.moment
    → e.moment <ℤ ends r → known r ≡ ends r
known_at {rows} {ends} {known} {e} {until} rises f k r m a b =
    k.agrees r m (omega (arith, ints)) (elim (f.stops r m) [ inl c ↦ absurd (omega (arith, ints)) | inr c ↦ c ])

pub known_before : {rows : List Stamped} {ends known : Stamped → ℤ} {e : TableEntry} {until : ℤ} → e.moment <ℤ until
    → Fits rows ends e until → Known rows ends known until → Known rows ends (ends_before e known) e.moment
known_before {rows} {ends} {known} {e} {until} rises f k = record {
  agrees = λ r m begins reaches.
      let has : has_row e.rows r ≡ stands_at ends e.moment r = has_is f r m in
      elim (stands_tells ends e.moment r) as (λ x. ends_before e known r ≡ ends r) [
        | inl s ↦ ap (λ b. cond b (known r) e.moment) (has ∙ s.0) ∙ known_at rises f k r m s.1 s.2
        | inr s ↦ ap (λ b. cond b (known r) e.moment) (has ∙ s.0)
            ∙ elim (s.1) [ inl c ↦ absurd (omega (arith, ints)) | inr c ↦ omega (arith, ints) ]
      ];
}

-- ---- at a moment

cond_same : (b c : Bool) (x y : ℕ) → b ≡ c → (c ≡ true → x ≡ y) → cond b x 0 ≡ cond c y 0
cond_same b true x y e h = ap (λ (a : Bool). cond a x 0) e ∙ h refl
cond_same b false x y e h = ap (λ (a : Bool). cond a x 0) e

-- the same rows exist as long as a copy lasts
pub stands_still : {rows : List Stamped} {ends : Stamped → ℤ} {e : TableEntry} {until : ℤ} → Fits rows ends e until
    → (m : ℤ) → e.moment ≤ℤ m → m <ℤ until → (r : Stamped) → In r rows → stands_at ends e.moment r ≡ stands_at ends m r
stands_still {rows} {ends} {e} {until} f m from before r within =
    let a = f.starts r within in
    let b = f.stops r within in
    grind (arith, ints, stands_tells ends e.moment r, stands_tells ends m r, a, b)

pub as_of-is : (horizon : Option ℤ) (rows : List Stamped) (ends known : Stamped
    → ℤ) (until m : ℤ) (entries : List TableEntry) → Told horizon rows ends until entries
    → Known rows ends known until → Within horizon m → m <ℤ until
    → SameBag (as_of_from until known m entries) (filter (holds m) (completed ends rows))
as_of-is horizon rows ends known until m [] told k from before = record {
  totals = λ w.
      sym (sum-picked (holds m) ends w rows
      ∙ sum-zero _ rows (λ r within. ap (λ (b : Bool). cond b (w (with_end ends r)) 0)
      (elim (stands_tells ends m r) as (λ x. stands_at ends m r ≡ false) [
        | inl s ↦ absurd (let h = beyond horizon until (under horizon from before) told r within in omega (arith, ints))
        | inr s ↦ s.0
      ])));
}
as_of-is horizon rows ends known until m (e ∷ older) told k from before =
    elim (le_tells e.moment m) as
    (λ x. SameBag (as_of_from until known m (e ∷ older)) (filter (holds m) (completed ends rows))) [
      | inl s ↦ rw (s.0, until_true) (record {
        totals = λ w.
            sum-map (with_end known) w e.rows ∙ f.copy.totals (λ r. w (with_end known r))
            ∙ sum-filter (stands_at ends e.moment) (λ r. w (with_end known r)) rows
            ∙ sum-in _ _ rows (λ r within. cond_same _ _ _ _ (stands_still f m s.1 before r within)
            (λ t. ap (λ (n : ℤ). w (record { row = r; end = n })) (right r within s.1 t)))
            ∙ sym (sum-picked (holds m) ends w rows);
      })
      | inr s ↦ rw s.0 (as_of-is horizon rows ends (ends_before e known) e.moment m older told.1.1
          (known_before told.0 f k) from s.1)
    ]
  where
    f : Fits rows ends e until
    f = beyond horizon until (under horizon from before) told.1.0

    until_true : int_lt m until ≡ true
    until_true = elim (lt_tells m until) [ inl s ↦ s.0 | inr s ↦ absurd (omega (arith, ints)) ]

    right : (r : Stamped) → In r rows → e.moment ≤ℤ m → stands_at ends m r ≡ true → known r ≡ ends r
    right r within begun t =
        elim (stands_tells ends e.moment r) [
          | inl s ↦ known_at told.0 f k r within s.1 s.2
          | inr s ↦ let same = stands_still f m begun before r within in cc
        ]

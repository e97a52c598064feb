-- The horizon of a table, given by its copies: the moment of the oldest if the horizon of the database has reached it.
use Rattle.std.proofs.Common.{◌≡◌, ℕ, Bool, true, false, cond, List, [], ◌∷◌, filter, refl, sym, ap, subst, ◌∙◌, arith}
use Rattle.std.proofs.Common.{inl, inr}
use Rattle.std.specs.Prelude.{◌⊎◌, ◌||◌, ℤ, ◌≤ℤ◌, ◌<ℤ◌, int_le, int_lt, if◌then◌else◌, Option, Some, None}
use Rattle.std.specs.Ordering.{int_eq}
use Rattle.std.proofs.lemmas.Bool.Decides.{Decides-int_eq}
use Rattle.std.proofs.lemmas.Int.{ints}
use Rattle.tql_spec.proofs.Bags.{sum-map, sum-filter, same-filter, same-trans}
use Rattle.tql_spec.proofs.Members.{le_tells, sum-in}
use Rattle.tql_spec.specs.Bag.{In}
use Rattle.tql_spec.specs.Calendar.{high}
use Rattle.tql_spec.specs.Definition.{Stamped, Version}
use Rattle.tql_spec.specs.History.{TableEntry, with_end}
use Rattle.tql_versions.specs.Changes.{Past, Under, is_current, left_by}
use Rattle.tql_store.specs.Changes.{newest}
use Rattle.tql_store.specs.Kept.{forgotten, kept_of, oldest}
use Rattle.tql_store.specs.Stands.{stands_at, Within, Fits, Told, StandsFor}
use Rattle.tql_store.proofs.Laws.{stands-later}
use Rattle.tql_store.proofs.Readings.{stands_tells, sum-picked}
use Rattle.tql_store.proofs.Apply.{in-filter, lt_true}

-- ---- rows that are kept

-- whether a horizon keeps a row
abbrev is_left : ℤ → (Stamped → ℤ) → Stamped → Bool
is_left h ends r = int_lt h (ends r) || int_eq (ends r) high

abbrev staying : ℤ → (Stamped → ℤ) → List Stamped → List Stamped
staying h ends rows = filter (is_left h ends) rows

-- a row that ends after the horizon is kept
stays_late : (h : ℤ) (ends : Stamped → ℤ) (r : Stamped) → h <ℤ ends r → is_left h ends r ≡ true
stays_late h ends r l = ap (λ b. b || int_eq (ends r) high) (lt_true {a = h} {b = ends r} l)

-- so is a current row
stays_now : (h : ℤ) (ends : Stamped → ℤ) (r : Stamped) → ends r ≡ high → is_left h ends r ≡ true
stays_now h ends r e = either (int_lt h (ends r)) ((Decides-int_eq (ends r) high).1 e)
  where
    either : (a : Bool) {b : Bool} → b ≡ true → (a || b) ≡ true
    either true q = refl
    either false q = q

-- a copy that lasts beyond the horizon, or until the highest moment, loses no row
fits_staying : (h : ℤ) (rows : List Stamped) (ends : Stamped → ℤ) (e : TableEntry) (until : ℤ)
    → ((r : Stamped) → In r rows → ends r ≤ℤ high) → (h <ℤ until) ⊎ (until ≡ high) → Fits rows ends e until
    → Fits (staying h ends rows) ends e until
fits_staying h rows ends e until top late f = record {
  copy = same-trans f.copy (record {
    totals = λ w. sum-filter (stands_at ends e.moment) w rows
        ∙ sum-in _ (λ r. cond (is_left h ends r) (cond (stands_at ends e.moment r) (w r) 0) 0) rows (one w)
        ∙ sym (sum-filter (stands_at ends e.moment) w (staying h ends rows)
        ∙ sum-filter (is_left h ends) (λ r. cond (stands_at ends e.moment r) (w r) 0) rows);
  });
  starts = λ r m. f.starts r (in-filter (is_left h ends) r rows m).0;
  stops = λ r m. f.stops r (in-filter (is_left h ends) r rows m).0;
}
  where
    nothing : (b : Bool) (w : ℕ) → cond {A = ℕ} false w 0 ≡ cond b (cond {A = ℕ} false w 0) 0
    nothing true w = refl
    nothing false w = refl

    left : (r : Stamped) → In r rows → e.moment <ℤ ends r → is_left h ends r ≡ true
    left r m l = elim (f.stops r m) [
      | inl a ↦ absurd (omega (arith, ints))
      | inr a ↦ elim late [
        | inl b ↦ stays_late h ends r (omega (arith, ints))
        | inr b ↦ stays_now h ends r (let c = top r m in omega (arith, ints))
      ]
    ]

    one : (w : Stamped → ℕ) (r : Stamped) → In r rows
        → cond (stands_at ends e.moment r) (w r) 0
        ≡ cond (is_left h ends r) (cond (stands_at ends e.moment r) (w r) 0) 0
    one w r m = elim (stands_tells ends e.moment r) [
      | inl s ↦ sym (ap (λ (b : Bool). cond b (cond (stands_at ends e.moment r) (w r) 0) 0) (left r m s.2))
      | inr s ↦ ap (λ (b : Bool). cond b (w r) 0) s.0 ∙ nothing (is_left h ends r) (w r)
          ∙ ap (λ (b : Bool). cond (is_left h ends r) (cond b (w r) 0) 0) (sym s.0)
    ]

-- ---- the horizon of the kept copies

-- the horizon that the kept copies give
abbrev final : ℤ → TableEntry → List TableEntry → Option ℤ
final h e [] = if int_le e.moment h then Some e.moment else None
final h e (f ∷ older) = if int_le e.moment h then Some e.moment else final h f older

kept_final : (h : ℤ) (e : TableEntry) (older : List TableEntry) → kept_of h (forgotten h (e ∷ older)) ≡ final h e older
kept_final h e [] = either (int_le e.moment h)
  where
    either : (b : Bool) → kept_of h (e ∷ (if b then [] else [])) ≡ (if int_le e.moment h then Some e.moment else None)
    either true = refl
    either false = refl
kept_final h e (f ∷ older) = either (int_le e.moment h) refl (kept_final h f older)
  where
    either : (b : Bool) → int_le e.moment h ≡ b → kept_of h (forgotten h (f ∷ older)) ≡ final h f older
        → kept_of h (e ∷ (if b then [] else forgotten h (f ∷ older)))
        ≡ (if b then Some e.moment else final h f older)
    either true q k = ap (λ b. if b then Some e.moment else None) q
    either false q k = k

-- the oldest copy is earlier than the moment until which the newest lasts
oldest_below : (horizon : Option ℤ) (rows : List Stamped) (ends : Stamped → ℤ) (until : ℤ) (e : TableEntry)
    (older : List TableEntry) → Told horizon rows ends until (e ∷ older) → oldest e older <ℤ until
oldest_below horizon rows ends until e [] told = told.0
oldest_below horizon rows ends until e (f ∷ older) told =
    let a = told.0 in let b = oldest_below horizon rows ends e.moment f older told.1.1 in omega (arith, ints)

-- the kept copies fit the kept rows
told_final : (horizon : Option ℤ) (h : ℤ) (rows : List Stamped) (ends : Stamped → ℤ) (until : ℤ) (e : TableEntry)
    (older : List TableEntry) → ((r : Stamped) → In r rows → ends r ≤ℤ high)
    → ((u : ℤ) → oldest e older <ℤ u → Past horizon u → ⊥) → (h <ℤ oldest e older → (u : ℤ) → Past horizon u → ⊥)
    → (h <ℤ until) ⊎ (until ≡ high) → Told horizon rows ends until (e ∷ older)
    → Told (final h e older) (staying h ends rows) ends until (forgotten h (e ∷ older))
told_final horizon h rows ends until e [] top known bare late told = either (le_tells e.moment h)
  where
    fits : Fits (staying h ends rows) ends e until
    fits = elim (told.1.0) [
      | inl past ↦ absurd (known until told.0 past)
      | inr f ↦ fits_staying h rows ends e until top late f
    ]

    either : ((int_le e.moment h ≡ true) × (e.moment ≤ℤ h)) ⊎ ((int_le e.moment h ≡ false) × (h <ℤ e.moment))
        → Told (if int_le e.moment h then Some e.moment else None) (staying h ends rows) ends until
        (e ∷ (if int_le e.moment h then [] else []))
    either (inl s) = subst (λ b. Told (if b then Some e.moment else None) (staying h ends rows) ends until
        (e ∷ (if b then [] else []))) (sym s.0) (told.0, (inr fits, inl (omega (arith, ints))))
    either (inr s) = subst (λ b. Told (if b then Some e.moment else None) (staying h ends rows) ends until
        (e ∷ (if b then [] else []))) (sym s.0) (
          told.0,
          (
            inr fits,
            elim (told.1.1) [
              | inl past ↦ absurd (bare s.1 e.moment past)
              | inr born ↦ inr (λ r m. born r (in-filter (is_left h ends) r rows m).0)
            ],
          ),
        )
told_final horizon h rows ends until e (f ∷ older) top known bare late told =
    either (le_tells e.moment h)
    (λ l. told_final horizon h rows ends e.moment f older top known bare (inl l) told.1.1)
  where
    fits : Fits (staying h ends rows) ends e until
    fits = elim (told.1.0) [
      | inl past ↦ absurd (known until (oldest_below horizon rows ends until e (f ∷ older) told) past)
      | inr k ↦ fits_staying h rows ends e until top late k
    ]

    either : ((int_le e.moment h ≡ true) × (e.moment ≤ℤ h)) ⊎ ((int_le e.moment h ≡ false) × (h <ℤ e.moment))
        → (h <ℤ e.moment → Told (final h f older) (staying h ends rows) ends e.moment (forgotten h (f ∷ older)))
        → Told (if int_le e.moment h then Some e.moment else final h f older) (staying h ends rows) ends until
        (e ∷ (if int_le e.moment h then [] else forgotten h (f ∷ older)))
    either (inl s) k = subst (λ b. Told (if b then Some e.moment else final h f older) (staying h ends rows) ends until
        (e ∷ (if b then [] else forgotten h (f ∷ older)))) (sym s.0) (told.0, (inr fits, inl (omega (arith, ints))))
    either (inr s) k = subst (λ b. Told (if b then Some e.moment else final h f older) (staying h ends rows) ends until
        (e ∷ (if b then [] else forgotten h (f ∷ older)))) (sym s.0) (told.0, (inr fits, k s.1))

-- and their horizon is below the highest moment
final_below : (horizon : Option ℤ) (h : ℤ) (rows : List Stamped) (ends : Stamped → ℤ) (until : ℤ) (e : TableEntry)
    (older : List TableEntry) → until ≤ℤ high → Told horizon rows ends until (e ∷ older) → Under (final h e older) high
final_below horizon h rows ends until e [] l told = either (int_le e.moment h)
  where
    either : (b : Bool) → Under (if b then Some e.moment else None) high
    either true = let a = told.0 in omega (arith, ints)
    either false = tt
final_below horizon h rows ends until e (f ∷ older) l told =
    either (int_le e.moment h)
    (final_below horizon h rows ends e.moment f older (let a = told.0 in omega (arith, ints)) told.1.1)
  where
    either : (b : Bool) → Under (final h f older) high → Under (if b then Some e.moment else final h f older) high
    either true k = let a = told.0 in omega (arith, ints)
    either false k = k

-- ---- the law

-- no moment after the oldest copy is past the horizon of the copies
kept_known : (g : ℤ) (e : TableEntry) (older : List TableEntry) (u : ℤ) → oldest e older <ℤ u
    → Past (kept_of g (e ∷ older)) u → ⊥
kept_known g e older u l past = either (int_le (oldest e older) g) past
  where
    either : (b : Bool) → Past (if b then Some (oldest e older) else None) u → ⊥
    either true p = absurd (omega (arith, ints))
    either false p = p

kept_bare : (g h : ℤ) (e : TableEntry) (older : List TableEntry) → g ≤ℤ h → h <ℤ oldest e older → (u : ℤ)
    → Past (kept_of g (e ∷ older)) u → ⊥
kept_bare g h e older l k u past = elim (le_tells (oldest e older) g) [
  | inl s ↦ absurd (let a = s.1 in omega (arith, ints))
  | inr s ↦ subst (λ b. Past (if b then Some (oldest e older) else None) u) s.0 past
]

-- for a table with history, the kept versions represent the kept copies, from the moment that these and the new horizon
-- give
pub keeps-law : (g h : ℤ) (versions : List Version) (entries : List TableEntry) → g ≤ℤ h
    → StandsFor (kept_of g entries) versions entries
    → StandsFor (kept_of h (forgotten h entries)) (left_by h versions) (forgotten h entries)
keeps-law g h versions entries l s = record {
  rows = staying h s.ends s.rows;
  ends = s.ends;
  top = top_of entries s.told;
  made = same-trans (same-filter (λ v. int_lt h v.end || is_current v) s.made) (record {
    totals = λ w. sum-picked (λ v. int_lt h v.end || is_current v) s.ends w s.rows
        ∙ sym (sum-map (with_end s.ends) w (staying h s.ends s.rows)
        ∙ sum-filter (is_left h s.ends) (λ r. w (with_end s.ends r)) s.rows);
  });
  proper = λ r m. s.proper r (in-filter (is_left h s.ends) r s.rows m).0;
  told = told_of entries s.told;
}
  where
    top_of : (es : List TableEntry) → Told (kept_of g es) s.rows s.ends high es
        → Under (kept_of h (forgotten h es)) high
    top_of [] told = tt
    top_of (e ∷ older) told = subst (λ o. Under o high) (sym (kept_final h e older))
        (final_below (kept_of g (e ∷ older)) h s.rows s.ends high e older (omega (arith, ints)) told)

    told_of : (es : List TableEntry) → Told (kept_of g es) s.rows s.ends high es
        → Told (kept_of h (forgotten h es)) (staying h s.ends s.rows) s.ends high (forgotten h es)
    told_of [] (inl past) = absurd past
    told_of [] (inr born) = inr (λ r m. born r (in-filter (is_left h s.ends) r s.rows m).0)
    told_of (e ∷ older) told = subst (λ o. Told o (staying h s.ends s.rows) s.ends high (forgotten h (e ∷ older)))
        (sym (kept_final h e older))
        (told_final (kept_of g (e ∷ older)) h s.rows s.ends high e older (λ r m. (s.proper r m).1)
        (kept_known g e older) (kept_bare g h e older l) (inr refl) told)

-- ---- consequences

-- a moment that is not before the database horizon is within what is kept
pub within_kept : (h m : ℤ) (entries : List TableEntry) → h ≤ℤ m → Within (kept_of h entries) m
within_kept h m [] l = tt
within_kept h m (e ∷ older) l = either (le_tells (oldest e older) h)
  where
    either : ((int_le (oldest e older) h ≡ true) × (oldest e older ≤ℤ h))
        ⊎ ((int_le (oldest e older) h ≡ false) × (h <ℤ oldest e older))
        → Within (if int_le (oldest e older) h then Some (oldest e older) else None) m
    either (inl s) = subst (λ b. Within (if b then Some (oldest e older) else None) m) (sym s.0)
        (let a = s.1 in omega (arith, ints))
    either (inr s) = subst (λ b. Within (if b then Some (oldest e older) else None) m) (sym s.0) tt

-- no copy is earlier than the oldest
pub oldest_in : (horizon : Option ℤ) (rows : List Stamped) (ends : Stamped → ℤ) (until : ℤ) (e : TableEntry)
    (older : List TableEntry) → Told horizon rows ends until (e ∷ older) → (x : TableEntry) → In x (e ∷ older)
    → oldest e older ≤ℤ x.moment
oldest_in horizon rows ends until e [] told x (inl q) =
    let a : x.moment ≡ e.moment = ap (λ (y : TableEntry). y.moment) q in omega (arith, ints)
oldest_in horizon rows ends until e [] told x (inr m) = absurd m
oldest_in horizon rows ends until e (f ∷ older) told x (inl q) =
    let a : x.moment ≡ e.moment = ap (λ (y : TableEntry). y.moment) q in
    let b = oldest_below horizon rows ends e.moment f older told.1.1 in omega (arith, ints)
oldest_in horizon rows ends until e (f ∷ older) told x (inr m) =
    oldest_in horizon rows ends e.moment f older told.1.1 x m

-- so the horizon is earlier than a moment after the newest copy
pub kept_under : (g : Option ℤ) (h m : ℤ) (versions : List Version) (entries : List TableEntry)
    → StandsFor g versions entries → Under (newest entries) m → Under (kept_of h entries) m
kept_under g h m versions [] s later = tt
kept_under g h m versions (e ∷ older) s later = either (int_le (oldest e older) h)
  where
    back : oldest e older ≤ℤ e.moment
    back = oldest_in g s.rows s.ends high e older s.told e (inl refl)

    either : (b : Bool) → Under (if b then Some (oldest e older) else None) m
    either true = let l = back in omega (arith, ints)
    either false = tt

-- and a moment past the horizon is no later than the newest copy
pub kept_past : (g : Option ℤ) (h u : ℤ) (versions : List Version) (entries : List TableEntry)
    → StandsFor g versions entries → Past (kept_of h entries) u → Past (newest entries) u
kept_past g h u versions [] s past = past
kept_past g h u versions (e ∷ older) s past = either (int_le (oldest e older) h) past
  where
    back : oldest e older ≤ℤ e.moment
    back = oldest_in g s.rows s.ends high e older s.told e (inl refl)

    either : (b : Bool) → Past (if b then Some (oldest e older) else None) u → u ≤ℤ e.moment
    either true p = let l = back in omega (arith, ints)
    either false p = absurd p

-- another copy does not change the horizon, unless it is the first one, which the database horizon may have reached
pub kept-more : (h : ℤ) (versions : List Version) (x : TableEntry) (older : List TableEntry)
    → StandsFor (kept_of h older) versions (x ∷ older) → StandsFor (kept_of h (x ∷ older)) versions (x ∷ older)
kept-more h versions x [] s =
    stands-later None (kept_of h (x ∷ [])) versions (x ∷ []) (λ u past. absurd past) (either (int_le x.moment h)) s
  where
    either : (b : Bool) → Under (if b then Some x.moment else None) high
    either true = let l = s.told.0 in omega (arith, ints)
    either false = tt
kept-more h versions x (e ∷ older) s = s

-- ---- a table that keeps only its last copy

-- copies older than one that is not after the horizon may be removed
told_forgotten : (g h : ℤ) (rows : List Stamped) (ends : Stamped → ℤ) (until : ℤ) (entries : List TableEntry)
    → ((x : ℤ) → x <ℤ until → x ≤ℤ h → x ≤ℤ g) → Told (Some g) rows ends until entries
    → Told (Some g) rows ends until (forgotten h entries)
told_forgotten g h rows ends until [] k told = told
told_forgotten g h rows ends until (e ∷ older) k told = (
  told.0,
  (
    told.1.0,
    rest (le_tells e.moment h)
        (told_forgotten g h rows ends e.moment older (λ x l n. k x (let m = told.0 in omega (arith, ints)) n) told.1.1),
  ),
)
  where
    rest : ((int_le e.moment h ≡ true) × (e.moment ≤ℤ h)) ⊎ ((int_le e.moment h ≡ false) × (h <ℤ e.moment))
        → Told (Some g) rows ends e.moment (forgotten h older)
        → Told (Some g) rows ends e.moment (if int_le e.moment h then [] else forgotten h older)
    rest (inl s) r = rw (s.0) (inl (k e.moment told.0 s.1))
    rest (inr s) r = rw (s.0) r

-- its versions also represent the copies that a horizon keeps
pub brief-keeps-law : (h : ℤ) (last : Option ℤ) (versions : List Version) (entries : List TableEntry)
    → newest entries ≡ last → StandsFor last versions entries → StandsFor last versions (forgotten h entries)
brief-keeps-law h last versions [] e s = s
brief-keeps-law h last versions (x ∷ older) e s =
    subst (λ (g : Option ℤ). StandsFor g versions (forgotten h (x ∷ older))) e
    (cut (subst (λ (g : Option ℤ). StandsFor g versions (x ∷ older)) (sym e) s))
  where
    cut : StandsFor (Some x.moment) versions (x ∷ older) → StandsFor (Some x.moment) versions (forgotten h (x ∷ older))
    cut t = record {
      rows = t.rows;
      ends = t.ends;
      top = t.top;
      made = t.made;
      proper = t.proper;
      told = (
        t.told.0,
        (
          t.told.1.0,
          rest t (le_tells x.moment h)
              (told_forgotten x.moment h t.rows t.ends x.moment older (λ y l n. omega (arith, ints)) t.told.1.1),
        ),
      );
    }
      where
        rest : (t : StandsFor (Some x.moment) versions (x ∷ older))
            → ((int_le x.moment h ≡ true) × (x.moment ≤ℤ h)) ⊎ ((int_le x.moment h ≡ false) × (h <ℤ x.moment))
            → Told (Some x.moment) t.rows t.ends x.moment (forgotten h older)
            → Told (Some x.moment) t.rows t.ends x.moment (if int_le x.moment h then [] else forgotten h older)
        rest t (inl q) r = rw (q.0) (inl (omega (arith, ints)))
        rest t (inr q) r = rw (q.0) r

-- the newest copy is kept
pub newest-forgotten : (h : ℤ) (entries : List TableEntry) → newest (forgotten h entries) ≡ newest entries
newest-forgotten h [] = refl
newest-forgotten h (e ∷ older) = refl

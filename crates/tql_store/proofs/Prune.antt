-- A later horizon forgets older history. For an unversioned table the horizon is the last commit.
use Rattle.std.proofs.Common.{◌≡◌, ℕ, Bool, true, false, cond, List, [], ◌∷◌, filter, refl, sym, ap, ◌∙◌, arith, inl}
use Rattle.std.proofs.Common.{inr}
use Rattle.std.specs.Prelude.{ℤ, ◌≤ℤ◌, ◌<ℤ◌, int_lt, Option, Some, None}
use Rattle.std.proofs.lemmas.Int.{ints}
use Rattle.tql_spec.proofs.Bags.{sum-map, sum-filter, same-filter, same-trans}
use Rattle.tql_spec.proofs.Members.{lt_tells, sum-in}
use Rattle.tql_spec.specs.Bag.{In}
use Rattle.tql_spec.specs.Definition.{Stamped, Version}
use Rattle.tql_spec.specs.Calendar.{high}
use Rattle.tql_spec.specs.History.{TableEntry, with_end}
use Rattle.tql_store.proofs.Apply.{in-filter, lt_true}
use Rattle.tql_store.proofs.Readings.{stands_tells, sum-picked}
use Rattle.tql_versions.specs.Changes.{pruned, Past}
use Rattle.tql_store.specs.Stands.{stands_at, Within, Fits, Told, StandsFor}

-- a moment past a horizon is no later than a later horizon
later : (horizon : Option ℤ) {h until : ℤ} → Within horizon h → Past horizon until → until ≤ℤ h
later None from past = absurd past
later (Some g) from past = omega (arith, ints)

-- the rows that end after a horizon
abbrev pub kept : ℤ → (Stamped → ℤ) → List Stamped → List Stamped
kept h ends rows = filter (λ r. int_lt h (ends r)) rows

fits-kept : (h : ℤ) (rows : List Stamped) (ends : Stamped → ℤ) (e : TableEntry) (until : ℤ) → h <ℤ until
    → Fits rows ends e until → Fits (kept h ends rows) ends e until
fits-kept h rows ends e until before f = record {
  copy = same-trans f.copy (record {
    totals = λ w. sum-filter (stands_at ends e.moment) w rows
        ∙ sum-in _ (λ r. cond (int_lt h (ends r)) (cond (stands_at ends e.moment r) (w r) 0) 0) rows (one w)
        ∙ sym (sum-filter (stands_at ends e.moment) w (kept h ends rows)
        ∙ sum-filter (λ r. int_lt h (ends r)) (λ r. cond (stands_at ends e.moment r) (w r) 0) rows);
  });
  starts = λ r m. f.starts r (in-filter (λ r. int_lt h (ends r)) r rows m).0;
  stops = λ r m. f.stops r (in-filter (λ r. int_lt h (ends r)) r rows m).0;
}
  where
    nothing : (b : Bool) (w : ℕ) → cond {A = ℕ} false w 0 ≡ cond b (cond {A = ℕ} false w 0) 0
    nothing true w = refl
    nothing false w = refl

    one : (w : Stamped → ℕ) (r : Stamped) → In r rows
        → cond (stands_at ends e.moment r) (w r) 0 ≡ cond (int_lt h (ends r))
        (cond (stands_at ends e.moment r) (w r) 0) 0
    one w r m = elim (stands_tells ends e.moment r) as
        (λ x. cond (stands_at ends e.moment r) (w r) 0 ≡ cond (int_lt h (ends r))
        (cond (stands_at ends e.moment r) (w r) 0) 0) [
          | inl s ↦ sym (ap (λ (b : Bool). cond b (cond (stands_at ends e.moment r) (w r) 0) 0)
              (lt_true {a = h} {b = ends r}
              (let t = s.2 in elim (f.stops r m)
              [ inl a ↦ absurd (omega (arith, ints)) | inr a ↦ omega (arith, ints) ])))
          | inr s ↦ ap (λ (b : Bool). cond b (w r) 0) s.0 ∙ nothing (int_lt h (ends r)) (w r)
              ∙ ap (λ (b : Bool). cond (int_lt h (ends r)) (cond b (w r) 0) 0) (sym s.0)
        ]

prune-told : (horizon : Option ℤ) (h : ℤ) (rows : List Stamped) (ends : Stamped
    → ℤ) (until : ℤ) (entries : List TableEntry) → Within horizon h → Told horizon rows ends until entries
    → Told (Some h) (kept h ends rows) ends until entries
prune-told horizon h rows ends until [] from (inl past) = inl (later horizon from past)
prune-told horizon h rows ends until [] from (inr born) =
    inr (λ r m. born r (in-filter (λ r. int_lt h (ends r)) r rows m).0)
prune-told horizon h rows ends until (e ∷ older) from told = (
  told.0,
  (
    elim (told.1.0) [
      | inl past ↦ inl (later horizon from past)
      | inr f ↦ elim (lt_tells h until) [ inl s ↦ inr (fits-kept h rows ends e until s.1 f) | inr s ↦ inl (s.1) ]
    ],
    prune-told horizon h rows ends e.moment older from told.1.1,
  ),
)

-- the versions that end after a later horizon represent the copies from there on
pub prune-stands : (horizon : Option ℤ) (h : ℤ) (versions : List Version) (entries : List TableEntry)
    → Within horizon h → h <ℤ high → StandsFor horizon versions entries → StandsFor (Some h) (pruned h versions) entries
prune-stands horizon h versions entries from below s = record {
  rows = kept h s.ends s.rows;
  ends = s.ends;
  top = below;
  made = same-trans (same-filter (λ v. int_lt h v.end) s.made) (record {
    totals = λ w. sum-picked (λ v. int_lt h v.end) s.ends w s.rows
        ∙ sym (sum-map (with_end s.ends) w (kept h s.ends s.rows)
        ∙ sum-filter (λ r. int_lt h (s.ends r)) (λ r. w (with_end s.ends r)) s.rows);
  });
  proper = λ r m. s.proper r (in-filter (λ r. int_lt h (s.ends r)) r s.rows m).0;
  told = prune-told horizon h s.rows s.ends high entries from s.told;
}

-- Readings of versions that represent the copies, and the beginning of a transaction.
use Rattle.std.proofs.Common.{◌≡◌, ℕ, Bool, true, false, cond, List, [], ◌∷◌, filter, refl, sym, ap, ◌∙◌, arith, inl}
use Rattle.std.proofs.Common.{inr}
use Rattle.std.specs.Prelude.{◌⊎◌, ◌&&◌, ℤ, ◌≤ℤ◌, ◌<ℤ◌, int_lt, if◌then◌else◌, int_le, Option, None}
use Rattle.std.specs.Ordering.{int_eq}
use Rattle.std.proofs.lemmas.Bool.Decides.{Decides-int_eq}
use Rattle.std.proofs.lemmas.Int.{ints}
use Rattle.tql_spec.proofs.Bags.{sum-map, sum-filter, same-filter, same-trans, same-sym}
use Rattle.tql_spec.proofs.Members.{by_bool, lt_tells, sum-in, sum-zero}
use Rattle.tql_spec.specs.Bag.{SameBag, In}
use Rattle.tql_spec.specs.Calendar.{high}
use Rattle.tql_spec.specs.Definition.{Stamped, Version}
use Rattle.tql_spec.specs.History.{TableEntry, with_end, completed, still, current, as_of, meets, from_to, as_of_from}
use Rattle.tql_spec.specs.History.{ends_before}
use Rattle.tql_store.proofs.Ranges.{reached, says-reached, Meets, meets-says, found-is}
use Rattle.tql_store.proofs.Readings.{beyond, stands_tells, sum-picked, Known, stands_still, as_of-is}
use Rattle.tql_store.specs.Changes.{begun, newest}
use Rattle.tql_versions.specs.Changes.{Under, is_current, holds}
use Rattle.tql_store.specs.Stands.{Within, stands_at, Outside, Fits, Told, Proper, StandsFor}

pub eq_tells : (a b : ℤ) → ((int_eq a b ≡ true) × (a ≡ b)) ⊎ ((int_eq a b ≡ false) × ((a <ℤ b) ⊎ (b <ℤ a)))
eq_tells a b = by_bool (int_eq a b) (λ e. inl (e, (Decides-int_eq a b).0 e)) (λ e. inr (
  e,
  elim (lt_tells a b) [
    | inl s ↦ inl (s.1)
    | inr s ↦ elim (lt_tells b a) [
      | inl t ↦ inr (t.1)
      | inr t ↦ absurd (let x = s.1 in let y = t.1 in let z = (Decides-int_eq a b).1 (omega (arith, ints)) in cc)
    ]
  ],
))

-- up to the highest moment every end is known
known_still : {rows : List Stamped} {ends : Stamped → ℤ} → Proper rows ends → Known rows ends still high
known_still proper = record { agrees = λ r within begins reaches. let p = (proper r within).1 in omega (arith, ints) }

-- the last copy fits the rows
pub first_fits : (horizon : Option ℤ) {versions : List Version} {e : TableEntry} {older : List TableEntry}
    (s : StandsFor horizon versions (e ∷ older)) → Fits s.rows s.ends e high
first_fits horizon s = beyond horizon high s.top s.told.1.0

-- ---- readings

as_of-early : (horizon : Option ℤ) (versions : List Version) (entries : List TableEntry) (m : ℤ)
    → StandsFor horizon versions entries → Within horizon m → m <ℤ high
    → SameBag (as_of m entries) (filter (holds m) versions)
as_of-early horizon versions entries m s from before =
    same-trans (as_of-is horizon s.rows s.ends still high m entries s.told (known_still s.proper) from before)
    (same-filter (holds m) (same-sym s.made))

no_less : {m until : ℤ} (b : Bool) → until ≤ℤ m → (b && int_lt m until) ≡ false
no_less {m} {until} true h =
    elim (lt_tells m until) [ inl s ↦ absurd (let t = s.1 in omega (arith, ints)) | inr s ↦ s.0 ]
no_less false h = refl

-- at the end of the newest copy or later, the definitions find no rows
as_of-none : (horizon : Option ℤ) (rows : List Stamped) (ends known : Stamped
    → ℤ) (until m : ℤ) (entries : List TableEntry) → Told horizon rows ends until entries → until ≤ℤ m
    → as_of_from until known m entries ≡ []
as_of-none horizon rows ends known until m [] told late = refl
as_of-none horizon rows ends known until m (e ∷ older) told late =
    ap (λ (b : Bool). if b then completed known e.rows else as_of_from e.moment (ends_before e known) m older)
    (no_less {m = m} {until = until} (int_le e.moment m) late)
    ∙ as_of-none horizon rows ends (ends_before e known) e.moment m older told.1.1
    (let u = told.0 in omega (arith, ints))

as_of-late : (horizon : Option ℤ) (versions : List Version) (entries : List TableEntry) (m : ℤ)
    → StandsFor horizon versions entries → high ≤ℤ m → SameBag (as_of m entries) (filter (holds m) versions)
as_of-late horizon versions entries m s late = same-trans none (same-filter (holds m) (same-sym s.made))
  where
    none : SameBag (as_of m entries) (filter (holds m) (completed s.ends s.rows))
    none = rw (as_of-none horizon s.rows s.ends still high m entries s.told late) (record {
      totals = λ w. sym (sum-picked (holds m) s.ends w s.rows ∙ sum-zero _ s.rows (λ r within.
          ap (λ (b : Bool). cond b (w (with_end s.ends r)) 0)
          (no_less {m = m} {until = s.ends r} (int_le r.start m)
          (let p = (s.proper r within).1 in omega (arith, ints)))));
    })

pub as_of-stands : (horizon : Option ℤ) (versions : List Version) (entries : List TableEntry) (m : ℤ)
    → StandsFor horizon versions entries → Within horizon m → SameBag (as_of m entries) (filter (holds m) versions)
as_of-stands horizon versions entries m s from =
    elim (lt_tells m high)
    [ inl a ↦ as_of-early horizon versions entries m s from a.1 | inr a ↦ as_of-late horizon versions entries m s a.1 ]

-- for a version that ends by the highest moment, bounding the range by that moment changes nothing
range_same : (a b : ℤ) (v : Version) → v.end ≤ℤ high → reached a b high v ≡ meets a b v.row.start v.end
range_same a b v top = by_bool (meets a b v.row.start v.end)
    (λ e. let m : Meets a b v.row.start v.end = meets-says e in
    let m0 = m.range in let m1 = m.version in let m2 = m.starts in let m3 = m.stops in
    says-reached v (record {
      range = m0;
      version = m1;
      starts = m2;
      stops = m3;
      before = omega (arith, ints);
      from = omega (arith, ints);
    }) ∙ sym e)
    (λ e. ap (λ (c : Bool). c && (int_lt v.row.start high && int_lt a high)) e ∙ sym e)

pub from_to-stands : (horizon : Option ℤ) (versions : List Version) (entries : List TableEntry) (a b : ℤ)
    → StandsFor horizon versions entries → Within horizon a
    → SameBag (from_to a b entries) (filter (λ v. meets a b v.row.start v.end) versions)
from_to-stands horizon versions entries a b s from =
    same-trans (found-is horizon s.rows s.ends still high a b entries s.proper s.told (known_still s.proper) from)
    (same-trans same (same-filter _ (same-sym s.made)))
  where
    same : SameBag (filter (reached a b high) (completed s.ends s.rows))
        (filter (λ v. meets a b v.row.start v.end) (completed s.ends s.rows))
    same = record {
      totals = λ w. sum-picked (reached a b high) s.ends w s.rows
          ∙ sum-in _ _ s.rows (λ r within. ap (λ (c : Bool). cond c (w (with_end s.ends r)) 0)
          (range_same a b (with_end s.ends r) (s.proper r within).1))
          ∙ sym (sum-picked (λ v. meets a b v.row.start v.end) s.ends w s.rows);
    }

-- a row is current if it exists at the moment of the last copy
current_is : (rows : List Stamped) (ends : Stamped → ℤ) (e : TableEntry) → Proper rows ends → e.moment <ℤ high
    → Fits rows ends e high → (r : Stamped) → In r rows → stands_at ends e.moment r ≡ is_current (with_end ends r)
current_is rows ends e proper rises f r within =
    let p = (proper r within).0 in
    let q = (proper r within).1 in
    elim (stands_tells ends e.moment r) as (λ x. stands_at ends e.moment r ≡ is_current (with_end ends r)) [
      | inl s ↦ let from = s.2 in s.0
          ∙ sym ((Decides-int_eq (ends r) high).1
          (elim (f.stops r within) [ inl c ↦ absurd (omega (arith, ints)) | inr c ↦ omega (arith, ints) ]))
      | inr s ↦ s.0 ∙ sym (elim (eq_tells (ends r) high) [
        | inr t ↦ t.0
        | inl t ↦ let g = t.1 in absurd (elim (s.1) [
          | inl c ↦ elim (f.starts r within) [ inl d ↦ omega (arith, ints) | inr d ↦ omega (arith, ints) ]
          | inr c ↦ omega (arith, ints)
        ])
      ])
    ]

pub current-stands : (horizon : Option ℤ) (versions : List Version) (entries : List TableEntry)
    → StandsFor horizon versions entries → SameBag (current entries) (filter is_current versions)
current-stands horizon versions [] s = same-trans none (same-filter is_current (same-sym s.made))
  where
    none : SameBag [] (filter is_current (completed s.ends s.rows))
    none = record {
      totals = λ w. sym (sum-picked is_current s.ends w s.rows ∙ sum-zero _ s.rows (λ r within.
          absurd (let a = beyond horizon high s.top s.told r within in let b = (s.proper r within).0 in let c =
          (s.proper r within).1 in omega (arith, ints))));
    }
current-stands horizon versions (e ∷ older) s = same-trans those (same-filter is_current (same-sym s.made))
  where
    one : (w : Version → ℕ) (r : Stamped) (b c : Bool) → b ≡ c → (c ≡ true → s.ends r ≡ high)
        → cond b (w (record { row = r; end = high })) 0 ≡ cond c (w (with_end s.ends r)) 0
    one w r b true p q = ap (λ (x : Bool). cond x (w (record { row = r; end = high })) 0) p
        ∙ ap (λ (n : ℤ). w (record { row = r; end = n })) (sym (q refl))
    one w r b false p q = ap (λ (x : Bool). cond x (w (record { row = r; end = high })) 0) p

    those : SameBag (completed still e.rows) (filter is_current (completed s.ends s.rows))
    those = record {
      totals = λ w.
          sum-map (with_end still) w e.rows ∙ (first_fits horizon s).copy.totals (λ r. w (with_end still r))
          ∙ sum-filter (stands_at s.ends e.moment) (λ r. w (with_end still r)) s.rows
          ∙ sum-in _ _ s.rows (λ r within. one w r _ _
          (current_is s.rows s.ends e s.proper s.told.0 (first_fits horizon s) r within)
          (Decides-int_eq (s.ends r) high).0)
          ∙ sym (sum-picked is_current s.ends w s.rows);
    }

-- ---- a new store, and the beginning of a transaction

pub new-stands : StandsFor None [] []
new-stands = record {
  rows = [];
  ends = still;
  top = tt;
  made = record { totals = λ w. refl };
  proper = λ r m. absurd m;
  told = inr (λ r m. absurd m);
}

pub outside_wider : {a b m n x : ℤ} → a ≤ℤ b → n ≤ℤ m → Outside a m x → Outside b n x
outside_wider p q (inl h) = inl (omega (arith, ints))
outside_wider p q (inr h) = inr (omega (arith, ints))

pub begin-told : (horizon : Option ℤ) (rows : List Stamped) (ends : Stamped → ℤ) (m : ℤ) (entries : List TableEntry)
    → Under horizon high → Proper rows ends → Under (newest entries) m → m <ℤ high
    → Told horizon rows ends high entries → Told horizon rows ends high (begun m entries)
begin-told horizon rows ends m [] top proper later below told = (
  below,
  (
    inr (record {
      copy = record {
        totals = λ w. sym (sum-filter (stands_at ends m) w rows
            ∙ sum-zero _ rows (λ r within. absurd (nothing r within)));
      };
      starts = λ r within. absurd (nothing r within);
      stops = λ r within. absurd (nothing r within);
    }),
    inr (λ r within. absurd (nothing r within)),
  ),
)
  where
    nothing : (r : Stamped) → In r rows → ⊥
    nothing r within = let a = beyond horizon high top told r within in let b = (proper r within).0 in let c =
        (proper r within).1 in omega (arith, ints)
begin-told horizon rows ends m (e ∷ older) top proper later below told =
    let f : Fits rows ends e high = beyond horizon high top told.1.0 in (
      below,
      (
        inr (record {
          copy = record {
            totals = λ w. f.copy.totals w ∙ sum-filter (stands_at ends e.moment) w rows
                ∙ sum-in _ _ rows (λ r within. ap (λ (b : Bool). cond b (w r) 0)
                (stands_still f m (omega (arith, ints)) below r within)) ∙ sym (sum-filter (stands_at ends m) w rows);
          };
          starts = λ r within. outside_wider (omega (arith, ints)) (omega (arith, ints)) (f.starts r within);
          stops = λ r within. outside_wider (omega (arith, ints)) (omega (arith, ints)) (f.stops r within);
        }),
        (
          later,
          (
            inr (record {
              copy = f.copy;
              starts = λ r within. outside_wider (omega (arith, ints)) (omega (arith, ints)) (f.starts r within);
              stops = λ r within. outside_wider (omega (arith, ints)) (omega (arith, ints)) (f.stops r within);
            }),
            told.1.1,
          ),
        ),
      ),
    )

pub begin-stands : (horizon : Option ℤ) (versions : List Version) (entries : List TableEntry) (m : ℤ)
    → StandsFor horizon versions entries → Under (newest entries) m → m <ℤ high
    → StandsFor horizon versions (begun m entries)
begin-stands horizon versions entries m s later below = record {
  rows = s.rows;
  ends = s.ends;
  top = s.top;
  made = s.made;
  proper = s.proper;
  told = begin-told horizon s.rows s.ends m entries s.top s.proper later below s.told;
}

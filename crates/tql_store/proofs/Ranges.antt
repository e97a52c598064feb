-- What the definitions find over a range equals what the versions give.
use Rattle.std.proofs.Common.{◌≡◌, ℕ, ◌+◌, Bool, true, false, cond, List, [], ◌∷◌, ◌++◌, filter, refl, sym, ap, ◌∙◌}
use Rattle.std.proofs.Common.{arith, inl, inr}
use Rattle.std.specs.Prelude.{◌⊎◌, not, ◌&&◌, ℤ, ◌≤ℤ◌, ◌<ℤ◌, int_lt, ltb, if◌then◌else◌, Option}
use Rattle.std.specs.List.{sum_by}
use Rattle.std.proofs.lemmas.Int.{ints}
use Rattle.std.proofs.lemmas.List.Sums.{sum_by-append}
use Rattle.tql_spec.proofs.Bags.{sum-filter, sum-both}
use Rattle.tql_spec.proofs.Members.{by_bool, both, lt_tells, sum-in, sum-zero, any-total, picked}
use Rattle.tql_spec.specs.Bag.{SameBag, In}
use Rattle.tql_spec.specs.Definition.{Stamped, same_stamped, Version}
use Rattle.tql_spec.specs.History.{TableEntry, has_version, with_end, completed, ends_before, meets, found_from}
use Rattle.tql_store.proofs.Readings.{beyond, under, stands_tells, sum-picked, Known, known_at, known_before}
use Rattle.tql_store.specs.Stands.{stands_at, Within, Fits, Told, Proper}

-- whether a version shares a point with the range, and both start before a moment
abbrev pub reached : ℤ → ℤ → ℤ → Version → Bool
reached a b until v = meets a b v.row.start v.end && (int_lt v.row.start until && int_lt a until)

-- the same as inequalities
pub record Reaches (a b until start end : ℤ) : Type 0 where
  pub range : a <ℤ b
  pub version : start <ℤ end
  pub starts : start <ℤ b
  pub stops : a <ℤ end
  pub before : start <ℤ until
  pub from : a <ℤ until

is_lt : {x y : ℤ} → int_lt x y ≡ true → x <ℤ y
is_lt {x} {y} e = elim (lt_tells x y) [ inl s ↦ s.1 | inr s ↦ let f = s.0 in cc ]

gives_lt : {x y : ℤ} → x <ℤ y → int_lt x y ≡ true
gives_lt {x} {y} h = elim (lt_tells x y) [ inl s ↦ s.0 | inr s ↦ absurd (omega (arith, ints)) ]

all_true : {a b : Bool} → a ≡ true → b ≡ true → (a && b) ≡ true
all_true {a} {b} p q = ap (λ c. c && b) p ∙ q

pub reached-says : {a b until : ℤ} (v : Version) → reached a b until v ≡ true → Reaches a b until v.row.start v.end
reached-says {a} {b} {until} v e =
    let h = both (meets a b v.row.start v.end) (int_lt v.row.start until && int_lt a until) e in
    let m = both (int_lt a b && int_lt v.row.start v.end) (int_lt v.row.start b && int_lt a v.end) h.0 in
    let m0 = both (int_lt a b) (int_lt v.row.start v.end) m.0 in
    let m1 = both (int_lt v.row.start b) (int_lt a v.end) m.1 in
    let u = both (int_lt v.row.start until) (int_lt a until) h.1 in
    record {
      range = is_lt m0.0;
      version = is_lt m0.1;
      starts = is_lt m1.0;
      stops = is_lt m1.1;
      before = is_lt u.0;
      from = is_lt u.1;
    }

pub says-reached : {a b until : ℤ} (v : Version) → Reaches a b until v.row.start v.end → reached a b until v ≡ true
says-reached {a} {b} {until} v h =
    all_true (all_true (all_true (gives_lt h.range) (gives_lt h.version))
    (all_true (gives_lt h.starts) (gives_lt h.stops))) (all_true (gives_lt h.before) (gives_lt h.from))

pub meets-gives : {a b s e : ℤ} → a <ℤ b → s <ℤ e → s <ℤ b → a <ℤ e → meets a b s e ≡ true
meets-gives p q r t = all_true (all_true (gives_lt p) (gives_lt q)) (all_true (gives_lt r) (gives_lt t))

pub record Meets (a b s e : ℤ) : Type 0 where
  pub range : a <ℤ b
  pub version : s <ℤ e
  pub starts : s <ℤ b
  pub stops : a <ℤ e

pub meets-says : {a b s e : ℤ} → meets a b s e ≡ true → Meets a b s e
meets-says {a} {b} {s} {e} h =
    let m = both (int_lt a b && int_lt s e) (int_lt s b && int_lt a e) h in
    let m0 = both (int_lt a b) (int_lt s e) m.0 in
    let m1 = both (int_lt s b) (int_lt a e) m.1 in
    record { range = is_lt m0.0; version = is_lt m0.1; starts = is_lt m1.0; stops = is_lt m1.1 }

-- whether the versions found include one of a row, if they are the rows that pass a test
has_version-is : (rows : List Stamped) (ends : Stamped → ℤ) {found : List Version} (test : Version → Bool)
    → SameBag found (filter test (completed ends rows)) → (r : Stamped) → In r rows
    → has_version found r ≡ test (with_end ends r)
has_version-is rows ends {found} test same r m =
    any-total (λ v. same_stamped r v.row) found
    ∙ ap (ltb 0) (same.totals (λ v. cond (same_stamped r v.row) 1 0)
    ∙ sum-picked test ends (λ v. cond (same_stamped r v.row) 1 0) rows)
    ∙ picked (λ x. test (with_end ends x)) r rows m

-- the share of one row in both parts: what is new here and what was found earlier
both_parts : (st had now : Bool) (x y : ℕ) → (st ≡ true → x ≡ y) → (had ≡ true → now ≡ true)
    → (st ≡ true → now ≡ true) → (now ≡ true → had ≡ false → st ≡ true)
    → cond st (cond (not had) x 0) 0 + cond had y 0 ≡ cond now y 0
both_parts st true now x y same kept here only = ap (λ n. n + y) (nothing st)
    ∙ sym (ap (λ b. cond b y 0) (kept refl) ∙ omega arith)
  where
    nothing : (b : Bool) → cond {A = ℕ} b 0 0 ≡ 0
    nothing true = refl
    nothing false = refl
both_parts true false now x y same kept here only = let h = same refl in let g : cond now y 0 ≡ y =
    ap (λ b. cond b y 0) (here refl) in let k : x + 0 ≡ cond now y 0 = omega arith in k
both_parts false false now x y same kept here only =
    by_bool now (λ e. let f = only e refl in cc) (λ e. sym (ap (λ b. cond b y 0) e))

pub plus : {a b c d : ℕ} → a ≡ b → c ≡ d → a + c ≡ b + d
plus p q = omega arith

pub found_more : (rows : List Stamped) (ends known : Stamped
    → ℤ) (until a b : ℤ) (e : TableEntry) (earlier : List Version) → Proper rows ends → e.moment <ℤ until
    → Fits rows ends e until → Known rows ends known until
    → SameBag earlier (filter (reached a b e.moment) (completed ends rows))
    → SameBag (filter (λ v. not (has_version earlier v.row))
    (if meets a b e.moment until then completed known e.rows else []) ++ earlier)
    (filter (reached a b until) (completed ends rows))
found_more rows ends known until a b e earlier proper rises f k induct = by_bool (meets a b e.moment until) met missed
  where
    kept : (r : Stamped) → reached a b e.moment (with_end ends r) ≡ true → reached a b until (with_end ends r) ≡ true
    kept r t =
        let h : Reaches a b e.moment r.start (ends r) = reached-says (with_end ends r) t in
        says-reached (with_end ends r) (record {
          range = h.range;
          version = h.version;
          starts = h.starts;
          stops = h.stops;
          before = omega (arith, ints);
          from = omega (arith, ints);
        })

    -- a row that exists here and was not found earlier
    only : meets a b e.moment until ≡ true → (r : Stamped) → In r rows → stands_at ends e.moment r ≡ true
        → reached a b until (with_end ends r) ≡ true
    only m r within t = elim (stands_tells ends e.moment r) as (λ x. reached a b until (with_end ends r) ≡ true) [
      | inl s ↦
          let h : Meets a b e.moment until = meets-says m in
          let p = (proper r within).0 in
          let from = s.1 in
          let to = s.2 in
          elim (f.stops r within) as (λ x. reached a b until (with_end ends r) ≡ true) [
            | inl c ↦ absurd (omega (arith, ints))
            | inr c ↦ says-reached (with_end ends r) (record {
              range = h.range;
              version = p;
              starts = let x = h.starts in omega (arith, ints);
              stops = let x = h.stops in omega (arith, ints);
              before = let x = h.version in omega (arith, ints);
              from = h.stops;
            })
          ]
      | inr s ↦ let u = s.0 in cc
    ]

    -- a row that is found, but not earlier, exists here, and the range meets this copy
    new : (r : Stamped) → In r rows → reached a b until (with_end ends r) ≡ true
        → reached a b e.moment (with_end ends r) ≡ false
        → (meets a b e.moment until ≡ true) × (stands_at ends e.moment r ≡ true)
    new r within now had =
        let h : Reaches a b until r.start (ends r) = reached-says (with_end ends r) now in
        let begins : r.start ≤ℤ e.moment =
        elim (f.starts r within) [ inl c ↦ c | inr c ↦ absurd (let x = h.before in omega (arith, ints)) ] in
        let late : e.moment ≤ℤ a ⊎ (e.moment ≡ r.start) =
        elim (lt_tells a e.moment) as (λ x. e.moment ≤ℤ a ⊎ (e.moment ≡ r.start)) [
          | inr s ↦ inl (s.1)
          | inl s ↦ elim (lt_tells r.start e.moment) as (λ x. e.moment ≤ℤ a ⊎ (e.moment ≡ r.start)) [
            | inr t ↦ inr (let x = t.1 in omega (arith, ints))
            | inl t ↦ absurd (let both_ways = says-reached {until = e.moment} (with_end ends r)
                (record {
                  range = h.range;
                  version = h.version;
                  starts = h.starts;
                  stops = h.stops;
                  before = t.1;
                  from = s.1;
                }) in cc)
          ]
        ] in
        let h0 = h.range in let h1 = h.version in let h2 = h.starts in let h3 = h.stops in let h4 = h.from in
        let stop : e.moment <ℤ ends r = elim late [ inl c ↦ omega (arith, ints) | inr c ↦ omega (arith, ints) ] in
        let first : e.moment <ℤ b = elim late [ inl c ↦ omega (arith, ints) | inr c ↦ omega (arith, ints) ] in (
          meets-gives h0 rises first h4,
          elim (stands_tells ends e.moment r) [
            | inl s ↦ s.0
            | inr s ↦ absurd
                (elim (s.1) [ inl c ↦ omega (arith, ints) | inr c ↦ omega (arith, ints) ])
          ],
        )

    fresh : (w : Version → ℕ)
        → sum_by w (filter (λ v. not (has_version earlier v.row)) (completed known e.rows)) ≡ sum_by
        (λ r. cond (stands_at ends e.moment r)
        (cond (not (reached a b e.moment (with_end ends r))) (w (with_end known r)) 0) 0) rows
    fresh w =
        sum-picked (λ v. not (has_version earlier v.row)) known w e.rows
        ∙ f.copy.totals (λ r. cond (not (has_version earlier r)) (w (with_end known r)) 0)
        ∙ sum-filter (stands_at ends e.moment) (λ r. cond (not (has_version earlier r)) (w (with_end known r)) 0) rows
        ∙ sum-in _ _ rows (λ r within. ap
        (λ (c : Bool). cond (stands_at ends e.moment r) (cond (not c) (w (with_end known r)) 0) 0)
        (has_version-is rows ends (reached a b e.moment) induct r within))

    old : (w : Version → ℕ)
        → sum_by w earlier ≡ sum_by (λ r. cond (reached a b e.moment (with_end ends r)) (w (with_end ends r)) 0) rows
    old w = induct.totals w ∙ sum-picked (reached a b e.moment) ends w rows

    met : meets a b e.moment until ≡ true
        → SameBag (filter (λ v. not (has_version earlier v.row))
        (if meets a b e.moment until then completed known e.rows else []) ++ earlier)
        (filter (reached a b until) (completed ends rows))
    met m = rw m (record {
      totals = λ w.
          let parts = sum-both
          (λ r. cond (stands_at ends e.moment r)
          (cond (not (reached a b e.moment (with_end ends r))) (w (with_end known r)) 0) 0)
          (λ r. cond (reached a b e.moment (with_end ends r)) (w (with_end ends r)) 0) rows in
          let each = sum-in (λ r. cond (stands_at ends e.moment r)
          (cond (not (reached a b e.moment (with_end ends r))) (w (with_end known r)) 0) 0 + cond
          (reached a b e.moment (with_end ends r)) (w (with_end ends r)) 0)
          (λ r. cond (reached a b until (with_end ends r)) (w (with_end ends r)) 0) rows
          (λ r within. both_parts _ _ _ _ _ (λ t. ap (λ (n : ℤ). w (record { row = r; end = n })) (right r within t))
          (kept r) (only m r within) (λ now had. (new r within now had).1)) in
          sum_by-append w (filter (λ v. not (has_version earlier v.row)) (completed known e.rows)) earlier
          ∙ plus (fresh w) (old w) ∙ sym parts ∙ each ∙ sym (sum-picked (reached a b until) ends w rows);
    })
      where
        right : (r : Stamped) → In r rows → stands_at ends e.moment r ≡ true → known r ≡ ends r
        right r within t = elim (stands_tells ends e.moment r)
            [ inl s ↦ known_at rises f k r within s.1 s.2 | inr s ↦ let u = s.0 in cc ]

    missed : meets a b e.moment until ≡ false
        → SameBag (filter (λ v. not (has_version earlier v.row))
        (if meets a b e.moment until then completed known e.rows else []) ++ earlier)
        (filter (reached a b until) (completed ends rows))
    missed m = rw m (record {
      totals = λ w.
          old w ∙ sum-in _ (λ r. cond (reached a b until (with_end ends r)) (w (with_end ends r)) 0) rows
          (λ r within. ap (λ (c : Bool). cond c (w (with_end ends r)) 0)
          (by_bool (reached a b e.moment (with_end ends r)) (λ t. t
          ∙ sym (kept r t)) (λ had. by_bool (reached a b until (with_end ends r))
          (λ now. absurd (let n = (new r within now had).0 in cc)) (λ now. had ∙ sym now))))
          ∙ sym (sum-picked (reached a b until) ends w rows);
    })

-- if the newest copy lasts only until the start of the range, or less, the range meets no copy
pub found-late : (horizon : Option ℤ) (rows : List Stamped) (ends known : Stamped
    → ℤ) (until a b : ℤ) (entries : List TableEntry) → Told horizon rows ends until entries → until ≤ℤ a
    → found_from until known a b entries ≡ []
found-late horizon rows ends known until a b [] told late = refl
found-late horizon rows ends known until a b (e ∷ older) told late =
    rw (unmet (meets a b e.moment until) refl)
    (found-late horizon rows ends (ends_before e known) e.moment a b older told.1.1
    (let u = told.0 in omega (arith, ints)))
  where
    unmet : (c : Bool) → meets a b e.moment until ≡ c → meets a b e.moment until ≡ false
    unmet true q = let h : Meets a b e.moment until = meets-says q in absurd (let x = h.stops in omega (arith, ints))
    unmet false q = q

-- if this holds of no row, no version is found
none-reached : (rows : List Stamped) (ends : Stamped → ℤ) (until a b : ℤ)
    → ((r : Stamped) → In r rows → Reaches a b until r.start (ends r) → ⊥)
    → SameBag [] (filter (reached a b until) (completed ends rows))
none-reached rows ends until a b h = record {
  totals = λ w.
      sym (sum-picked (reached a b until) ends w rows
      ∙ sum-zero _ rows (λ r within. by_bool (reached a b until (with_end ends r))
      (λ e. absurd (h r within (reached-says (with_end ends r) e)))
      (λ e. ap (λ (c : Bool). cond c (w (with_end ends r)) 0) e)));
}

pub found-is : (horizon : Option ℤ) (rows : List Stamped) (ends known : Stamped
    → ℤ) (until a b : ℤ) (entries : List TableEntry) → Proper rows ends → Told horizon rows ends until entries
    → Known rows ends known until → Within horizon a
    → SameBag (found_from until known a b entries) (filter (reached a b until) (completed ends rows))
found-is horizon rows ends known until a b [] proper told k from =
    none-reached rows ends until a b
    (λ r within h. let late = h.from in let born = beyond horizon until (under horizon from late) told r within in
    let x = h.before in omega (arith, ints))
found-is horizon rows ends known until a b (e ∷ older) proper told k from =
    elim (lt_tells a until) as
    (λ x. SameBag (found_from until known a b (e ∷ older)) (filter (reached a b until) (completed ends rows))) [
      | inl s ↦
          let f : Fits rows ends e until = beyond horizon until (under horizon from s.1) told.1.0 in
          found_more rows ends known until a b e _ proper told.0 f k
          (found-is horizon rows ends (ends_before e known) e.moment a b older proper told.1.1
          (known_before told.0 f k) from)
      | inr s ↦ rw (found-late horizon rows ends known until a b (e ∷ older) told s.1)
          (none-reached rows ends until a b (λ r within h. let x = h.from in let y = s.1 in omega (arith, ints)))
    ]

-- The laws that relate the versions of a store to the copies of one table.
use Rattle.std.proofs.Common.{◌≡◌, ℕ, ◌+◌, Bool, true, false, cond, List, [], ◌∷◌, map, filter, refl, sym, ap, subst}
use Rattle.std.proofs.Common.{◌∙◌, arith, inl, inr}
use Rattle.std.specs.Prelude.{not, ◌&&◌, ℤ, ◌≤ℤ◌, ◌<ℤ◌, int_le, int_lt, if◌then◌else◌, Option, Some, None}
use Rattle.std.specs.Ordering.{int_eq}
use Rattle.std.specs.List.{sum_by}
use Rattle.std.proofs.lemmas.Bool.Decides.{Decides-int_eq}
use Rattle.std.proofs.lemmas.Int.{ints}
use Rattle.std.proofs.lemmas.List.Sums.{sum_by-append}
use Rattle.tql_spec.proofs.Bags.{sum-map, sum-filter, same-filter, same-map, same-append, same-refl, same-trans}
use Rattle.tql_spec.proofs.Bags.{same-sym}
use Rattle.tql_spec.proofs.Members.{sum-in, sum-zero}
use Rattle.tql_spec.specs.Bag.{SameBag, In}
use Rattle.tql_spec.specs.Calendar.{high}
use Rattle.tql_spec.specs.Datum.{Datum}
use Rattle.tql_spec.specs.Definition.{Stamped, Version}
use Rattle.tql_spec.specs.History.{TableEntry, with_end, completed}
use Rattle.tql_store.proofs.Apply.{Turn, goes, dead, ends_after, rows_told, fate, member, lt_true, lt_false, le_true}
use Rattle.tql_store.proofs.Apply.{sum-told, replaced-is, stand_bits, quiet_after, Quiet, told_before}
use Rattle.tql_store.proofs.Begin.{eq_tells, first_fits, begin-stands}
use Rattle.tql_store.proofs.Ranges.{plus}
use Rattle.tql_store.proofs.Prune.{prune-stands}
use Rattle.tql_store.proofs.Readings.{beyond, stands_tells, sum-picked}
use Rattle.tql_versions.specs.Changes.{alive, fresh, closed_if, replaced, reopened, undone, pruned, Past, Under}
use Rattle.tql_store.specs.Changes.{starting, begun, rows_after, newest, InTransaction, last_rows}
use Rattle.tql_store.specs.Stands.{stands_at, Within, Fits, Told, Proper, StandsFor}

-- the rows of a transaction, from versions that represent copies of which the newest has its moment
abbrev turn_of : (horizon : Option ℤ) {versions older : List _} {c : List Stamped} (m : ℤ) (gone : Stamped → Bool)
    → m <ℤ high → StandsFor horizon versions (record { moment = m; rows = c } ∷ older) → Turn
turn_of horizon m gone below s = record {
  m = m;
  gone = gone;
  rows = s.rows;
  ends = s.ends;
  below = below;
  proper = s.proper;
  starts = λ r within. let p = (s.proper r within).0 in let q =
      (s.proper r within).1 in elim ((first_fits horizon s).starts r within)
      [ inl a ↦ a | inr a ↦ absurd (omega (arith, ints)) ];
  stops = λ r within. let q =
      (s.proper r within).1 in elim ((first_fits horizon s).stops r within)
      [ inl a ↦ inl a | inr a ↦ inr (omega (arith, ints)) ];
}

same-replaced : (m : ℤ) (gone : Stamped → Bool) (added : List (List Datum)) {xs ys : List Version} → SameBag xs ys
    → SameBag (replaced m gone added xs) (replaced m gone added ys)
same-replaced m gone added h =
    same-append (same-filter alive (same-map (closed_if m gone) h)) (same-refl (map (fresh m) added))

pub same-undone : (m : ℤ) {xs ys : List Version} → SameBag xs ys → SameBag (undone m xs) (undone m ys)
same-undone m h = same-map (reopened m) (same-filter (λ v. int_lt v.row.start m) h)

-- the new copy consists of the rows that exist at the moment
copy_after : (x : Turn) (added : List (List Datum)) (c : List Stamped)
    → SameBag c (filter (stands_at x.ends x.m) x.rows)
    → SameBag (rows_after x.m x.gone added c) (filter (stands_at (ends_after x) x.m) (rows_told x added))
copy_after x added c same = record {
  totals = λ w.
      sum_by-append w (filter (λ r. not (x.gone r)) c) (map (starting x.m) added)
      ∙ plus
      (sum-filter (λ r. not (x.gone r)) w c ∙ same.totals (λ r. cond (not (x.gone r)) (w r) 0)
      ∙ sum-filter (stands_at x.ends x.m) (λ r. cond (not (x.gone r)) (w r) 0) x.rows ∙ sum-in _ _ x.rows (one w))
      (sum-map (starting x.m) w added
      ∙ sum-in _ (λ d. cond (stands_at (ends_after x) x.m (starting x.m d)) (w (starting x.m d)) 0) added
      (λ d within. sym (ap (λ (b : Bool). cond b (w (starting x.m d)) 0) (new d))))
      ∙ sym (sum-filter (stands_at (ends_after x) x.m) w (rows_told x added)
      ∙ sum-told x added (λ r. cond (stands_at (ends_after x) x.m r) (w r) 0));
}
  where
    le_self : (m : ℤ) → int_le m m ≡ true
    le_self m = le_true {a = m} {b = m} (omega (arith, ints))

    new : (d : List Datum) → stands_at (ends_after x) x.m (starting x.m d) ≡ true
    new d = stand_bits (ends_after x) x.m (starting x.m d) high
        (ap (λ (b : Bool). if b then high else (if goes x (starting x.m d) then x.m else x.ends (starting x.m d)))
        ((Decides-int_eq x.m x.m).1 refl))
        ∙ ap (λ (b : Bool). b && int_lt x.m high) (le_self x.m) ∙ lt_true x.below

    stands : (r : Stamped) → In r x.rows → (n : ℤ) → x.ends r ≡ n → x.m <ℤ n → stands_at x.ends x.m r ≡ true
    stands r within n e h = stand_bits x.ends x.m r n e
        ∙ ap (λ (b : Bool). b && int_lt x.m n) (le_true (x.starts r within)) ∙ lt_true h

    both_sides : (w : Stamped → ℕ) (r : Stamped) (s g d t : Bool) → stands_at x.ends x.m r ≡ s → x.gone r ≡ g
        → dead x r ≡ d → stands_at (ends_after x) x.m r ≡ t
        → cond s (cond (not g) (w r) 0) 0 ≡ cond (not d) (cond t (w r) 0) 0
        → cond (stands_at x.ends x.m r) (cond (not (x.gone r)) (w r) 0) 0 ≡ cond (not (dead x r))
        (cond (stands_at (ends_after x) x.m r) (w r) 0) 0
    both_sides w r s g d t e f p q h = ap (λ (b : Bool). cond b (cond (not (x.gone r)) (w r) 0) 0) e
        ∙ ap (λ (b : Bool). cond s (cond (not b) (w r) 0) 0) f ∙ h
        ∙ sym (ap (λ (b : Bool). cond (not b) (cond (stands_at (ends_after x) x.m r) (w r) 0) 0) p
        ∙ ap (λ (b : Bool). cond (not d) (cond b (w r) 0) 0) q)

    one : (w : Stamped → ℕ) (r : Stamped) → In r x.rows
        → cond (stands_at x.ends x.m r) (cond (not (x.gone r)) (w r) 0) 0 ≡ cond (not (dead x r))
        (cond (stands_at (ends_after x) x.m r) (w r) 0) 0
    one w r within = elim (fate x r within) [
      | inl f ↦ both_sides w r true true true _ (stands r within high f.end x.below) f.gone f.dead refl refl
      | inr h ↦ elim h [
        | inl f ↦ both_sides w r true true false false (stands r within high f.end x.below) f.gone f.dead
            (stand_bits (ends_after x) x.m r x.m f.after
            ∙ ap (λ (b : Bool). b && int_lt x.m x.m) (le_true (x.starts r within))
            ∙ lt_false {a = x.m} {b = x.m} (omega (arith, ints))) refl
        | inr f ↦ elim (x.stops r within) [
          | inl a ↦ both_sides w r false (x.gone r) false false (ended r a) refl f.dead
              (stand_bits (ends_after x) x.m r (x.ends r) f.after ∙ ended r a) refl
          | inr a ↦ both_sides w r true false false true (stands r within high a x.below)
              (ap (λ b. b && x.gone r) (sym ((Decides-int_eq (x.ends r) high).1 a))
              ∙ f.goes) f.dead (stand_bits (ends_after x) x.m r (x.ends r) f.after
              ∙ stands r within high a x.below) refl
        ]
      ]
    ]
      where
        ended : (r : Stamped) → x.ends r ≤ℤ x.m → stands_at x.ends x.m r ≡ false
        ended r a = elim (stands_tells x.ends x.m r)
            [ inl s ↦ absurd (let t = s.2 in omega (arith, ints)) | inr s ↦ s.0 ]

pub apply-stands : (horizon : Option ℤ) (m : ℤ) (gone : Stamped
    → Bool) (added : List (List Datum)) (old new : List Version) (c d : List Stamped) (older : List TableEntry)
    → m <ℤ high → StandsFor horizon old (record { moment = m; rows = c } ∷ older)
    → SameBag new (replaced m gone added old) → SameBag d (rows_after m gone added c)
    → StandsFor horizon new (record { moment = m; rows = d } ∷ older)
apply-stands horizon m gone added old new c d older below s is copy =
    let x : Turn = turn_of horizon m gone below s in
    let q : Quiet (rows_told x added) (ends_after x) m m =
    quiet_after x added m m (omega (arith, ints)) (record {
      starts = λ r h. inl (x.starts r h);
      stops = λ r h. elim (x.stops r h) [ inl a ↦ inl a | inr a ↦ inr (omega (arith, ints)) ];
    }) in
    record {
      rows = rows_told x added;
      ends = ends_after x;
      made = same-trans is (same-trans (same-replaced m gone added s.made) (replaced-is x added));
      proper = proper x;
      top = s.top;
      told = (
        below,
        (
          inr (record {
            copy = same-trans copy (copy_after x added c (first_fits horizon s).copy);
            starts = λ r h. elim (member x added r h) [
              | inl a ↦ inl (x.starts r a.0)
              | inr b ↦ elim b
                  [ inl a ↦ inl (x.starts r a.0) | inr a ↦ inl (let t = a.0 in omega (arith, ints)) ]
            ];
            stops = λ r h. elim (member x added r h) [
              | inl a ↦ inl (let t = a.1.after in omega (arith, ints))
              | inr b ↦ elim b [
                | inl a ↦ elim (x.stops r a.0) [
                  | inl e ↦ inl (let t = a.1.after in omega (arith, ints))
                  | inr e ↦ inr
                      (let t = a.1.after in omega (arith, ints))
                ]
                | inr a ↦ inr (let t = a.1 in omega (arith, ints))
              ]
            ];
          }),
          told_before horizon x added m older (omega (arith, ints)) s.told.1.1,
        ),
      );
    }
  where
    proper : (x : Turn) → Proper (rows_told x added) (ends_after x)
    proper x = λ r h. let b = x.below in elim (member x added r h) [
      | inl a ↦ let t = a.1.after in let u = a.1.start in (omega (arith, ints), omega (arith, ints))
      | inr k ↦ elim k [
        | inl a ↦ let t = a.1.after in let p = (x.proper r a.0).0 in let q =
            (x.proper r a.0).1 in (omega (arith, ints), omega (arith, ints))
        | inr a ↦ let t = a.0 in let u = a.1 in (omega (arith, ints), omega (arith, ints))
      ]
    ]

-- ---- undoing

sum-undone : (m : ℤ) (ends : Stamped → ℤ) (w : Version → ℕ) (rows : List Stamped)
    → sum_by w (undone m (completed ends rows)) ≡ sum_by
    (λ r. cond (int_lt r.start m) (w (reopened m (with_end ends r))) 0) rows
sum-undone m ends w rows = sum-map (reopened m) w (filter (λ v. int_lt v.row.start m) (completed ends rows))
    ∙ sum-picked (λ v. int_lt v.row.start m) ends (λ v. w (reopened m v)) rows

-- undoing the transaction also undoes a change in it
undone-replaced : (x : Turn) (added : List (List Datum))
    → SameBag (undone x.m (completed (ends_after x) (rows_told x added))) (undone x.m (completed x.ends x.rows))
undone-replaced x added = record {
  totals = λ w.
      sum-undone x.m (ends_after x) w (rows_told x added)
      ∙ sum-told x added (λ r. cond (int_lt r.start x.m) (w (reopened x.m (with_end (ends_after x) r))) 0)
      ∙ none (sum-zero (λ c. cond (int_lt x.m x.m) (w (reopened x.m (with_end (ends_after x) (starting x.m c)))) 0)
      added (λ c h. ap (λ (b : Bool). cond b (w (reopened x.m (with_end (ends_after x) (starting x.m c)))) 0)
      (lt_false {a = x.m} {b = x.m} (omega (arith, ints)))))
      ∙ sum-in _ _ x.rows (one w)
      ∙ sym (sum-undone x.m x.ends w x.rows);
}
  where
    none : {a b : ℕ} → b ≡ 0 → a + b ≡ a
    none h = omega arith

    value : (w : Version → ℕ) (ends : Stamped → ℤ) (r : Stamped) (n : ℤ) → ends r ≡ n
        → cond (int_lt r.start x.m) (w (reopened x.m (with_end ends r))) 0 ≡ cond (int_lt r.start x.m)
        (w (reopened x.m (record { row = r; end = n }))) 0
    value w ends r n e = ap (λ (k : ℤ). cond (int_lt r.start x.m) (w (reopened x.m (record { row = r; end = k }))) 0) e

    reopen : (r : Stamped) → reopened x.m (record { row = r; end = x.m }) ≡ record { row = r; end = high }
    reopen r = ap (λ (b : Bool). if b then record { row = r; end = high } else record {
      row = r;
      end = x.m;
    }) ((Decides-int_eq x.m x.m).1 refl)

    open_stays : (r : Stamped) → reopened x.m (record { row = r; end = high }) ≡ record { row = r; end = high }
    open_stays r = elim (eq_tells high x.m) as (λ y. reopened x.m (record {
      row = r;
      end = high;
    }) ≡ record { row = r; end = high }) [
      | inl s ↦ absurd (let t = s.1 in let u = x.below in omega (arith, ints))
      | inr s ↦ ap (λ (b : Bool). if b then record { row = r; end = high } else record { row = r; end = high }) s.0
    ]

    one : (w : Version → ℕ) (r : Stamped) → In r x.rows
        → cond (not (dead x r)) (cond (int_lt r.start x.m) (w (reopened x.m (with_end (ends_after x) r))) 0) 0 ≡ cond
        (int_lt r.start x.m) (w (reopened x.m (with_end x.ends r))) 0
    one w r within = elim (fate x r within) [
      | inl f ↦ ap (λ (b : Bool). cond (not b)
          (cond (int_lt r.start x.m) (w (reopened x.m (with_end (ends_after x) r))) 0) 0) f.dead
          ∙ sym (ap (λ (b : Bool). cond b (w (reopened x.m (with_end x.ends r))) 0)
          (lt_false {a = r.start} {b = x.m} (let s = f.start in omega (arith, ints))))
      | inr h ↦ elim h [
        | inl f ↦ ap (λ (b : Bool). cond (not b)
            (cond (int_lt r.start x.m) (w (reopened x.m (with_end (ends_after x) r))) 0) 0) f.dead
            ∙ value w (ends_after x) r x.m f.after
            ∙ ap (λ (v : Version). cond (int_lt r.start x.m) (w v) 0) (reopen r ∙ sym (open_stays r))
            ∙ sym (value w x.ends r high f.end)
        | inr f ↦ ap (λ (b : Bool). cond (not b)
            (cond (int_lt r.start x.m) (w (reopened x.m (with_end (ends_after x) r))) 0) 0) f.dead
            ∙ value w (ends_after x) r (x.ends r) f.after
      ]
    ]

pub same-stands : {horizon : Option ℤ} {versions others : List Version} {entries : List TableEntry}
    → SameBag others versions → StandsFor horizon versions entries → StandsFor horizon others entries
same-stands h s = record {
  rows = s.rows;
  ends = s.ends;
  top = s.top;
  made = same-trans h s.made;
  proper = s.proper;
  told = s.told;
}

-- undoing a transaction of a moment after the newest copy changes nothing
undone-later : (horizon : Option ℤ) (m : ℤ) (versions : List Version) (entries : List TableEntry)
    → StandsFor horizon versions entries → Under (newest entries) m → m <ℤ high → SameBag (undone m versions) versions
undone-later horizon m versions entries s later below =
    same-trans (same-undone m s.made) (same-trans those (same-sym s.made))
  where
    early : (entries : List TableEntry) → Told horizon s.rows s.ends high entries → Under (newest entries) m
        → (r : Stamped) → In r s.rows → (int_lt r.start m ≡ true) × (int_eq (s.ends r) m ≡ false)
    early [] told l r within =
        absurd (let a = beyond horizon high s.top told r within in let p = (s.proper r within).0 in let q =
        (s.proper r within).1 in omega (arith, ints))
    early (e ∷ older) told l r within =
        let f : Fits s.rows s.ends e high = beyond horizon high s.top told.1.0 in
        let p = (s.proper r within).0 in
        let q = (s.proper r within).1 in (
          lt_true {a = r.start} {b = m}
              (elim (f.starts r within) [ inl a ↦ omega (arith, ints) | inr a ↦ absurd (omega (arith, ints)) ]),
          elim (eq_tells (s.ends r) m) [
            | inl t ↦ absurd (let u = t.1 in elim (f.stops r within)
                [ inl a ↦ omega (arith, ints) | inr a ↦ omega (arith, ints) ])
            | inr t ↦ t.0
          ],
        )

    those : SameBag (undone m (completed s.ends s.rows)) (completed s.ends s.rows)
    those = record {
      totals = λ w. sum-undone m s.ends w s.rows
          ∙ sum-in _ (λ r. w (with_end s.ends r)) s.rows (λ r within. let k = early entries s.told later r within in
          ap (λ (b : Bool). cond b (w (reopened m (with_end s.ends r))) 0) k.0
          ∙ ap (λ (b : Bool). w (if b then record { row = r; end = high } else with_end s.ends r)) k.1)
          ∙ sym (sum-map (with_end s.ends) w s.rows);
    }

-- ---- later horizons

told-later : (g h : Option ℤ) (rows : List Stamped) (ends : Stamped → ℤ) (until : ℤ) (entries : List TableEntry)
    → ((u : ℤ) → Past g u → Past h u) → Told g rows ends until entries → Told h rows ends until entries
told-later g h rows ends until [] k (inl past) = inl (k until past)
told-later g h rows ends until [] k (inr born) = inr born
told-later g h rows ends until (e ∷ older) k told = (
  told.0,
  (
    elim (told.1.0) [ inl past ↦ inl (k until past) | inr f ↦ inr f ],
    told-later g h rows ends e.moment older k told.1.1,
  ),
)

-- versions that represent the copies from a horizon on also do so from a later one
pub stands-later : (g h : Option ℤ) (versions : List Version) (entries : List TableEntry)
    → ((u : ℤ) → Past g u → Past h u) → Under h high → StandsFor g versions entries → StandsFor h versions entries
stands-later g h versions entries k top s = record {
  rows = s.rows;
  ends = s.ends;
  top = top;
  made = s.made;
  proper = s.proper;
  told = told-later g h s.rows s.ends high entries k s.told;
}

-- ---- the laws

begun-is : (m : ℤ) (entries : List TableEntry)
    → begun m entries ≡ record { moment = m; rows = last_rows entries } ∷ entries
begun-is m [] = refl
begun-is m (e ∷ older) = refl

pub begin-law : (horizon : Option ℤ) (versions : List Version) (entries : List TableEntry) (m : ℤ)
    → StandsFor horizon versions entries → Under horizon m → Under (newest entries) m → m <ℤ high
    → InTransaction horizon versions (record { moment = m; rows = last_rows entries }) entries
begin-law horizon versions entries m s since later below = record {
  since = since;
  below = below;
  now = subst (StandsFor horizon versions) (begun-is m entries) (begin-stands horizon versions entries m s later below);
  before = same-stands (undone-later horizon m versions entries s later below) s;
}

pub apply-law : (horizon : Option ℤ) (m : ℤ) (gone : Stamped
    → Bool) (added : List (List Datum)) (old new : List Version) (c d : List Stamped) (older : List TableEntry)
    → InTransaction horizon old (record { moment = m; rows = c }) older → SameBag new (replaced m gone added old)
    → SameBag d (rows_after m gone added c) → InTransaction horizon new (record { moment = m; rows = d }) older
apply-law horizon m gone added old new c d older t is copy = record {
  since = t.since;
  below = t.below;
  now = apply-stands horizon m gone added old new c d older t.below t.now is copy;
  before = same-stands
      (same-trans (same-undone m
      (same-trans is (same-trans (same-replaced m gone added t.now.made)
      (replaced-is (turn_of horizon m gone t.below t.now) added))))
      (same-trans (undone-replaced (turn_of horizon m gone t.below t.now) added)
      (same-undone m (same-sym t.now.made)))) t.before;
}

pub rollback-law : (horizon : Option ℤ) (old new : List Version) (working : TableEntry) (older : List TableEntry)
    → InTransaction horizon old working older → SameBag new (undone working.moment old) → StandsFor horizon new older
rollback-law horizon old new working older t is = same-stands is t.before

-- a table with history
pub commit-law : (horizon : Option ℤ) (old new : List Version) (working : TableEntry) (older : List TableEntry)
    → InTransaction horizon old working older → SameBag new old → StandsFor horizon new (working ∷ older)
commit-law horizon old new working older t is = same-stands is t.now

-- a table that keeps only its last copy
pub brief-commit-law : (horizon : Option ℤ) (old new : List Version) (working : TableEntry) (older : List TableEntry)
    → InTransaction horizon old working older → SameBag new (pruned working.moment old)
    → StandsFor (Some working.moment) new (working ∷ older)
brief-commit-law horizon old new working older t is =
    same-stands is (prune-stands horizon working.moment old (working ∷ older) (since_within horizon t.since) t.below
    t.now)
  where
    since_within : (horizon : Option ℤ) → Under horizon working.moment → Within horizon working.moment
    since_within None u = tt
    since_within (Some h) u = omega (arith, ints)

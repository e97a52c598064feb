-- A change in a transaction, and undoing it.
use Rattle.std.proofs.Common.{◌≡◌, ℕ, ◌+◌, Bool, true, false, cond, List, [], ◌∷◌, ◌++◌, map, filter, refl, sym, ap}
use Rattle.std.proofs.Common.{subst, ◌∙◌, arith, inl, inr}
use Rattle.std.specs.Prelude.{◌⊎◌, not, ◌&&◌, ℤ, ◌≤ℤ◌, ◌<ℤ◌, int_le, int_lt, if◌then◌else◌, Option}
use Rattle.std.specs.Ordering.{int_eq}
use Rattle.std.specs.List.{sum_by}
use Rattle.std.proofs.lemmas.Bool.Decides.{Decides-int_eq}
use Rattle.std.proofs.lemmas.Int.{ints}
use Rattle.std.proofs.lemmas.List.Sums.{sum_by-append}
use Rattle.tql_spec.proofs.Bags.{sum-map, sum-filter, same-trans}
use Rattle.tql_spec.proofs.Members.{by_bool, both, lt_tells, le_tells, sum-in, sum-zero}
use Rattle.tql_spec.specs.Bag.{SameBag, In}
use Rattle.tql_spec.specs.Calendar.{high}
use Rattle.tql_spec.specs.Datum.{Datum}
use Rattle.tql_spec.specs.Definition.{Stamped, Version}
use Rattle.tql_spec.specs.History.{TableEntry, with_end, completed}
use Rattle.tql_store.proofs.Begin.{eq_tells}
use Rattle.tql_store.proofs.Ranges.{plus}
use Rattle.tql_versions.specs.Changes.{alive, fresh, closed_if, replaced}
use Rattle.tql_store.specs.Changes.{starting}
use Rattle.tql_store.specs.Stands.{stands_at, Outside, Told, Proper}

-- ---- members

in-append : {X : Type 0} (x : X) (xs ys : List X) → In x (xs ++ ys) → In x xs ⊎ In x ys
in-append x [] ys h = inr h
in-append x (y ∷ xs) ys (inl e) = inl (inl e)
in-append x (y ∷ xs) ys (inr h) = elim (in-append x xs ys h) [ inl a ↦ inl (inr a) | inr b ↦ inr b ]

in-map : {X Y : Type 0} (f : X → Y) (y : Y) (xs : List X) → In y (map f xs) → (x : X) × In x xs × (y ≡ f x)
in-map f y [] h = absurd h
in-map f y (x ∷ xs) (inl e) = (x, inl refl, e)
in-map f y (x ∷ xs) (inr h) = let k = in-map f y xs h in (k.0, inr (k.1), k.2)

pub in-filter : {X : Type 0} (p : X → Bool) (x : X) (xs : List X) → In x (filter p xs) → In x xs × (p x ≡ true)
in-filter p x [] h = absurd h
in-filter {X} p x (y ∷ ys) h = elim (p y) as (λ b. p y ≡ b → In x (cond b (y ∷ filter p ys) (filter p ys))
    → In x (y ∷ ys) × (p x ≡ true)) [
      | true ↦ λ e k. elim k as (λ x'. In x (y ∷ ys) × (p x ≡ true)) [
        | inl a ↦ (inl a, ap p a ∙ e)
        | inr a ↦ let l = in-filter p x ys a in (inr (l.0), l.1)
      ]
      | false ↦ λ e k. let l = in-filter p x ys k in (inr (l.0), l.1)
    ] refl h

-- ---- what happens to a row

-- rows in an open transaction of the moment `m`, which removes the rows that `gone` selects
pub record Turn : Type 0 where
  pub m : ℤ
  pub gone : Stamped → Bool
  pub rows : List Stamped
  pub ends : Stamped → ℤ
  pub below : m <ℤ high
  pub proper : Proper rows ends
  pub starts : (r : Stamped) → In r rows → r.start ≤ℤ m
  pub stops : (r : Stamped) → In r rows → (ends r ≤ℤ m) ⊎ (ends r ≡ high)

-- a current row is removed
abbrev pub goes : Turn → Stamped → Bool
goes x r = int_eq (x.ends r) high && x.gone r

-- a row that began at this very moment is removed
abbrev pub dead : Turn → Stamped → Bool
dead x r = int_eq r.start x.m && goes x r

abbrev pub ends_after : Turn → Stamped → ℤ
ends_after x r = if int_eq r.start x.m then high else (if goes x r then x.m else x.ends r)

abbrev pub rows_told : Turn → List (List Datum) → List Stamped
rows_told x added = filter (λ r. not (dead x r)) x.rows ++ map (starting x.m) added

pub record Dies (x : Turn) (r : Stamped) : Type 0 where
  pub goes : goes x r ≡ true
  pub dead : dead x r ≡ true
  pub start : r.start ≡ x.m
  pub end : x.ends r ≡ high
  pub gone : x.gone r ≡ true

pub record Closes (x : Turn) (r : Stamped) : Type 0 where
  pub goes : goes x r ≡ true
  pub dead : dead x r ≡ false
  pub start : r.start <ℤ x.m
  pub end : x.ends r ≡ high
  pub gone : x.gone r ≡ true
  pub after : ends_after x r ≡ x.m

pub record Stays (x : Turn) (r : Stamped) : Type 0 where
  pub goes : goes x r ≡ false
  pub dead : dead x r ≡ false
  pub after : ends_after x r ≡ x.ends r

pub fate : (x : Turn) (r : Stamped) → In r x.rows → Dies x r ⊎ (Closes x r ⊎ Stays x r)
fate x r within = by_bool (goes x r) leaves stays
  where
    leaves : goes x r ≡ true → Dies x r ⊎ (Closes x r ⊎ Stays x r)
    leaves g =
        let h = both (int_eq (x.ends r) high) (x.gone r) g in
        let e = (Decides-int_eq (x.ends r) high).0 h.0 in
        elim (eq_tells r.start x.m) [
          | inl s ↦ inl (record { goes = g; dead = ap (λ b. b && goes x r) s.0 ∙ g; start = s.1; end = e; gone = h.1 })
          | inr s ↦ inr (inl (record {
            goes = g;
            dead = ap (λ b. b && goes x r) s.0;
            end = e;
            gone = h.1;
            start = let t = x.starts r within in elim (s.1) [ inl a ↦ a | inr a ↦ absurd (omega (arith, ints)) ];
            after = ap (λ (b : Bool). if b then high else (if goes x r then x.m else x.ends r)) s.0
                ∙ ap (λ (b : Bool). if b then x.m else x.ends r) g;
          }))
        ]

    no_more : (b : Bool) → (b && goes x r) ≡ goes x r ⊎ ((b && goes x r) ≡ false)
    no_more true = inl refl
    no_more false = inr refl

    stays : goes x r ≡ false → Dies x r ⊎ (Closes x r ⊎ Stays x r)
    stays g = inr (inr (record {
      goes = g;
      dead = elim (no_more (int_eq r.start x.m)) [ inl a ↦ a ∙ g | inr a ↦ a ];
      after = elim (eq_tells r.start x.m) as (λ y. ends_after x r ≡ x.ends r) [
        | inl s ↦ ap (λ (b : Bool). if b then high else (if goes x r then x.m else x.ends r)) s.0
            ∙ elim (x.stops r within)
            [ inl a ↦ absurd (let p = (x.proper r within).0 in let q = s.1 in omega (arith, ints)) | inr a ↦ sym a ]
        | inr s ↦ ap (λ (b : Bool). if b then high else (if goes x r then x.m else x.ends r)) s.0
            ∙ ap (λ (b : Bool). if b then x.m else x.ends r) g
      ];
    }))

-- a member of the rows after the change
pub member : (x : Turn) (added : List (List Datum)) (r : Stamped) → In r (rows_told x added)
    → (In r x.rows × Closes x r) ⊎ ((In r x.rows × Stays x r) ⊎ ((r.start ≡ x.m) × (ends_after x r ≡ high)))
member x added r h = elim (in-append r (filter (λ r. not (dead x r)) x.rows) (map (starting x.m) added) h) [
  | inl a ↦
      let k = in-filter (λ r. not (dead x r)) r x.rows a in
      let alive : not (dead x r) ≡ true = k.1 in
      elim (fate x r k.0) [
        | inl f ↦ absurd (let d = f.dead in cc (ap not d))
        | inr f ↦ elim f [ inl g ↦ inl (k.0, g) | inr g ↦ inr (inl (k.0, g)) ]
      ]
  | inr a ↦ let k = in-map (starting x.m) r added a in inr
      (inr (ap (λ (s : Stamped). s.start) k.2, new r (ap (λ (s : Stamped). s.start) k.2)))
]
  where
    new : (r : Stamped) → r.start ≡ x.m → ends_after x r ≡ high
    new r e = ap (λ (b : Bool). if b then high else (if goes x r then x.m else x.ends r))
        ((Decides-int_eq r.start x.m).1 e)

-- ---- sums over the rows after the change

pub lt_true : {a b : ℤ} → a <ℤ b → int_lt a b ≡ true
lt_true {a} {b} h = elim (lt_tells a b) [ inl s ↦ s.0 | inr s ↦ absurd (omega (arith, ints)) ]

pub lt_false : {a b : ℤ} → b ≤ℤ a → int_lt a b ≡ false
lt_false {a} {b} h = elim (lt_tells a b) [ inl s ↦ absurd (let t = s.1 in omega (arith, ints)) | inr s ↦ s.0 ]

pub le_true : {a b : ℤ} → a ≤ℤ b → int_le a b ≡ true
le_true {a} {b} h = elim (le_tells a b) [ inl s ↦ s.0 | inr s ↦ absurd (let t = s.1 in omega (arith, ints)) ]

pub le_false : {a b : ℤ} → b <ℤ a → int_le a b ≡ false
le_false {a} {b} h = elim (le_tells a b) [ inl s ↦ absurd (let t = s.1 in omega (arith, ints)) | inr s ↦ s.0 ]

pub sum-told : (x : Turn) (added : List (List Datum)) (w : Stamped → ℕ)
    → sum_by w (rows_told x added) ≡ sum_by (λ r. cond (not (dead x r)) (w r) 0) x.rows + sum_by
    (λ c. w (starting x.m c)) added
sum-told x added w = sum_by-append w (filter (λ r. not (dead x r)) x.rows) (map (starting x.m) added)
    ∙ plus (sum-filter (λ r. not (dead x r)) w x.rows) (sum-map (starting x.m) w added)

-- the versions after the change are the rows after it, completed by their ends
pub replaced-is : (x : Turn) (added : List (List Datum))
    → SameBag (replaced x.m x.gone added (completed x.ends x.rows)) (completed (ends_after x) (rows_told x added))
replaced-is x added = record {
  totals = λ w.
      sum_by-append w (filter alive (map (closed_if x.m x.gone) (completed x.ends x.rows))) (map (fresh x.m) added)
      ∙ plus
      (sum-filter alive w (map (closed_if x.m x.gone) (completed x.ends x.rows))
      ∙ sum-map (closed_if x.m x.gone) (λ v. cond (alive v) (w v) 0) (completed x.ends x.rows)
      ∙ sum-map (with_end x.ends) (λ v. cond (alive (closed_if x.m x.gone v)) (w (closed_if x.m x.gone v)) 0) x.rows
      ∙ sum-in _ (λ r. cond (not (dead x r)) (w (with_end (ends_after x) r)) 0) x.rows (one w))
      (sum-map (fresh x.m) w added
      ∙ sum-in _ (λ c. w (with_end (ends_after x) (starting x.m c))) added
      (λ c within. ap (λ (n : ℤ). w (record { row = starting x.m c; end = n }))
      (sym (ap (λ (b : Bool). if b then high else (if goes x (starting x.m c) then x.m else x.ends (starting x.m c)))
      ((Decides-int_eq x.m x.m).1 refl)))))
      ∙ sym (sum-map (with_end (ends_after x)) w (rows_told x added)
      ∙ sum-told x added (λ r. w (with_end (ends_after x) r)));
}
  where
    left : (w : Version → ℕ) (r : Stamped) (b c : Bool) → goes x r ≡ b
        → alive (if b then record { row = r; end = x.m } else with_end x.ends r) ≡ c
        → cond (alive (closed_if x.m x.gone (with_end x.ends r))) (w (closed_if x.m x.gone (with_end x.ends r))) 0 ≡
        cond c (w (if b then record { row = r; end = x.m } else with_end x.ends r)) 0
    left w r b c p q = ap
        (λ (g : Bool). cond (alive (if g then record { row = r; end = x.m } else with_end x.ends r))
        (w (if g then record { row = r; end = x.m } else with_end x.ends r)) 0) p
        ∙ ap (λ (a : Bool). cond a (w (if b then record { row = r; end = x.m } else with_end x.ends r)) 0) q

    right : (w : Version → ℕ) (r : Stamped) (d : Bool) (n : ℤ) → dead x r ≡ d → ends_after x r ≡ n
        → cond (not (dead x r)) (w (with_end (ends_after x) r)) 0 ≡ cond (not d) (w (record { row = r; end = n })) 0
    right w r d n p q = ap (λ (b : Bool). cond (not b) (w (with_end (ends_after x) r)) 0) p
        ∙ ap (λ (k : ℤ). cond (not d) (w (record { row = r; end = k })) 0) q

    one : (w : Version → ℕ) (r : Stamped) → In r x.rows
        → cond (alive (closed_if x.m x.gone (with_end x.ends r))) (w (closed_if x.m x.gone (with_end x.ends r))) 0 ≡
        cond (not (dead x r)) (w (with_end (ends_after x) r)) 0
    one w r within = elim (fate x r within) [
      | inl f ↦ left w r true false f.goes
          (lt_false {a = r.start} {b = x.m} (let s = f.start in omega (arith, ints)))
          ∙ sym (right w r true (ends_after x r) f.dead refl)
      | inr h ↦ elim h [
        | inl f ↦ left w r true true f.goes (lt_true f.start) ∙ sym (right w r false x.m f.dead f.after)
        | inr f ↦ left w r false true f.goes (lt_true (x.proper r within).0)
            ∙ sym (right w r false (x.ends r) f.dead f.after)
      ]
    ]

-- ---- earlier copies

pub stand_bits : (ends : Stamped → ℤ) (p : ℤ) (r : Stamped) (n : ℤ) → ends r ≡ n
    → stands_at ends p r ≡ (int_le r.start p && int_lt p n)
stand_bits ends p r n e = ap (λ (k : ℤ). int_le r.start p && int_lt p k) e

-- at moments before the change, the same rows exist
pub stand_before : (x : Turn) (added : List (List Datum)) (p : ℤ) → p <ℤ x.m
    → SameBag (filter (stands_at x.ends p) x.rows) (filter (stands_at (ends_after x) p) (rows_told x added))
stand_before x added p before = record {
  totals = λ w.
      sum-filter (stands_at x.ends p) w x.rows
      ∙ sum-in _ (λ r. cond (not (dead x r)) (cond (stands_at (ends_after x) p r) (w r) 0) 0) x.rows (one w)
      ∙ none (sum-zero (λ c. cond (stands_at (ends_after x) p (starting x.m c)) (w (starting x.m c)) 0) added
      (λ c within. late w c))
      ∙ sym (sum-filter (stands_at (ends_after x) p) w (rows_told x added)
      ∙ sum-told x added (λ r. cond (stands_at (ends_after x) p r) (w r) 0));
}
  where
    none : {a b : ℕ} → b ≡ 0 → a ≡ a + b
    none h = omega arith

    late : (w : Stamped → ℕ) (c : List Datum)
        → cond (stands_at (ends_after x) p (starting x.m c)) (w (starting x.m c)) 0 ≡ 0
    late w c = ap (λ (b : Bool). cond (b && int_lt p (ends_after x (starting x.m c))) (w (starting x.m c)) 0)
        (le_false before)

    both_sides : (w : Stamped → ℕ) (r : Stamped) (d s t : Bool) → dead x r ≡ d → stands_at x.ends p r ≡ s
        → stands_at (ends_after x) p r ≡ t → cond s (w r) 0 ≡ cond (not d) (cond t (w r) 0) 0
        → cond (stands_at x.ends p r) (w r) 0 ≡ cond (not (dead x r)) (cond (stands_at (ends_after x) p r) (w r) 0) 0
    both_sides w r d s t e f g h = ap (λ (b : Bool). cond b (w r) 0) f ∙ h
        ∙ sym (ap (λ (b : Bool). cond (not b) (cond (stands_at (ends_after x) p r) (w r) 0) 0) e
        ∙ ap (λ (b : Bool). cond (not d) (cond b (w r) 0) 0) g)

    one : (w : Stamped → ℕ) (r : Stamped) → In r x.rows
        → cond (stands_at x.ends p r) (w r) 0 ≡ cond (not (dead x r)) (cond (stands_at (ends_after x) p r) (w r) 0) 0
    one w r within = elim (fate x r within) [
      | inl f ↦ both_sides w r true false _ f.dead
          (ap (λ (b : Bool). b && int_lt p (x.ends r))
          (le_false {a = r.start} {b = p} (let s = f.start in omega (arith, ints)))) refl refl
      | inr h ↦ elim h [
        | inl f ↦ both_sides w r false _ _ f.dead
            (stand_bits x.ends p r high f.end
            ∙ ap (λ (b : Bool). int_le r.start p && b)
            (lt_true {a = p} {b = high} (let s = x.below in omega (arith, ints))))
            (stand_bits (ends_after x) p r x.m f.after ∙ ap (λ (b : Bool). int_le r.start p && b) (lt_true before)) refl
        | inr f ↦ both_sides w r false _ _ f.dead (stand_bits x.ends p r _ refl)
            (stand_bits (ends_after x) p r (x.ends r) f.after) refl
      ]
    ]

-- if no row began or ended in a span before the change, none does after it
pub record Quiet (rows : List Stamped) (ends : Stamped → ℤ) (from until : ℤ) : Type 0 where
  pub starts : (r : Stamped) → In r rows → Outside from until r.start
  pub stops : (r : Stamped) → In r rows → Outside from until (ends r)

pub quiet_after : (x : Turn) (added : List (List Datum)) (from until : ℤ) → until ≤ℤ x.m
    → Quiet x.rows x.ends from until → Quiet (rows_told x added) (ends_after x) from until
quiet_after x added from until le q = record { starts = starts; stops = stops }
  where
    starts : (r : Stamped) → In r (rows_told x added) → Outside from until r.start
    starts r h = elim (member x added r h) [
      | inl a ↦ q.starts r a.0
      | inr b ↦ elim b [ inl a ↦ q.starts r a.0 | inr a ↦ inr (let s = a.0 in omega (arith, ints)) ]
    ]

    stops : (r : Stamped) → In r (rows_told x added) → Outside from until (ends_after x r)
    stops r h = elim (member x added r h) [
      | inl a ↦ inr (let s = a.1.after in omega (arith, ints))
      | inr b ↦ elim b [
        | inl a ↦ subst (λ (n : ℤ). Outside from until n) (sym a.1.after) (q.stops r a.0)
        | inr a ↦ inr (let s = a.1 in let t = x.below in omega (arith, ints))
      ]
    ]

pub told_before : (horizon : Option ℤ) (x : Turn) (added : List (List Datum)) (until : ℤ) (entries : List TableEntry)
    → until ≤ℤ x.m → Told horizon x.rows x.ends until entries
    → Told horizon (rows_told x added) (ends_after x) until entries
told_before horizon x added until [] le (inl past) = inl past
told_before horizon x added until [] le (inr told) = inr (λ r h. elim (member x added r h) [
  | inl a ↦ told r a.0
  | inr b ↦ elim b [ inl a ↦ told r a.0 | inr a ↦ let s = a.0 in omega (arith, ints) ]
])
told_before horizon x added until (e ∷ older) le told =
    let u = told.0 in (
      u,
      (
        elim (told.1.0) [
          | inl past ↦ inl past
          | inr f ↦
              let q : Quiet (rows_told x added) (ends_after x) e.moment until =
              quiet_after x added e.moment until le (record { starts = f.starts; stops = f.stops }) in
              inr (record {
                copy = same-trans f.copy (stand_before x added e.moment (omega (arith, ints)));
                starts = q.starts;
                stops = q.stops;
              })
        ],
        told_before horizon x added e.moment older (omega (arith, ints)) told.1.1,
      ),
    )

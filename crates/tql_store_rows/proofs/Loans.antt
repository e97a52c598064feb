-- Row slots that are lent, given back, and settled.
use Rattle.std.proofs.Common.{◌≡◌, ℕ, ◌+◌, ◌-◌, ◌<◌, ◌≤◌, List, [], ◌∷◌, ◌++◌, length, length-append, refl, sym}
use Rattle.std.proofs.Common.{ap, subst, ◌∙◌, arith, inl, inr}
use Rattle.std.specs.Prelude.{◌⊎◌, ◌≢◌, None, max}
use Rattle.std.proofs.lemmas.Bool.{cases_lt}
use Rattle.std.proofs.lemmas.List.{map-append, get_or_append_left, get_or-append_right}
use Rattle.tql_spec.proofs.MemberLists.{in_either, in_left, in_right}
use Rattle.tql_spec.specs.Bag.{In}
use Rattle.tql_store_index.proofs.Seated.{apart}
use Rattle.tql_store_index.specs.Basis.{Basis, Filed, stands_by}
use Rattle.tql_store_index.specs.Seating.{Seating, seat_at, AreGrown}
use Rattle.tql_store_index.specs.Standing.{stands}
use Rattle.tql_store_index.specs.ValueIndexes.{ValueIndex, index_at, Each, IsGrown}
use Rattle.tql_standing.proofs.RowsStanding.{all-length, past_end}
use Rattle.tql_store_rows.specs.Loans.{AreApart, AreLent, ArePaired, IsEntry, IsLent, IsLoan, Lends}
use Rattle.tql_standing.specs.RowsStanding.{AreStanding, all_of}
use Rattle.tql_store_rows.specs.declared.borrowing.Loan.{Loan}

-- ---- lenders

pub lends_or : (loans : List Loan) (k : ℕ) → Lends loans k ⊎ (Lends loans k → ⊥)
lends_or [] k = inr (λ z. absurd z.1)
lends_or (l ∷ loans) k = elim (apart l.lender k) [
  | inl e ↦ inl (l, inl refl, e)
  | inr f ↦ elim (lends_or loans k) [
    | inl z ↦ inl (z.0, inr z.1, z.2)
    | inr g ↦ inr (λ z. elim (z.1) [
      | inl e ↦ f (ap (λ (x : Loan). x.lender) (sym e) ∙ z.2)
      | inr m ↦ g (z.0, m, z.2)
    ])
  ]
]

pub apart_parts : (as' bs : List Loan) → AreApart (as' ++ bs)
    → (AreApart as' × AreApart bs)
    × ((l o : Loan) → In l as' → In o bs → (o.lender ≢ l.lender) × (o.borrower ≢ l.borrower))
apart_parts [] bs h = ((tt, h), λ l o m n. absurd m)
apart_parts (a ∷ as') bs h =
    let r = apart_parts as' bs h.1 in (
      ((λ o m. h.0 o (in_left o as' bs m), r.0.0), r.0.1),
      λ l o m n. elim m [
        | inl e ↦
            let q = h.0 o (in_right o as' bs n) in
            subst (λ (x : Loan). (o.lender ≢ x.lender) × (o.borrower ≢ x.borrower)) (sym e) q
        | inr i ↦ r.1 l o i n
      ],
    )

apart_more : (loans : List Loan) (n : Loan) → AreApart loans
    → ((o : Loan) → In o loans → (o.lender ≢ n.lender) × (o.borrower ≢ n.borrower)) → AreApart (loans ++ n ∷ [])
apart_more [] n h f = (λ o m. absurd m, tt)
apart_more (l ∷ loans) n h f = (
  λ o m. elim (in_either o loans (n ∷ []) m) [
    | inl i ↦ h.0 o i
    | inr i ↦ elim i [
      | inl e ↦
          let q = f l (inl refl) in
          subst (λ (x : Loan). (x.lender ≢ l.lender) × (x.borrower ≢ l.borrower)) (sym e)
          (λ z. q.0 (sym z), λ z. q.1 (sym z))
      | inr z ↦ absurd z
    ]
  ],
  apart_more loans n h.1 (λ o m. f o (inr m)),
)

-- a list of loans without the others after them
pub paired_front : (base count : ℕ) (as' bs : List Loan) → ArePaired base count (as' ++ bs) → ArePaired base count as'
paired_front base count as' bs h = record {
  lower = λ l m. h.lower l (in_left l as' bs m);
  upper = λ l m. h.upper l (in_left l as' bs m);
  within = λ l m. h.within l (in_left l as' bs m);
  apart = (apart_parts as' bs h.apart).0.0;
}

pub paired_wider : (base count more : ℕ) (loans : List Loan) → count ≤ more → ArePaired base count loans
    → ArePaired base more loans
paired_wider base count more loans w h = record {
  lower = h.lower;
  upper = h.upper;
  within = λ l m. let a = h.within l m in omega (arith, a, w);
  apart = h.apart;
}

-- ---- nothing is lent

pub lent_none : (base : ℕ) (s : Seating) (indexes : List ValueIndex) (rows : List Filed) → AreStanding s indexes rows
    → AreLent base [] s indexes rows
lent_none base s indexes rows h = record {
  pairs = record {
    lower = λ l m. absurd m;
    upper = λ l m. absurd m;
    within = λ l m. absurd m;
    apart = tt;
  };
  each = λ i l. record {
    room = (h.each i l).room;
    wide = (h.each i l).wide;
    full = λ k m f. (h.each i l).each k m;
    gone = λ k m z. absurd z.1;
    alike = λ o m. absurd m;
    beyond = (h.each i l).beyond;
  };
}

pub lent_exact : (base : ℕ) (loans : List Loan) (s : Seating) (indexes : List ValueIndex) (rows : List Filed)
    → loans ≡ [] → AreLent base loans s indexes rows → AreStanding s indexes rows
lent_exact base loans s indexes rows e h = record {
  each = λ i l.
      let x = h.each i l in
      record {
        room = x.room;
        wide = x.wide;
        each = λ k m. x.full k m (λ z. absurd (subst (In z.0) e z.1));
        beyond = x.beyond;
      };
}

-- without indexes
pub lent_empty : (base : ℕ) (loans : List Loan) (s t : Seating) (old new : List ValueIndex)
    (rows more : List Filed) → length new ≡ 0 → length rows ≤ length more → AreLent base loans s old rows
    → AreLent base loans t new more
lent_empty base loans s t old new rows more e w h = record {
  pairs = paired_wider base (length rows) (length more) loans w h.pairs;
  each = λ i l. absurd (omega (arith, e, l));
}

-- ---- more room

pub lent_longer : (base : ℕ) (loans : List Loan) (s t : Seating) (old new : List ValueIndex) (rows : List Filed)
    (to : ℕ) → AreGrown s t → length t.seats ≤ max (length s.seats) to → Each IsGrown old new
    → ((i : ℕ) → i < length old → to ≤ length (index_at new i).standing) → AreLent base loans s old rows
    → AreLent base loans t new rows
lent_longer base loans s t old new rows to g most e wide h = record {
  pairs = h.pairs;
  each = λ i l.
      let m : i < length old = let q = e.0 in omega (arith, q, l) in
      let x = h.each i m in
      let y = e.1 i m in
      let basis = (index_at old i).basis in
      subst (λ (b : Basis). IsLent loans (all_of b rows) t (index_at new i).standing) (sym y.basis)
      (record {
        room = let a = x.room in let b = g.longer in omega (arith, a, b);
        wide = let a = x.wide in let b = y.longer in let c = wide i m in omega (arith, a, b, c, most);
        full = λ k n f. elim (cases_lt k (length s.seats)) [
          | inl a ↦ ap (λ j. stands (index_at new i).standing j) (g.kept k a) ∙ y.kept (seat_at s k) ∙ x.full k a f
          | inr a ↦ ap (λ j. stands (index_at new i).standing j) (g.fresh k a n) ∙ y.kept k ∙ x.beyond k a
              ∙ sym (past_end (all_of basis rows) k (let r = x.room in omega (arith, r, a)))
        ];
        gone = λ k n z. elim (cases_lt k (length s.seats)) [
          | inl a ↦ ap (λ j. stands (index_at new i).standing j) (g.kept k a) ∙ y.kept (seat_at s k) ∙ x.gone k a z
          | inr a ↦ ap (λ j. stands (index_at new i).standing j) (g.fresh k a n) ∙ y.kept k ∙ x.beyond k a
        ];
        alike = x.alike;
        beyond = λ seat n. y.kept seat ∙ x.beyond seat (let b = g.longer in omega (arith, b, n));
      });
}

same_grown : (s : Seating) → AreGrown s s
same_grown s = record {
  longer = omega arith;
  kept = λ k l. refl;
  fresh = λ k l m. absurd (omega (arith, l, m));
}

-- only the indexes have grown
pub lent_wider : (base : ℕ) (loans : List Loan) (s : Seating) (old new : List ValueIndex) (rows : List Filed)
    → Each IsGrown old new → AreLent base loans s old rows → AreLent base loans s new rows
lent_wider base loans s old new rows e h =
    lent_longer base loans s s old new rows 0 (same_grown s) (omega arith) e (λ i l. omega arith) h

-- ---- one more row

-- the spans of rows with one more at the end
more_front : (b : Basis) (rows : List Filed) (row : Filed) (n k : ℕ) → length rows ≡ n → k < n
    → stands (all_of b (rows ++ row ∷ [])) k ≡ stands (all_of b rows) k
more_front b rows row n k e l =
    ap (λ xs. stands xs k) (map-append (stands_by b) rows (row ∷ []))
    ∙ get_or_append_left (all_of b rows) (all_of b (row ∷ [])) None k (let q = all-length b rows in omega
    (arith, e, l, q))

more_here : (b : Basis) (rows : List Filed) (row : Filed) (n : ℕ) → length rows ≡ n
    → stands (all_of b (rows ++ row ∷ [])) n ≡ stands_by b row
more_here b rows row n e =
    ap (λ xs. stands xs n) (map-append (stands_by b) rows (row ∷ []))
    ∙ get_or-append_right (all_of b rows) (all_of b (row ∷ [])) n n None (all-length b rows ∙ e) (omega arith)
    ∙ ap (λ j. stands (stands_by b row ∷ []) j) (let q : n - n ≡ 0 = omega arith in q)

pub more-length : (rows : List Filed) (row : Filed) (n : ℕ) → length rows ≡ n → length (rows ++ row ∷ []) ≡ n + 1
more-length rows row n e = omega (arith, length-append rows (row ∷ []), e)

more_behind : (b : Basis) (rows : List Filed) (row : Filed) (n k : ℕ) → length rows ≡ n → n < k
    → stands (all_of b rows) k ≡ stands (all_of b (rows ++ row ∷ [])) k
more_behind b rows row n k e l =
    past_end (all_of b rows) k (let q = all-length b rows in omega (arith, q, e, l))
    ∙ sym (past_end (all_of b (rows ++ row ∷ [])) k (let q = all-length b (rows ++ row ∷ []) in
    let p = more-length rows row n e in omega (arith, q, p, l)))

-- the row has been entered
pub lent_entered : (base n : ℕ) (loans : List Loan) (s : Seating) (old new : List ValueIndex) (rows : List Filed)
    (row : Filed) → length rows ≡ n → n < length s.seats → IsEntry n row s old new → AreLent base loans s old rows
    → AreLent base loans s new (rows ++ row ∷ [])
lent_entered base n loans s old new rows row e room h g = record {
  pairs = paired_wider base (length rows) (length (rows ++ row ∷ [])) loans
      (let q = more-length rows row n e in omega (arith, q, e)) g.pairs;
  each = λ i l.
      let m : i < length old = let q = h.each.0 in omega (arith, q, l) in
      let x = g.each i m in
      let t = h.each.1 i m in
      let b = (index_at old i).basis in
      subst (λ (c : Basis). IsLent loans (all_of c (rows ++ row ∷ [])) s (index_at new i).standing) (sym t.basis)
      (record {
        room = let q = all-length b (rows ++ row ∷ []) in let p = more-length rows row n e in omega
            (arith, q, p, room);
        wide = let a = x.wide in let c = t.differs.even in omega (arith, a, c);
        full = λ k o f. elim (cases_lt k n) [
          | inl a ↦ t.differs.others k o (inl a) ∙ x.full k o f ∙ sym (more_front b rows row n k e a)
          | inr a ↦ elim (cases_lt n k) [
            | inl c ↦ t.differs.others k o (inr (omega (arith, c))) ∙ x.full k o f ∙ more_behind b rows row n k e c
            | inr c ↦
                let q : k ≡ n = omega (arith, a, c) in
                ap (λ j. stands (index_at new i).standing (seat_at s j)) q ∙ h.came i m
                ∙ sym (more_here b rows row n e)
                ∙ ap (λ j. stands (all_of b (rows ++ row ∷ [])) j) (sym q)
          ]
        ];
        gone = λ k o z.
            let p = g.pairs.lower z.0 z.1 in
            let q = g.pairs.upper z.0 z.1 in
            let r = g.pairs.within z.0 z.1 in
            let y = z.2 in
            t.differs.others k o (inl (omega (arith, p, q, r, e, y))) ∙ x.gone k o z;
        alike = λ z w.
            let p = g.pairs.lower z w in
            let q = g.pairs.upper z w in
            let r = g.pairs.within z w in
            more_front b rows row n z.borrower e (omega (arith, r, e)) ∙ x.alike z w
            ∙ sym (more_front b rows row n z.lender e (omega (arith, p, q, r, e)));
        beyond = λ seat o. t.differs.beyond seat o ∙ x.beyond seat o;
      });
}

-- the row has taken over a row slot
pub lent_more : (base n p : ℕ) (loans after : List Loan) (s t : Seating) (indexes : List ValueIndex)
    (rows : List Filed) (row : Filed) → length rows ≡ n → p < base → base ≤ n → n < length s.seats
    → IsLoan p n row loans after s t indexes → AreLent base loans s indexes rows
    → AreLent base after t indexes (rows ++ row ∷ [])
lent_more base n p loans after s t indexes rows row e low up room h g =
    subst (λ (ls : List Loan). AreLent base ls t indexes (rows ++ row ∷ [])) (sym h.is) (record {
      pairs = record {
        lower = λ l m. elim (in_either l loans (new ∷ []) m) [
          | inl i ↦ g.pairs.lower l i
          | inr i ↦ elim i [ inl q ↦ subst (λ (x : Loan). x.lender < base) (sym q) low | inr z ↦ absurd z ]
        ];
        upper = λ l m. elim (in_either l loans (new ∷ []) m) [
          | inl i ↦ g.pairs.upper l i
          | inr i ↦ elim i [ inl q ↦ subst (λ (x : Loan). base ≤ x.borrower) (sym q) up | inr z ↦ absurd z ]
        ];
        within = λ l m. elim (in_either l loans (new ∷ []) m) [
          | inl i ↦ let a = g.pairs.within l i in omega (arith, a, size, e)
          | inr i ↦ elim i [
            | inl q ↦ subst (λ (x : Loan). x.borrower < length (rows ++ row ∷ [])) (sym q) (omega (arith, size))
            | inr z ↦ absurd z
          ]
        ];
        apart = apart_more loans new g.pairs.apart (λ o m. (
          λ q. fresh (o, m, q),
          λ q. let a = g.pairs.within o m in omega (arith, a, e, q),
        ));
      };
      each = λ i l.
          let x = g.each i l in
          let b = (index_at indexes i).basis in
          let standing = (index_at indexes i).standing in
          let what = all_of b rows in
          let all = all_of b (rows ++ row ∷ []) in
          let under : stands standing (seat_at s p) ≡ stands_by b row = h.alike.same i l in
          record {
            room = let q = all-length b (rows ++ row ∷ []) in let c = h.swapped.even in omega
                (arith, q, size, room, c);
            wide = let a = x.wide in let c = h.swapped.even in omega (arith, a, c);
            full = λ k o f.
                let m : k < length s.seats = let c = h.swapped.even in omega (arith, o, c) in
                elim (apart k n) [
                  | inl q ↦ ap (λ j. stands standing (seat_at t j)) q ∙ ap (λ j. stands standing j) h.swapped.second
                      ∙ under ∙ sym (more_here b rows row n e) ∙ ap (λ j. stands all j) (sym q)
                  | inr q ↦ elim (apart k p) [
                    | inl r ↦ absurd (f (new, in_right new loans (new ∷ []) (inl refl), sym r))
                    | inr r ↦ ap (λ j. stands standing j) (h.swapped.others k r q)
                        ∙ x.full k m (λ z. f (z.0, in_left z.0 loans (new ∷ []) z.1, z.2))
                        ∙ elim (cases_lt k n) [
                          | inl a ↦ sym (more_front b rows row n k e a)
                          | inr a ↦ more_behind b rows row n k e (above k n q a)
                        ]
                  ]
                ];
            gone = λ k o z.
                let m : k < length s.seats = let c = h.swapped.even in omega (arith, o, c) in
                elim (apart k p) [
                  | inl r ↦ ap (λ j. stands standing (seat_at t j)) r ∙ ap (λ j. stands standing j) h.swapped.first
                      ∙ x.full n room (λ y. let a = g.pairs.lower y.0 y.1 in let c = y.2 in omega
                      (arith, a, c, up))
                      ∙ past_end what n (let q = all-length b rows in omega (arith, q, e))
                  | inr r ↦ elim (in_either z.0 loans (new ∷ []) z.1) [
                    | inl a ↦
                        let c = g.pairs.lower z.0 a in
                        let d = z.2 in
                        ap (λ j. stands standing j) (h.swapped.others k r (λ q. omega (arith, c, d, up, q)))
                        ∙ x.gone k m (z.0, a, d)
                    | inr a ↦ elim a [
                      | inl q ↦ absurd (r (sym z.2 ∙ ap (λ (y : Loan). y.lender) q))
                      | inr q ↦ absurd q
                    ]
                  ]
                ];
            alike = λ z w. elim (in_either z loans (new ∷ []) w) [
              | inl a ↦
                  let c = g.pairs.lower z a in
                  let d = g.pairs.within z a in
                  more_front b rows row n z.borrower e (omega (arith, d, e)) ∙ x.alike z a
                  ∙ sym (more_front b rows row n z.lender e (omega (arith, c, up)))
              | inr a ↦ elim a [
                | inl q ↦ subst (λ (y : Loan). stands all y.borrower ≡ stands all y.lender) (sym q)
                    (more_here b rows row n e ∙ sym under ∙ x.full p h.alike.seated fresh
                    ∙ sym (more_front b rows row n p e (omega (arith, low, up))))
                | inr q ↦ absurd q
              ]
            ];
            beyond = λ seat o. x.beyond seat (let c = h.swapped.even in omega (arith, o, c));
          };
    })
  where
    new : Loan
    new = record { lender = p; borrower = n }

    size : length (rows ++ row ∷ []) ≡ n + 1
    size = more-length rows row n e

    -- the version has not lent its row slot before
    fresh : Lends loans p → ⊥
    fresh z = h.alike.held.some ((g.each h.alike.held.number h.alike.held.within).gone p h.alike.seated z)

    above : (k m : ℕ) → k ≢ m → m ≤ k → m < k
    above k m f l = elim (cases_lt m k) [ inl a ↦ a | inr a ↦ absurd (f (omega (arith, a, l))) ]

-- What a lookup of past rows finds of the current versions, while some have lent their row slots.
use Rattle.std.proofs.Common.{◌≡◌, ℕ, ◌+◌, ◌<◌, ◌≤◌, Bool, true, false, cond, List, [], ◌∷◌, ◌++◌, length, refl, sym}
use Rattle.std.proofs.Common.{ap, subst, ◌∙◌, arith, inl, inr, filter, flat_map, map, get_or}
use Rattle.std.specs.Prelude.{◌⊎◌, ◌&&◌, Option, Some, None, Vec, IfSome, nat_lt, ◌<ℤ◌}
use Rattle.std.specs.List.{sum_by}
use Rattle.std.proofs.lemmas.Bool.{cases_lt}
use Rattle.std.proofs.lemmas.Bool.Decides.{nat_tests}
use Rattle.std.proofs.lemmas.List.{map-append}
use Rattle.std.proofs.lemmas.List.Sums.{sum_by-append}
use Rattle.tql_spec.proofs.Bags.{same-refl, sum-filter, sum-map}
use Rattle.tql_spec.proofs.Members.{both, by_bool}
use Rattle.tql_spec.specs.Bag.{SameBag, In}
use Rattle.tql_spec.specs.Calendar.{high}
use Rattle.tql_spec.specs.Definition as definition
use Rattle.tql_spec.specs.Period.{Period, share_a_point}
use Rattle.tql_store_index.proofs.Tuples.{found_if}
use Rattle.tql_store_index.specs.Basis.{Basis, Filed, ServesIf, Sought, filed, is_looked_at, meets_if, stands_by}
use Rattle.tql_store_index.specs.Places.{whole}
use Rattle.tql_store_index.specs.Seating.{Seating, seat_at}
use Rattle.tql_store_index.specs.Standing.{passes, seats_if, stands}
use Rattle.tql_store_index.specs.ValueIndexes.{ValueIndex, index_at, IsFoundBy}
use Rattle.tql_store_rows.proofs.Choosing.{past_passes}
use Rattle.tql_standing.proofs.Counting.{times}
use Rattle.tql_store_rows.proofs.Lacking.{finds_listed, finds_more}
use Rattle.tql_store_rows.proofs.Loans.{lends_or}
use Rattle.tql_store_rows.proofs.PastRows.{pasts-length}
use Rattle.tql_store_rows.proofs.Picked.{linked_false, linked_true, sum-picked}
use Rattle.tql_standing.proofs.RowsStanding.{all-length, at_all, rows-length}
use Rattle.tql_store_rows.specs.Loans.{AreAdded, AreLent, AreListed, AreShut, FindsAll, IsLent, Lends, lending_places}
use Rattle.tql_store_rows.specs.Picked.{is_linked, lenders_among, picked, stands_at}
use Rattle.tql_standing.specs.RowsStanding.{all_of, past_of, past_rows, pasts_at, pasts_of, rows_of}
use Rattle.tql_store_rows.specs.Wanted.{AreSought, chosen, chosen_of}
use Rattle.tql_store_rows.specs.declared.borrowing.Loan.{Loan}
use Rattle.tql_value.specs.declared.when.When.{When}
use Rattle.tql_versions.specs.Changes.{alive, nothing}
use Rattle.tql_versions.specs.Places.{version_at}
use Rattle.tql_versions.specs.Readings.{Answer, asked, numbered, placed, sought, told_by}

-- what a position adds to a sum over the answers
abbrev weight_of : When → Option Sought → List definition.Version → (Answer → ℕ) → ℕ → ℕ
weight_of when s vs w i = cond (nat_lt i (length vs)) (cond (told_by (chosen when s) (get_or vs i nothing))
    (w (record { id = 0 + i; version = get_or vs i nothing })) 0) 0

sum-placed : (when : When) (s : Option Sought) (vs : List definition.Version) (w : Answer → ℕ) (is : List ℕ)
    → sum_by w (chosen_of when s (placed 0 vs is)) ≡ sum_by (weight_of when s vs w) is
sum-placed when s vs w is =
    sum-filter (λ (a : Answer). told_by (chosen when s) a.version) w (placed 0 vs is)
    ∙ sum-map shown (λ (a : Answer). cond (told_by (chosen when s) a.version) (w a) 0)
    (filter (λ i. nat_lt i (length vs)) is)
    ∙ sum-filter (λ i. nat_lt i (length vs))
    (λ i. cond (told_by (chosen when s) (get_or vs i nothing)) (w (shown i)) 0) is
  where
    shown : ℕ → Answer
    shown i = record { id = 0 + i; version = get_or vs i nothing }

spans_at : (b : Basis) (is : List ℕ) (vs : List definition.Version)
    → all_of b (pasts_at None is vs) ≡ map (λ i. stands_by b (past_of (version_at vs i))) is
spans_at b [] vs = refl
spans_at b (i ∷ is) vs = ap (λ xs. stands_by b (past_of (version_at vs i)) ∷ xs) (spans_at b is vs)

below_is : (k n : ℕ) → k < n → nat_lt k n ≡ true
below_is k n l = grind (arith, nat_tests)

not_below : (k n : ℕ) → n ≤ k → nat_lt k n ≡ false
not_below k n l = grind (arith, nat_tests)

-- a lender's row slot has no period
lender_loose : (base : ℕ) (loans : List Loan) (s : Seating) (indexes : List ValueIndex) (rows : List Filed)
    (l : Loan) → In l loans → AreLent base loans s indexes rows → stands_at s indexes l.lender ≡ false
lender_loose base loans s indexes rows l m h = elim (cases_lt l.lender (length s.seats)) [
  | inl a ↦ ap (λ b. nat_lt l.lender (length s.seats) && b) (linked_false (seat_at s l.lender) indexes
      (λ i n. (h.each i n).gone l.lender a (l, m, refl))) ∙ no_more (nat_lt l.lender (length s.seats))
  | inr a ↦ ap (λ b. b && is_linked (seat_at s l.lender) indexes) (not_below l.lender (length s.seats) a)
]
  where
    no_more : (b : Bool) → (b && false) ≡ false
    no_more true = refl
    no_more false = refl

-- the row slot of another version that a lookup chooses has one
chosen_stands : (when : When) (s : Option Sought) (base : ℕ) (loans : List Loan) (seats : Seating)
    (indexes : List ValueIndex) (vs : List definition.Version) (places : List ℕ) (k : ℕ)
    → IsFoundBy seats indexes s None places → AreLent base loans seats indexes (rows_of vs) → k < length vs
    → (Lends loans k → ⊥) → told_by (chosen when s) (version_at vs k) ≡ true → stands_at seats indexes k ≡ true
chosen_stands when s base loans seats indexes vs places k f h l g t =
    ap (λ b. b && is_linked (seat_at seats k) indexes) (below_is k (length seats.seats) seated)
    ∙ linked_true (seat_at seats k) indexes (record {
      number = f.number;
      within = f.within;
      some = λ e. neither (stands (index_at indexes f.number).standing (seat_at seats k)) e
          (ap (passes q) (lent.full k seated g ∙ at_all basis vs k l)
          ∙ found_if s basis None (filed (version_at vs k).row.cells whole) f.serves
          (both (asked when (version_at vs k)) (is_looked_at s (version_at vs k).row.cells)
          (both (alive (version_at vs k)) (chosen when s (version_at vs k)) t).1).1 tt);
    })
  where
    basis : Basis
    basis = (index_at indexes f.number).basis

    q : Period → Bool
    q = meets_if basis s None

    lent : IsLent loans (all_of basis (rows_of vs)) seats (index_at indexes f.number).standing
    lent = h.each f.number f.within

    seated : k < length seats.seats
    seated = let r = lent.room in omega (arith, r, all-length basis (rows_of vs), rows-length vs, l)

    neither : (o : Option Period) → o ≡ None → passes q o ≡ true → ⊥
    neither o e p = absurd (let z = ap (passes q) e in cc)

-- the lenders that count are found by a lookup of the past rows
reached : (when : When) (s : Option Sought) (base : ℕ) (loans : List Loan) (seats : Seating)
    (indexes : List ValueIndex) (vs closed : List definition.Version) (ended places past : List ℕ) (y : Period)
    (w : Answer → ℕ) (b : Basis)
    → ((x : Period) → x.start <ℤ x.end → x.end <ℤ high → share_a_point x y ≡ sought when x)
    → IsFoundBy seats indexes s None places → AreLent base loans seats indexes (rows_of vs) → ServesIf s b
    → SameBag past (seats_if (passes (meets_if b s (Some y))) 0 (all_of b (pasts_of closed ++ pasts_at None ended vs)))
    → ((l : Loan) → In l loans → (version_at vs l.lender).end <ℤ high)
    → ((l : Loan) → In l loans → times l.lender ended ≡ 1)
    → sum_by (weight_of when s vs w) (flat_map (picked (length closed) ended (stands_at seats indexes)) past)
    ≡ sum_by (weight_of when s vs w) (lending_places loans)
reached when s base loans seats indexes vs closed ended places past y w b shares f h e bag low once =
    sum-picked (length closed) ended (stands_at seats indexes) loans (weight_of when s vs w)
    (passes (meets_if b s (Some y))) span (all_of b (pasts_of closed)) past
    (all-length b (pasts_of closed) ∙ pasts-length closed) h.pairs.apart once none
    (λ l m. lender_loose base loans seats indexes (rows_of vs) l m h)
    (λ i l. elim (lends_or loans (get_or ended i 0)) [
      | inl z ↦ of_lender (get_or ended i 0) z
      | inr g ↦ inr (none (get_or ended i 0) g)
    ])
    (subst (λ xs. SameBag past (seats_if (passes (meets_if b s (Some y))) 0 xs))
    (map-append (stands_by b) (pasts_of closed) (pasts_at None ended vs)
    ∙ ap (λ xs. all_of b (pasts_of closed) ++ xs) (spans_at b ended vs)) bag)
  where
    span : ℕ → Option Period
    span i = stands_by b (past_of (version_at vs i))

    weight : ℕ → ℕ
    weight = weight_of when s vs w

    -- a position beyond the versions, or of a version that is not chosen, adds nothing
    untold : (i : ℕ) → told_by (chosen when s) (version_at vs i) ≡ false → weight i ≡ 0
    untold i t = ap (λ c. cond (nat_lt i (length vs)) (cond c (w (record {
      id = 0 + i;
      version = get_or vs i nothing;
    })) 0) 0) t ∙ nothing_at (nat_lt i (length vs))
      where
        nothing_at : (c : Bool) → cond {A = ℕ} c 0 0 ≡ 0
        nothing_at true = refl
        nothing_at false = refl

    beyond : (i : ℕ) → length vs ≤ i → weight i ≡ 0
    beyond i l = ap (λ c. cond c (cond (told_by (chosen when s) (get_or vs i nothing)) (w (record {
      id = 0 + i;
      version = get_or vs i nothing;
    })) 0) 0) (not_below i (length vs) l)

    unlinked : (c : Bool) (i : ℕ) → weight i ≡ 0 → cond c 0 (weight i) ≡ 0
    unlinked true i z = refl
    unlinked false i z = z

    none : (i : ℕ) → (Lends loans i → ⊥) → cond (stands_at seats indexes i) 0 (weight i) ≡ 0
    none i g = elim (cases_lt i (length vs)) [
      | inl l ↦ by_bool (told_by (chosen when s) (version_at vs i))
          (λ t. ap (λ c. cond c 0 (weight i)) (chosen_stands when s base loans seats indexes vs places i f h l g t))
          (λ t. unlinked (stands_at seats indexes i) i (untold i t))
      | inr l ↦ unlinked (stands_at seats indexes i) i (beyond i l)
    ]

    of_lender : (i : ℕ) → Lends loans i → (passes (meets_if b s (Some y)) (span i) ≡ true)
        ⊎ (cond (stands_at seats indexes i) 0 (weight i) ≡ 0)
    of_lender i z = by_bool (told_by (chosen when s) (version_at vs i))
        (λ t. inl (past_passes when s y (version_at vs i ∷ []) shares
        (λ v m. here v m (subst (λ k. (version_at vs k).end <ℤ high) z.2 (low z.0 z.1))) b e (version_at vs i)
        (inl refl) t))
        (λ t. inr (unlinked (stands_at seats indexes i) i (untold i t)))
      where
        here : (v : definition.Version) → In v (version_at vs i ∷ []) → (version_at vs i).end <ℤ high → v.end <ℤ high
        here v (inl q) l = subst (λ (x : definition.Version). x.end <ℤ high) (sym q) l
        here v (inr q) l = absurd q

-- with the lenders found among the past rows, an index finds all versions that are chosen
pub finds_past : {A : Type 0} (when : When) (s : Option Sought) (base : ℕ) (loans : List Loan) (seats : Seating)
    (indexes : List ValueIndex) (vs closed : List definition.Version) (ended : List ℕ) (keeps : Bool) (y : Period)
    (r t past : Option (Vec ℕ A))
    → ((x : Period) → x.start <ℤ x.end → x.end <ℤ high → share_a_point x y ≡ sought when x)
    → IfSome r (λ places. IsFoundBy seats indexes s None places.items)
    → AreAdded (lenders_among past (length closed) ended loans (stands_at seats indexes)) r t
    → AreLent base loans seats indexes (rows_of vs)
    → (keeps ≡ false → past ≡ None) → AreSought s (Some y) (past_rows keeps vs ended closed) past
    → ((l : Loan) → In l loans → (version_at vs l.lender).end <ℤ high)
    → ((l : Loan) → In l loans → times l.lender ended ≡ 1) → FindsAll when s vs t
finds_past when s base loans seats indexes vs closed ended keeps y r t None shares f added h unkept found low once =
    finds_more when s base loans seats indexes vs r t f added h
finds_past when s base loans seats indexes vs closed ended keeps y None None (Some past) shares f added h unkept found
    low once = same-refl (chosen_of when s (numbered 0 vs))
finds_past when s base loans seats indexes vs closed ended keeps y None (Some t) (Some past) shares f added h unkept
    found low once = absurd added
finds_past when s base loans seats indexes vs closed ended keeps y (Some r) None (Some past) shares f added h unkept
    found low once = absurd added
finds_past {A} when s base loans seats indexes vs closed ended false y (Some r) (Some t) (Some past) shares f added h
    unkept found low once = absurd (let e = unkept refl in cc)
finds_past {A} when s base loans seats indexes vs closed ended true y (Some r) (Some t) (Some past) shares f added h
    unkept found low once =
    let more = flat_map (picked (length closed) ended (stands_at seats indexes)) past.items in
    record {
      totals = λ w.
          ap (λ is. sum_by w (chosen_of when s (placed 0 vs is))) added
          ∙ sum-placed when s vs w (r.items ++ more)
          ∙ sum_by-append (weight_of when s vs w) r.items more
          ∙ ap (λ n. sum_by (weight_of when s vs w) r.items + n)
          (reached when s base loans seats indexes vs closed ended r.items past.items y w found.0 shares f h found.1
          found.2 low once)
          ∙ sym (sum_by-append (weight_of when s vs w) r.items (lending_places loans))
          ∙ sym (sum-placed when s vs w (r.items ++ lending_places loans))
          ∙ (all_lenders w);
    }
  where
    all_lenders : (w : Answer → ℕ) → sum_by w (chosen_of when s (placed 0 vs (r.items ++ lending_places loans)))
        ≡ sum_by w (chosen_of when s (numbered 0 vs))
    all_lenders w = (finds_listed when s base loans seats indexes vs r.items f h).totals w

-- the same, from what the code reads
pub finds_reached : {A : Type 0} (when : When) (s : Option Sought) (base n : ℕ) (loans ls : List Loan)
    (seats : Seating) (indexes : List ValueIndex) (vs us closed : List definition.Version) (ended es : List ℕ)
    (keeps : Bool) (y : Period) (r t past : Option (Vec ℕ A)) → n ≡ length closed → es ≡ ended → ls ≡ loans → vs ≡ us
    → ((x : Period) → x.start <ℤ x.end → x.end <ℤ high → share_a_point x y ≡ sought when x)
    → IfSome r (λ places. IsFoundBy seats indexes s None places.items)
    → AreAdded (lenders_among past n es ls (stands_at seats indexes)) r t
    → AreLent base loans seats indexes (rows_of vs)
    → (keeps ≡ false → past ≡ None) → AreSought s (Some y) (past_rows keeps vs ended closed) past
    → AreShut loans vs → AreListed loans ended → FindsAll when s us t
finds_reached when s base n loans ls seats indexes vs us closed ended es keeps y r t past e f g i shares found added h
    unkept reached low once =
    subst (λ (xs : List definition.Version). FindsAll when s xs t) i
    (finds_past when s base loans seats indexes vs closed ended keeps y r t past shares found
    (subst (λ (k : ℕ). AreAdded (lenders_among past k ended loans (stands_at seats indexes)) r t) e
    (subst (λ (is : List ℕ). AreAdded (lenders_among past n is loans (stands_at seats indexes)) r t) f
    (subst (λ (os : List Loan). AreAdded (lenders_among past n es os (stands_at seats indexes)) r t) g added))) h unkept
    reached low once)

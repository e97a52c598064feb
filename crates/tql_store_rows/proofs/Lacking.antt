-- What a lookup finds of the current versions while some have lent their row slots.
use Rattle.std.proofs.Common.{◌≡◌, ℕ, zero, suc, ◌+◌, ◌<◌, ◌≤◌, Bool, true, false, List, [], ◌∷◌, ◌++◌, length}
use Rattle.std.proofs.Common.{refl, sym}
use Rattle.std.proofs.Common.{ap, subst, ◌∙◌, arith, inl, inr, map, get_or}
use Rattle.std.specs.Prelude.{◌⊎◌, ◌&&◌, Option, Some, None, Vec, IfSome, nat_lt}
use Rattle.std.proofs.lemmas.Bool.{cases_lt}
use Rattle.std.proofs.lemmas.List.{get_or-map, length-map}
use Rattle.tql_spec.proofs.Bags.{same-append, same-refl, same-trans, same-map, same-filter}
use Rattle.tql_spec.proofs.Members.{both}
use Rattle.tql_spec.specs.Bag.{SameBag}
use Rattle.tql_spec.specs.Definition as definition
use Rattle.tql_spec.specs.Period.{Period}
use Rattle.tql_store_index.proofs.Tuples.{found_if}
use Rattle.tql_store_index.specs.Basis.{Basis, Sought, filed, is_looked_at, meets_if}
use Rattle.tql_store_index.specs.Places.{whole}
use Rattle.tql_store_index.specs.Seating.{Seating}
use Rattle.tql_store_index.specs.Standing.{passes, stands}
use Rattle.tql_store_index.specs.ValueIndexes.{ValueIndex, index_at, IsFoundBy, IsLinked}
use Rattle.tql_store_rows.proofs.Choosing.{chosen-marked}
use Rattle.tql_store_rows.proofs.Hits.{hits, marked, marked-length, marked_hits, marked_not, marked_there, seats_hits}
use Rattle.tql_store_rows.proofs.LentRows.{not_open}
use Rattle.tql_store_rows.proofs.Loans.{lends_or}
use Rattle.tql_standing.proofs.RowsStanding.{all-length, at_all, rows-length}
use Rattle.tql_store_rows.proofs.Sought.{same-list}
use Rattle.tql_store_rows.specs.Loans.{AreAdded, AreLent, AreShut, FindsAll, IsLent, Lends, lending_places}
use Rattle.tql_standing.specs.RowsStanding.{all_of, rows_of}
use Rattle.tql_store_rows.specs.Wanted.{chosen, chosen_of}
use Rattle.tql_store_rows.specs.declared.borrowing.Loan.{Loan}
use Rattle.tql_value.specs.declared.when.When.{When}
use Rattle.tql_value.specs.declared.when.When.TheVariants.{Now}
use Rattle.tql_versions.specs.Changes.{alive, is_current, nothing}
use Rattle.tql_versions.specs.Places.{version_at}
use Rattle.tql_versions.specs.Readings.{Answer, asked, numbered, placed, told_by}

abbrev pick : {A B : Type 0} → A ⊎ B → Option Period → Option Period
pick (inl a) x = None
pick (inr b) x = x

-- the spans of rows, numbered from n, none for the lenders
abbrev lacking : List Loan → ℕ → List (Option Period) → List (Option Period)
lacking loans n [] = []
lacking loans n (x ∷ xs) = pick (lends_or loans n) x ∷ lacking loans (n + 1) xs

lacking-length : (loans : List Loan) (n : ℕ) (xs : List (Option Period)) → length (lacking loans n xs) ≡ length xs
lacking-length loans n [] = refl
lacking-length loans n (x ∷ xs) = ap suc (lacking-length loans (n + 1) xs)

lacks : (loans : List Loan) (n k : ℕ) (xs : List (Option Period)) → Lends loans (n + k)
    → stands (lacking loans n xs) k ≡ None
lacks loans n k [] z = refl
lacks loans n zero (x ∷ xs) z = here (lends_or loans n) (subst (Lends loans) (no_more n) z)
  where
    no_more : (i : ℕ) → i + 0 ≡ i
    no_more i = omega arith

    here : (c : Lends loans n ⊎ (Lends loans n → ⊥)) → Lends loans n → pick c x ≡ None
    here (inl a) y = refl
    here (inr f) y = absurd (f y)
lacks loans n (suc k) (x ∷ xs) z = lacks loans (n + 1) k xs (subst (Lends loans) (one_more n k) z)
  where
    one_more : (i j : ℕ) → i + suc j ≡ i + 1 + j
    one_more i j = omega arith

lacks_not : (loans : List Loan) (n k : ℕ) (xs : List (Option Period)) → (Lends loans (n + k) → ⊥)
    → stands (lacking loans n xs) k ≡ stands xs k
lacks_not loans n k [] z = refl
lacks_not loans n zero (x ∷ xs) z = here (lends_or loans n) (λ y. z (subst (Lends loans) (no_more n) y))
  where
    no_more : (i : ℕ) → i ≡ i + 0
    no_more i = omega arith

    here : (c : Lends loans n ⊎ (Lends loans n → ⊥)) → (Lends loans n → ⊥) → pick c x ≡ x
    here (inl a) f = absurd (f a)
    here (inr f) g = refl
lacks_not loans n (suc k) (x ∷ xs) z = lacks_not loans (n + 1) k xs (λ y. z (subst (Lends loans) (one_more n k) y))
  where
    one_more : (i j : ℕ) → i + 1 + j ≡ i + suc j
    one_more i j = omega arith

none_more : (n : ℕ) → 0 + n ≡ n
none_more n = omega arith

-- the row slots have these spans
lacking_linked : (loans : List Loan) (what : List (Option Period)) (s : Seating) (standing : List (Option Period))
    → IsLent loans what s standing → IsLinked (lacking loans 0 what) s standing
lacking_linked loans what s standing h = record {
  room = let r = h.room in omega (arith, r, lacking-length loans 0 what);
  wide = h.wide;
  each = λ k l. elim (lends_or loans k) [
    | inl z ↦ h.gone k l z ∙ sym (lacks loans 0 k what (subst (Lends loans) (sym (none_more k)) z))
    | inr f ↦ h.full k l f
        ∙ sym (lacks_not loans 0 k what (λ z. f (subst (Lends loans) (none_more k) z)))
  ];
  beyond = h.beyond;
}

-- the numbers where a list is true, as far as there are versions
answers-marked : (when : When) (s : Option Sought) (vs : List definition.Version) (places : List ℕ) (bs : List Bool)
    → length bs ≡ length vs
    → ((k : ℕ) → k < length vs → told_by (chosen when s) (get_or vs k nothing) ≡ true → get_or bs k false ≡ true)
    → SameBag places (hits 0 bs)
    → SameBag (chosen_of when s (placed 0 vs places)) (chosen_of when s (numbered 0 vs))
answers-marked when s vs places bs even pass h =
    same-trans (same-filter (λ (a : Answer). told_by (chosen when s) a.version)
    (same-map (λ i. record { id = 0 + i; version = get_or vs i nothing })
    (same-filter (λ i. nat_lt i (length vs)) h)))
    (same-list (chosen-marked (told_by (chosen when s)) bs 0 vs vs 0 even pass
    (λ k l. ap (λ i. get_or vs i nothing) (none_more k)) (omega arith)))

-- what an index finds of versions of which some have lent their row slots
record Finding (when : When) (s : Option Sought) (loans : List Loan) (vs : List definition.Version) (places : List ℕ) :
    Type 0 where
  pub bs : List Bool
  pub even : length bs ≡ length vs
  pub bag : SameBag places (hits 0 bs)
  pub not : (k : ℕ) → Lends loans k → get_or bs k false ≡ false
  pub pass : (k : ℕ) → k < length vs → (Lends loans k → ⊥) → told_by (chosen when s) (get_or vs k nothing) ≡ true
      → get_or bs k false ≡ true

finding : (when : When) (s : Option Sought) (base : ℕ) (loans : List Loan) (seats : Seating)
    (indexes : List ValueIndex) (vs : List definition.Version) (places : List ℕ)
    → IsFoundBy seats indexes s None places → AreLent base loans seats indexes (rows_of vs)
    → Finding when s loans vs places
finding when s base loans seats indexes vs places f h = record {
  bs = map (passes q) spans;
  even = length-map spans (passes q) ∙ size;
  bag = subst (λ is. SameBag places is) (seats_hits (passes q) 0 spans)
      (f.found spans (lacking_linked loans what seats (index_at indexes f.number).standing lent));
  not = λ k z. elim (cases_lt k (length spans)) [
    | inl l ↦ get_or-map (passes q) spans k None false l
        ∙ ap (passes q) (lacks loans 0 k what (subst (Lends loans) (sym (none_more k)) z))
    | inr l ↦ beyond (map (passes q) spans) k (let n = length-map spans (passes q) in omega (arith, n, l))
  ];
  pass = λ k l g t. get_or-map (passes q) spans k None false (let n = size in omega (arith, n, l))
      ∙ ap (passes q) (lacks_not loans 0 k what (λ z. g (subst (Lends loans) (none_more k) z)) ∙ at_all basis vs k l)
      ∙ found_if s basis None (filed (version_at vs k).row.cells whole) f.serves
      (both (asked when (version_at vs k)) (is_looked_at s (version_at vs k).row.cells)
      (both (alive (version_at vs k)) (chosen when s (version_at vs k)) t).1).1 tt;
}
  where
    basis : Basis
    basis = (index_at indexes f.number).basis

    q : Period → Bool
    q = meets_if basis s None

    what : List (Option Period)
    what = all_of basis (rows_of vs)

    spans : List (Option Period)
    spans = lacking loans 0 what

    size : length spans ≡ length vs
    size = lacking-length loans 0 what ∙ all-length basis (rows_of vs) ∙ rows-length vs

    lent : IsLent loans what seats (index_at indexes f.number).standing
    lent = h.each f.number f.within

    beyond : (bs : List Bool) (k : ℕ) → length bs ≤ k → get_or bs k false ≡ false
    beyond [] k l = refl
    beyond (b ∷ bs) zero l = absurd (omega (arith, l))
    beyond (b ∷ bs) (suc k) l = beyond bs k (omega (arith, l))

-- if no lender is chosen, an index finds all versions that are
finds_all : {A : Type 0} (when : When) (s : Option Sought) (base : ℕ) (loans : List Loan) (seats : Seating)
    (indexes : List ValueIndex) (vs : List definition.Version) (r : Option (Vec ℕ A))
    → IfSome r (λ places. IsFoundBy seats indexes s None places.items)
    → ((k : ℕ) → Lends loans k → told_by (chosen when s) (version_at vs k) ≡ false)
    → AreLent base loans seats indexes (rows_of vs) → FindsAll when s vs r
finds_all when s base loans seats indexes vs None f none h = same-refl (chosen_of when s (numbered 0 vs))
finds_all when s base loans seats indexes vs (Some places) f none h =
    let x = finding when s base loans seats indexes vs places.items f h in
    answers-marked when s vs places.items x.bs x.even
    (λ k l t. elim (lends_or loans k) [
      | inl z ↦ absurd (neither (told_by (chosen when s) (version_at vs k)) t (none k z))
      | inr g ↦ x.pass k l g t
    ]) x.bag
  where
    neither : (b : Bool) → b ≡ true → b ≡ false → ⊥
    neither b p q = absurd (cc)

-- with the lenders, it finds them in any case
pub finds_listed : (when : When) (s : Option Sought) (base : ℕ) (loans : List Loan) (seats : Seating)
    (indexes : List ValueIndex) (vs : List definition.Version) (places : List ℕ)
    → IsFoundBy seats indexes s None places → AreLent base loans seats indexes (rows_of vs)
    → SameBag (chosen_of when s (placed 0 vs (places ++ lending_places loans))) (chosen_of when s (numbered 0 vs))
finds_listed when s base loans seats indexes vs places f h =
    let x = finding when s base loans seats indexes vs places f h in
    answers-marked when s vs (places ++ lending_places loans) (marked loans x.bs) (marked-length loans x.bs ∙ x.even)
    (λ k l t. elim (lends_or loans k) [
      | inl z ↦ marked_there loans x.bs k (let e = x.even in omega (arith, l, e)) z
      | inr g ↦ marked_not loans x.bs k g ∙ x.pass k l g t
    ])
    (same-trans (same-append x.bag (same-refl (lending_places loans)))
    (marked_hits loans x.bs h.pairs.apart
    (λ l m. let a = h.pairs.lower l m in let b = h.pairs.upper l m in let c = h.pairs.within l m in
    let e = x.even in omega (arith, a, b, c, e, rows-length vs))
    (λ l m. x.not l.lender (l, m, refl))))

pub finds_more : {A : Type 0} (when : When) (s : Option Sought) (base : ℕ) (loans : List Loan) (seats : Seating)
    (indexes : List ValueIndex) (vs : List definition.Version) (r t : Option (Vec ℕ A))
    → IfSome r (λ places. IsFoundBy seats indexes s None places.items)
    → AreAdded (lending_places loans) r t → AreLent base loans seats indexes (rows_of vs) → FindsAll when s vs t
finds_more when s base loans seats indexes vs None None f added h = same-refl (chosen_of when s (numbered 0 vs))
finds_more when s base loans seats indexes vs None (Some more) f added h = absurd added
finds_more when s base loans seats indexes vs (Some places) None f added h = absurd added
finds_more when s base loans seats indexes vs (Some places) (Some more) f added h =
    subst (λ is. SameBag (chosen_of when s (placed 0 vs is)) (chosen_of when s (numbered 0 vs))) (sym added)
    (finds_listed when s base loans seats indexes vs places.items f h)

-- no closed version is one of the current rows
unchosen : (s : Option Sought) (v : definition.Version) → is_current v ≡ false → told_by (chosen Now s) v ≡ false
unchosen s v e = three (alive v) (is_current v) (is_looked_at s v.row.cells) e
  where
    three : (a b c : Bool) → b ≡ false → (a && (b && c)) ≡ false
    three true b c f = ap (λ x. x && c) f
    three false b c f = refl

pub finds_now : {A : Type 0} (when : When) (s : Option Sought) (base : ℕ) (loans : List Loan) (seats : Seating)
    (indexes : List ValueIndex) (vs us : List definition.Version) (r : Option (Vec ℕ A)) → when ≡ Now
    → vs ≡ us → IfSome r (λ places. IsFoundBy seats indexes s None places.items) → AreShut loans vs
    → AreLent base loans seats indexes (rows_of vs) → FindsAll when s us r
finds_now when s base loans seats indexes vs us r w e f shut h =
    subst (λ (xs : List definition.Version). FindsAll when s xs r) e
    (finds_all when s base loans seats indexes vs r f
    (λ k z. ap (λ (x : When). told_by (chosen x s) (version_at vs k)) w ∙ unchosen s (version_at vs k)
    (ap (λ j. is_current (version_at vs j)) (sym z.2) ∙ not_open (version_at vs z.0.lender) (shut z.0 z.1))) h)

-- The copies that a horizon leaves answer questions from it on, and whole queries, as all copies do.
use Rattle.std.proofs.Common.{◌≡◌, refl, sym, ap, ◌∙◌, ℕ, zero, suc, Bool, true, false, List, [], ◌∷◌, ◌++◌, map}
use Rattle.std.proofs.Common.{filter, take, inl, inr, arith}
use Rattle.std.specs.Prelude.{◌⊎◌, ◌&&◌, ◌||◌, not, ℤ, pos, ◌+ℤ◌, ◌≤ℤ◌, ◌<ℤ◌, int_le, int_lt, if◌then◌else◌, Option}
use Rattle.std.specs.Prelude.{Some, None}
use Rattle.std.specs.List.{flat_map, list_any}
use Rattle.std.proofs.lemmas.Int.{ints}
use Rattle.tql_spec.specs.Words.{◌>>=◌, map_all, filter_all, with_front}
use Rattle.tql_spec.specs.Bag.{In}
use Rattle.tql_spec.specs.Calendar.{high, read_timestamp}
use Rattle.tql_spec.specs.Datum.{Row}
use Rattle.tql_spec.specs.Expression.{eval, passes}
use Rattle.tql_spec.specs.Definition.{Stamped, Version}
use Rattle.tql_spec.specs.History.{Entry, When, Now, AsOf, FromTo, Between, FallingFrom, Falling, TableEntry, rows_in}
use Rattle.tql_spec.specs.History.{table_history, found, as_of_from, found_from, completed, ends_before, still, meets}
use Rattle.tql_spec.specs.History.{has_version}
use Rattle.tql_spec.specs.Query.{Query, Ref, Join, Inner, Left, Cross, Chain, keep, pairs, left_join, joined_with}
use Rattle.tql_spec.specs.Query.{joins_from, chain_rows, product, scopes, if_distinct, answer}
use Rattle.tql_spec.specs.Horizon.{pruned, is_before, joined_ref, chain_refs, refs, asks_before}
use Rattle.tql_spec.specs.Syntax.{NoSpan, AsOfTree, FromToTree, BetweenTree}
use Rattle.tql_spec.specs.Binding.{or_bad_moment}
use Rattle.tql_spec.specs.HorizonLaws.{PrunedAnswersStay, IsLeft, is_read_before, OnlyMomentsAreBefore}
use Rattle.tql_spec.proofs.Members.{lt_tells, le_tells}
use Rattle.tql_spec.proofs.MemberLists.{in_left, in_right}
use Rattle.tql_spec.proofs.SpanLaws.{none_after}

-- ---- the copies that are left

-- one table in a copy
abbrev at : ℕ → Entry → TableEntry
at t e = record { moment = e.moment; rows = rows_in e.copy t }

-- a moment that the test does not find before another is not before it
pub not_before : (m h : ℤ) → int_lt m h ≡ false → h ≤ℤ m
not_before m h e = elim (lt_tells m h) [ inl s ↦ absurd (let k = s.0 in cc) | inr s ↦ s.1 ]

-- AS OF finds the same in the copies that are left
as_of_left : (t : ℕ) (h m : ℤ) → h ≤ℤ m → (n : ℕ) (es : List Entry) (until : ℤ) (ends : Stamped → ℤ)
    → FallingFrom until es
    → IsLeft h n es
    → as_of_from until ends m (table_history t (take n es)) ≡ as_of_from until ends m (table_history t es)
as_of_left t h m l zero [] until ends f k = refl
as_of_left t h m l zero (e ∷ es) until ends f k = absurd k
as_of_left t h m l (suc n) [] until ends f k = absurd k
as_of_left t h m l (suc n) (e ∷ es) until ends f (inl past) =
    ap (λ rest. if int_le e.moment m && int_lt m until then completed ends (rows_in e.copy t) else rest)
    (none_after t m (take n es) e.moment (ends_before (at t e) ends) (falls_left n es e.moment f.1)
    (omega (arith, ints))
    ∙ sym (none_after t m es e.moment (ends_before (at t e) ends) f.1 (omega (arith, ints))))
  where
    falls_left : (n : ℕ) (xs : List Entry) (u : ℤ) → FallingFrom u xs → FallingFrom u (take n xs)
    falls_left zero xs u g = tt
    falls_left (suc n) [] u g = tt
    falls_left (suc n) (x ∷ xs) u g = (g.0, falls_left n xs x.moment g.1)
as_of_left t h m l (suc n) (e ∷ es) until ends f (inr k) =
    ap (λ rest. if int_le e.moment m && int_lt m until then completed ends (rows_in e.copy t) else rest)
    (as_of_left t h m l n es e.moment (ends_before (at t e) ends) f.1 k)

-- a copy that is valid only up to the start of the range is not met
unmet : (a b s until : ℤ) → until ≤ℤ a → meets a b s until ≡ false
unmet a b s until l = grind (arith, ints)

-- copies that are older than the start of the range add nothing
none_met : (t : ℕ) (a b : ℤ) (es : List Entry) (until : ℤ) (ends : Stamped → ℤ) → FallingFrom until es → until ≤ℤ a
    → found_from until ends a b (table_history t es) ≡ []
none_met t a b [] until ends f l = refl
none_met t a b (e ∷ es) until ends f l =
    ap (λ earlier. filter (λ (v : Version). not (has_version earlier v.row))
    (if meets a b e.moment until then completed ends (rows_in e.copy t) else []) ++ earlier)
    (none_met t a b es e.moment (ends_before (at t e) ends) f.1 (omega (arith, ints, f.0)))
    ∙ ap (λ c. filter (λ (v : Version). not (has_version [] v.row))
    (if c then completed ends (rows_in e.copy t) else []) ++ [])
    (unmet a b e.moment until l)

-- a range finds the same in the copies that are left
found_left : (t : ℕ) (h a b : ℤ) → h ≤ℤ a → (n : ℕ) (es : List Entry) (until : ℤ) (ends : Stamped → ℤ)
    → FallingFrom until es
    → IsLeft h n es
    → found_from until ends a b (table_history t (take n es)) ≡ found_from until ends a b (table_history t es)
found_left t h a b l zero [] until ends f k = refl
found_left t h a b l zero (e ∷ es) until ends f k = absurd k
found_left t h a b l (suc n) [] until ends f k = absurd k
found_left t h a b l (suc n) (e ∷ es) until ends f (inl past) =
    ap (λ earlier. filter (λ (v : Version). not (has_version earlier v.row))
    (if meets a b e.moment until then completed ends (rows_in e.copy t) else []) ++ earlier)
    (none_met t a b (take n es) e.moment (ends_before (at t e) ends) (falls_left n es e.moment f.1)
    (omega (arith, ints))
    ∙ sym (none_met t a b es e.moment (ends_before (at t e) ends) f.1 (omega (arith, ints))))
  where
    falls_left : (n : ℕ) (xs : List Entry) (u : ℤ) → FallingFrom u xs → FallingFrom u (take n xs)
    falls_left zero xs u g = tt
    falls_left (suc n) [] u g = tt
    falls_left (suc n) (x ∷ xs) u g = (g.0, falls_left n xs x.moment g.1)
found_left t h a b l (suc n) (e ∷ es) until ends f (inr k) =
    ap (λ earlier. filter (λ (v : Version). not (has_version earlier v.row))
    (if meets a b e.moment until then completed ends (rows_in e.copy t) else []) ++ earlier)
    (found_left t h a b l n es e.moment (ends_before (at t e) ends) f.1 k)

-- each question that does not ask before the horizon finds the same in the copies that are left
pub question_left : (t : ℕ) (h : ℤ) (n : ℕ) (es : List Entry) (w : When) → Falling es → IsLeft h n es
    → is_before h w ≡ false
    → found w (table_history t (take n es)) ≡ found w (table_history t es)
question_left t h zero [] Now f k e = refl
question_left t h zero (x ∷ es) Now f k e = absurd k
question_left t h (suc n) [] Now f k e = absurd k
question_left t h (suc n) (x ∷ es) Now f k e = refl
question_left t h n es (AsOf m) f k e = as_of_left t h m (not_before m h e) n es high still f k
question_left t h n es (FromTo a b) f k e = found_left t h a b (not_before a h e) n es high still f k
question_left t h n es (Between a b) f k e = found_left t h a (b +ℤ pos 1) (not_before a h e) n es high still f k

-- ---- the copies that PRUNE leaves

-- `kept` is the newest copies of a list, and they suffice for the horizon h
pub record LeavesSome (h : ℤ) (kept : List Entry) (es : List Entry) : Type 0 where
  pub left : ℕ
  pub same : kept ≡ take left es
  pub enough : IsLeft h left es

pub pruned_left : (h m : ℤ) → h ≤ℤ m → (n : ℕ) (es : List Entry) → IsLeft h n es
    → LeavesSome m (pruned m (take n es)) es
pruned_left h m l zero [] k = record { left = 0; same = refl; enough = tt }
pruned_left h m l zero (e ∷ es) k = absurd k
pruned_left h m l (suc n) [] k = absurd k
pruned_left h m l (suc n) (e ∷ es) (inl past) = record {
  left = 1;
  same = ap (λ c. e ∷ (if c then [] else pruned m (take n es))) (reached e.moment (omega (arith, ints)));
  enough = inl (omega (arith, ints));
}
  where
    reached : (x : ℤ) → x ≤ℤ m → int_le x m ≡ true
    reached x q = elim (le_tells x m) [ inl s ↦ s.0 | inr s ↦ let y = s.1 in absurd (omega (arith, ints)) ]
pruned_left h m l (suc n) (e ∷ es) (inr k) = either (le_tells e.moment m) (pruned_left h m l n es k)
  where
    either : ((int_le e.moment m ≡ true) × (e.moment ≤ℤ m)) ⊎ ((int_le e.moment m ≡ false) × (m <ℤ e.moment))
        → LeavesSome m (pruned m (take n es)) es → LeavesSome m (pruned m (take (suc n) (e ∷ es))) (e ∷ es)
    either (inl s) r = record {
      left = 1;
      same = ap (λ c. e ∷ (if c then [] else pruned m (take n es))) s.0;
      enough = inl s.1;
    }
    either (inr s) r = record {
      left = suc r.left;
      same = ap (λ c. e ∷ (if c then [] else pruned m (take n es))) s.0 ∙ ap {B = List Entry} (λ xs. e ∷ xs) r.same;
      enough = inr r.enough;
    }

-- pruning the whole history leaves copies of this form
pub pruned_some : (h : ℤ) (es : List Entry) → LeavesSome h (pruned h es) es
pruned_some h [] = record { left = 0; same = refl; enough = tt }
pruned_some h (e ∷ es) = either (le_tells e.moment h) (pruned_some h es)
  where
    either : ((int_le e.moment h ≡ true) × (e.moment ≤ℤ h)) ⊎ ((int_le e.moment h ≡ false) × (h <ℤ e.moment))
        → LeavesSome h (pruned h es) es → LeavesSome h (pruned h (e ∷ es)) (e ∷ es)
    either (inl s) r = record {
      left = 1;
      same = ap (λ c. e ∷ (if c then [] else pruned h es)) s.0;
      enough = inl s.1;
    }
    either (inr s) r = record {
      left = suc r.left;
      same = ap (λ c. e ∷ (if c then [] else pruned h es)) s.0 ∙ ap {B = List Entry} (λ xs. e ∷ xs) r.same;
      enough = inr r.enough;
    }

-- the law: pruning does not change the answers for one table
pub pruned_answers_stay : PrunedAnswersStay
pruned_answers_stay t h es w f e =
    let k = pruned_some h es in
    ap (λ xs. found w (table_history t xs)) k.same ∙ question_left t h k.left es w f k.enough e

-- ---- whole queries

-- a query has the same answer over bags that agree on its references
module _ (bag bag' : Ref → List Row) where
  joined_same : (j : Join) (rows : List Row) → bag (joined_ref j) ≡ bag' (joined_ref j)
      → joined_with bag rows j ≡ joined_with bag' rows j
  joined_same (Inner r on) rows e = ap (λ (b : List Row). keep on (pairs rows b)) e
  joined_same (Left r on) rows e = ap (λ (b : List Row). left_join on r.width rows b) e
  joined_same (Cross r) rows e = ap (λ (b : List Row). Some (pairs rows b)) e

  joins_same : (js : List Join) (rows : List Row) → ((r : Ref) → In r (map joined_ref js) → bag r ≡ bag' r)
      → joins_from bag rows js ≡ joins_from bag' rows js
  joins_same [] rows h = refl
  joins_same (j ∷ js) rows h =
      ap (λ o. o >>= λ more. joins_from bag more js) (joined_same j rows (h (joined_ref j) (inl refl)))
      ∙ further (joined_with bag' rows j) (λ more. joins_same js more (λ r m. h r (inr m)))
    where
      further : (o : Option (List Row)) → ((more : List Row) → joins_from bag more js ≡ joins_from bag' more js)
          → (o >>= λ more. joins_from bag more js) ≡ (o >>= λ more. joins_from bag' more js)
      further None k = refl
      further (Some more) k = k more

  chain_same : (c : Chain) → ((r : Ref) → In r (chain_refs c) → bag r ≡ bag' r) → chain_rows bag c ≡ chain_rows bag' c
  chain_same c h =
      ap (λ rows. joins_from bag rows c.joins) (h c.first (inl refl))
      ∙ joins_same c.joins (bag' c.first) (λ r m. h r (inr m))

  chains_same : (cs : List Chain) → ((r : Ref) → In r (flat_map chain_refs cs) → bag r ≡ bag' r)
      → map_all (chain_rows bag) cs ≡ map_all (chain_rows bag') cs
  chains_same [] h = refl
  chains_same (c ∷ cs) h =
      ap (λ o. with_front o (map_all (chain_rows bag) cs))
      (chain_same c (λ r m. h r (in_left r (chain_refs c) (flat_map chain_refs cs) m)))
      ∙ ap (λ o. with_front (chain_rows bag' c) o)
      (chains_same cs (λ r m. h r (in_right r (chain_refs c) (flat_map chain_refs cs) m)))

  pub answer_same : (q : Query) → ((r : Ref) → In r (refs q) → bag r ≡ bag' r) → answer bag q ≡ answer bag' q
  answer_same q h =
      ap (λ (o : Option (List (List Row))). o >>= λ chains. keep q.filter (product chains)
      >>= λ rows. filter_all (λ s. passes s.group s.row q.having) (scopes q.grouping rows)
      >>= λ kept. map_all (λ s. map_all (eval s.group s.row) q.items) kept
      >>= λ out. Some (if_distinct q.distinct out)) (chains_same q.chains h)

-- if no member passes a test, a given member does not
pub none_asks : (p : Ref → Bool) (rs : List Ref) → list_any p rs ≡ false → (r : Ref) → In r rs → p r ≡ false
none_asks p [] e r m = absurd m
none_asks p (x ∷ rs) e r (inl q) = ap p q ∙ first (p x) (list_any p rs) e
  where
    first : (a b : Bool) → a || b ≡ false → a ≡ false
    first true b k = absurd (cc)
    first false b k = refl
none_asks p (x ∷ rs) e r (inr m) = none_asks p rs (second (p x) (list_any p rs) e) r m
  where
    second : (a b : Bool) → a || b ≡ false → b ≡ false
    second true b k = absurd (cc)
    second false b k = k

-- a question that asks before a horizon asks before a later one
pub before_later : (g h : ℤ) → g ≤ℤ h → (w : When) → is_before g w ≡ true → is_before h w ≡ true
before_later g h l Now e = e
before_later g h l (AsOf m) e = grind (arith, ints)
before_later g h l (FromTo a b) e = grind (arith, ints)
before_later g h l (Between a b) e = grind (arith, ints)

-- if some reference passes a test, some reference passes a weaker test
any_more : (p q : Ref → Bool) → ((r : Ref) → p r ≡ true → q r ≡ true) → (rs : List Ref) → list_any p rs ≡ true
    → list_any q rs ≡ true
any_more p q h [] e = e
any_more p q h (r ∷ rs) e = either (p r) (q r) (list_any p rs) (list_any q rs) (h r) (any_more p q h rs) e
  where
    either : (a b c d : Bool) → (a ≡ true → b ≡ true) → (c ≡ true → d ≡ true) → a || c ≡ true → b || d ≡ true
    either true b c d f g k = ap (λ x. x || d) (f refl)
    either false true c d f g k = refl
    either false false c d f g k = g k

-- a query that asks before a horizon asks before a later one
pub asks_later : (g h : ℤ) → g ≤ℤ h → (q : Query) → asks_before g q ≡ true → asks_before h q ≡ true
asks_later g h l q =
    any_more (λ (r : Ref). is_before g r.when) (λ (r : Ref). is_before h r.when) (λ r. before_later g h l r.when)
    (refs q)

-- ---- literals

-- the placeholder for a literal out of range is before no horizon
read_before : (h : ℤ) → h ≤ℤ high → (o : Option ℤ) → int_lt (or_bad_moment o).value h ≡ is_read_before h o
read_before h l None = elim (lt_tells high h) [ inl s ↦ absurd (let a = s.1 in omega (arith, ints)) | inr s ↦ s.0 ]
read_before h l (Some m) = refl

pub only_moments_are_before : OnlyMomentsAreBefore
only_moments_are_before h d NoSpan l = refl
only_moments_are_before h d (AsOfTree t) l = read_before h l (read_timestamp t)
only_moments_are_before h d (FromToTree a b) l = read_before h l (read_timestamp a)
only_moments_are_before h d (BetweenTree a b) l = read_before h l (read_timestamp a)

-- Entries of a run as they are kept: their positions, and what a search finds among them. f gives the model of one.
use Rattle.std.specs.Prelude.{◌≡◌, ℕ, zero, suc, ◌+◌, ◌<◌, ◌≤◌, Bool, true, false, List, [], ◌∷◌, ◌++◌, length}
use Rattle.std.specs.Prelude.{take, drop, map, count_by, not, int_lt, ℤ, ◌≤ℤ◌}
use Rattle.std.specs.List.{insert, remove}
use Rattle.std.specs.List.Sorted.{IsPartitionedBy, IsPartitionPoint}
use Rattle.std.proofs.Common.{arith, sym, ap, ◌∙◌, get_or, append_assoc}
use Rattle.std.proofs.lemmas.Int.{ints}
use Rattle.std.proofs.lemmas.List.{map-append, take-map, drop-map, length-map, length-take-le, take-append-drop}
use Rattle.std.proofs.lemmas.List.{get_or-take, get_or-drop, get_or-map, length-drop, take_more, append-nil}
use Rattle.std.proofs.lemmas.List.{take_all}
use Rattle.tql_index.specs.Entry.{Entry, id_if}
use Rattle.tql_index.specs.Tree.{is_before, IsInOrder, IsPlace, StartsLate}
use Rattle.tql_index.proofs.Counts.{all_by_index, none_by_index, one_passes}
use Rattle.tql_index.proofs.Finding.{ids_of, ids_of-cons, ids_of-append, ids_of-none, starts_later}
use Rattle.tql_index.proofs.Inversions.{not_before_at}
use Rattle.tql_index.proofs.Order.{after_earlier}

-- ---- positions

-- the entry that was read at a position
read_at : {S : Type 0} (f : S → Entry) (ss : List S) (k : ℕ) (s : S) (e : Entry) → s ≡ get_or ss k s → k < length ss
    → get_or (map f ss) k e ≡ f s
read_at f ss k s e h l = get_or-map f ss k s e l ∙ ap f (sym h)

-- a test at an entry of a run, and at what is kept of it
is_as : {S : Type 0} (f : S → Entry) (q : Entry → Bool) (b : Bool) (ss : List S) (k : ℕ) (e : Entry) → k < length ss
    → ((d : S) → q (f (get_or ss k d)) ≡ b) → q (get_or (map f ss) k e) ≡ b
is_as f q b [] k e l g = absurd (omega (arith, l))
is_as f q b (s ∷ ss) zero e l g = g s
is_as f q b (s ∷ ss) (suc k) e l g = is_as f q b ss k e (omega (arith, l)) g

-- the entries before another one stand before the others
pub parted : {S : Type 0} (f : S → Entry) (e : Entry) (ss : List S) → IsInOrder (map f ss)
    → IsPartitionedBy (λ (s : S). is_before (f s) e) ss
parted f e ss h i j d l m t =
    let n = length-map ss f in
    let a = get_or-map f ss i d e (omega (arith, l, m)) in
    let b = get_or-map f ss j d e m in
    let u = rw (a, b) at (not_before_at (map f ss) i j e h l (omega (arith, m, n))) in
    after_earlier e (f (get_or ss j d)) (f (get_or ss i d)) t u

pub place_is : {S : Type 0} (f : S → Entry) (e : Entry) (ss : List S) (k : ℕ) → k ≤ length ss
    → IsPartitionPoint (λ (s : S). is_before (f s) e ≡ true) (λ (s : S). is_before (f s) e ≡ false) ss k
    → IsPlace e (map f ss) k
place_is f e ss k l p =
    let es = map f ss in
    let m = length-map ss f in
    let n = length-take-le k es (omega (arith, l, m)) in
    let d = length-drop k es in
    record {
      within = omega (arith, l, m);
      all_before = all_by_index (λ x. is_before x e) (take k es) e
          (λ j i. rw (get_or-take k es j e (omega (arith, i, n)))
          (is_as f (λ x. is_before x e) true ss j e (omega (arith, i, n, l))
          (λ z. p.0 j z (omega arith) (omega (arith, i, n))))) ∙ n;
      none_before = none_by_index (λ x. is_before x e) (drop k es) e
          (λ j i. rw (get_or-drop k es j e)
          (is_as f (λ x. is_before x e) false ss (k + j) e (omega (arith, i, d, m))
          (λ z. p.1 (k + j) z (omega arith) (omega (arith, i, d, m)))));
    }

-- ---- an entry is added or removed

map_insert : {S : Type 0} (f : S → Entry) (ss : List S) (k : ℕ) (s : S)
    → map f (insert ss k s) ≡ insert (map f ss) k (f s)
map_insert f ss k s = map-append f (take k ss) (s ∷ drop k ss)
    ∙ ap (λ z. z ++ (f s ∷ map f (drop k ss))) (sym (take-map f k ss))
    ∙ ap (λ z. take k (map f ss) ++ (f s ∷ z)) (sym (drop-map f k ss))

map_remove : {S : Type 0} (f : S → Entry) (ss : List S) (k : ℕ) → map f (remove ss k) ≡ remove (map f ss) k
map_remove f ss k = map-append f (take k ss) (drop (suc k) ss)
    ∙ ap (λ z. z ++ map f (drop (suc k) ss)) (sym (take-map f k ss))
    ∙ ap (λ z. take k (map f ss) ++ z) (sym (drop-map f (suc k) ss))

pub inserted_as : {S : Type 0} (f : S → Entry) (ss ts : List S) (es : List Entry) (k : ℕ) (s : S) (e : Entry)
    → ts ≡ insert ss k s → map f ss ≡ es → f s ≡ e → map f ts ≡ insert es k e
inserted_as f ss ts es k s e h v g =
    ap (map f) h ∙ map_insert f ss k s ∙ ap (λ z. insert z k (f s)) v ∙ ap (λ x. insert es k x) g

pub removed_as : {S : Type 0} (f : S → Entry) (ss ts : List S) (es : List Entry) (k : ℕ) → ts ≡ remove ss k
    → map f ss ≡ es → map f ts ≡ remove es k
removed_as f ss ts es k h v = ap (map f) h ∙ map_remove f ss k ∙ ap (λ z. remove z k) v

-- the first n entries, and one more
pub copied_more : {S : Type 0} (f : S → Entry) (ss ts : List S) (es : List Entry) (n : ℕ) (s : S)
    → map f ss ≡ take n es → ts ≡ ss ++ (s ∷ []) → f s ≡ get_or es n (f s) → n < length es
    → map f ts ≡ take (n + 1) es
copied_more f ss ts es n s h e g l = ap (map f) e ∙ map-append f ss (s ∷ []) ∙ ap (λ z. z ++ (f s ∷ [])) h
    ∙ ap (λ x. take n es ++ (x ∷ [])) g ∙ sym (take_more es n (f s) l)

-- ---- searches

-- a search has looked at the first n entries
pub record HasSearched {S : Type 0} (f : S → Entry) (q : Entry → Bool) (ss : List S) (n : ℕ) (old found : List ℕ)
    : Type 0 where
  pub is : found ≡ old ++ ids_of q (map f (take n ss))

pub searched_more : {S : Type 0} (f : S → Entry) (q : Entry → Bool) (ss : List S) (n : ℕ) (s : S) (b : Bool)
    (old xs ys : List ℕ) → HasSearched f q ss n old xs → s ≡ get_or ss n s → n < length ss → b ≡ q (f s)
    → ys ≡ xs ++ id_if b (f s).id → HasSearched f q ss (n + 1) old ys
searched_more f q ss n s b old xs ys h r l e g =
    let t : map f (take (n + 1) ss) ≡ map f (take n ss) ++ (f s ∷ []) =
    ap (map f) (take_more ss n s l) ∙ map-append f (take n ss) (get_or ss n s ∷ [])
    ∙ ap (λ z. map f (take n ss) ++ (f z ∷ [])) (sym r) in
    let one : ids_of q (f s ∷ []) ≡ id_if b (f s).id =
    ids_of-cons q (f s) [] ∙ append-nil (id_if (q (f s)) (f s).id) ∙ ap (λ z. id_if z (f s).id) (sym e) in
    let all : ids_of q (map f (take (n + 1) ss)) ≡ ids_of q (map f (take n ss)) ++ id_if b (f s).id =
    ap (ids_of q) t ∙ ids_of-append q (map f (take n ss)) (f s ∷ [])
    ∙ ap (λ z. ids_of q (map f (take n ss)) ++ z) one in
    record {
      is = g ∙ ap (λ z. z ++ id_if b (f s).id) h.is
          ∙ append_assoc old (ids_of q (map f (take n ss))) (id_if b (f s).id) ∙ ap (λ z. old ++ z) (sym all);
    }

pub searched_all : {S : Type 0} (f : S → Entry) (q : Entry → Bool) (ss : List S) (n : ℕ) (old found : List ℕ)
    → HasSearched f q ss n old found → length ss ≤ n → found ≡ old ++ ids_of q (map f ss)
searched_all f q ss n old found h l = h.is ∙ ap (λ z. old ++ ids_of q (map f z)) (take_all n ss l)

-- the entries from one that starts late on do not pass
late_from : (q : Entry → Bool) (high : ℤ) (es : List Entry) (n : ℕ) (d : Entry)
    → ((e : Entry) → high ≤ℤ e.period.start → q e ≡ false) → IsInOrder es → n < length es
    → high ≤ℤ (get_or es n d).period.start → count_by q (drop n es) ≡ 0
late_from q high es n d f h l b = none_by_index q (drop n es) d
    (λ k m.
    let in_all : n + k < length es = omega (arith, m, length-drop n es) in
    let s = starts_later (get_or es (n + k) d) (get_or es n d)
    (not_before_at es n (n + k) d h (omega arith) in_all) in
    rw (get_or-drop n es k d) (f (get_or es (n + k) d) (omega (arith, ints, b, s))))

pub searched_late : {S : Type 0} (f : S → Entry) (q : Entry → Bool) (high : ℤ) (ss : List S) (n : ℕ) (s : S)
    (old found : List ℕ) → ((e : Entry) → high ≤ℤ e.period.start → q e ≡ false) → IsInOrder (map f ss)
    → HasSearched f q ss n old found → s ≡ get_or ss n s → n < length ss → high ≤ℤ (f s).period.start
    → found ≡ old ++ ids_of q (map f ss)
searched_late f q high ss n s old found w h g r l b =
    let es = map f ss in
    let in_all : n < length es = omega (arith, l, length-map ss f) in
    let at = read_at f ss n s (f s) r l in
    let none = ids_of-none q (drop n es) (late_from q high es n (f s) w h in_all (rw at b)) in
    let all : ids_of q es ≡ ids_of q (take n es) =
    ap (ids_of q) (sym (take-append-drop n es)) ∙ ids_of-append q (take n es) (drop n es)
    ∙ ap (λ z. ids_of q (take n es) ++ z) none ∙ append-nil (ids_of q (take n es)) in
    g.is ∙ ap (λ z. old ++ ids_of q z) (sym (take-map f n ss)) ∙ ap (λ z. old ++ z) (sym all)

-- a start that is not before the place
pub late_start : (a h s : ℤ) → int_lt a h ≡ false → a ≡ s → h ≤ℤ s
late_start a h s k f = omega (arith, ints, k, f)

pub is_late : {S : Type 0} (f : S → Entry) (high : ℤ) (ss : List S) (n : ℕ) (s : S) → s ≡ get_or ss n s
    → n < length ss → high ≤ℤ (f s).period.start → StartsLate high (map f ss)
is_late f high ss n s r l b =
    let at = read_at f ss n s (f s) r l in
    let t : not (int_lt (f s).period.start high) ≡ true = grind (arith, ints, b) in
    one_passes (λ e. not (int_lt e.period.start high)) (map f ss) n (f s) (omega (arith, l, length-map ss f)) (rw at t)

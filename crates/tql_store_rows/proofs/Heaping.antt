-- The heap of closed versions, at a commit and where a horizon takes the first ones.
use Rattle.std.proofs.Common.{◌≡◌, ℕ, zero, suc, ◌+◌, ◌<◌, Bool, true, false, List, [], ◌∷◌, ◌++◌, get_or}
use Rattle.std.proofs.Common.{append-nil, length, refl, sym, ap, subst, ◌∙◌, arith, inl, inr}
use Rattle.std.specs.Prelude.{ℤ, ◌-◌, ◌<ℤ◌, ◌≤ℤ◌, ◌||◌, All, int_lt, if◌then◌else◌}
use Rattle.std.specs.Ordering.{int_eq}
use Rattle.std.specs.List.{swap, swap_remove, SwappedAt}
use Rattle.std.proofs.lemmas.Bool.{cases_lt}
use Rattle.std.proofs.lemmas.Int.{ints}
use Rattle.std.proofs.lemmas.List.{get_or_default, length-map}
use Rattle.std.proofs.lemmas.List.Elements.{All-append, All-nil}
use Rattle.std.proofs.lemmas.List.Edits.{length-swap}
use Rattle.std.proofs.lemmas.List.Sorted.{All-permutation, IsPermutation-swap, length_permutation}
use Rattle.tql_spec.proofs.Bags.{same-filter, same-permutation, same-sym, same-trans}
use Rattle.tql_spec.specs.Bag.{In, SameBag}
use Rattle.tql_spec.specs.Calendar.{high}
use Rattle.tql_spec.specs.Definition.{Version}
use Rattle.tql_store_index.specs.Seating.{AreSwapped, Seating}
use Rattle.tql_standing.proofs.Reordering.{exchanged, one_exchanged}
use Rattle.tql_standing.proofs.RowsStanding.{IsDropped, dropped}
use Rattle.tql_standing.proofs.Sweeping.{apart, seen}
use Rattle.tql_standing.specs.Reordering.{AreReordered}
use Rattle.tql_store_rows.proofs.Numbering.{taken-all}
use Rattle.tql_store_rows.specs.TableModel.{TableModel, InTurn}
use Rattle.tql_versions.proofs.Heaps.{ends_first, front_taken, heap_more, sunk}
use Rattle.tql_versions.specs.Changes.{left_by, nothing, stays, taken}
use Rattle.tql_versions.specs.Heap.{AreInHeap, HaveEnded, IsHeap, IsHeapBut, IsSooner, end_at}
use Rattle.tql_versions.specs.Places.{AreExchanged, version_at}
use Rattle.tql_versions.specs.Views.{version_of, versions_of}
use Rattle.tql_versions.specs.declared.kept.Kept.{Kept}

-- ---- without versions, and with those that a commit adds

pub none_in_heap : (vs : List Version) → vs ≡ [] → AreInHeap vs
none_in_heap vs e = subst AreInHeap (sym e) (record {
  heap = λ p c is l. absurd (omega (arith, l));
  ended = All-nil (λ v. v.end <ℤ high);
})

from_in : (P : Version → Type 0) (vs : List Version) → ((v : Version) → In v vs → P v) → All P vs
from_in P [] f k d l = absurd (omega (arith, l))
from_in P (v ∷ vs) f zero d l = f v (inl refl)
from_in P (v ∷ vs) f (suc k) d l = from_in P vs (λ w n. f w (inr n)) k d (omega (arith, l))

-- the versions that a commit adds end at its moment, and no closed one ends later
pub commit_heap : (m n : ℤ) (h : TableModel) (keeps : Bool) (first closed new : List Kept) (ended : List ℕ)
    → InTurn m h → n ≡ m → ended ≡ h.ended → versions_of first ≡ h.current → versions_of closed ≡ h.closed
    → versions_of new ≡ versions_of closed ++ (if keeps then taken n ended (versions_of first) else [])
    → AreInHeap (versions_of closed) → AreInHeap (versions_of new)
commit_heap m n h true first closed new ended t at' is start same made heap = subst AreInHeap (sym made) (record {
  heap = heap_more m (versions_of closed) (taken n ended (versions_of first)) heap.heap
      (subst (All (λ v. v.end ≤ℤ m)) (sym same)
      (from_in (λ v. v.end ≤ℤ m) h.closed (λ v i. before v.end (t.past v i).1)))
      ends;
  ended = All-append (λ v. v.end <ℤ high) (versions_of closed) (taken n ended (versions_of first)) heap.ended
      (λ k d l. below (get_or (taken n ended (versions_of first)) k d).end (ends k d l) t.below);
})
  where
    before : (e : ℤ) → e <ℤ m → e ≤ℤ m
    before e l = grind (arith, ints)

    below : (e : ℤ) → e ≡ m → m <ℤ high → e <ℤ high
    below e q l = grind (arith, ints)

    ends : All (λ v. v.end ≡ m) (taken n ended (versions_of first))
    ends = subst (λ (js : List ℕ). All (λ v. v.end ≡ m) (taken n js (versions_of first))) (sym is)
        (subst (λ (vs : List Version). All (λ v. v.end ≡ m) (taken n h.ended vs)) (sym start)
        (taken-all (λ v. v.end ≡ m) n h.ended h.current t.once (λ k d l. t.shut k d l)))
commit_heap m n h false first closed new ended t at' is start same made heap =
    subst AreInHeap (sym (made ∙ append-nil (versions_of closed))) heap

-- ---- without the first version

-- the last version takes the place of the first
pub dropped_first : (old new : List Kept) (r : Kept) → 0 < length old → new ≡ swap_remove old 0 r
    → IsHeap (versions_of old) → IsHeapBut 0 (versions_of new)
dropped_first old new r some e h = front_taken (versions_of old) (versions_of new) h
    (omega (arith, size, length-map old version_of, length-map new version_of))
    (λ k f l. let m : k < length new = omega (arith, l, length-map new version_of) in
    seen new k r m ∙ ap version_of (d.others k r f (omega (arith, m, size)))
    ∙ sym (seen old k r (omega (arith, m, size))))
  where
    d : IsDropped old new 0
    d = dropped old new 0 r some e

    size : length new + 1 ≡ length old
    size = d.size

-- the others have ended too
pub dropped_ended : (old new : List Kept) (r : Kept) → 0 < length old → new ≡ swap_remove old 0 r
    → HaveEnded (versions_of old) → HaveEnded (versions_of new)
dropped_ended old new r some e h k v l = elim (apart k 0) [
  | inl q ↦ elim (cases_lt 1 (length old)) [
    | inl a ↦ reads k (length old - 1) v l (omega (arith, some)) (ap (λ j. get_or new j r) q ∙ d.there r a)
    | inr a ↦ absurd (omega (arith, l, a, size, length-map new version_of))
  ]
  | inr f ↦ let m : k < length new = omega (arith, l, length-map new version_of) in
      reads k k v l (omega (arith, m, size)) (d.others k r f (omega (arith, m, size)))
]
  where
    d : IsDropped old new 0
    d = dropped old new 0 r some e

    size : length new + 1 ≡ length old
    size = d.size

    reads : (i j : ℕ) (w : Version) → i < length (versions_of new) → j < length old → get_or new i r ≡ get_or old j r
        → (get_or (versions_of new) i w).end <ℤ high
    reads i j w a b same = subst (λ (u : Version). u.end <ℤ high)
        (sym (get_or_default (versions_of new) i w nothing a
        ∙ seen new i r (omega (arith, a, length-map new version_of)) ∙ ap version_of same ∙ sym (seen old j r b)))
        (h j nothing (omega (arith, b, length-map old version_of)))

-- the version that is removed is the first
pub first_goes : (h : ℤ) (old : List Kept) (r : Kept) → 0 < length old → r ≡ get_or old 0 r
    → stays h (version_at (versions_of old) 0) ≡ false → stays h (version_of r) ≡ false
first_goes h old r some read gone =
    ap (stays h) (ap version_of read ∙ sym (seen old 0 r some)) ∙ gone

pub reordered_size : (old new : List Kept) (s t : Seating) → AreReordered (versions_of old) (versions_of new) s t
    → length new ≡ length old
reordered_size old new s t o = sym (length-map new version_of)
    ∙ length_permutation (versions_of old) (versions_of new) o.same ∙ length-map old version_of

-- a version and its sooner child change places
pub sunk_more : (first : List Version) (old new : List Kept) (q s t : Seating) (p c : ℕ)
    → IsSooner (versions_of old) p c → new ≡ swap old p c → SwappedAt old new p c
    → (p < length s.seats → c < length s.seats → AreSwapped p c s t) → IsHeapBut p (versions_of old)
    → AreReordered first (versions_of old) q s
    → IsHeapBut c (versions_of new) × AreReordered first (versions_of new) q t
sunk_more first old new q s t p c sooner is swapped swaps h o = (
  sunk (versions_of old) (versions_of new) p c h sooner x,
  one_exchanged first old new q s t p c low within (IsPermutation-swap old new p c low within is) x swaps o,
)
  where
    within : c < length old
    within = let w = sooner.first.within in omega (arith, w, length-map old version_of)

    low : p < length old
    low = let e = sooner.first.child in omega (arith, e, within)

    x : AreExchanged p c (versions_of old) (versions_of new)
    x = exchanged old new p c low within (ap length is ∙ length-swap old p c) swapped

-- in another order, they have ended too
pub reordered_ended : (old new : List Version) (s t : Seating) → AreReordered old new s t → HaveEnded old
    → HaveEnded new
reordered_ended old new s t o h = All-permutation (λ v. v.end <ℤ high) old new o.same h

-- in another order, a horizon keeps the same versions
pub reordered_left : (h : ℤ) (old mid new : List Version) (s t : Seating) → AreReordered mid new s t
    → SameBag (left_by h mid) (left_by h old) → SameBag (left_by h new) (left_by h old)
reordered_left h old mid new s t o bag = same-trans (same-filter (stays h) (same-sym (same-permutation o.same))) bag

-- ---- at the end

-- the version that is kept is the first
pub first_stays : (h : ℤ) (ks : List Kept) (v : Kept) → v ≡ get_or ks 0 v → stays h (version_of v) ≡ true
    → 0 < length (versions_of ks) → stays h (version_at (versions_of ks) 0) ≡ true
first_stays h ks v read e l =
    ap (stays h) (seen ks 0 v (omega (arith, l, length-map ks version_of)) ∙ ap version_of (sym read)) ∙ e

-- a horizon that keeps the first version of a heap keeps all
pub all_stay : (h : ℤ) (vs : List Version) → AreInHeap vs → (0 < length vs → stays h (version_at vs 0) ≡ true)
    → (k : ℕ) → k < length vs → stays h (version_at vs k) ≡ true
all_stay h vs heap first k l =
    longer (end_at vs 0) (end_at vs k) (first (omega (arith, l))) (heap.ended 0 nothing (omega (arith, l)))
    (ends_first vs heap.heap k l)
  where
    longer : (a b : ℤ) → (int_lt h a || int_eq a high) ≡ true → a <ℤ high → a ≤ℤ b
        → (int_lt h b || int_eq b high) ≡ true
    longer a b e l m = grind (arith, ints)

-- Closed versions that change places together with their row slots.
use Rattle.std.proofs.Common.{◌≡◌, ℕ, zero, suc, ◌<◌, ◌≤◌, List, [], ◌∷◌, get_or, length, refl, sym, ap}
use Rattle.std.proofs.Common.{◌∙◌, arith, inl, inr}
use Rattle.std.specs.Prelude.{Option, None, IsPermutation}
use Rattle.std.specs.List.{SwappedAt}
use Rattle.std.proofs.lemmas.Bool.{cases_lt}
use Rattle.std.proofs.lemmas.List.{get_or-map, get_or_past, length-map}
use Rattle.std.proofs.lemmas.List.Sorted.{IsPermutation-map, IsPermutation-trans}
use Rattle.tql_spec.specs.Definition.{Version}
use Rattle.tql_spec.specs.Period.{Period}
use Rattle.tql_store_index.specs.Basis.{Basis, stands_by}
use Rattle.tql_store_index.specs.Seating.{AreSwapped, Seating, seat_at}
use Rattle.tql_store_index.specs.Standing.{stands}
use Rattle.tql_store_index.specs.ValueIndexes.{IsLinked, index_at}
use Rattle.tql_standing.proofs.Sweeping.{apart}
use Rattle.tql_standing.specs.Reordering.{AreReordered}
use Rattle.tql_standing.specs.RowsStanding.{all_of, past_of, pasts_of}
use Rattle.tql_versions.specs.Changes.{nothing}
use Rattle.tql_versions.specs.Places.{AreExchanged, version_at}
use Rattle.tql_versions.specs.Views.{version_of, versions_of}
use Rattle.tql_versions.specs.declared.kept.Kept.{Kept}

-- ---- two versions

-- two stored versions that change places
pub exchanged : (old new : List Kept) (a b : ℕ) → a < length old → b < length old → length new ≡ length old
    → SwappedAt old new a b → AreExchanged a b (versions_of old) (versions_of new)
exchanged [] new a b la lb even swapped = absurd (omega (arith, la))
exchanged (x ∷ xs) new a b la lb even swapped = record {
  even = length-map new version_of ∙ even ∙ sym (length-map (x ∷ xs) version_of);
  first = there a b (omega (arith, la, even)) lb (swapped.0 x);
  second = there b a (omega (arith, lb, even)) la (swapped.1 x);
  others = λ k f g. elim (cases_lt k (length (x ∷ xs))) [
    | inl l ↦ there k k (omega (arith, l, even)) l (swapped.2 k x f g)
    | inr l ↦ get_or_past (versions_of new) k nothing (omega (arith, l, even, length-map new version_of))
        ∙ sym (get_or_past (versions_of (x ∷ xs)) k nothing (omega (arith, l, length-map (x ∷ xs) version_of)))
  ];
}
  where
    there : (j k : ℕ) → j < length new → k < length (x ∷ xs) → get_or new j x ≡ get_or (x ∷ xs) k x
        → version_at (versions_of new) j ≡ version_at (versions_of (x ∷ xs)) k
    there j k l m e = get_or-map version_of new j x nothing l ∙ ap version_of e
        ∙ sym (get_or-map version_of (x ∷ xs) k x nothing m)

-- ---- their rows

past_at : (basis : Basis) (vs : List Version) (k : ℕ) → k < length vs
    → stands (all_of basis (pasts_of vs)) k ≡ stands_by basis (past_of (version_at vs k))
past_at basis [] k l = absurd (omega (arith, l))
past_at basis (v ∷ vs) zero l = refl
past_at basis (v ∷ vs) (suc k) l = past_at basis vs k (omega (arith, l))

none_at : (basis : Basis) (vs : List Version) (k : ℕ) → length vs ≤ k → stands (all_of basis (pasts_of vs)) k ≡ None
none_at basis [] k l = refl
none_at basis (v ∷ vs) zero l = absurd (omega (arith, l))
none_at basis (v ∷ vs) (suc k) l = none_at basis vs k (omega (arith, l))

size : (basis : Basis) (vs : List Version) → length (all_of basis (pasts_of vs)) ≡ length vs
size basis vs = length-map (pasts_of vs) (stands_by basis) ∙ length-map vs past_of

-- the same version at two positions of two lists
alike : (basis : Basis) (vs us : List Version) (j k : ℕ) → j < length vs → k < length us
    → version_at us k ≡ version_at vs j
    → stands (all_of basis (pasts_of vs)) j ≡ stands (all_of basis (pasts_of us)) k
alike basis vs us j k l m e = past_at basis vs j l ∙ ap (λ (v : Version). stands_by basis (past_of v)) (sym e)
    ∙ sym (past_at basis us k m)

linked_exchanged : (basis : Basis) (s t : Seating) (standing : List (Option Period)) (vs us : List Version) (a b : ℕ)
    → a < length vs → b < length vs → AreExchanged a b vs us
    → (a < length s.seats → b < length s.seats → AreSwapped a b s t)
    → IsLinked (all_of basis (pasts_of vs)) s standing → IsLinked (all_of basis (pasts_of us)) t standing
linked_exchanged basis s t standing vs us a b la lb x swaps h = record {
  room = omega (arith, seats, room, even, size basis us);
  wide = let w = h.wide in omega (arith, w, seats);
  each = λ k l.
      let m : k < length s.seats = omega (arith, l, seats) in
      elim (apart k a) [
        | inl e ↦ ap (λ j. stands standing (seat_at t j)) e ∙ ap (stands standing) swapped.first
            ∙ h.each b (omega (arith, lb, room))
            ∙ alike basis vs us b k lb (omega (arith, e, la, even)) (ap (version_at us) e ∙ x.first)
        | inr f ↦ elim (apart k b) [
          | inl e ↦ ap (λ j. stands standing (seat_at t j)) e ∙ ap (stands standing) swapped.second
              ∙ h.each a (omega (arith, la, room))
              ∙ alike basis vs us a k la (omega (arith, e, lb, even)) (ap (version_at us) e ∙ x.second)
          | inr g ↦ ap (stands standing) (swapped.others k f g) ∙ h.each k m ∙ elim (cases_lt k (length vs)) [
            | inl n ↦ alike basis vs us k k n (omega (arith, n, even)) (x.others k f g)
            | inr n ↦ none_at basis vs k n ∙ sym (none_at basis us k (omega (arith, n, even)))
          ]
        ]
      ];
  beyond = λ seat l. h.beyond seat (omega (arith, l, seats));
}
  where
    even : length us ≡ length vs
    even = x.even

    room : length vs ≤ length s.seats
    room = let r = h.room in omega (arith, r, size basis vs)

    swapped : AreSwapped a b s t
    swapped = swaps (omega (arith, la, room)) (omega (arith, lb, room))

    seats : length t.seats ≡ length s.seats
    seats = swapped.even

-- ---- orders

-- two versions change places with their row slots, after other changes of the order
pub one_exchanged : (first : List Version) (old new : List Kept) (q s t : Seating) (a b : ℕ) → a < length old
    → b < length old → IsPermutation old new → AreExchanged a b (versions_of old) (versions_of new)
    → (a < length s.seats → b < length s.seats → AreSwapped a b s t) → AreReordered first (versions_of old) q s
    → AreReordered first (versions_of new) q t
one_exchanged first old new q s t a b la lb permuted x swaps before = record {
  same = IsPermutation-trans first (versions_of old) (versions_of new) before.same
      (IsPermutation-map version_of old new permuted);
  standing = λ indexes h. record {
    each = λ i l. linked_exchanged (index_at indexes i).basis s t (index_at indexes i).standing (versions_of old)
        (versions_of new) a b (omega (arith, la, length-map old version_of))
        (omega (arith, lb, length-map old version_of)) x swaps ((before.standing indexes h).each i l);
  };
}

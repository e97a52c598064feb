-- The periods of row slots, kept as groups or as spans.
use Rattle.std.proofs.Common.{◌≡◌, ℕ, Bool, true, false, if◌then◌else◌, List, map, get_or, set, ap}
use Rattle.std.proofs.Common.{◌∙◌}
use Rattle.std.specs.Prelude.{ℤ, Option, None}
use Rattle.std.proofs.lemmas.List.{map-set}
use Rattle.tql_spec.specs.Period.{Period}
use Rattle.tql_store_index.specs.declared.slot_periods.SlotSpan as code
use Rattle.tql_store_index.specs.Standing.{points_of_group, points_of_slot}

-- ---- if the spans are kept

pub grown_spans : (b : Bool) (xs ys : List code.SlotSpan) (gs : List ℤ) (v : List (Option Period)) → b ≡ true
    → (if b then map points_of_slot xs else map points_of_group gs) ≡ v
    → ((s : ℕ) → get_or (map points_of_slot ys) s None ≡ get_or (map points_of_slot xs) s None) → (s : ℕ)
    → get_or (if b then map points_of_slot ys else map points_of_group gs) s None ≡ get_or v s None
grown_spans true xs ys gs v e is h s = h s ∙ ap (λ (zs : List (Option Period)). get_or zs s None) is
grown_spans false xs ys gs v e is h s = absurd (cc)

pub set_span : (b : Bool) (xs : List code.SlotSpan) (gs : List ℤ) (v : List (Option Period)) (k : ℕ)
    (x : code.SlotSpan) (p : Option Period) → b ≡ true
    → (if b then map points_of_slot xs else map points_of_group gs) ≡ v → points_of_slot x ≡ p
    → (if b then map points_of_slot (set xs k x) else map points_of_group gs) ≡ set v k p
set_span true xs gs v k x p e is f =
    map-set points_of_slot xs k x ∙ ap (λ (q : Option Period). set (map points_of_slot xs) k q) f
    ∙ ap (λ (zs : List (Option Period)). set zs k p) is
set_span false xs gs v k x p e is f = absurd (cc)

-- ---- if the groups are kept

pub set_group : (b : Bool) (xs : List code.SlotSpan) (gs : List ℤ) (v : List (Option Period)) (k : ℕ) (g : ℤ)
    (p : Option Period) → b ≡ false → (if b then map points_of_slot xs else map points_of_group gs) ≡ v
    → points_of_group g ≡ p → (if b then map points_of_slot xs else map points_of_group (set gs k g)) ≡ set v k p
set_group true xs gs v k g p e is f = absurd (cc)
set_group false xs gs v k g p e is f =
    map-set points_of_group gs k g ∙ ap (λ (q : Option Period). set (map points_of_group gs) k q) f
    ∙ ap (λ (zs : List (Option Period)). set zs k p) is

-- from groups to spans
pub set_widened : (b : Bool) (xs new : List code.SlotSpan) (gs : List ℤ) (v : List (Option Period)) (k : ℕ)
    (x : code.SlotSpan) (p : Option Period) → b ≡ false
    → (if b then map points_of_slot xs else map points_of_group gs) ≡ v
    → map points_of_slot new ≡ map points_of_group gs → points_of_slot x ≡ p
    → map points_of_slot (set new k x) ≡ set v k p
set_widened true xs new gs v k x p e is f d = absurd (cc)
set_widened false xs new gs v k x p e is f d =
    map-set points_of_slot new k x ∙ ap (λ (q : Option Period). set (map points_of_slot new) k q) d
    ∙ ap (λ (zs : List (Option Period)). set zs k p) (f ∙ is)

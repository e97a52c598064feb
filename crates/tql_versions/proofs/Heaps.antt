-- Versions as a heap by their ends: what is first, and what a swap, a removal and new versions leave.
use Rattle.std.proofs.Common.{◌≡◌, ◌≢◌, ℕ, zero, suc, ◌+◌, ◌*◌, ◌/◌, ◌<◌, ◌≤◌, List, [], ◌∷◌, ◌++◌, get_or, length}
use Rattle.std.proofs.Common.{refl, sym, ap, subst, ◌∙◌, arith, inl, inr}
use Rattle.std.specs.Prelude.{ℤ, ◌<ℤ◌, ◌≤ℤ◌, ◌⊎◌, All}
use Rattle.std.proofs.lemmas.Bool.{cases_lt}
use Rattle.std.proofs.lemmas.Int.{ints}
use Rattle.std.proofs.lemmas.List.{get_or-map, length-map, get_or_append_left}
use Rattle.tql_spec.specs.Definition.{Version}
use Rattle.tql_versions.specs.Changes.{nothing}
use Rattle.tql_versions.specs.Heap.{EndsFirst, IsChild, IsFirstChild, IsHeap, IsHeapBut, IsSooner, end_at}
use Rattle.tql_versions.specs.Places.{AreExchanged, version_at}
use Rattle.tql_versions.specs.Views.{version_of, versions_of}
use Rattle.tql_versions.specs.declared.kept.Kept.{Kept}

apart : (k p : ℕ) → (k ≡ p) ⊎ (k ≢ p)
apart k p = elim (cases_lt k p) [
  | inl a ↦ inr (λ q. omega (arith, q))
  | inr a ↦ elim (cases_lt p k) [ inl b ↦ inr (λ q. omega (arith, q)) | inr b ↦ inl (omega arith) ]
]

through : (a b c : ℤ) → a ≤ℤ b → b ≤ℤ c → a ≤ℤ c
through a b c l m = grind (arith, ints)

later : (a b : ℤ) → a <ℤ b → a ≤ℤ b
later a b l = grind (arith, ints)

moved : (a b c d : ℤ) → a ≡ b → c ≡ d → b ≤ℤ d → a ≤ℤ c
moved a b c d e f l = grind (arith, ints)

-- ---- what the code reads

-- a position without children
pub childless : (ks : List Kept) (p : ℕ) → ((c : ℕ) → IsChild p c → length ks ≤ c) → EndsFirst (versions_of ks) p
childless ks p none c is l = absurd (let n = none c is in omega (arith, n, l, length-map ks version_of))

read_end : (ks : List Kept) (k : ℕ) (v : Kept) → k < length ks → v ≡ get_or ks k v
    → end_at (versions_of ks) k ≡ (version_of v).end
read_end ks k v l read = ap (λ (w : Version). w.end) (get_or-map version_of ks k v nothing l)
    ∙ ap (λ (w : Kept). (version_of w).end) (sym read)

-- the first child does not end before the version at its parent
pub no_sooner : (ks : List Kept) (p c : ℕ) (x y : Kept) → IsFirstChild (versions_of ks) p c → x ≡ get_or ks c x
    → y ≡ get_or ks p y → (version_of y).end ≤ℤ (version_of x).end → EndsFirst (versions_of ks) p
no_sooner ks p c x y first read_x read_y l d is within =
    through (end_at (versions_of ks) p) (end_at (versions_of ks) c) (end_at (versions_of ks) d)
    (moved (end_at (versions_of ks) p) (version_of y).end (end_at (versions_of ks) c) (version_of x).end
    (read_end ks p y (omega (arith, below)) read_y) (read_end ks c x (omega (arith, below)) read_x) l)
    (first.first d is within)
  where
    below : (p < c) × (c < length ks)
    below = let w = first.within in let e = first.child in (
      omega (arith, e),
      omega (arith, w, length-map ks version_of),
    )

-- of some children, the first
pub record IsFirstOf (ks : List Kept) (from to c : ℕ) : Type 0 where
  pub low : from ≤ c
  pub high : c < to
  pub within : c < length ks
  pub first : (d : ℕ) → from ≤ d → d < to → end_at (versions_of ks) c ≤ℤ end_at (versions_of ks) d

-- ---- the first version

-- each position but the first is that of a child
record HasParent (k : ℕ) : Type 0 where
  pub parent : ℕ
  pub is : IsChild parent (suc k)
  pub before : parent ≤ k

has_parent : (k : ℕ) → HasParent k
has_parent k = record { parent = k / 8; is = (omega arith, omega arith); before = omega arith }

first_below : (vs : List Version) (n k : ℕ) → IsHeap vs → k ≤ n → k < length vs → end_at vs 0 ≤ℤ end_at vs k
first_below vs n zero h m l = grind (arith, ints)
first_below vs zero (suc k) h m l = absurd (omega (arith, m))
first_below vs (suc n) (suc k) h m l =
    let a = has_parent k in
    let low = a.before in
    through (end_at vs 0) (end_at vs a.parent) (end_at vs (suc k))
    (first_below vs n a.parent h (omega (arith, m, low)) (omega (arith, l, low))) (h a.parent (suc k) a.is l)

-- no version of a heap ends before the first one
pub ends_first : (vs : List Version) → IsHeap vs → (k : ℕ) → k < length vs → end_at vs 0 ≤ℤ end_at vs k
ends_first vs h k l = first_below vs k k h (omega arith) l

-- ---- steps

-- a version changes places with its sooner child
pub sunk : (vs us : List Version) (p c : ℕ) → IsHeapBut p vs → IsSooner vs p c → AreExchanged p c vs us
    → IsHeapBut c us
sunk vs us p c h s x = record {
  others = λ q f d is l.
      let m : d < length vs = let e = x.even in omega (arith, e, l) in
      elim (apart q p) [
        | inl e ↦
            let child : IsChild p d = subst (λ (j : ℕ). IsChild j d) e is in
            elim (apart d c) [
              | inl g ↦ moved (end_at us q) (end_at vs c) (end_at us d) (end_at vs p)
                  (ap (end_at us) e ∙ first) (ap (end_at us) g ∙ second) (later (end_at vs c) (end_at vs p) s.sooner)
              | inr g ↦ moved (end_at us q) (end_at vs c) (end_at us d) (end_at vs d)
                  (ap (end_at us) e ∙ first) (other d (not_same p d child) g) (s.first.first d child m)
            ]
        | inr g ↦ elim (apart d p) [
          | inl e ↦ moved (end_at us q) (end_at vs q) (end_at us d) (end_at vs c) (other q g f)
              (ap (end_at us) e ∙ first)
              (h.above q c (subst (λ (j : ℕ). IsChild q j) e is) s.first.child s.first.within)
          | inr i ↦ elim (apart d c) [
            | inl e ↦ absurd (g (one_parent q p c (subst (λ (j : ℕ). IsChild q j) e is) s.first.child))
            | inr j ↦ moved (end_at us q) (end_at vs q) (end_at us d) (end_at vs d) (other q g f) (other d i j)
                (h.others q g d is m)
          ]
        ]
      ];
  above = λ q d up is l.
      let m : d < length vs = let e = x.even in omega (arith, e, l) in
      let e : q ≡ p = one_parent q p c up s.first.child in
      moved (end_at us q) (end_at vs c) (end_at us d) (end_at vs d) (ap (end_at us) e ∙ first)
      (other d (λ z. below p c d s.first.child is z) (not_same c d is))
      (h.others c (not_same p c s.first.child) d is m);
}
  where
    first : end_at us p ≡ end_at vs c
    first = ap (λ (w : Version). w.end) x.first

    second : end_at us c ≡ end_at vs p
    second = ap (λ (w : Version). w.end) x.second

    other : (k : ℕ) → k ≢ p → k ≢ c → end_at us k ≡ end_at vs k
    other k f g = ap (λ (w : Version). w.end) (x.others k f g)

    not_same : (j k : ℕ) → IsChild j k → k ≢ j
    not_same j k is e = omega (arith, is, e)

    one_parent : (j k l : ℕ) → IsChild j l → IsChild k l → j ≡ k
    one_parent j k l a b = omega (arith, a, b)

    below : (j k l : ℕ) → IsChild j k → IsChild k l → l ≡ j → ⊥
    below j k l a b e = omega (arith, a, b, e)

-- once no child ends before the version, all are in order
pub settled : (vs : List Version) (p : ℕ) → IsHeapBut p vs → EndsFirst vs p → IsHeap vs
settled vs p h e q = elim (apart q p) [ inl a ↦ subst (EndsFirst vs) (sym a) e | inr f ↦ h.others q f ]

-- the last version of a heap has taken the place of the first
pub front_taken : (vs us : List Version) → IsHeap vs → length us ≤ length vs
    → ((k : ℕ) → k ≢ 0 → k < length us → version_at us k ≡ version_at vs k) → IsHeapBut 0 us
front_taken vs us h size same = record {
  others = λ p f c is l.
      let up : p < c = omega (arith, is) in
      moved (end_at us p) (end_at vs p) (end_at us c) (end_at vs c)
      (ap (λ (w : Version). w.end) (same p f (omega (arith, up, l))))
      (ap (λ (w : Version). w.end) (same c (λ z. omega (arith, z, up)) l)) (h p c is (omega (arith, l, size)));
  above = λ p c up is l. absurd (omega (arith, up));
}

-- versions that end no earlier than those of a heap follow them
pub heap_more : (m : ℤ) (vs more : List Version) → IsHeap vs → All (λ v. v.end ≤ℤ m) vs
    → All (λ v. v.end ≡ m) more → IsHeap (vs ++ more)
heap_more m vs more h low at p c is l =
    let up : p < c = omega (arith, is) in
    let q : p < length (vs ++ more) = omega (arith, up, l) in
    elim (cases_lt c (length vs)) [
      | inl a ↦ moved (end_at (vs ++ more) p) (end_at vs p) (end_at (vs ++ more) c) (end_at vs c)
          (ap (λ (w : Version). w.end) (get_or_append_left vs more nothing p (omega (arith, a, up))))
          (ap (λ (w : Version). w.end) (get_or_append_left vs more nothing c a)) (h p c is a)
      | inr a ↦ through (end_at (vs ++ more) p) m (end_at (vs ++ more) c)
          (most p q) (moved m m (end_at (vs ++ more) c) m refl (last c a l) (same m))
    ]
  where
    same : (a : ℤ) → a ≤ℤ a
    same a = grind (arith, ints)

    ends_at : (xs ys : List Version) (k : ℕ) → length xs ≤ k → k < length (xs ++ ys) → All (λ v. v.end ≡ m) ys
        → end_at (xs ++ ys) k ≡ m
    ends_at [] ys k a b f = f k nothing b
    ends_at (x ∷ xs) ys zero a b f = absurd (omega (arith, a))
    ends_at (x ∷ xs) ys (suc k) a b f = ends_at xs ys k (omega (arith, a)) (omega (arith, b)) f

    last : (k : ℕ) → length vs ≤ k → k < length (vs ++ more) → end_at (vs ++ more) k ≡ m
    last k a b = ends_at vs more k a b at

    most : (k : ℕ) → k < length (vs ++ more) → end_at (vs ++ more) k ≤ℤ m
    most k b = elim (cases_lt k (length vs)) [
      | inl a ↦ subst (λ (w : Version). w.end ≤ℤ m) (sym (get_or_append_left vs more nothing k a)) (low k nothing a)
      | inr a ↦ moved (end_at (vs ++ more) k) m m m (last k a b) refl (same m)
    ]

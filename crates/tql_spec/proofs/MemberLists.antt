-- Members of joined and mapped lists, and the multiplicity of a row among rows.
use Rattle.std.proofs.Common.{◌≡◌, ◌<◌, ℕ, ◌+◌, Bool, true, false, cond, List, [], ◌∷◌, ◌++◌, map, filter, refl, sym}
use Rattle.std.proofs.Common.{ap, ◌∙◌, arith, inl, inr, subst}
use Rattle.std.specs.Prelude.{◌⊎◌, ◌||◌}
use Rattle.std.proofs.lemmas.List.Sums.{sum_by-append}
use Rattle.tql_spec.specs.Bag.{In}
use Rattle.tql_spec.specs.Definition.{Stamped, same_stamped}
use Rattle.tql_spec.specs.History.{has_row}
use Rattle.tql_spec.specs.Spans.{times}
use Rattle.tql_spec.proofs.Bags.{sum-filter}
use Rattle.tql_spec.proofs.Members.{by_bool, sum-in, sum-zero, sum-least, same_stamped-self, same_stamped-is}

-- ---- members

-- a member of the first list is a member of the joined list
pub in_left : {X : Type 0} (x : X) (xs ys : List X) → In x xs → In x (xs ++ ys)
in_left x [] ys m = absurd m
in_left x (y ∷ xs) ys (inl e) = inl e
in_left x (y ∷ xs) ys (inr m) = inr (in_left x xs ys m)

-- a member of the second list is a member of the joined list
pub in_right : {X : Type 0} (x : X) (xs ys : List X) → In x ys → In x (xs ++ ys)
in_right x [] ys m = m
in_right x (y ∷ xs) ys m = inr (in_right x xs ys m)

-- a member of the joined list is a member of one of the lists
pub in_either : {X : Type 0} (x : X) (xs ys : List X) → In x (xs ++ ys) → In x xs ⊎ In x ys
in_either x [] ys m = inr m
in_either x (y ∷ xs) ys (inl e) = inl (inl e)
in_either x (y ∷ xs) ys (inr m) = elim (in_either x xs ys m) [ inl h ↦ inl (inr h) | inr h ↦ inr h ]

-- a member of a mapped list is the image of a member
pub in_image : {X Y : Type 0} (f : X → Y) (y : Y) (xs : List X) → In y (map f xs) → (x : X) × In x xs × (y ≡ f x)
in_image f y [] m = absurd m
in_image f y (x ∷ xs) (inl e) = (x, inl refl, e)
in_image f y (x ∷ xs) (inr m) = let r = in_image f y xs m in (r.0, inr r.1, r.2)

-- the image of a member is a member of the mapped list
pub in_map : {X Y : Type 0} (f : X → Y) (x : X) (xs : List X) → In x xs → In (f x) (map f xs)
in_map f x [] m = absurd m
in_map f x (y ∷ xs) (inl e) = inl (ap f e)
in_map f x (y ∷ xs) (inr m) = inr (in_map f x xs m)

-- a member of the filtered list is a member that passes the test
pub in_kept : {X : Type 0} (p : X → Bool) (x : X) (xs : List X) → In x (filter p xs) → In x xs × (p x ≡ true)
in_kept p x [] m = absurd m
in_kept {X} p x (y ∷ xs) m = by_bool (p y)
    (λ b. elim (subst (λ c. In x (cond c (y ∷ filter p xs) (filter p xs))) b m) [
      | inl e ↦ (
        inl e,
        ap p e
            ∙ b,
      )
      | inr n ↦ more (in_kept p x xs n)
    ])
    (λ b. more (in_kept p x xs (subst (λ c. In x (cond c (y ∷ filter p xs) (filter p xs))) b m)))
  where
    more : In x xs × (p x ≡ true) → In x (y ∷ xs) × (p x ≡ true)
    more r = (inr r.0, r.1)

-- ---- whether a row is among rows

-- the step of `has_tells` for one more row in front
any_tells : (r : Stamped) (s : Stamped) (rows : List Stamped) (b : Bool) → same_stamped r s ≡ b
    → ((has_row rows r ≡ true) × In r rows) ⊎ ((has_row rows r ≡ false) × (In r rows → ⊥))
    → ((b || has_row rows r ≡ true) × In r (s ∷ rows)) ⊎ ((b || has_row rows r ≡ false) × (In r (s ∷ rows) → ⊥))
any_tells r s rows true e h = inl (refl, inl (same_stamped-is r s e))
any_tells r s rows false e (inl h) = inl (h.0, inr h.1)
any_tells r s rows false e (inr h) = inr
    (h.0, λ m. elim m [ inl q ↦ absurd (differ (ap (same_stamped r) q ∙ e)) | inr n ↦ h.1 n ])
  where
    differ : same_stamped r r ≡ false → ⊥
    differ f = let s = same_stamped-self r in cc

-- the test of membership is right: true for a member, false otherwise
pub has_tells : (rows : List Stamped) (r : Stamped)
    → ((has_row rows r ≡ true) × In r rows) ⊎ ((has_row rows r ≡ false) × (In r rows → ⊥))
has_tells [] r = inr (refl, λ m. m)
has_tells (s ∷ rows) r = any_tells r s rows (same_stamped r s) refl (has_tells rows r)

-- ---- multiplicities

-- the multiplicity of a row that is not a member is 0
pub times_none : (r : Stamped) (rows : List Stamped) → (In r rows → ⊥) → times r rows ≡ 0
times_none r rows h = sum-zero (λ s. cond (same_stamped r s) 1 0) rows (λ s m. by_bool (same_stamped r s)
    (λ e. absurd (h (subst (λ x. In x rows) (sym (same_stamped-is r s e)) m)))
    (λ e. ap (λ b. cond {A = ℕ} b 1 0) e))

-- the multiplicity of a member is at least 1
pub times_some : (r : Stamped) (rows : List Stamped) → In r rows → 0 < times r rows
times_some r rows m =
    let one : cond {A = ℕ} (same_stamped r r) 1 0 ≡ 1 = ap (λ b. cond {A = ℕ} b 1 0) (same_stamped-self r) in
    omega (arith, sum-least (λ s. cond (same_stamped r s) 1 0) r rows m, one)

-- a row with a multiplicity above 0 is a member
pub there_if : (r : Stamped) (rows : List Stamped) → 0 < times r rows → In r rows
there_if r rows h = elim (has_tells rows r) [ inl y ↦ y.1 | inr n ↦ absurd (omega (arith, times_none r rows n.1)) ]

-- the multiplicities in joined lists add up
pub times_append : (r : Stamped) (xs ys : List Stamped) → times r (xs ++ ys) ≡ times r xs + times r ys
times_append r xs ys = sum_by-append (λ s. cond (same_stamped r s) 1 0) xs ys

-- the multiplicity in a filtered list is the same if the row passes, else 0
pub times_kept : (g : Stamped → Bool) (r : Stamped) (rows : List Stamped)
    → times r (filter g rows) ≡ cond (g r) (times r rows) 0
times_kept g r rows = sum-filter g (λ s. cond (same_stamped r s) 1 0) rows ∙ by_bool (g r)
    (λ e. sum-in (λ s. cond (g s) (cond (same_stamped r s) 1 0) 0) (λ s. cond (same_stamped r s) 1 0) rows
    (λ s m. one true e s) ∙ sym (ap (λ b. cond b (times r rows) 0) e))
    (λ e. sum-zero (λ s. cond (g s) (cond (same_stamped r s) 1 0) 0) rows (λ s m. one false e s)
    ∙ sym (ap (λ b. cond b (times r rows) 0) e))
  where
    flat : (b : Bool) → cond {A = ℕ} b 0 0 ≡ 0
    flat true = refl
    flat false = refl

    one : (b : Bool) → g r ≡ b → (s : Stamped)
        → cond (g s) (cond {A = ℕ} (same_stamped r s) 1 0) 0 ≡ cond b (cond {A = ℕ} (same_stamped r s) 1 0) 0
    one b e s = by_bool (same_stamped r s)
        (λ q. ap (λ c. cond c (cond {A = ℕ} (same_stamped r s) 1 0) 0) (ap g (sym (same_stamped-is r s q)) ∙ e))
        (λ q. rw q (flat (g s) ∙ sym (flat b)))

-- Filters and joins do not depend on the order of the rows of either side.
use Rattle.std.proofs.Common.{◌≡◌, ℕ, List, [], ◌∷◌, ◌++◌, map, refl, sym, ap, subst, ◌∙◌, arith}
use Rattle.std.specs.Prelude.{Option, Some, None}
use Rattle.std.specs.List.{sum_by}
use Rattle.std.proofs.lemmas.List.Sums.{sum_by-cons}
use Rattle.std.proofs.lemmas.List.Concat.{flat_map-cons}
use Rattle.tql_spec.specs.Words.{◌>>=◌, map_all, with_front}
use Rattle.tql_spec.specs.Bag.{SameBag}
use Rattle.tql_spec.specs.Datum.{Row}
use Rattle.tql_spec.specs.Expression.{Cond, passes}
use Rattle.tql_spec.specs.Query.{pairs, keep, or_alone, left_join}
use Rattle.tql_spec.specs.QueryLaws.{JoinsKeepNoOrder}
use Rattle.tql_spec.proofs.Bags.{same-refl, same-trans, same-map, same-append, same-flat_map}
use Rattle.tql_spec.proofs.QueryBags.{Same, mapped_same, filtered_same, flattened, flattened_same, same_rows}

-- ---- both None, or the same bag

-- the relation is transitive
pub joined_sames : {B : Type 0} (o p q : Option (List B)) → Same o p → Same p q → Same o q
joined_sames None None q h k = k
joined_sames None (Some ys) q h k = absurd h
joined_sames (Some xs) None q h k = absurd h
joined_sames (Some xs) (Some ys) None h k = absurd k
joined_sames (Some xs) (Some ys) (Some zs) h k = same-trans h k

-- two results stay related after steps that preserve bags
pub further_same : {A B : Type 0} (f g : List A → Option (List B)) (o p : Option (List A))
    → ((xs ys : List A) → SameBag xs ys → Same (f xs) (g ys))
    → Same o p → Same (o >>= f) (p >>= g)
further_same f g None None k h = tt
further_same f g None (Some ys) k h = absurd h
further_same f g (Some xs) None k h = absurd h
further_same f g (Some xs) (Some ys) k h = k xs ys h

-- ---- pairs

-- pairs do not depend on the order of the rows of either side
pub pairs_same : (xs xs' ys ys' : List Row) → SameBag xs xs' → SameBag ys ys' → SameBag (pairs xs ys) (pairs xs' ys')
pairs_same xs xs' ys ys' h k =
    same-flat_map (λ x. map (λ y. x ++ y) ys) (λ x. map (λ y. x ++ y) ys') h (λ x. same-map (λ y. x ++ y) k)

-- filtered rows do not depend on the order of the rows
pub kept_same : (conds : List Cond) (rows rows' : List Row) → SameBag rows rows'
    → Same (keep conds rows) (keep conds rows')
kept_same conds rows rows' h = filtered_same (λ r. passes [] r conds) rows rows' h

-- ---- LEFT

module _ (on : List Cond) (width : ℕ) where
  -- the rows that a row gives: with its partners, or with nulls
  abbrev given : List Row → Row → Option (List Row)
  given ys x = keep on (pairs (x ∷ []) ys) >>= λ partners. Some (or_alone width x partners)

  in_front : (x : Row) (o : Option (List Row)) (rest : Option (List (List Row)))
      → (o >>= λ partners. flattened rest >>= λ more. Some (or_alone width x partners ++ more))
      ≡ flattened (with_front (o >>= λ partners. Some (or_alone width x partners)) rest)
  in_front x None rest = refl
  in_front x (Some ps) None = refl
  in_front x (Some ps) (Some xss) = ap Some (sym (flat_map-cons (λ xs. xs) (or_alone width x ps) xss))

  -- the rows of a LEFT join are the rows that each row gives
  left_is : (xs ys : List Row) → left_join on width xs ys ≡ flattened (map_all (given ys) xs)
  left_is [] ys = refl
  left_is (x ∷ xs) ys =
      ap (λ rest. keep on (pairs (x ∷ []) ys) >>= λ partners. rest >>= λ more. Some (or_alone width x partners ++ more))
      (left_is xs ys)
      ∙ in_front x (keep on (pairs (x ∷ []) ys)) (map_all (given ys) xs)

  -- a LEFT join does not depend on the order of the left rows
  left_rows_same : (xs xs' ys : List Row) → SameBag xs xs' → Same (left_join on width xs ys) (left_join on width xs' ys)
  left_rows_same xs xs' ys h =
      let m = mapped_same (given ys) xs xs' h _ _ refl refl in
      let k = flattened_same (map_all (given ys) xs) (map_all (given ys) xs') m in
      subst (λ o. Same o (left_join on width xs' ys)) (sym (left_is xs ys))
      (subst (λ p. Same (flattened (map_all (given ys) xs)) p) (sym (left_is xs' ys)) k)

  -- a bag with a member is not the empty bag
  never_empty : (p : Row) (ps : List Row) → sum_by (λ (x : Row). 1) (p ∷ ps) ≡ sum_by (λ (x : Row). 1) [] → ⊥
  never_empty p ps e = omega (arith, e, sum_by-cons (λ (x : Row). 1) p ps)

  or_alone_same : (x : Row) (ps ps' : List Row) → SameBag ps ps' → SameBag (or_alone width x ps) (or_alone width x ps')
  or_alone_same x [] [] h = same-refl _
  or_alone_same x [] (p ∷ ps) h = absurd (never_empty p ps (sym (h.totals (λ r. 1))))
  or_alone_same x (p ∷ ps) [] h = absurd (never_empty p ps (h.totals (λ r. 1)))
  or_alone_same x (p ∷ ps) (p' ∷ ps') h = h

  -- a LEFT join does not depend on the order of the right rows
  left_found_same : (xs ys ys' : List Row) → SameBag ys ys'
      → Same (left_join on width xs ys) (left_join on width xs ys')
  left_found_same [] ys ys' h = same-refl []
  left_found_same (x ∷ xs) ys ys' h = by_parts
      (keep on (pairs (x ∷ []) ys)) (keep on (pairs (x ∷ []) ys')) (left_join on width xs ys)
      (left_join on width xs ys')
      (kept_same on (pairs (x ∷ []) ys) (pairs (x ∷ []) ys')
      (pairs_same (x ∷ []) (x ∷ []) ys ys' (same-refl (x ∷ [])) h))
      (left_found_same xs ys ys' h)
    where
      by_parts : (o p rest rest' : Option (List Row)) → Same o p → Same rest rest'
          → Same (o >>= λ partners. rest >>= λ more. Some (or_alone width x partners ++ more))
          (p >>= λ partners. rest' >>= λ more. Some (or_alone width x partners ++ more))
      by_parts o p rest rest' h k = further_same _ _ o p
          (λ ps ps' e. further_same _ _ rest rest' (λ ms ms' f. same-append (or_alone_same x ps ps' e) f) k) h

  -- a LEFT join does not depend on the order of the rows of either side
  pub left_same : (xs xs' ys ys' : List Row) → SameBag xs xs' → SameBag ys ys'
      → Same (left_join on width xs ys) (left_join on width xs' ys')
  left_same xs xs' ys ys' h k =
      joined_sames (left_join on width xs ys) (left_join on width xs' ys) (left_join on width xs' ys')
      (left_rows_same xs xs' ys h) (left_found_same xs' ys ys' k)

-- the law: joins do not depend on the order of the rows of either side
pub joins_keep_no_order : JoinsKeepNoOrder
joins_keep_no_order on width rows rows' found found' h k =
    let paired = pairs_same rows rows' found found' h k in (
      same_rows _ _ (kept_same on rows rows' h),
      paired,
      same_rows _ _ (kept_same on (pairs rows found) (pairs rows' found') paired),
      same_rows _ _ (left_same on width rows rows' found found' h k),
    )

-- The safe part of conjuncts, and the rows that do not meet it.
use Rattle.std.proofs.Common.{◌≡◌, ◌∙◌, refl, sym, ap, ℕ, ◌+◌, ◌<◌, Bool, true, false, cond, List, [], ◌∷◌, ◌++◌, map}
use Rattle.std.proofs.Common.{append_assoc, drop, take, get_or, length}
use Rattle.std.specs.Prelude.{◌&&◌, Option, Some}
use Rattle.std.proofs.lemmas.List.{append-nil, drop_more, map_more}
use Rattle.std.proofs.lemmas.List.Sums.{take_while-cons}
use Rattle.tql_spec.specs.Words.{◌>>=◌}
use Rattle.tql_spec.specs.Truth.{Truth, False, Unknown, True, is_true}
use Rattle.tql_spec.specs.Expression.{Cond, passes, go_on, is_safe, SafeConditionsAreJudged}
use Rattle.tql_plan_laws.specs.Conjuncts.{is_sure, meets}
use Rattle.tql_plan_access.specs.Access.{SafePartDecides, safe_part}

-- ---- one conjunct after another

module _ {A : Type 0} (f : A → Cond) (xs : List A) (i : ℕ) (d : A) (l : i < length xs) where
  -- the safe part from an index on: the conjunct at the index and the safe part of the rest, or nothing
  front : safe_part (map f (drop i xs))
      ≡ cond (is_safe (f (get_or xs i d))) (f (get_or xs i d) ∷ safe_part (map f (drop (i + 1) xs))) []
  front =
      ap (λ ys. safe_part (map f ys)) (drop_more xs i d l)
      ∙ take_while-cons is_safe (f (get_or xs i d)) (map f (drop (i + 1) xs))

  -- a safe conjunct at an index moves from the safe part of the rest to the conjuncts before it
  pub one_more : is_safe (f (get_or xs i d)) ≡ true
      → map f (take (i + 1) xs) ++ safe_part (map f (drop (i + 1) xs))
      ≡ map f (take i xs) ++ safe_part (map f (drop i xs))
  one_more h =
      let y : Cond = f (get_or xs i d) in
      let more = safe_part (map f (drop (i + 1) xs)) in
      ap (λ ys. ys ++ more) (map_more f xs i d l) ∙ append_assoc (map f (take i xs)) (y ∷ []) more
      ∙ ap (λ ys. map f (take i xs) ++ ys) (sym (front ∙ ap (λ b. cond b (y ∷ more) []) h))

  -- an unsafe conjunct at an index ends the safe part
  pub no_more : is_safe (f (get_or xs i d)) ≡ false
      → map f (take i xs) ++ safe_part (map f (drop i xs)) ≡ map f (take i xs)
  no_more h =
      let y : Cond = f (get_or xs i d) in
      ap (λ ys. map f (take i xs) ++ ys)
      (front ∙ ap (λ b. cond b (y ∷ safe_part (map f (drop (i + 1) xs))) []) h)
      ∙ append-nil (map f (take i xs))

-- ---- a row that does not meet it

-- evaluation after a conjunct with this truth value
later : (t : Truth) (rest : Option Bool) (m : Bool) → (m ≡ false → rest ≡ Some false) → is_true t && m ≡ false
    → go_on t rest ≡ Some false
later True rest m f h = f h
later False rest m f h = refl
later Unknown rest m f h = refl

pub decides : SafeConditionsAreJudged → SafePartDecides
decides law [] row h = absurd (cc)
decides law (c ∷ cs) row h = either (is_safe c) refl (decides law cs row)
  where
    either : (b : Bool) → is_safe c ≡ b → (meets (safe_part cs) row ≡ false → passes [] row cs ≡ Some false)
        → passes [] row (c ∷ cs) ≡ Some false
    either false e rest =
        absurd (let k : true ≡ false =
        sym (ap (λ (ds : List Cond). meets ds row)
        (take_while-cons is_safe c cs ∙ ap (λ b. cond b (c ∷ safe_part cs) []) e))
        ∙ h in cc)
    either true e rest =
        let s = law [] row c e in
        let part : safe_part (c ∷ cs) ≡ c ∷ safe_part cs =
        take_while-cons is_safe c cs ∙ ap (λ b. cond b (c ∷ safe_part cs) []) e in
        ap (λ o. o >>= λ t. go_on t (passes [] row cs)) s.1
        ∙ later s.0 (passes [] row cs) (meets (safe_part cs) row) rest
        (ap (λ o. is_sure o && meets (safe_part cs) row) (sym s.1) ∙ sym (ap (λ (ds : List Cond). meets ds row) part)
        ∙ h)

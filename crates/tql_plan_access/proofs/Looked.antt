-- It is enough to look at the rows that meet the safe part: each other fails the conjuncts.
use Rattle.std.proofs.Common.{◌≡◌, ℕ, Bool, true, false, List, [], ◌∷◌, map, filter, refl, sym, ap, ◌∙◌}
use Rattle.std.proofs.Common.{cond}
use Rattle.std.specs.Prelude.{All, ℤ, Option, Some, None}
use Rattle.std.proofs.lemmas.List.Elements.{All-head, All-tail}
use Rattle.tql_spec.specs.Words.{kept_if}
use Rattle.tql_spec.specs.Datum.{Row}
use Rattle.tql_spec.specs.Definition.{System, Version, with_generated}
use Rattle.tql_spec.specs.Expression.{Cond, passes}
use Rattle.tql_spec.specs.Query.{keep}
use Rattle.tql_spec.proofs.Members.{by_bool}
use Rattle.tql_plan_laws.specs.Conjuncts.{meets}
use Rattle.tql_store_index.specs.Basis.{is_looked_at}
use Rattle.tql_plan_access.specs.Alternatives.{AlternativesAreEnough, has_any}
use Rattle.tql_plan_access.specs.Access.{IsRow, LookingIsEnough, SafePartDecides, Serves, completed, safe_part}

-- a row that fails adds nothing to the result
dropped : (x : Row) (rest : Option (List Row)) → kept_if x (Some false) rest ≡ rest
dropped x None = refl
dropped x (Some xs) = refl

-- rows are looked at by any test of their stored cells that each row passes that meets the safe part
module _ (law : SafePartDecides) (system : Option System) (period : Option (ℕ × ℕ)) (width : ℕ) (conds : List Cond)
    (test : Row → Bool)
    (serves : (cells : Row) (start end : ℤ) → IsRow period width (with_generated system cells start end)
    → meets (safe_part conds) (with_generated system cells start end) ≡ true → test cells ≡ true) where
  -- whether a version is looked at
  abbrev is_seen : Version → Bool
  is_seen v = test v.row.cells

  -- a row that is not looked at fails
  fails : (v : Version) → IsRow period width (completed system v) → is_seen v ≡ false
      → passes [] (completed system v) conds ≡ Some false
  fails v row unseen =
      by_bool (meets (safe_part conds) (completed system v))
      (λ m. absurd (let k : true ≡ false = sym (serves v.row.cells v.row.start v.end row m) ∙ unseen in cc))
      (λ m. law conds (completed system v) m)

  -- the step for one more version: it is looked at, or it fails
  one_more : (v : Version) (vs : List Version) (seen : Bool)
      → (seen ≡ false → passes [] (completed system v) conds ≡ Some false)
      → keep conds (map (completed system) (filter is_seen vs)) ≡ keep conds (map (completed system) vs)
      → keep conds (map (completed system) (cond seen (v ∷ filter is_seen vs) (filter is_seen vs)))
      ≡ keep conds (map (completed system) (v ∷ vs))
  one_more v vs true f same =
      ap (kept_if (completed system v) (passes [] (completed system v) conds)) same
  one_more v vs false f same =
      same
      ∙ sym (ap (λ b. kept_if (completed system v) b (keep conds (map (completed system) vs))) (f refl)
      ∙ dropped (completed system v) (keep conds (map (completed system) vs)))

  pub seen_same : (vs : List Version) → All (λ v. IsRow period width (completed system v)) vs
      → keep conds (map (completed system) (filter is_seen vs)) ≡ keep conds (map (completed system) vs)
  seen_same [] h = refl
  seen_same (v ∷ vs) h =
      one_more v vs (is_seen v)
      (fails v (All-head (λ v. IsRow period width (completed system v)) v vs h))
      (seen_same vs (All-tail (λ v. IsRow period width (completed system v)) v vs h))

pub enough : SafePartDecides → LookingIsEnough
enough law system period width conds o serves vs h =
    seen_same law system period width conds (is_looked_at o) serves.all vs h

-- the same for alternatives
pub any_enough : SafePartDecides → AlternativesAreEnough
any_enough law system period width conds column values serves vs h =
    seen_same law system period width conds (has_any column values) serves.all vs h

-- a scan of all rows serves any conjuncts
pub whole_serves : (system : Option System) (period : Option (ℕ × ℕ)) (width : ℕ) (conds : List Cond)
    → Serves system period width conds None
whole_serves system period width conds = record { all = λ cells start end w m. refl }

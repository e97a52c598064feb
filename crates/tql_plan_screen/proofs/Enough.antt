-- It is enough to look at the rows that a screen admits.
use Rattle.std.proofs.Common.{◌≡◌, ◌∙◌, refl, sym, ap, ℕ, Bool, true, false, cond, List, [], ◌∷◌, map}
use Rattle.std.specs.Prelude.{All, Option, Some, filter}
use Rattle.std.proofs.lemmas.List.Elements.{All-head, All-tail}
use Rattle.tql_spec.specs.Definition.{System, Version}
use Rattle.tql_spec.specs.Expression.{Cond}
use Rattle.tql_plan_laws.specs.Conjuncts.{SafeConjunctsFilter, meets}
use Rattle.tql_plan_access.specs.Access.{IsRow, SafePartDecides, completed}
use Rattle.tql_plan_access.proofs.Looked.{seen_same}
use Rattle.tql_plan_screen.specs.Screens.{DecidesScreen, ScreenIsEnough, Test, WholeScreenDecides, admitted}
use Rattle.tql_plan_screen.specs.Screens.{is_admitted}

pub enough : SafePartDecides → ScreenIsEnough
enough law system period width conds tests serves vs h =
    seen_same law system period width conds (is_admitted tests) serves.all vs h

module _ (system : Option System) (period : Option (ℕ × ℕ)) (width : ℕ) (conds : List Cond) (tests : List Test)
    (decides : DecidesScreen system period width conds tests) where
  -- the versions that meet the conjuncts are those that are admitted
  met_admitted : (vs : List Version) → All (λ v. IsRow period width (completed system v)) vs
      → filter (meets conds) (map (completed system) vs) ≡ map (completed system) (admitted tests vs)
  met_admitted [] h = refl
  met_admitted (v ∷ vs) h =
      let row = completed system v in
      let same = sym (decides.all v.row.cells v.row.start v.end
      (All-head (λ (u : Version). IsRow period width (completed system u)) v vs h)) in
      (λ i. cond (same i) (row ∷ met_admitted vs (All-tail (λ (u : Version). IsRow period width (completed system u))
      v vs h) i) (met_admitted vs (All-tail (λ (u : Version). IsRow period width (completed system u)) v vs h) i))
      ∙ either (is_admitted tests v.row.cells)
    where
      either : (b : Bool)
          → cond b (completed system v ∷ map (completed system) (admitted tests vs))
          (map (completed system) (admitted tests vs))
          ≡ map (completed system) (cond b (v ∷ admitted tests vs) (admitted tests vs))
      either true = refl
      either false = refl

pub whole_decides : SafeConjunctsFilter → WholeScreenDecides
whole_decides law system period width conds tests decides vs h =
    law conds (map (completed system) vs) decides.safe
    ∙ ap Some (met_admitted system period width conds tests decides vs h)

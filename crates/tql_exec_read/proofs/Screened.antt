-- The versions that a screen admits, one after another, and the rows that a filter gives of them.
use Rattle.std.proofs.Common.{◌≡◌, ℕ, Bool, true, false, cond, List, [], ◌∷◌, ◌++◌, map, filter}
use Rattle.std.proofs.Common.{arith, length, refl, sym, ap, ◌∙◌}
use Rattle.std.specs.Prelude.{◌==◌, All, Option, Some}
use Rattle.std.proofs.lemmas.Bool.Decides.{nat_tests}
use Rattle.std.proofs.lemmas.List.{map-append}
use Rattle.std.proofs.lemmas.List.Elements.{filter-append}
use Rattle.tql_spec.specs.Datum.{Row}
use Rattle.tql_spec.specs.Definition.{System, Version}
use Rattle.tql_spec.specs.Expression.{Cond}
use Rattle.tql_spec.specs.Query.{keep}
use Rattle.tql_spec.specs.Words.{kept_if}
use Rattle.tql_expr.specs.Generated.{generated}
use Rattle.tql_expr.specs.Meaning as terms
use Rattle.tql_exec_pairs.proofs.Handed.{kept_parts, together}
use Rattle.tql_versions.specs.Readings.{open_ones, version_shown}
use Rattle.tql_versions.specs.Views.{versions_of}
use Rattle.tql_versions.specs.declared.kept.Kept.{Kept}
use Rattle.tql_versions.specs.declared.version.Version.{Version as Reading}
use Rattle.tql_plan_access.specs.Access.{IsRow}
use Rattle.tql_plan_screen.specs.Screens.{IsScreen, Screening, Test, WholeScreenDecides}
use Rattle.tql_plan_screen.specs.Screens.{admitted, is_admitted}
use Rattle.tql_exec_read.specs.Filters.{asked, passed}
use Rattle.tql_exec_read.specs.Found.{completed}
use Rattle.tql_exec_read.specs.declared.pushing.Filter.{Filter}
use Rattle.tql_exec_read.proofs.Open.{open_both}

-- ---- one version

-- a version that is admitted, if it is open
pub one_admitted : (tests : List Test) (v : Version) (o : Bool) → is_admitted tests v.row.cells ≡ true
    → admitted tests (cond o (v ∷ []) []) ≡ cond o (v ∷ []) []
one_admitted tests v true e = ap (λ b. cond b (v ∷ []) []) e
one_admitted tests v false e = refl

-- a version that is not
pub none_admitted : (tests : List Test) (v : Version) (o : Bool) → is_admitted tests v.row.cells ≡ false
    → admitted tests (cond o (v ∷ []) []) ≡ []
none_admitted tests v true e = ap (λ b. cond b (v ∷ []) []) e
none_admitted tests v false e = refl

-- ---- screens

-- a screen without tests admits all
all_admitted : (tests : List Test) → (length tests == 0) ≡ true → (vs : List Version) → admitted tests vs ≡ vs
all_admitted [] e [] = refl
all_admitted [] e (v ∷ vs) = ap (λ ws. v ∷ ws) (all_admitted [] e vs)
all_admitted (t ∷ ts) e vs = absurd (grind (arith, nat_tests, e))

-- if the screen has none, a filter gives the rows that pass its conjuncts
pub unasked : (f : Filter) → (length f.screen.now.tests == 0) ≡ true → (vs : List Version) → asked f vs ≡ passed f vs
unasked f e vs = ap (passed f) (all_admitted f.screen.now.tests e vs)

kept_all : (rows : List Row) → keep [] rows ≡ Some rows
kept_all [] = refl
kept_all (x ∷ rows) = ap (kept_if x (Some true)) (kept_all rows)

module _ (system : Option System) (period : Option (ℕ × ℕ)) (width : ℕ) (conds : List Cond) (s : Screening)
    (is : IsScreen system period width conds s) (vs : List Version)
    (rows : All (λ v. IsRow period width (completed system v)) vs) where
  -- the admitted versions of a whole screen, and no conjuncts
  pub asked_alone : WholeScreenDecides → s.whole ≡ true
      → keep [] (map (completed system) (admitted s.tests vs)) ≡ keep conds (map (completed system) vs)
  asked_alone law e =
      kept_all (map (completed system) (admitted s.tests vs))
      ∙ sym (law system period width conds s.tests (is.decides e) vs rows)

-- ---- two lists of versions

module _ (f : Filter) where
  abbrev shown : Version → Row
  shown v = completed (generated f.system) v

  abbrev conds : List Cond
  conds = map (terms.cond f.terms.now) f.conjuncts.now

  abbrev admits : Version → Bool
  admits v = is_admitted f.screen.now.tests v.row.cells

  shown_both : (xs ys : List Version) → map shown (xs ++ ys) ≡ map shown xs ++ map shown ys
  shown_both xs ys = map-append shown xs ys

  admitted_both : (xs ys : List Version)
      → map shown (filter admits (xs ++ ys)) ≡ map shown (filter admits xs) ++ map shown (filter admits ys)
  admitted_both xs ys =
      ap (map shown) (filter-append admits xs ys) ∙ shown_both (filter admits xs) (filter admits ys)

  pub passed_parts : (xs ys : List Reading) → passed f (map version_shown (xs ++ ys))
      ≡ together (passed f (map version_shown xs)) (passed f (map version_shown ys))
  passed_parts =
      kept_parts conds (λ vs. map shown (map version_shown vs))
      (λ xs ys. ap (map shown) (map-append version_shown xs ys)
      ∙ shown_both (map version_shown xs) (map version_shown ys))

  pub asked_parts : (xs ys : List Reading) → asked f (map version_shown (xs ++ ys))
      ≡ together (asked f (map version_shown xs)) (asked f (map version_shown ys))
  asked_parts =
      kept_parts conds (λ vs. map shown (filter admits (map version_shown vs)))
      (λ xs ys. ap (λ vs. map shown (filter admits vs)) (map-append version_shown xs ys)
      ∙ admitted_both (map version_shown xs) (map version_shown ys))

  pub open_passed_parts : (xs ys : List Kept) → passed f (open_ones (versions_of (xs ++ ys)))
      ≡ together (passed f (open_ones (versions_of xs))) (passed f (open_ones (versions_of ys)))
  open_passed_parts =
      kept_parts conds (λ ks. map shown (open_ones (versions_of ks)))
      (λ xs ys. ap (map shown) (open_both xs ys)
      ∙ shown_both (open_ones (versions_of xs)) (open_ones (versions_of ys)))

  pub open_asked_parts : (xs ys : List Kept) → asked f (open_ones (versions_of (xs ++ ys)))
      ≡ together (asked f (open_ones (versions_of xs))) (asked f (open_ones (versions_of ys)))
  open_asked_parts =
      kept_parts conds (λ ks. map shown (filter admits (open_ones (versions_of ks))))
      (λ xs ys. ap (λ vs. map shown (filter admits vs)) (open_both xs ys)
      ∙ admitted_both (open_ones (versions_of xs)) (open_ones (versions_of ys)))

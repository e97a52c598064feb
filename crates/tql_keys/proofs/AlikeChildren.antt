-- A child row is met exactly if a row alike it is.
use Rattle.std.proofs.Common.{◌≡◌, refl, sym, ap, ◌∙◌, ℕ, Bool, true, false, List}
use Rattle.std.specs.Prelude.{◌||◌}
use Rattle.std.specs.List.{list_any}
use Rattle.tql_spec.specs.Datum.{Row, is_null}
use Rattle.tql_spec.specs.Definition.{TableDef, Reference, cell, period_of}
use Rattle.tql_spec.specs.Constraint.{covered, has_null, is_met, is_met_by, parents_of}
use Rattle.tql_key_rows.specs.Touched.{tuple, with_tuple}
use Rattle.tql_key_rows.proofs.Agreeing.{any_map}
use Rattle.tql_key_clashes.proofs.Alikes.{AreAlike}
use Rattle.tql_keys.proofs.Gathering.{parents_is}

any_null : (columns : List ℕ) (r : Row) → has_null columns r ≡ list_any is_null (tuple columns r)
any_null columns r = sym (any_map is_null (cell r) columns)

-- a child row is met exactly if a row alike it is
pub met_alike : (c p : TableDef) (f : Reference) (parents : List Row) (r s : Row) → AreAlike c f.columns f.by_period r s
    → is_met c p f parents r ≡ is_met c p f parents s
met_alike c p f parents r s h =
    ap (λ b. b || is_met_by c p f.by_period (parents_of f parents r) r)
    (any_null f.columns r ∙ ap (list_any is_null) h.tuples ∙ sym (any_null f.columns s))
    ∙ ap (λ (ps : List Row). has_null f.columns s || is_met_by c p f.by_period ps r)
    (parents_is f parents r ∙ ap (λ vs. with_tuple f.parent_columns vs parents) h.tuples ∙ sym (parents_is f parents s))
    ∙ ap (λ b. has_null f.columns s || b) (by_either f.by_period (parents_of f parents s) h.periods)
  where
    by_either : (b : Bool) (ps : List Row) → (b ≡ true → period_of c r ≡ period_of c s)
        → is_met_by c p b ps r ≡ is_met_by c p b ps s
    by_either false ps q = refl
    by_either true ps q = ap (covered p ps) (q refl)

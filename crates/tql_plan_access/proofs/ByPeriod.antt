-- Rows that are found by their application period.
use Rattle.std.proofs.Common.{◌≡◌, ◌∙◌, refl, ap, subst, ℕ, true, List, length}
use Rattle.std.specs.Prelude.{ℤ, Option, Some, None, option_map}
use Rattle.tql_spec.specs.Datum.{Row}
use Rattle.tql_spec.specs.Definition.{Application, TableDef, period_between, period_by, point_of, with_generated}
use Rattle.tql_spec.specs.Expression.{Cond}
use Rattle.tql_spec.specs.Period.{Period, holds, share_a_point}
use Rattle.tql_catalog.specs.Defined.{IsDefinition}
use Rattle.tql_catalog.specs.Rows.{IsStoredAt}
use Rattle.tql_catalog.specs.Sought.{IsPeriodStoredAt}
use Rattle.tql_plan_laws.specs.Conjuncts.{meets}
use Rattle.tql_plan_laws.specs.Constants.{PointsAreMet, StretchesAreMet, point_in, stretch_in}
use Rattle.tql_store_index.specs.Basis.{Sought, Sharing, is_looked_at}
use Rattle.tql_plan_access.specs.Access.{IsRow, Lasts, is_within, period_columns, sought_between}
use Rattle.tql_plan_access.specs.Said.{IsPortionBy, IsSaidBy}
use Rattle.tql_plan_access.proofs.ByKey.{stored_long}

-- the lookup of a portion uses the numbers at which the period is stored
pub portion_said : (d : TableDef) (portion : Period) (b : Option Application) (stored : ℕ × ℕ)
    → IsPeriodStoredAt d b (Some stored) → IsPortionBy d portion b (Some (Sharing stored.0 stored.1 portion))
portion_said d portion None stored h = absurd h
portion_said d portion (Some a) stored h = record { stored = stored; start = h.0; end = h.1; is = refl }

module _ (d : TableDef) (right : IsDefinition d) where
  abbrev completed : Row → ℤ → ℤ → Row
  completed cells from to = with_generated d.system cells from to

  -- the period of a row equals the period at the stored numbers
  same_period : (a : Application) (stored : ℕ × ℕ) → IsStoredAt d a.start stored.0 → IsStoredAt d a.end stored.1
      → (cells : Row) (from to : ℤ) → length (completed cells from to) ≡ length d.columns
      → period_between (completed cells from to) a.start a.end ≡ period_between cells stored.0 stored.1
  same_period a stored start end cells from to wide =
      let long = stored_long d right cells from to wide in
      (λ i. record { start = point_of (start cells from to long i); end = point_of (end cells from to long i) })

  -- ---- by a portion

  -- a row that shares a point with the portion is looked at
  pub portion_found : (portion : Period) (b : Option Application) → d.application ≡ b → (o : Option Sought)
      → IsPortionBy d portion b o → (cells : Row) (from to : ℤ)
      → length (completed cells from to) ≡ length d.columns
      → is_within d (Some portion) (completed cells from to) ≡ true → is_looked_at o cells ≡ true
  portion_found portion None e o s cells from to wide m = ap (λ q. is_looked_at q cells) s
  portion_found portion (Some a) e o s cells from to wide m =
      let row = completed cells from to in
      ap (λ q. is_looked_at q cells) s.is
      ∙ subst (λ (q : Period). share_a_point q portion ≡ true)
      (ap (λ b. period_by b row) e ∙ same_period a s.stored s.start s.end cells from to wide) m

  -- ---- by conjuncts

  module _ (points : PointsAreMet) (stretches : StretchesAreMet) (conds : List Cond) where
    lasting : (a : Application) → d.application ≡ Some a → (row : Row)
        → IsRow (period_columns d) (length d.columns) row → Lasts row (a.start, a.end)
    lasting a has row r =
        r.lasts (a.start, a.end) (ap (option_map (λ (b : Application). (b.start, b.end))) has)

    found : (a : Application) → d.application ≡ Some a → (stored : ℕ × ℕ) → IsStoredAt d a.start stored.0
        → IsStoredAt d a.end stored.1 → (o : Option ℤ) (p : Option Period) → point_in a.start a.end conds ≡ o
        → stretch_in a.start a.end conds ≡ p → (cells : Row) (from to : ℤ)
        → IsRow (period_columns d) (length d.columns) (completed cells from to)
        → meets conds (completed cells from to) ≡ true → is_looked_at (sought_between stored o p) cells ≡ true
    found a has stored start end (Some x) p e f cells from to r m =
        let row = completed cells from to in
        subst (λ (q : Period). holds q x ≡ true) (same_period a stored start end cells from to r.wide)
        (points conds row m a.start a.end x (lasting a has row r).points e)
    found a has stored start end None (Some x) e f cells from to r m =
        let row = completed cells from to in
        subst (λ (q : Period). share_a_point q x ≡ true) (same_period a stored start end cells from to r.wide)
        (stretches conds row m a.start a.end x (lasting a has row r).points (lasting a has row r).rising f)
    found a has stored start end None None e f cells from to r m = refl

    -- a row that meets the conjuncts is looked at
    pub said_found : (b : Option Application) → d.application ≡ b → (o : Option Sought) → IsSaidBy d conds b o
        → (cells : Row) (from to : ℤ) → IsRow (period_columns d) (length d.columns) (completed cells from to)
        → meets conds (completed cells from to) ≡ true → is_looked_at o cells ≡ true
    said_found None e o s cells from to r m = ap (λ q. is_looked_at q cells) s
    said_found (Some a) e o s cells from to r m =
        ap (λ q. is_looked_at q cells) s.is
        ∙ found a e s.stored s.start s.end (point_in a.start a.end conds) (stretch_in a.start a.end conds) refl refl
        cells from to r m

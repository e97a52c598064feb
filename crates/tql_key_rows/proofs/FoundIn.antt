-- The rows that a store finds by stored columns and a period: those with the tuple that share a point with it.
use Rattle.std.proofs.Common.{◌≡◌, refl, sym, ap, ◌∙◌, ℕ, Bool, true, false, cond, List, [], ◌∷◌, map, filter, length}
use Rattle.std.specs.Prelude.{◌&&◌, Option, Some, None}
use Rattle.std.specs.List.{sum_by}
use Rattle.tql_spec.specs.Bag.{SameBag}
use Rattle.tql_spec.specs.Calendar.{high}
use Rattle.tql_spec.specs.Datum.{Datum, Row}
use Rattle.tql_spec.specs.Definition.{Application, TableDef, Stamped, period_between, period_by, period_of, point_of}
use Rattle.tql_spec.specs.Definition.{shown}
use Rattle.tql_spec.specs.Period.{Period, share_a_point, where_rising}
use Rattle.tql_catalog.specs.Rows.{AreStoredAt, stored_width}
use Rattle.tql_catalog.specs.Sought.{IsPeriodStoredAt}
use Rattle.tql_catalog.specs.declared.catalog.Table.{Table}
use Rattle.tql_store.specs.StoreModel.{StoreModel}
use Rattle.tql_store.specs.Views.{IsFound}
use Rattle.tql_store_index.specs.Tuple.{is_at}
use Rattle.tql_versions.specs.declared.version.Version.{Version}
use Rattle.tql_value.specs.declared.when.When.TheVariants.{Now}
use Rattle.tql_key_rows.specs.Asked.{AreRowsOf, row_found, rows_in, rows_with}
use Rattle.tql_key_rows.specs.Touched.{has_tuple, is_touched}
use Rattle.tql_key_rows.proofs.Bools.{and_yes}
use Rattle.tql_key_rows.proofs.FoundRows.{rows_passing, stored_tuple}
use Rattle.tql_key_rows.proofs.Sharing.{falling_first, falling_second, not_risen, risen}

-- without a period: the rows with the tuple
pub in_without : (d : TableDef) (cs : List ℕ) (vs : List Datum) (b : Bool) (x : Period) (rows : List Stamped)
    → b ≡ false → rows_with d cs vs rows ≡ rows_in d cs vs b x rows
in_without d cs vs b x rows e =
    ap (λ (p : Stamped → Bool). filter p rows) (λ i r. (sym (and_yes (has_tuple cs vs (shown d r)))) i)
    ∙ sym (ap (λ c. rows_in d cs vs c x rows) e)

-- the period of a row with its table's width, from its stored cells
pub stored_period : (d : TableDef) (o : Option Application) (ends : ℕ × ℕ) → d.application ≡ o
    → IsPeriodStoredAt d o (Some ends) → (r : Stamped) → length r.cells ≡ stored_width d
    → period_between r.cells ends.0 ends.1 ≡ period_of d (shown d r)
stored_period d None ends e timed r wide = absurd timed
stored_period d (Some a) ends e timed r wide =
    sym (ap (λ q. period_by q (shown d r)) e
    ∙ (λ i. record {
      start = point_of (timed.0 r.cells r.start high wide i);
      end = point_of (timed.1 r.cells r.start high wide i);
    }))

-- the rows with the tuple that share a point with the period
pub rows_in_are_found : (h : StoreModel) (table : Table) (cs ks : List ℕ) (vs : List Datum) (ends : ℕ × ℕ)
    (x y : Period) (b : Bool) (found : List Version) → AreStoredAt table.definition cs ks
    → IsPeriodStoredAt table.definition table.definition.application (Some ends) → Some y ≡ where_rising x → b ≡ true
    → IsFound h table.id Now (λ row. is_at ks vs row && share_a_point (period_between row ends.0 ends.1) y) found
    → (rows : List Stamped) → AreRowsOf h table rows
    → SameBag (map row_found found) (rows_in table.definition cs vs b x rows)
rows_in_are_found h table cs ks vs ends x y b found stored timed is_x by is rows of =
    let d = table.definition in
    let bag = rows_passing h table (λ row. is_at ks vs row && share_a_point (period_between row ends.0 ends.1) y)
    (λ row. has_tuple cs vs row && share_a_point (period_of d row) y) found
    (λ r wide. ap (λ c. c && share_a_point (period_between r.cells ends.0 ends.1) y)
    (stored_tuple d cs ks vs r stored wide)
    ∙ ap (λ p. has_tuple cs vs (shown d r) && share_a_point p y)
    (stored_period d d.application ends refl timed r wide)) is rows of in
    record {
      totals = λ w. bag.totals w ∙ ap (λ p. sum_by w (rows_in d cs vs true p rows)) (risen x y is_x)
          ∙ sym (ap (λ c. sum_by w (rows_in d cs vs c x rows)) by);
    }

-- none of them shares a point
none_kept : (h q : Stamped → Bool) (rows : List Stamped) → ((r : Stamped) → q r ≡ false)
    → [] ≡ filter (λ r. h r && q r) rows
none_kept h q [] n = refl
none_kept h q (r ∷ rows) n =
    none_kept h q rows n
    ∙ sym (ap (λ c. cond c (r ∷ filter (λ s. h s && q s) rows) (filter (λ s. h s && q s) rows))
    (ap (λ c. h r && c) (n r) ∙ and_no (h r)))
  where
    and_no : (c : Bool) → c && false ≡ false
    and_no true = refl
    and_no false = refl

none_in : (d : TableDef) (cs : List ℕ) (vs : List Datum) (b : Bool) (x : Period) (rows : List Stamped) → b ≡ true
    → ((r : Row) → share_a_point (period_of d r) x ≡ false) → [] ≡ rows_in d cs vs b x rows
none_in d cs vs b x rows e n =
    none_kept (λ r. has_tuple cs vs (shown d r)) (λ r. is_touched d true x (shown d r)) rows (λ r. n (shown d r))
    ∙ sym (ap (λ c. rows_in d cs vs c x rows) e)

-- an empty period, or a table without an application period, yields no rows
pub none_in_falling : (d : TableDef) (cs : List ℕ) (vs : List Datum) (b : Bool) (x : Period) (rows : List Stamped)
    → b ≡ true → None ≡ where_rising x → [] ≡ rows_in d cs vs b x rows
none_in_falling d cs vs b x rows e f =
    none_in d cs vs b x rows e (λ r. falling_second (period_of d r) x (not_risen x f))

pub none_in_timeless : (d : TableDef) (cs : List ℕ) (vs : List Datum) (b : Bool) (x : Period) (rows : List Stamped)
    → b ≡ true → IsPeriodStoredAt d d.application None → [] ≡ rows_in d cs vs b x rows
none_in_timeless d cs vs b x rows e timed =
    none_in d cs vs b x rows e (λ r. by_option d.application refl timed r)
  where
    by_option : (o : Option Application) → d.application ≡ o → IsPeriodStoredAt d o None → (r : Row)
        → share_a_point (period_of d r) x ≡ false
    by_option None q t r = ap (λ p. share_a_point (period_by p r) x) q ∙ falling_first (period_by None r) x refl
    by_option (Some a) q t r = absurd t

-- the same with equal columns and values
pub found_in_as : (d : TableDef) (cs ks : List ℕ) (vs ws : List Datum) (b : Bool) (x : Period) (rows : List Stamped)
    (found : List Version) → cs ≡ ks → vs ≡ ws → SameBag (map row_found found) (rows_in d cs vs b x rows)
    → SameBag (map row_found found) (rows_in d ks ws b x rows)
found_in_as d cs ks vs ws b x rows found p q h = record {
  totals = λ w. h.totals w ∙ ap (λ c. sum_by w (rows_in d c vs b x rows)) p
      ∙ ap (λ v. sum_by w (rows_in d ks v b x rows)) q;
}

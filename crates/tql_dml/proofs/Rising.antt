-- Rows without a fault fit their table: their application periods rise.
use Rattle.std.specs.Prelude.{◌≡◌, refl, ℕ, zero, suc, ◌<◌, pos, Bool, true, false, not, ◌&&◌, int_lt, IsTrue}
use Rattle.std.specs.Prelude.{List, [], ◌∷◌, ◌++◌, map, length, slice_index_or, All, Option, Some, None}
use Rattle.std.proofs.Common.{sym, ap, ◌∙◌, arith}
use Rattle.std.proofs.lemmas.List.Elements.{All-nil, All-cons}
use Rattle.tql_spec.specs.Calendar.{high}
use Rattle.tql_spec.specs.Datum.{Row, is_null}
use Rattle.tql_spec.specs.Refusal.{Refusal, ValueOutOfRange, NullNotAllowed, PeriodNotRising, first, fault_if}
use Rattle.tql_spec.specs.Definition.{Column, Application, TableDef, with_generated, cell, point_of}
use Rattle.tql_spec.specs.Change.{cell_faults, is_too_long}
use Rattle.tql_catalog.specs.Defined.{IsDefinition, is_application_period}
use Rattle.tql_catalog.specs.Rows.{IsRowOf, HasRisingPeriod, RisesBy}
use Rattle.tql_catalog.proofs.Definitions.{has_its_system}
use Rattle.tql_value.specs.Points.{IsPrintable}
use Rattle.tql_dml.specs.Cells.{stored_columns, falls_by, unstamped, checks_faults, stored_faults, rows_faults}
use Rattle.tql_dml.proofs.FaultLaws.{shown_law}
use Rattle.tql_dml.proofs.Unstamped.{SameEnds, are_ends, ends_stay}
use Rattle.tql_dml.proofs.Inserting.{kept_columns}
use Rattle.tql_catalog.proofs.Kept.{kept}
use Rattle.tql_dml.proofs.Rows.{Fit, kept_width, shown_width}

left_none : {X : Type 0} (xs ys : List X) → xs ++ ys ≡ [] → xs ≡ []
left_none [] ys h = refl
left_none (x ∷ xs) ys h = absurd cc

right_none : {X : Type 0} (xs ys : List X) → xs ++ ys ≡ [] → ys ≡ []
right_none [] ys h = h
right_none (x ∷ xs) ys h = absurd cc

not_present : (b : Bool) (e : Refusal) → fault_if b e ≡ [] → b ≡ false
not_present true e h = absurd cc
not_present false e h = refl

no_null : (required null : Bool) → required && null ≡ false → required ≡ true → null ≡ false
no_null true null h e = h
no_null false null h e = absurd cc

-- a required value is there
required_there : (cs : List Column) (row : Row) (i : ℕ) → cell_faults cs row ≡ [] → i < length cs
    → length row ≡ length cs
    → slice_index_or (map (λ (c : Column). c.required) cs) i false ≡ true → is_null (cell row i) ≡ false
required_there [] row i h l w r = absurd (omega arith)
required_there (c ∷ cs) [] i h l w r = absurd (omega arith)
required_there (c ∷ cs) (v ∷ vs) zero h l w r =
    let long : List Refusal = fault_if (is_too_long c.limit v) ValueOutOfRange in
    let missing : List Refusal = fault_if (c.required && is_null v) NullNotAllowed in
    no_null c.required (is_null v)
    (not_present (c.required && is_null v) NullNotAllowed
    (right_none long missing (left_none (long ++ missing) (cell_faults cs vs) h))) r
required_there (c ∷ cs) (v ∷ vs) (suc i) h l w r =
    let here : List Refusal =
    fault_if (is_too_long c.limit v) ValueOutOfRange ++ fault_if (c.required && is_null v) NullNotAllowed in
    required_there cs vs i (right_none here (cell_faults cs vs) h) (omega arith) (omega arith) r

-- two ends that are not NULL, and do not fall, rise
not_falling : (s e p : Bool) → not s && not e && not p ≡ false → s ≡ false → e ≡ false → p ≡ true
not_falling true e p h k l = absurd cc
not_falling false true p h k l = absurd cc
not_falling false false true h k l = refl
not_falling false false false h k l = absurd cc

risen_by : (o : Option Application) (d : TableDef) (row shown : Row)
    → IsTrue (is_application_period d.columns d.system o) → cell_faults d.columns shown ≡ []
    → length shown ≡ length d.columns
    → falls_by o shown ≡ false → SameEnds o row shown → RisesBy o row
risen_by None d row shown p h w f same = tt
risen_by (Some a) d row shown p h w f same =
    let ends = are_ends d.columns d.system a p in
    let start : is_null (cell shown a.start) ≡ false =
    required_there d.columns shown a.start h ends.start.within w ends.start.required in
    let end : is_null (cell shown a.end) ≡ false =
    required_there d.columns shown a.end h ends.end.within w ends.end.required in
    record {
      start = ap is_null same.start ∙ start;
      end = ap is_null same.end ∙ end;
      rising = (λ i. int_lt (point_of (same.start i)) (point_of (same.end i)))
          ∙ not_falling (is_null (cell shown a.start)) (is_null (cell shown a.end))
          (int_lt (point_of (cell shown a.start)) (point_of (cell shown a.end))) f start end;
    }

-- the application period of a row without a fault rises
risen : (d : TableDef) (cells : Row) → IsDefinition d → length cells ≡ length (kept d.system d.columns)
    → stored_faults d cells ≡ [] → HasRisingPeriod d cells
risen d cells h k none = λ m e.
    let shown : Row = unstamped d cells in
    let own : List Refusal = cell_faults (stored_columns d) cells in
    let fallen : List Refusal = fault_if (falls_by d.application shown) PeriodNotRising in
    let plain : own ++ fallen ≡ [] = left_none (own ++ fallen) (checks_faults d.checks shown) none in
    let quiet : cell_faults d.columns shown ≡ [] =
    shown_law d.system d.columns cells (pos 0) high (has_its_system d h) k
    ∙ ap (λ cs. cell_faults cs cells) (kept_columns d h)
    ∙ left_none own fallen plain in
    risen_by d.application d (with_generated d.system cells m e) shown h.application quiet
    (shown_width d (record { cells = cells; start = pos 0 }) h (k ∙ kept_width d h))
    (not_present (falls_by d.application shown) PeriodNotRising (right_none own fallen plain))
    (ends_stay d cells m e (pos 0) high h k)

-- ---- rows

no_first : (fs : List Refusal) → None ≡ first fs → fs ≡ []
no_first [] h = refl
no_first (f ∷ fs) h = absurd cc

each_sound : (d : TableDef) (rows : List Row) → rows_faults d rows ≡ [] → All (λ cells. stored_faults d cells ≡ []) rows
each_sound d [] h = All-nil (λ (cells : Row). stored_faults d cells ≡ [])
each_sound d (row ∷ rows) h =
    All-cons (λ (cells : Row). stored_faults d cells ≡ []) row rows
    (left_none (stored_faults d row) (rows_faults d rows) h)
    (each_sound d rows (right_none (stored_faults d row) (rows_faults d rows) h))

-- rows without a fault fit the table, if they have its width and their values have texts
pub rows_fit : (d : TableDef) (rows : List Row) → IsDefinition d → Fit d rows → All (All IsPrintable) rows
    → None ≡ first (rows_faults d rows) → All (IsRowOf d) rows
rows_fit d rows h wide prints none =
    let sound : All (λ cells. stored_faults d cells ≡ []) rows =
    each_sound d rows (no_first (rows_faults d rows) none) in
    λ k z l. record {
      width = wide k z l;
      printable = prints k z l;
      rising = risen d (slice_index_or rows k z) h (wide k z l ∙ sym (kept_width d h)) (sound k z l);
    }

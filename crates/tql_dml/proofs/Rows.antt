-- The widths of stored rows, of full rows and of replacement rows; and the faults of rows of the right width.
use Rattle.std.specs.Prelude.{◌≡◌, refl, ℕ, ◌+◌, ◌<◌, ◌≤◌, ◌≢◌, ℤ, Bool, true, false, nat_lt, List, [], ◌∷◌, ◌++◌}
use Rattle.std.specs.Prelude.{map, length, insert, All, Option, Some, None, ⊤, if◌then◌else◌}
use Rattle.std.specs.List.{flat_map, AllByRecursion}
use Rattle.std.proofs.Common.{sym, ap, ◌∙◌, arith, inl, inr}
use Rattle.std.proofs.lemmas.List.{length-map}
use Rattle.std.proofs.lemmas.List.Edits.{length-insert}
use Rattle.std.proofs.lemmas.List.Elements.{All-head, All-tail, All-append, All-nil, All-from_recursion}
use borrow.Author.Tests.{ltb-true, ltb-false}
use Rattle.tql_spec.specs.Words.{◌>>=◌}
use Rattle.tql_spec.specs.Datum.{Row, Moment}
use Rattle.tql_spec.specs.Calendar.{high}
use Rattle.tql_spec.specs.Definition.{Column, System, TableDef, Stamped, with_generated, without_generated, shown, cell}
use Rattle.tql_spec.specs.Expression.{Cond}
use Rattle.tql_spec.specs.Change.{Work, made_of, pieces, is_touched, row_faults}
use Rattle.tql_spec.specs.Period.{Period}
use Rattle.tql_spec.proofs.Widths.{AllWide, made_wide, pieces_wide}
use Rattle.tql_spec.specs.Binding.{all_assignable}
use Rattle.tql_catalog.specs.Defined.{IsDefinition}
use Rattle.tql_catalog.specs.Rows.{has_system, stored_width}
use Rattle.tql_catalog.proofs.Definitions.{has_its_system}
use Rattle.tql_versions.specs.Readings.{version_shown as version_of}
use Rattle.tql_versions.specs.declared.version.Version.{Version}
use Rattle.tql_dml.specs.Cells.{faults_by, stored_faults as faults_of, rows_faults}
use Rattle.tql_dml.specs.Parts.{Parts, before, touched_part, part_where, part_of, parts}
use Rattle.tql_dml.proofs.FaultLaws.{plain_faults}
use Rattle.tql_dml.proofs.Filling.{kept_cells}
use Rattle.tql_dml.proofs.Inserting.{kept_columns}
use Rattle.tql_catalog.proofs.Kept.{kept, Within, within, two_less}

-- the number of stored columns
pub kept_width : (d : TableDef) → IsDefinition d → length (kept d.system d.columns) ≡ stored_width d
kept_width d s = ap length (kept_columns d s) ∙ length-map (all_assignable d) _

-- ---- full rows

two_inserted : (s : System) (cells : Row) (n : ℕ) (m e : ℤ) (b : Bool) → nat_lt s.start s.end ≡ b → Within s n
    → length cells + 2 ≡ n
    → length (if b then insert (insert cells s.start (Moment m)) s.end (Moment e) else insert
    (insert cells s.end (Moment e)) s.start (Moment m)) ≡ n
two_inserted s cells n m e true h w k =
    let l : s.start < s.end = ltb-true s.start s.end h in
    let i = w.end in
    let o = length-insert cells s.start (Moment m) (omega arith) in
    let p = length-insert (insert cells s.start (Moment m)) s.end (Moment e) (omega arith) in omega arith
two_inserted s cells n m e false h w k =
    let most : s.end ≤ s.start = ltb-false s.start s.end h in
    let apart : s.start ≢ s.end = w.apart in
    let i = w.start in
    let o = length-insert cells s.end (Moment e) (omega arith) in
    let p = length-insert (insert cells s.end (Moment e)) s.start (Moment m) (omega arith) in omega arith

generated_width : (s : Option System) (cs : List Column) (cells : Row) (m e : ℤ) → has_system s (length cs) ≡ true
    → length cells ≡ length (kept s cs)
    → length (with_generated s cells m e) ≡ length cs
generated_width None cs cells m e h k = k
generated_width (Some s) cs cells m e h k =
    let w = within s (length cs) h in
    let n = two_less s cs (nat_lt s.start s.end) refl w in
    two_inserted s cells (length cs) m e (nat_lt s.start s.end) refl w (omega arith)

-- a full row has all columns
pub shown_width : (d : TableDef) (r : Stamped) → IsDefinition d → length r.cells ≡ stored_width d
    → length (shown d r) ≡ length d.columns
shown_width d r s k = generated_width d.system d.columns r.cells r.start high (has_its_system d s) (k
    ∙ sym (kept_width d s))

-- without the generated columns it has the stored width
without_width : (d : TableDef) (row : Row) → IsDefinition d → length row ≡ length d.columns
    → length (without_generated d.system row) ≡ stored_width d
without_width d row s k = ap length (kept_cells d row s k) ∙ length-map (all_assignable d) (cell row)

-- ---- rows that a modification adds

-- the added rows have the stored width
abbrev pub Fit : TableDef → List Row → Type 0
Fit d rows = All (λ (cells : Row). length cells ≡ stored_width d) rows

abbrev pub PartsFit : TableDef → Option Parts → Type 0
PartsFit d None = ⊤
PartsFit d (Some p) = Fit d p.come

pub both_fit : (d : TableDef) (p q : Option Parts) → PartsFit d p → PartsFit d q → PartsFit d (p >>= λ x. before x q)
both_fit d None q h k = tt
both_fit d (Some x) None h k = tt
both_fit d (Some x) (Some y) h k = All-append (λ (cells : Row). length cells ≡ stored_width d) x.come y.come h k

-- full rows without their generated columns fit
all_fit : (d : TableDef) (rows : List Row) → IsDefinition d → AllWide (length d.columns) rows
    → AllByRecursion (λ (cells : Row). length cells ≡ stored_width d) (map (without_generated d.system) rows)
all_fit d [] s h = tt
all_fit d (x ∷ xs) s h = (without_width d x s (h x (inl refl)), all_fit d xs s (λ y m. h y (inr m)))

touched_fits : (d : TableDef) (portion : Option Period) (work : Work) (id : ℕ) (row : Row) → IsDefinition d
    → length row ≡ length d.columns → PartsFit d (touched_part d portion work id row)
touched_fits d portion work id row s h = at_made (made_of work row) refl
  where
    at_made : (o : Option (List Row)) → made_of work row ≡ o
        → PartsFit d (o >>= λ made. Some
        (record { gone = id ∷ []; come = map (without_generated d.system) (pieces d portion row made) }))
    at_made None e = tt
    at_made (Some made) e =
        All-from_recursion (λ (cells : Row). length cells ≡ stored_width d)
        (map (without_generated d.system) (pieces d portion row made))
        (all_fit d (pieces d portion row made) s
        (λ x m. pieces_wide d portion row made (made_wide work row made e) x m ∙ h))

where_fits : (d : TableDef) (t : Option Bool) (o : Option Parts) → PartsFit d o → PartsFit d (t >>= λ b. part_where b o)
where_fits d None o h = tt
where_fits d (Some true) o h = h
where_fits d (Some false) o h = All-nil (λ (cells : Row). length cells ≡ stored_width d)

-- versions of the table's rows
abbrev pub AreRows : TableDef → List Version → Type 0
AreRows d found = All (λ (v : Version). length v.kept.now.row ≡ stored_width d) found

pub parts_fit : (d : TableDef) (portion : Option Period) (work : Work) (conds : List Cond) (found : List Version)
    → IsDefinition d → AreRows d found → PartsFit d (parts d portion work conds found)
parts_fit d portion work conds [] s h = All-nil (λ (cells : Row). length cells ≡ stored_width d)
parts_fit d portion work conds (v ∷ vs) s h =
    let row : Row = shown d (version_of v).row in
    let wide : length row ≡ length d.columns =
    shown_width d (version_of v).row s (All-head (λ (w : Version). length w.kept.now.row ≡ stored_width d) v vs h) in
    both_fit d (part_of d portion work conds v.id row) (parts d portion work conds vs)
    (where_fits d (is_touched d portion conds row) (touched_part d portion work v.id row)
    (touched_fits d portion work v.id row s wide))
    (parts_fit d portion work conds vs s (All-tail (λ (w : Version). length w.kept.now.row ≡ stored_width d) v vs h))

-- ---- their faults

-- the faults of rows of the right width are those of their stored cells
pub stored_faults : (d : TableDef) (rs : List Stamped) → IsDefinition d → Fit d (map (λ (r : Stamped). r.cells) rs)
    → flat_map (λ r. row_faults d (shown d r)) rs ≡ rows_faults d (map (λ (r : Stamped). r.cells) rs)
stored_faults d [] s h = refl
stored_faults d (r ∷ rs) s h =
    let wide : length r.cells ≡ length (kept d.system d.columns) =
    All-head (λ (cells : Row). length cells ≡ stored_width d) r.cells _ h ∙ sym (kept_width d s) in
    let here : row_faults d (shown d r) ≡ faults_of d r.cells =
    plain_faults d r s wide
    ∙ ap (λ cs. faults_by cs d.checks d r.cells) (kept_columns d s) in
    λ i. here i ++ stored_faults d rs s (All-tail (λ (cells : Row). length cells ≡ stored_width d) r.cells _ h) i

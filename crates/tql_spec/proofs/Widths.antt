-- Rows have one cell for each column of their table that is not generated.
use Rattle.std.proofs.Common.{◌≡◌, ◌<◌, refl, sym, ap, subst, ◌∙◌, ℕ, ◌+◌, zero, suc, Bool, true, false, List, [], ◌∷◌}
use Rattle.std.proofs.Common.{◌++◌, map, length, inl, inr, arith}
use Rattle.std.specs.Prelude.{insert, remove, replicate, slice_set, nat_lt, ℤ, Option, Some, None}
use Rattle.std.proofs.lemmas.Bool.Decides.{nat_tests}
use Rattle.std.proofs.lemmas.List.{length-replicate}
use Rattle.std.proofs.lemmas.List.Edits.{length-remove}
use Rattle.std.proofs.Math.ListN.{length-set}
use Rattle.tql_spec.specs.Words.{◌>>=◌, map_all}
use Rattle.tql_spec.specs.Bag.{In}
use Rattle.tql_spec.specs.Calendar.{high}
use Rattle.tql_spec.specs.Datum.{Datum, Null, Moment, Row}
use Rattle.tql_spec.specs.Period.{Period, before, inside, after, if_any}
use Rattle.tql_spec.specs.Expression.{Cond, eval}
use Rattle.tql_spec.specs.Definition.{TableDef, Application, System, Stamped, table_at, period_of, with_period}
use Rattle.tql_spec.specs.Definition.{with_period_by, with_generated, without_generated, shown, stamped}
use Rattle.tql_spec.specs.History.{Copy, rows_in}
use Rattle.tql_spec.specs.Change.{Assignment, Fate, Replaced, Work, assigned, filled, new_row, fate, fate_where}
use Rattle.tql_spec.specs.Change.{made_of, is_touched, pieces, insert as insertion, modify, outcome_of}
use Rattle.tql_spec.specs.Machine.{State, Change, InsertTuples, InsertQuery, Modify, outcome, changed_table}
use Rattle.tql_spec.specs.Binding.{generated_columns}
use Rattle.tql_spec.specs.Reached.{Fits}
use Rattle.tql_spec.proofs.Members.{by_bool}
use Rattle.tql_spec.proofs.MemberLists.{in_either, in_image}
use Rattle.tql_spec.proofs.Steady.{old_or_made}

-- two different columns among n
pub record IsPair (n : ℕ) (s : System) : Type 0 where
  pub start_there : s.start < n
  pub end_there : s.end < n
  pub apart : s.start ≡ s.end → ⊥

-- the generated columns, if any, are two different columns of the table
abbrev pub IsProper : ℕ → Option System → Type 0
IsProper n o = (s : System) → o ≡ Some s → IsPair n s

-- ---- cells

-- inserting an element adds 1 to the length
inserted : {X : Type 0} (xs : List X) (i : ℕ) (x : X) → length (insert xs i x) ≡ length xs + 1
inserted [] zero x = refl
inserted [] (suc i) x = refl
inserted (y ∷ xs) zero x = omega arith
inserted (y ∷ xs) (suc i) x = let e = inserted xs i x in omega arith

-- the length of a row with its generated cells
pub with_length : (o : Option System) (cells : Row) (a b : ℤ)
    → length (with_generated o cells a b) ≡ length cells + length (generated_columns o)
with_length None cells a b = omega arith
with_length (Some s) cells a b = by_bool (nat_lt s.start s.end)
    (λ e. rw e (omega (
      arith,
      inserted (insert cells s.start (Moment a)) s.end (Moment b),
      inserted cells s.start (Moment a),
    )))
    (λ e. rw e (omega (
      arith,
      inserted (insert cells s.end (Moment b)) s.start (Moment a),
      inserted cells s.end (Moment b),
    )))

-- the length of a row without its generated cells
pub without_length : (o : Option System) (row : Row) → IsProper (length row) o
    → length (without_generated o row) + length (generated_columns o) ≡ length row
without_length None row k = omega arith
without_length (Some s) row k = by_bool (nat_lt s.start s.end)
    (λ e. rw e (below e (k s refl)))
    (λ e. rw e (above e (k s refl)))
  where
    below : nat_lt s.start s.end ≡ true → IsPair (length row) s
        → length (remove (remove row s.end) s.start) + 2 ≡ length row
    below e p =
        let l : s.start < s.end = grind (arith, nat_tests) in
        let q : length (remove row s.end) + 1 ≡ length row = length-remove row s.end p.end_there in
        let h = p.end_there in
        let r = length-remove (remove row s.end) s.start (omega arith) in
        omega (arith, r)

    above : nat_lt s.start s.end ≡ false → IsPair (length row) s
        → length (remove (remove row s.start) s.end) + 2 ≡ length row
    above e p =
        let other = p.apart in
        let l : s.end < s.start = grind (arith, nat_tests) in
        let q : length (remove row s.start) + 1 ≡ length row = length-remove row s.start p.start_there in
        let h = p.start_there in
        let r = length-remove (remove row s.start) s.end (omega arith) in
        omega (arith, r)

-- the number of columns of a table
abbrev pub width : TableDef → ℕ
width d = length d.columns

-- the table's generated columns are two of its own
abbrev pub Sound : TableDef → Type 0
Sound d = IsProper (length d.columns) d.system

-- a row that fits, as a change sees it, has a cell for each column
pub shown_length : (d : TableDef) (r : Stamped) → Fits d r → length (shown d r) ≡ width d
shown_length d r f = with_length d.system r.cells r.start high ∙ f

-- a full row fits when stamped
pub stamped_fits : (d : TableDef) (m : ℤ) (row : Row) → Sound d → length row ≡ width d → Fits d (stamped d m row)
stamped_fits d m row k e = without_length d.system row (subst (λ n. IsProper n d.system) (sym e) k) ∙ e

-- ---- rows that a change makes

-- filling cells does not change the length
pub filled_length : (row : Row) (columns : List ℕ) (values : List Datum)
    → length (filled row columns values) ≡ length row
filled_length row [] values = refl
filled_length row (c ∷ cs) [] = refl
filled_length row (c ∷ cs) (v ∷ vs) = filled_length (slice_set row c v) cs vs ∙ length-set row c v

-- assigning cells does not change the length
pub assigned_length : (old row : Row) (sets : List Assignment) (new : Row) → assigned old row sets ≡ Some new
    → length new ≡ length row
assigned_length old row [] new e = let q : row ≡ new = cc in ap length (sym q)
assigned_length old row (a ∷ more) new e = at_value (eval [] old a.value)
    (λ v. assigned_length old (slice_set row a.column v) more new) e
  where
    at_value : (o : Option Datum)
        → ((v : Datum) → assigned old (slice_set row a.column v) more ≡ Some new
        → length new ≡ length (slice_set row a.column v))
        → (o >>= λ v. assigned old (slice_set row a.column v) more) ≡ Some new → length new ≡ length row
    at_value None ih q = absurd (cc)
    at_value (Some v) ih q = ih v q ∙ length-set row a.column v

-- setting a period does not change the length
pub with_period_length : (o : Option Application) (p : Period) (row : Row)
    → length (with_period_by o p row) ≡ length row
with_period_length None p row = refl
with_period_length (Some a) p row = length-set (slice_set row a.start _) a.end _ ∙ length-set row a.start _

-- each row has n cells
abbrev pub AllWide : ℕ → List Row → Type 0
AllWide n rows = (row : Row) → In row rows → length row ≡ n

-- the rows that a row becomes have the same length
pub made_wide : (work : Work) (row : Row) (made : List Row) → made_of work row ≡ Some made → AllWide (length row) made
made_wide Work.Remove row made e x m = let q : [] ≡ made = cc in absurd (subst (λ (xs : List Row). In x xs) (sym q) m)
made_wide (Work.Set sets) row made e x m = at_row (assigned row row sets) (assigned_length row row sets) e x m
  where
    at_row : (o : Option Row) → ((new : Row) → o ≡ Some new → length new ≡ length row)
        → (o >>= λ new. Some (new ∷ [])) ≡ Some made → AllWide (length row) made
    at_row None h q x m = absurd (cc)
    at_row (Some new) h q x m =
        let same : new ∷ [] ≡ made = cc in
        elim (subst (λ (xs : List Row). In x xs) (sym same) m) [ inl z ↦ ap length z ∙ h new refl | inr z ↦ absurd z ]

-- the pieces of a changed row have the same length
pub pieces_wide : (d : TableDef) (portion : Option Period) (row : Row) (made : List Row) → AllWide (length row) made
    → AllWide (length row) (pieces d portion row made)
pieces_wide d None row made h x m = h x m
pieces_wide d (Some portion) row made h x m = elim
    (in_either x (map (λ p. with_period d p row) (if_any (before portion.start y))
    ++ map (λ r. with_period d (inside portion y) r) made) rest m) [
      | inl n ↦ elim (in_either x (map (λ p. with_period d p row) (if_any (before portion.start y)))
          (map (λ r. with_period d (inside portion y) r) made) n) [
            | inl k ↦ own (if_any (before portion.start y)) k
            | inr k ↦ let i = in_image (λ r. with_period d (inside portion y) r) x made k in ap length i.2
                ∙ with_period_length d.application (inside portion y) i.0 ∙ h i.0 i.1
          ]
      | inr k ↦ own (if_any (after portion.end y)) k
    ]
  where
    y : Period
    y = period_of d row

    rest : List Row
    rest = map (λ p. with_period d p row) (if_any (after portion.end y))

    own : (ps : List Period) → In x (map (λ p. with_period d p row) ps) → length x ≡ length row
    own ps n =
        let i = in_image (λ p. with_period d p row) x ps n in ap length i.2 ∙ with_period_length d.application i.0 row

-- each of the rows fits
abbrev pub AllFit : TableDef → List Stamped → Type 0
AllFit d rows = (r : Stamped) → In r rows → Fits d r

-- full rows fit when stamped
pub stamped_all : (d : TableDef) (m : ℤ) (rows : List Row) → Sound d → AllWide (width d) rows
    → AllFit d (map (stamped d m) rows)
stamped_all d m rows k h r n =
    let i = in_image (stamped d m) r rows n in subst (Fits d) (sym i.2) (stamped_fits d m i.0 k (h i.0 i.1))

-- the rows that replace a row that fits, fit
pub fate_fits : (d : TableDef) (m : ℤ) (portion : Option Period) (work : Work) (conds : List Cond) → Sound d
    → (r : Stamped) → Fits d r → (new : List Stamped)
    → fate d m portion work conds (shown d r) ≡ Some (Replaced new) → AllFit d new
fate_fits d m portion work conds k r f new q = touched (is_touched d portion conds (shown d r))
    (made_of work (shown d r)) (made_wide work (shown d r)) q
  where
    touched : (o : Option Bool) (made : Option (List Row))
        → ((rows : List Row) → made ≡ Some rows → AllWide (length (shown d r)) rows)
        → (o >>= λ b. fate_where b
        (made >>= λ rows. Some (Replaced (map (stamped d m) (pieces d portion (shown d r) rows))))) ≡ Some
        (Replaced new)
        → AllFit d new
    touched None made h e = absurd (cc)
    touched (Some false) made h e = absurd (cc)
    touched (Some true) None h e = absurd (cc)
    touched (Some true) (Some rows) h e =
        let same : map (stamped d m) (pieces d portion (shown d r) rows) ≡ new = cc in
        subst (AllFit d) same
        (stamped_all d m (pieces d portion (shown d r) rows) k
        (λ x n. pieces_wide d portion (shown d r) rows (h rows refl) x n ∙ shown_length d r f))

-- an INSERT leaves rows that fit
pub insert_fits : (d : TableDef) (m : ℤ) (rows : List Stamped) (columns : List ℕ) (o : Option (List (List Datum)))
    → Sound d → AllFit d rows → AllFit d (insertion d m rows columns o).rows
insert_fits d m rows columns None k f r n = f r n
insert_fits d m rows columns (Some tuples) k f r n = elim
    (in_either r rows (map (λ values. stamped d m (new_row d columns values)) tuples) n) [
      | inl i ↦ f r i
      | inr i ↦ let j = in_image (λ values. stamped d m (new_row d columns values)) r tuples i in
          subst (Fits d) (sym j.2) (stamped_fits d m (new_row d columns j.0) k
          (filled_length (replicate (width d) Null) columns j.0 ∙ length-replicate (width d) Null))
    ]

-- an UPDATE or a DELETE leaves rows that fit
pub modify_fits : (d : TableDef) (m : ℤ) (rows : List Stamped) (portion : Option Period) (work : Work)
    (conds : List Cond) → Sound d → AllFit d rows → AllFit d (modify d m rows portion work conds).rows
modify_fits d m rows portion work conds k f = by_fates
    (map_all (λ r. fate d m portion work conds (shown d r)) rows) refl
  where
    by_fates : (o : Option (List Fate)) → map_all (λ r. fate d m portion work conds (shown d r)) rows ≡ o
        → AllFit d (outcome_of d rows o).rows
    by_fates None e r n = f r n
    by_fates (Some fates) e r n = elim (old_or_made (λ x. fate d m portion work conds (shown d x)) rows fates e r n) [
      | inl i ↦ f r i
      | inr i ↦ fate_fits d m portion work conds k i.row (f i.row i.among) i.new i.replaced r i.there
    ]

-- each change leaves rows that fit; used by the law of widths in runs
pub change_fits : (s : State) (m : ℤ) (copy : Copy) (c : Change) → Sound (table_at s.definitions (changed_table c))
    → AllFit (table_at s.definitions (changed_table c)) (rows_in copy (changed_table c))
    → AllFit (table_at s.definitions (changed_table c)) (outcome s m copy c).rows
change_fits s m copy (InsertTuples t columns tuples) =
    insert_fits (table_at s.definitions t) m (rows_in copy t) columns _
change_fits s m copy (InsertQuery t columns q) = insert_fits (table_at s.definitions t) m (rows_in copy t) columns _
change_fits s m copy (Modify t portion work conds) =
    modify_fits (table_at s.definitions t) m (rows_in copy t) portion work conds

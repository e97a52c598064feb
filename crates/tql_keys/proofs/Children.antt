-- A reference after a change to its child table is decided by the added rows.
use Rattle.std.proofs.Common.{◌≡◌, refl, sym, ap, ◌∙◌, ℕ, Bool, true, false, List, [], ◌∷◌, ◌++◌, map, filter}
use Rattle.std.specs.Prelude.{not, ◌&&◌, ◌||◌, ℤ, Option, Some, All}
use Rattle.std.specs.List.{list_all, list_any}
use Rattle.std.proofs.lemmas.List.{map-append, append-nil}
use Rattle.std.proofs.lemmas.List.Elements.{filter-append}
use Rattle.std.proofs.lemmas.List.Folds.{list_any-append}
use Rattle.tql_spec.specs.Bag.{SameBag}
use Rattle.tql_spec.specs.Datum.{Row}
use Rattle.tql_spec.specs.Definition.{TableDef, Reference, Stamped, period_of, shown}
use Rattle.tql_spec.specs.Constraint.{ReferenceTestIsRight, reference_holds, is_met, is_met_by, parents_of, shown_rows}
use Rattle.tql_store.specs.Changes.{starting, rows_after}
use Rattle.tql_key_rows.specs.Asked.{row_found, rows_in, new_rows}
use Rattle.tql_key_rows.specs.Coming.{any_with}
use Rattle.tql_key_rows.specs.Touched.{tuple, has_tuple, is_touched, with_tuple}
use Rattle.tql_key_clashes.specs.Named.{IsJudged, staying}
use Rattle.tql_keys.specs.Parents.{any_left}
use Rattle.tql_versions.specs.declared.version.Version.{Version}
use Rattle.tql_keys.proofs.Passing.{any_kept, found_any}
use Rattle.tql_keys.proofs.Gathering.{parents_is}
use Rattle.tql_keys.proofs.Near.{met_near}
use Rattle.tql_keys.proofs.RefLaw.{child_joined, child_kept}

pub all_stay : (rows : List Stamped) → filter (λ r. not false) rows ≡ rows
all_stay [] = refl
all_stay (r ∷ rows) = ap {B = List Stamped} (λ rs. r ∷ rs) (all_stay rows)

-- a change without removed or added rows leaves the rows as they are
pub unchanged : (m : ℤ) (rows : List Stamped) → rows_after m (λ r. false) [] rows ≡ rows
unchanged m rows = append-nil (filter (λ r. not false) rows) ∙ all_stay rows

-- the empty list of ids represents a change that removes no row
pub none_judged : (named : ℕ → Option Stamped) → IsJudged named (λ r. false) []
none_judged named id r e = refl

-- a reference that held holds after the change exactly if the added rows are met
pub child_after : (d p : TableDef) (f : Reference) (parents : List Stamped) (m : ℤ) (gone : Stamped → Bool)
    (added : List Row) (rows : List Stamped) (b : Bool)
    → reference_holds d p f (shown_rows p parents) (shown_rows d rows) ≡ true
    → b ≡ list_all (is_met d p f (shown_rows p parents)) (new_rows d m added)
    → b ≡ reference_holds d p f (shown_rows p parents) (shown_rows d (rows_after m gone added rows))
child_after d p f parents m gone added rows b h e =
    e
    ∙ sym (ap (reference_holds d p f (shown_rows p parents))
    (map-append (shown d) (staying gone rows) (map (starting m) added))
    ∙ child_joined d p f (shown_rows p parents) (shown_rows d (staying gone rows)) (new_rows d m added)
    (child_kept d p f (shown_rows p parents) (λ r. not (gone r)) rows h))

-- the parents that matter for a child row after a change to the parent table: the unchanged rows, by period only those
-- that share a point with it, and the added rows
abbrev pub parents_near : TableDef → TableDef → Reference → Row → List Row → List Row → List Row
parents_near c d f r stay new =
    filter (λ s. has_tuple f.parent_columns (tuple f.columns r) s && is_touched d f.by_period (period_of c r) s) stay
    ++ with_tuple f.parent_columns (tuple f.columns r) new

-- a test of these parents, expressed by the found rows
pub parents_told : (c d : TableDef) (f : Reference) (r : Row) (m : ℤ) (added : List Row) (rows : List Stamped)
    (named : ℕ → Option Stamped) (gone : Stamped → Bool) (removed : List ℕ) (found : List Version)
    → SameBag (map row_found found)
    (rows_in d f.parent_columns (tuple f.columns r) f.by_period (period_of c r) rows)
    → All (λ x. named x.id ≡ Some (row_found x)) found → IsJudged named gone removed → (test : Row → Bool)
    → list_any test (parents_near c d f r (shown_rows d (staying gone rows)) (new_rows d m added))
    ≡ any_left d removed test found || any_with f.parent_columns (tuple f.columns r) test (new_rows d m added)
parents_told c d f r m added rows named gone removed found bag names judged test =
    let near : Row → Bool = λ s. has_tuple f.parent_columns (tuple f.columns r) s
    && is_touched d f.by_period (period_of c r) s in
    list_any-append test (filter near (shown_rows d (staying gone rows)))
    (with_tuple f.parent_columns (tuple f.columns r) (new_rows d m added))
    ∙ ap (λ b. b || list_any test (with_tuple f.parent_columns (tuple f.columns r) (new_rows d m added)))
    (sym (found_any d near test rows named gone removed found bag names judged))
    ∙ ap (λ b. any_left d removed test found || b)
    (sym (any_kept (has_tuple f.parent_columns (tuple f.columns r)) test (new_rows d m added)))

-- these parents decide whether the child row is met
pub parents_decide : ReferenceTestIsRight → (c d : TableDef) (f : Reference) (r : Row) (m : ℤ) (gone : Stamped → Bool)
    (added : List Row) (rows : List Stamped)
    → is_met_by c d f.by_period (parents_near c d f r (shown_rows d (staying gone rows)) (new_rows d m added)) r
    ≡ is_met_by c d f.by_period (parents_of f (shown_rows d (rows_after m gone added rows)) r) r
parents_decide law c d f r m gone added rows =
    let h : Row → Bool = has_tuple f.parent_columns (tuple f.columns r) in
    met_near law c d h (shown_rows d (staying gone rows)) (filter h (new_rows d m added)) r f.by_period
    ∙ ap (λ (ps : List Row). is_met_by c d f.by_period ps r)
    (sym (parents_is f (shown_rows d (rows_after m gone added rows)) r
    ∙ ap (filter h) (map-append (shown d) (staying gone rows) (map (starting m) added))
    ∙ filter-append h (shown_rows d (staying gone rows)) (new_rows d m added)))

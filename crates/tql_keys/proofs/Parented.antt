-- A reference after a change to its parent table is decided by the removed rows.
use Rattle.std.proofs.Common.{◌≡◌, sym, ap, ◌∙◌, ℕ, Bool, true, false, List, [], ◌++◌, map, filter}
use Rattle.std.specs.Prelude.{ℤ, Option, Some, All}
use Rattle.std.specs.List.{list_all}
use Rattle.std.proofs.lemmas.List.{map-append}
use Rattle.tql_spec.specs.Bag.{SameBag}
use Rattle.tql_spec.specs.Datum.{Row}
use Rattle.tql_spec.specs.Definition.{TableDef, Reference, Stamped, period_of, shown}
use Rattle.tql_spec.specs.Constraint.{ReferenceTestIsRight, reference_holds, shown_rows}
use Rattle.tql_store.specs.Changes.{starting, rows_after}
use Rattle.tql_key_rows.specs.Asked.{row_found, rows_in, new_rows}
use Rattle.tql_key_rows.specs.Touched.{tuple}
use Rattle.tql_key_clashes.specs.Named.{staying, IsJudged, AreNamed}
use Rattle.tql_keys.specs.Named.{of_named}
use Rattle.tql_keys.specs.Spared.{is_child_of, is_spared}
use Rattle.tql_versions.specs.declared.version.Version.{Version}
use Rattle.tql_key_clashes.proofs.Freely.{found_all}
use Rattle.tql_keys.proofs.Children.{all_stay, none_judged}
use Rattle.tql_keys.proofs.GoneRows.{gone_by_ids}
use Rattle.tql_keys.proofs.RefLaw.{parent_changed}

-- a test of the child rows that were found is a test of the child rows of the parent row
pub children_told : (c p : TableDef) (f : Reference) (g : Row) (children : List Stamped)
    (named : ℕ → Option Stamped) (found : List Version)
    → SameBag (map row_found found)
    (rows_in c f.columns (tuple f.parent_columns g) f.by_period (period_of p g) children)
    → All (λ x. named x.id ≡ Some (row_found x)) found → (q : Row → Bool)
    → list_all (λ (x : Version). q (shown c (row_found x))) found
    ≡ list_all q (filter (is_child_of c p f g) (shown_rows c children))
children_told c p f g children named found bag names q =
    found_all c (is_child_of c p f g) q children named (λ r. false) [] found bag names (none_judged named)
    ∙ ap (λ (rs : List Stamped). list_all q (filter (is_child_of c p f g) (shown_rows c rs))) (all_stay children)

-- a reference that held holds after the change exactly if the child rows of the removed rows are met
pub parent_after : ReferenceTestIsRight → (c p : TableDef) (f : Reference) (m : ℤ) (gone : Stamped → Bool)
    (added : List Row) (rows base : List Stamped) (children : List Row) (named : ℕ → Option Stamped)
    (removed : List ℕ) (b : Bool) → SameBag rows base → AreNamed named base → IsJudged named gone removed
    → reference_holds c p f (shown_rows p rows) children ≡ true
    → b ≡ list_all (λ id. of_named (λ r. is_spared c p f (shown_rows p (rows_after m gone added rows)) children
    (shown p r)) (named id)) removed
    → b ≡ reference_holds c p f (shown_rows p (rows_after m gone added rows)) children
parent_after law c p f m gone added rows base children named removed b same all judged h e =
    e
    ∙ gone_by_ids (λ r. is_spared c p f (shown_rows p (rows_after m gone added rows)) children (shown p r)) named gone
    removed rows base same all judged
    ∙ ap (λ (ps : List Row). list_all (λ r. is_spared c p f ps children (shown p r)) (filter gone rows)) apart
    ∙ sym (parent_changed law c p f gone rows (new_rows p m added) children h)
    ∙ sym (ap (λ (ps : List Row). reference_holds c p f ps children) apart)
  where
    apart : shown_rows p (rows_after m gone added rows)
        ≡ shown_rows p (staying gone rows) ++ new_rows p m added
    apart = map-append (shown p) (staying gone rows) (map (starting m) added)

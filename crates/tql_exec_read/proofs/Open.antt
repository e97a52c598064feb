-- The rows of open versions, for scans that read the current rows.
use Rattle.std.proofs.Common.{◌≡◌, ℕ, ◌+◌, ◌<◌, Bool, true, false, cond, List, [], ◌∷◌, ◌++◌, map, drop, length}
use Rattle.std.proofs.Common.{append_assoc, refl, sym, ap, subst, ◌∙◌}
use Rattle.std.specs.Prelude.{Option, Some, None, slice_index_or}
use Rattle.std.proofs.lemmas.List.{append-nil, drop_more, map-append}
use Rattle.std.proofs.lemmas.List.Elements.{filter-append}
use Rattle.tql_spec.specs.Bag.{SameBag}
use Rattle.tql_spec.specs.Datum.{Row}
use Rattle.tql_spec.specs.Definition.{Version}
use Rattle.tql_spec.specs.Expression.{Cond, passes}
use Rattle.tql_spec.specs.History.{When, found}
use Rattle.tql_spec.specs.History as history
use Rattle.tql_spec.specs.Horizon.{is_before}
use Rattle.tql_spec.specs.Query.{keep}
use Rattle.tql_spec.specs.Words.{kept_if}
use Rattle.tql_value.specs.declared.when.When.TheVariants.{Now}
use Rattle.tql_expr.specs.Evaluated.{behind}
use Rattle.tql_versions.specs.Readings.{is_answer, open_ones, version_shown}
use Rattle.tql_versions.specs.Views.{version_of, versions_of}
use Rattle.tql_versions.specs.declared.kept.Kept.{Kept}
use Rattle.tql_versions.specs.declared.version.Version.{Version as Reading}
use Rattle.tql_store.specs.Represents.{Copies, Working, Represents, seen_by}
use Rattle.tql_store.specs.StoreModel.{StoreModel}
use Rattle.tql_store.specs.Views.{AreRowsNow}
use Rattle.tql_plan.specs.Nodes.{Scan}
use Rattle.tql_exec_read.specs.Found.{versions_in, IsReadable}

-- ---- a scan of the current rows

-- the open ones among the current versions are the versions of the scan
pub open_now : (h : StoreModel) (s : Scan) (vs : List Version) → IsReadable h s → s.when ≡ history.Now
    → AreRowsNow h s.table vs → (copies : Copies) (working : Working) → Represents h copies working
    → SameBag (open_ones vs) (versions_in h copies working s)
open_now h s vs readable now rows copies working r =
    subst (λ (w : When). SameBag (open_ones vs) (found w (seen_by h.working copies working s.table))) (sym now)
    (rows.copies (subst (λ (w : When). is_before h.horizon w ≡ false) now readable.within) copies working r)

-- the open ones of two lists of versions
pub open_both : (xs ys : List Kept)
    → open_ones (versions_of (xs ++ ys)) ≡ open_ones (versions_of xs) ++ open_ones (versions_of ys)
open_both xs ys =
    ap open_ones (map-append version_of xs ys) ∙ filter-append (is_answer Now) (versions_of xs) (versions_of ys)

-- the rows of the open versions
abbrev pub rows_of : (Version → Row) → List Kept → List Row
rows_of shown ks = map shown (open_ones (versions_of ks))

-- ---- loop over versions

-- rows before others that may be out of range
abbrev behind_rows : List Row → Option (List Row) → Option (List Row)
behind_rows rs None = None
behind_rows rs (Some ws) = Some (ws ++ rs)

abbrev behind_all : Option (List Row) → Option (List Row) → Option (List Row)
behind_all rest None = None
behind_all rest (Some ws) = behind ws rest

module _ (shown : Version → Row) (v : Version) (vs : List Version) where
  rows_more : (b : Bool) (old : List Row)
      → (old ++ map shown (cond b (v ∷ []) [])) ++ map shown vs ≡ old ++ map shown (cond b (v ∷ vs) vs)
  rows_more true old = append_assoc old (shown v ∷ []) (map shown vs)
  rows_more false old = ap (λ rs. rs ++ map shown vs) (append-nil old)

  module _ (conds : List Cond) where
    -- an open version adds its row if that passes; any other adds nothing
    passing_more : (b : Bool) (old new : List Row) → behind old (keep conds (map shown (cond b (v ∷ []) []))) ≡ Some new
        → behind new (keep conds (map shown vs)) ≡ behind old (keep conds (map shown (cond b (v ∷ vs) vs)))
    passing_more true old new e = by_test (passes [] (shown v) conds) (keep conds (map shown vs)) e
      where
        by_test : (t : Option Bool) (rest : Option (List Row)) → behind old (kept_if (shown v) t (Some [])) ≡ Some new
            → behind new rest ≡ behind old (kept_if (shown v) t rest)
        by_test None rest e = absurd (cc)
        by_test (Some true) None e = refl
        by_test (Some true) (Some rs) e = ap (behind_rows rs) (sym e)
            ∙ ap {B = Option (List Row)} (λ ws. Some ws) (append_assoc old (shown v ∷ []) rs)
        by_test (Some false) None e = refl
        by_test (Some false) (Some rs) e = ap (behind_rows rs) (sym e)
            ∙ ap {B = Option (List Row)} (λ ws. Some (ws ++ rs)) (append-nil old)
    passing_more false old new e = ap (behind_all (keep conds (map shown vs))) (sym e)
        ∙ ap (λ ws. behind ws (keep conds (map shown vs))) (append-nil old)

    -- if the conjuncts are out of range on that row, so is the whole
    passing_none : (b : Bool) (old : List Row) → behind old (keep conds (map shown (cond b (v ∷ []) []))) ≡ None
        → behind old (keep conds (map shown (cond b (v ∷ vs) vs))) ≡ None
    passing_none true old e = by_test (passes [] (shown v) conds) (keep conds (map shown vs)) e
      where
        by_test : (t : Option Bool) (rest : Option (List Row)) → behind old (kept_if (shown v) t (Some [])) ≡ None
            → behind old (kept_if (shown v) t rest) ≡ None
        by_test None rest e = refl
        by_test (Some true) rest e = absurd (cc)
        by_test (Some false) rest e = absurd (cc)
    passing_none false old e = absurd (cc)

-- ---- loop over the versions of a reading

-- one more version, whose row passes or does not
pub one_more_read : (shown : Version → Row) (vs : List Reading) (i : ℕ) (x : Reading) (conds : List Cond)
    (old new : List Row) (all : Option (List Row)) → i < length vs → x ≡ slice_index_or vs i x
    → behind old (keep conds (shown (version_shown x) ∷ [])) ≡ Some new
    → behind old (keep conds (map shown (map version_shown (drop i vs)))) ≡ all
    → behind new (keep conds (map shown (map version_shown (drop (i + 1) vs)))) ≡ all
one_more_read shown vs i x conds old new all l is e h =
    passing_more shown (version_shown x) (map version_shown (drop (i + 1) vs)) conds true old new e
    ∙ ap (λ (ws : List Reading). behind old (keep conds (map shown (map version_shown ws))))
    (sym (drop_more vs i x l ∙ ap {B = List Reading} (λ w. w ∷ drop (i + 1) vs) (sym is)))
    ∙ h

-- ---- loop over stored versions

module _ (shown : Version → Row) (ks : List Kept) (i : ℕ) (x : Kept) where
  -- the open versions left, from the next one on
  left_at : i < length ks → x ≡ slice_index_or ks i x → versions_of (drop i ks)
      ≡ version_of x ∷ versions_of (drop (i + 1) ks)
  left_at l is = ap versions_of (drop_more ks i x l ∙ ap {B = List Kept} (λ y. y ∷ drop (i + 1) ks) (sym is))

  pub one_more_open : (old new all : List Row) → i < length ks → x ≡ slice_index_or ks i x
      → new ≡ old ++ rows_of shown (x ∷ []) → old ++ rows_of shown (drop i ks) ≡ all
      → new ++ rows_of shown (drop (i + 1) ks) ≡ all
  one_more_open old new all l is e h =
      ap (λ rs. rs ++ rows_of shown (drop (i + 1) ks)) e
      ∙ rows_more shown (version_of x) (open_ones (versions_of (drop (i + 1) ks))) (is_answer Now (version_of x)) old
      ∙ ap (λ vs. old ++ map shown (open_ones vs)) (sym (left_at l is)) ∙ h

  module _ (conds : List Cond) (old : List Row) (all : Option (List Row)) where
    -- one more version, whose row passes or does not
    pub one_more_passing : (new : List Row) → i < length ks → x ≡ slice_index_or ks i x
        → behind old (keep conds (rows_of shown (x ∷ []))) ≡ Some new
        → behind old (keep conds (rows_of shown (drop i ks))) ≡ all
        → behind new (keep conds (rows_of shown (drop (i + 1) ks))) ≡ all
    one_more_passing new l is e h =
        passing_more shown (version_of x) (open_ones (versions_of (drop (i + 1) ks))) conds
        (is_answer Now (version_of x)) old new e
        ∙ ap (λ vs. behind old (keep conds (map shown (open_ones vs)))) (sym (left_at l is)) ∙ h

    -- a version whose conjuncts are out of range
    pub open_out_of_range : i < length ks → x ≡ slice_index_or ks i x
        → behind old (keep conds (rows_of shown (drop i ks))) ≡ all
        → behind old (keep conds (rows_of shown (x ∷ []))) ≡ None → all ≡ None
    open_out_of_range l is h none =
        sym h ∙ ap (λ vs. behind old (keep conds (map shown (open_ones vs)))) (left_at l is)
        ∙ passing_none shown (version_of x) (open_ones (versions_of (drop (i + 1) ks))) conds
        (is_answer Now (version_of x)) old none

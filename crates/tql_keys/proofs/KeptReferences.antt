-- A reference that held still holds if the rows added to one of its tables are alike the removed ones.
use Rattle.std.proofs.Common.{◌≡◌, refl, sym, ap, subst, ◌∙◌, ℕ, Bool, true, false, List, [], ◌∷◌, ◌++◌, map}
use Rattle.std.proofs.Common.{inl, inr}
use Rattle.std.specs.Prelude.{◌&&◌, ◌||◌, not, ℤ, Some}
use Rattle.std.specs.List.{list_any}
use Rattle.std.proofs.lemmas.List.{map-append}
use Rattle.tql_spec.specs.Bag.{In, SameBag}
use Rattle.tql_spec.specs.Constraint.{ReferenceTestIsRight, has_null, is_met, is_met_by, match_on, parents_of}
use Rattle.tql_spec.specs.Constraint.{reference_holds, shown_rows}
use Rattle.tql_spec.specs.Datum.{Row}
use Rattle.tql_spec.specs.Definition.{TableDef, Reference, Stamped, period_of, shown}
use Rattle.tql_spec.specs.Period.{holds}
use Rattle.tql_spec.proofs.AtPoints.{all_in, in_all}
use Rattle.tql_spec.proofs.Bags.{same-sym}
use Rattle.tql_spec.proofs.Members.{both, by_bool}
use Rattle.tql_spec.proofs.MemberLists.{in_image, in_map, in_left, in_right}
use Rattle.tql_store.specs.Changes.{starting, rows_after}
use Rattle.tql_store.specs.StoreModel.{StoreModel, is_among}
use Rattle.tql_key_rows.specs.Asked.{current_rows, new_rows, row_named}
use Rattle.tql_key_rows.specs.Keeping.{are_kept}
use Rattle.tql_key_clashes.specs.Named.{IsJudged, staying}
use Rattle.tql_key_clashes.proofs.Alikes.{AreAlike, alike_itself, matches_alike}
use Rattle.tql_key_clashes.proofs.KeptRows.{of_id, of_row}
use Rattle.tql_key_clashes.proofs.NamedRows.{in_bag, kept_in, store_names}
use Rattle.tql_keys.proofs.AlikeChildren.{met_alike}
use Rattle.tql_keys.proofs.Children.{child_after}
use Rattle.tql_keys.proofs.Covering.{covered_if, covered_says}
use Rattle.tql_keys.proofs.Passing.{any_kept}

-- ---- the child table

-- the rows added to the child table are met, as the removed ones were
pub child_kept_after : (h : StoreModel) (t : ℕ) (c p : TableDef) (f : Reference) (parents : List Stamped) (m : ℤ)
    (gone : Stamped → Bool) (added : List Row) (rows : List Stamped) (ids : List ℕ)
    → SameBag rows (current_rows h t)
    → are_kept c f.columns f.by_period (row_named h t) ids (new_rows c m added) ≡ true
    → reference_holds c p f (shown_rows p parents) (shown_rows c rows) ≡ true
    → true ≡ reference_holds c p f (shown_rows p parents) (shown_rows c (rows_after m gone added rows))
child_kept_after h t c p f parents m gone added rows ids same e held =
    child_after c p f parents m gone added rows true held
    (sym (in_all (is_met c p f (shown_rows p parents)) (new_rows c m added) (λ x n.
    let o = of_row c f.columns f.by_period (row_named h t) ids (new_rows c m added) e x n in
    let r : Stamped = o.2.row in
    let i : In r rows = in_bag r (same-sym same) ((store_names h t r).1 (o.0, o.2.is)) in
    sym (met_alike c p f (shown_rows p parents) (shown c r) x o.2.alike)
    ∙ all_in (is_met c p f (shown_rows p parents)) (shown_rows c rows) (shown c r) held (in_map (shown c) r rows i))))

-- ---- the parent table

-- if some element passes, one that does
some_in : {A : Type 0} (q : A → Bool) (xs : List A) → list_any q xs ≡ true → (x : A) × In x xs × (q x ≡ true)
some_in q [] e = absurd (cc)
some_in q (x ∷ xs) e = by_bool (q x)
    (λ y. (x, inl refl, y))
    (λ n. let r = some_in q xs (sym (ap (λ b. b || list_any q xs) n) ∙ e) in (r.0, inr r.1, r.2))

in_some : {A : Type 0} (q : A → Bool) (xs : List A) (x : A) → In x xs → q x ≡ true → list_any q xs ≡ true
in_some q [] x m e = absurd m
in_some q (y ∷ xs) x (inl i) e = ap (λ b. b || list_any q xs) (sym (ap q i) ∙ e)
in_some q (y ∷ xs) x (inr m) e = ap (λ b. q y || b) (in_some q xs x m e) ∙ yes (q y)
  where
    yes : (b : Bool) → b || true ≡ true
    yes true = refl
    yes false = refl

-- each row of one list has a row of another that is alike it
abbrev Covers : TableDef → List ℕ → Bool → List Row → List Row → Type 0
Covers d columns by_period others rows =
    (s : Row) → In s rows → (x : Row) × In x others × AreAlike d columns by_period s x

module _ (law : ReferenceTestIsRight) (c p : TableDef) (f : Reference) (old new : List Row)
    (like : Covers p f.parent_columns f.by_period new old) (r : Row) where
  abbrev of_child : Row → Bool
  of_child s = match_on f.columns r f.parent_columns s

  -- if some parent passes a test, so does one alike it
  any_like : (q : Row → Bool) → ((s x : Row) → AreAlike p f.parent_columns f.by_period s x → q s ≡ q x)
      → list_any q (parents_of f old r) ≡ true → list_any q (parents_of f new r) ≡ true
  any_like q alike e =
      let s = some_in (λ x. of_child x && q x) old (any_kept of_child q old ∙ e) in
      let x = like s.0 s.1 in
      let b = both (of_child s.0) (q s.0) s.2 in
      sym (any_kept of_child q new)
      ∙ in_some (λ y. of_child y && q y) new x.0 x.1
      (ap (λ a. a && q x.0) (sym (matches_alike f.columns r f.parent_columns s.0 x.0 x.2.tuples) ∙ b.0)
      ∙ sym (alike s.0 x.0 x.2) ∙ b.1)

  met_like : (b : Bool) → f.by_period ≡ b → is_met_by c p b (parents_of f old r) r ≡ true
      → is_met_by c p b (parents_of f new r) r ≡ true
  met_like false q e = any_like (λ s. true) (λ s x a. refl) e
  met_like true q e = covered_if law p (parents_of f new r) (period_of c r) (λ z i.
      any_like (λ s. holds (period_of p s) z) (λ s x a. ap (λ y. holds y z) (a.periods q))
      (covered_says law p (parents_of f old r) (period_of c r) e z i))

  -- a child row that was met is met by parents alike the earlier ones
  pub still_met : is_met c p f old r ≡ true → is_met c p f new r ≡ true
  still_met e = by_bool (has_null f.columns r)
      (λ z. ap (λ b. b || is_met_by c p f.by_period (parents_of f new r) r) z)
      (λ z. ap (λ b. b || is_met_by c p f.by_period (parents_of f new r) r) z
      ∙ met_like f.by_period refl
      (sym (ap (λ b. b || is_met_by c p f.by_period (parents_of f old r) r) z) ∙ e))

-- each earlier row has one alike it that survives or is added
pub like_each : (h : StoreModel) (t : ℕ) (d : TableDef) (columns : List ℕ) (by_period : Bool) (m : ℤ)
    (gone : Stamped → Bool) (added : List Row) (rows : List Stamped) (ids removed : List ℕ)
    → SameBag rows (current_rows h t) → IsJudged (row_named h t) gone removed
    → ((id : ℕ) → is_among id removed ≡ true → In id ids)
    → are_kept d columns by_period (row_named h t) ids (new_rows d m added) ≡ true
    → Covers d columns by_period (shown_rows d (staying gone rows) ++ new_rows d m added) (shown_rows d rows)
like_each h t d columns by_period m gone added rows ids removed same judged listed e s n =
    let r = in_image (shown d) s rows n in
    by_bool (gone r.0)
    (λ g.
    let i = (store_names h t r.0).0 (in_bag r.0 same r.1) in
    let x = of_id d columns by_period (row_named h t) ids (new_rows d m added) e i.0
    (listed i.0 (judged i.0 r.0 i.1 ∙ g)) in
    let q : x.2.row ≡ r.0 = one_row x.2.row r.0 (sym x.2.is ∙ i.1) in (
      x.0,
      in_right x.0 (shown_rows d (staying gone rows)) (new_rows d m added) x.1,
      subst (λ z. AreAlike d columns by_period z x.0) (ap (shown d) q ∙ sym r.2) x.2.alike,
    ))
    (λ g. (
      s,
      in_left s (shown_rows d (staying gone rows)) (new_rows d m added)
          (subst (λ z. In z (shown_rows d (staying gone rows))) (sym r.2)
          (in_map (shown d) r.0 (staying gone rows) (kept_in (λ q. not (gone q)) r.0 rows r.1 (ap not g)))),
      alike_itself d columns by_period s,
    ))
  where
    one_row : (a b : Stamped) → Some a ≡ Some b → a ≡ b
    one_row a b w = cc

-- so the child rows are met as before
pub parent_kept_after : ReferenceTestIsRight → (h : StoreModel) (t : ℕ) (c p : TableDef) (f : Reference) (m : ℤ)
    (gone : Stamped → Bool) (added : List Row) (rows : List Stamped) (children : List Row) (ids removed : List ℕ)
    → SameBag rows (current_rows h t) → IsJudged (row_named h t) gone removed
    → ((id : ℕ) → is_among id removed ≡ true → In id ids)
    → are_kept p f.parent_columns f.by_period (row_named h t) ids (new_rows p m added) ≡ true
    → reference_holds c p f (shown_rows p rows) children ≡ true
    → true ≡ reference_holds c p f (shown_rows p (rows_after m gone added rows)) children
parent_kept_after law h t c p f m gone added rows children ids removed same judged listed e held =
    sym (ap (λ (ps : List Row). reference_holds c p f ps children)
    (map-append (shown p) (staying gone rows) (map (starting m) added))
    ∙ in_all (is_met c p f (shown_rows p (staying gone rows) ++ new_rows p m added)) children (λ r n.
    still_met law c p f (shown_rows p rows) (shown_rows p (staying gone rows) ++ new_rows p m added)
    (like_each h t p f.parent_columns f.by_period m gone added rows ids removed same judged listed e) r
    (all_in (is_met c p f (shown_rows p rows)) children r held n)))

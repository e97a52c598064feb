-- The output of a grouped query does not depend on the order of the rows.
use Rattle.std.proofs.Common.{◌≡◌, ℕ, Bool, true, false, cond, List, [], ◌∷◌, map, filter, refl, sym, ap, ◌∙◌, subst}
use Rattle.std.proofs.Common.{inl, inr}
use Rattle.std.specs.Prelude.{Option, Some, None, slice_index_or}
use Rattle.std.proofs.lemmas.List.Concat.{flat_map-cons}
use Rattle.tql_spec.specs.Words.{◌>>=◌, map_all, filter_all, with_front, kept_if}
use Rattle.tql_spec.specs.Datum.{Row, same_row}
use Rattle.tql_spec.specs.Definition.{cell}
use Rattle.tql_spec.specs.Expression.{Expr, Cond, eval, passes}
use Rattle.tql_spec.specs.Query.{Scope, cells_at, distinct_rows, groups_by, alone, of_group, scopes}
use Rattle.tql_spec.specs.QueryLaws.{NamesGroups, GroupsKeepNoOrder, shown}
use Rattle.tql_spec.specs.Creation.{has_number}
use Rattle.tql_spec.specs.Bag.{SameBag, In}
use Rattle.tql_spec.proofs.Bags.{same-map, same-filter}
use Rattle.tql_spec.proofs.Members.{by_bool, same_row-self, same_row-is}
use Rattle.tql_spec.proofs.MemberLists.{in_image, in_kept}
use Rattle.tql_spec.proofs.BagFolds.{not_nothing}
use Rattle.tql_spec.proofs.GroupValues.{cells_agree, passing_same, items_same}
use Rattle.tql_spec.proofs.DistinctBags.{distinct_same, in_distinct}
use Rattle.tql_spec.proofs.QueryBags.{Same, mapped_same, flattened, flattened_same, same_rows}

-- ---- the output of each row or group

-- the output of an element that passes; none for one that fails
abbrev shown_if : {B : Type 0} → Bool → Option B → Option (List B)
shown_if true o = o >>= λ r. Some (r ∷ [])
shown_if false o = Some []

passing_front : {B : Type 0} (o : Option B) (rest : Option (List (List B)))
    → with_front o (flattened rest) ≡ flattened (with_front (shown_if true o) rest)
passing_front None rest = refl
passing_front (Some r) None = refl
passing_front (Some r) (Some rss) = ap Some (sym (flat_map-cons (λ rs. rs) (r ∷ []) rss))

failing_front : {B : Type 0} (rest : Option (List (List B))) → flattened rest ≡ flattened (with_front (Some []) rest)
failing_front None = refl
failing_front (Some rss) = ap Some (sym (flat_map-cons (λ rs. rs) [] rss))

nothing_behind : {B : Type 0} (o : Option B) → None ≡ with_front o None
nothing_behind None = refl
nothing_behind (Some r) = refl

module _ {A B : Type 0} (test : A → Option Bool) (made : A → Option B) where
  abbrev shown_of : A → Option (List B)
  shown_of x = test x >>= λ b. shown_if b (made x)

  one_more : (x : A) (t : Option Bool) (kept : Option (List A)) (rest : Option (List (List B)))
      → (kept >>= map_all made) ≡ flattened rest
      → (kept_if x t kept >>= map_all made) ≡ flattened (with_front (t >>= λ b. shown_if b (made x)) rest)
  one_more x None kept rest e = refl
  one_more x (Some true) None rest e = nothing_behind (made x) ∙ ap (with_front (made x)) e
      ∙ passing_front (made x) rest
  one_more x (Some true) (Some xs) rest e = ap (with_front (made x)) e ∙ passing_front (made x) rest
  one_more x (Some false) None rest e = e ∙ failing_front rest
  one_more x (Some false) (Some xs) rest e = e ∙ failing_front rest

  -- filtering and then mapping gives the outputs of the elements in order
  shown_each : (xs : List A) → (filter_all test xs >>= map_all made) ≡ flattened (map_all shown_of xs)
  shown_each [] = refl
  shown_each (x ∷ xs) = one_more x (test x) (filter_all test xs) (map_all shown_of xs) (shown_each xs)

all_of_map : {A B C : Type 0} (f : B → Option C) (g : A → B) (xs : List A)
    → map_all f (map g xs) ≡ map_all (λ x. f (g x)) xs
all_of_map f g [] = refl
all_of_map f g (x ∷ xs) = ap (with_front (f (g x))) (all_of_map f g xs)

all_alike : {A B : Type 0} (f g : A → Option B) (xs : List A) → ((x : A) → In x xs → f x ≡ g x)
    → map_all f xs ≡ map_all g xs
all_alike f g [] h = refl
all_alike f g (x ∷ xs) h = λ i. with_front (h x (inl refl) i) (all_alike f g xs (λ y m. h y (inr m)) i)

-- ---- the rows of a group

in_filter : {A : Type 0} (p : A → Bool) (x : A) (xs : List A) → In x xs → p x ≡ true → In x (filter p xs)
in_filter p x [] m e = absurd m
in_filter p x (y ∷ xs) (inl q) e =
    subst (λ b. In x (cond b (y ∷ filter p xs) (filter p xs))) (sym (ap p (sym q) ∙ e)) (inl q)
in_filter p x (y ∷ xs) (inr m) e = by_bool (p y)
    (λ k. subst (λ b. In x (cond b (y ∷ filter p xs) (filter p xs))) (sym k) (inr (in_filter p x xs m e)))
    (λ k. subst (λ b. In x (cond b (y ∷ filter p xs) (filter p xs))) (sym k) (in_filter p x xs m e))

-- the row that a group is evaluated on, its first
abbrev first : List Row → Row
first rows = slice_index_or rows 0 []

-- the first row of a group with a member is one of its rows
first_in : (r : Row) (rows : List Row) → In r rows → In (first rows) rows
first_in r [] m = absurd m
first_in r (s ∷ rows) m = inl refl

first_in_same : (r : Row) (rows rows' : List Row) → SameBag rows rows' → In r rows → In (first rows') rows'
first_in_same r [] rows' h m = absurd m
first_in_same r (s ∷ rows) [] h m = absurd (not_nothing s rows h)
first_in_same r (s ∷ rows) (s' ∷ rows') h m = inl refl

-- the rows with this tuple in the columns
abbrev with_tuple : List ℕ → List Row → Row → List Row
with_tuple columns rows t = filter (λ r. same_row (cells_at columns r) t) rows

-- the distinct tuples of the columns
abbrev tuples : List ℕ → List Row → List Row
tuples columns rows = distinct_rows (map (cells_at columns) rows)

has_tuple : (columns : List ℕ) (rows : List Row) (t r : Row) → In r (with_tuple columns rows t) → cells_at columns r ≡ t
has_tuple columns rows t r m =
    same_row-is (cells_at columns r) t (in_kept (λ s. same_row (cells_at columns s) t) r rows m).1

module _ (columns : List ℕ) (rows rows' : List Row) (h : SameBag rows rows') where
  -- the first rows of a tuple's two groups have the same cells in the columns
  firsts : (t : Row) → In t (tuples columns rows)
      → cells_at columns (first (with_tuple columns rows t)) ≡ cells_at columns (first (with_tuple columns rows' t))
  firsts t m =
      let one : List Row = with_tuple columns rows t in
      let other : List Row = with_tuple columns rows' t in
      let test : Row → Bool = λ r. same_row (cells_at columns r) t in
      let k = in_image (cells_at columns) t rows (in_distinct t (map (cells_at columns) rows) m) in
      let e : same_row (cells_at columns k.0) t ≡ true = ap (λ z. same_row z t) (sym k.2) ∙ same_row-self t in
      let i : In k.0 one = in_filter test k.0 rows k.1 e in
      let same : SameBag one other = same-filter test h in
      has_tuple columns rows t (first one) (first_in k.0 one i)
      ∙ sym (has_tuple columns rows' t (first other) (first_in_same k.0 one other same i))

module _ (having : List Cond) (items : List Expr) where
  abbrev test : Scope → Option Bool
  test s = passes s.group s.row having

  abbrev made : Scope → Option Row
  made s = map_all (eval s.group s.row) items

  -- the output of a group, if it passes HAVING
  abbrev shows : Scope → Option (List Row)
  shows s = test s >>= λ b. shown_if b (made s)

  shown_is : (xs : List Scope) → shown having items xs ≡ flattened (map_all shows xs)
  shown_is xs = shown_each test made xs

  -- two groups with the same bag and the same grouping cells have the same output
  same_shows : (groups : List ℕ) (group group' : List Row) → NamesGroups (Some groups) having items
      → SameBag group group' → ((i : ℕ) → has_number i groups ≡ true → cell (first group) i ≡ cell (first group') i)
      → shows (of_group group) ≡ shows (of_group group')
  same_shows groups group group' n h agree =
      let row : Row = first group in
      let row' : Row = first group' in
      let p : passes group row having ≡ passes group' row' having =
      passing_same groups group group' row row' h agree having n.1 in
      let q : map_all (eval group row) items ≡ map_all (eval group' row') items =
      items_same groups group group' row row' h agree items n.0 in
      λ i. p i >>= λ b. shown_if b (q i)

  -- the output of the group of a tuple
  abbrev tuple_shows : List ℕ → List Row → Row → Option (List Row)
  tuple_shows columns rows t = shows (of_group (with_tuple columns rows t))

  -- the outputs of the groups, by their tuples
  by_tuples : (columns : List ℕ) (rows : List Row) → map_all shows (map of_group (groups_by columns rows))
      ≡ map_all (tuple_shows columns rows) (tuples columns rows)
  by_tuples columns rows =
      all_of_map shows of_group (groups_by columns rows)
      ∙ all_of_map (λ g. shows (of_group g)) (with_tuple columns rows) (tuples columns rows)

  -- the groups of a tuple on both sides have the same output
  tuple_alike : (columns : List ℕ) (rows rows' : List Row) → NamesGroups (Some columns) having items
      → SameBag rows rows' → (t : Row) → In t (tuples columns rows)
      → tuple_shows columns rows t ≡ tuple_shows columns rows' t
  tuple_alike columns rows rows' n h t m =
      let one : List Row = with_tuple columns rows t in
      let other : List Row = with_tuple columns rows' t in
      let same : SameBag one other = same-filter (λ r. same_row (cells_at columns r) t) h in
      same_shows columns one other n same
      (cells_agree columns (first one) (first other) (firsts columns rows rows' h t m))

  grouped : (columns : List ℕ) (rows rows' : List Row) → NamesGroups (Some columns) having items → SameBag rows rows'
      → Same (map_all shows (map of_group (groups_by columns rows)))
      (map_all shows (map of_group (groups_by columns rows')))
  grouped columns rows rows' n h =
      let of_tuple : Row → Option (List Row) = tuple_shows columns rows in
      let of_tuple' : Row → Option (List Row) = tuple_shows columns rows' in
      let ts : List Row = tuples columns rows in
      let ts' : List Row = tuples columns rows' in
      let alike : map_all of_tuple ts ≡ map_all of_tuple' ts =
      all_alike of_tuple of_tuple' ts (tuple_alike columns rows rows' n h) in
      let bags : SameBag ts ts' =
      distinct_same (map (cells_at columns) rows) (map (cells_at columns) rows') (same-map (cells_at columns) h) in
      subst (λ o. Same o (map_all shows (map of_group (groups_by columns rows'))))
      (sym (by_tuples columns rows ∙ alike))
      (subst (λ p. Same (map_all of_tuple' ts) p) (sym (by_tuples columns rows'))
      (mapped_same of_tuple' ts ts' bags (map_all of_tuple' ts) (map_all of_tuple' ts') refl refl))

  -- the outputs of the rows or groups on both sides have the same bag
  each_same : (grouping : Option (List ℕ)) (rows rows' : List Row) → NamesGroups grouping having items
      → SameBag rows rows'
      → Same (map_all shows (scopes grouping rows)) (map_all shows (scopes grouping rows'))
  each_same None rows rows' n h =
      mapped_same shows (map alone rows) (map alone rows') (same-map alone h)
      (map_all shows (map alone rows)) (map_all shows (map alone rows')) refl refl
  each_same (Some []) rows rows' n h =
      let e : shows (of_group rows) ≡ shows (of_group rows') = same_shows [] rows rows' n h (λ i k. absurd (cc)) in
      subst (λ o. Same (with_front (shows (of_group rows)) (Some [])) (with_front o (Some []))) e
      (itself (with_front (shows (of_group rows)) (Some [])))
    where
      itself : {B : Type 0} (o : Option (List B)) → Same o o
      itself None = tt
      itself (Some xs) = record { totals = λ w. refl }
  each_same (Some (c ∷ cs)) rows rows' n h = grouped (c ∷ cs) rows rows' n h

-- the law: the output of a grouped query does not depend on the order of the rows
pub groups : GroupsKeepNoOrder
groups grouping having items rows rows' n h =
    let some : List Scope = scopes grouping rows in
    let others : List Scope = scopes grouping rows' in
    let o : Option (List (List Row)) = map_all (shows having items) some in
    let p : Option (List (List Row)) = map_all (shows having items) others in
    same_rows (shown having items some) (shown having items others)
    (subst (λ a. Same a (shown having items others)) (sym (shown_is having items some))
    (subst (λ b. Same (flattened o) b) (sym (shown_is having items others))
    (flattened_same o p (each_same having items grouping rows rows' n h))))

-- An answer depends only on the bags of its references, if the output after grouping depends only on the bag of rows.
use Rattle.std.proofs.Common.{◌≡◌, Bool, List, [], ◌∷◌, ℕ, refl, subst}
use Rattle.std.specs.Prelude.{Option, Some, None}
use Rattle.tql_spec.specs.Words.{◌>>=◌, map_all, filter_all, with_front}
use Rattle.tql_spec.specs.Bag.{SameBag}
use Rattle.tql_spec.specs.Datum.{Row}
use Rattle.tql_spec.specs.Expression.{Expr, Cond, eval, passes}
use Rattle.tql_spec.specs.Query.{Query, Ref, Join, Inner, Left, Cross, Chain, Scope, pairs, keep, joined_with}
use Rattle.tql_spec.specs.Query.{joins_from, chain_rows, product, scopes, if_distinct, answer}
use Rattle.tql_spec.specs.QueryLaws.{SameRows, NamesGroups, shown, GroupsKeepNoOrder, AnswersKeepNoOrder}
use Rattle.tql_spec.proofs.Bags.{same-refl}
use Rattle.tql_spec.proofs.QueryBags.{Same, same_rows}
use Rattle.tql_spec.proofs.JoinBags.{further_same, pairs_same, kept_same, left_same}
use Rattle.tql_spec.proofs.OrderBags.{distinct_keeps_no_order}

-- ---- chains

module _ (bag bag' : Ref → List Row) (each : (r : Ref) → SameBag (bag r) (bag' r)) where
  joined_same : (j : Join) (rows rows' : List Row) → SameBag rows rows'
      → Same (joined_with bag rows j) (joined_with bag' rows' j)
  joined_same (Inner r on) rows rows' h =
      kept_same on (pairs rows (bag r)) (pairs rows' (bag' r)) (pairs_same rows rows' (bag r) (bag' r) h (each r))
  joined_same (Left r on) rows rows' h = left_same on r.width rows rows' (bag r) (bag' r) h (each r)
  joined_same (Cross r) rows rows' h = pairs_same rows rows' (bag r) (bag' r) h (each r)

  joins_same : (js : List Join) (rows rows' : List Row) → SameBag rows rows'
      → Same (joins_from bag rows js) (joins_from bag' rows' js)
  joins_same [] rows rows' h = h
  joins_same (j ∷ js) rows rows' h =
      further_same (λ more. joins_from bag more js) (λ more. joins_from bag' more js)
      (joined_with bag rows j) (joined_with bag' rows' j)
      (λ more more' k. joins_same js more more' k) (joined_same j rows rows' h)

  chain_same : (c : Chain) → Same (chain_rows bag c) (chain_rows bag' c)
  chain_same c = joins_same c.joins (bag c.first) (bag' c.first) (each c.first)

-- ---- products

-- the lists have equal length, and the bags at each position are the same
abbrev AllSame : List (List Row) → List (List Row) → Type 0
AllSame [] [] = Unit {0}
AllSame [] (ys ∷ yss) = ⊥
AllSame (xs ∷ xss) [] = ⊥
AllSame (xs ∷ xss) (ys ∷ yss) = SameBag xs ys × AllSame xss yss

-- both are None, or the lists have the same bags
abbrev EachSame : Option (List (List Row)) → Option (List (List Row)) → Type 0
EachSame None None = Unit {0}
EachSame None (Some ys) = ⊥
EachSame (Some xs) None = ⊥
EachSame (Some xs) (Some ys) = AllSame xs ys

front_same : (o p : Option (List Row)) (os ps : Option (List (List Row))) → Same o p → EachSame os ps
    → EachSame (with_front o os) (with_front p ps)
front_same None None os ps h k = tt
front_same None (Some ys) os ps h k = absurd h
front_same (Some xs) None os ps h k = absurd h
front_same (Some xs) (Some ys) None None h k = tt
front_same (Some xs) (Some ys) None (Some yss) h k = absurd k
front_same (Some xs) (Some ys) (Some xss) None h k = absurd k
front_same (Some xs) (Some ys) (Some xss) (Some yss) h k = (h, k)

chains_same : (f g : Chain → Option (List Row)) → ((c : Chain) → Same (f c) (g c)) → (cs : List Chain)
    → EachSame (map_all f cs) (map_all g cs)
chains_same f g h [] = tt
chains_same f g h (c ∷ cs) = front_same (f c) (g c) (map_all f cs) (map_all g cs) (h c) (chains_same f g h cs)

product_same : (xss yss : List (List Row)) → AllSame xss yss → SameBag (product xss) (product yss)
product_same [] [] h = same-refl ([] ∷ [])
product_same [] (ys ∷ yss) h = absurd h
product_same (xs ∷ xss) [] h = absurd h
product_same (xs ∷ xss) (ys ∷ yss) h = pairs_same xs ys (product xss) (product yss) h.0 (product_same xss yss h.1)

-- ---- the whole query

same_of : (o p : Option (List Row)) → SameRows o p → Same o p
same_of None None h = tt
same_of None (Some ys) h = absurd h
same_of (Some xs) None h = absurd h
same_of (Some xs) (Some ys) h = h

-- the items and DISTINCT after the scopes, as two steps or as one
at_once : (having : List Cond) (items : List Expr) (distinct : Bool) (o : Option (List Scope))
    → ((o >>= λ kept. map_all (λ (s : Scope). map_all (eval s.group s.row) items) kept) >>= λ out.
    Some (if_distinct distinct out))
    ≡ (o >>= λ kept. map_all (λ (s : Scope). map_all (eval s.group s.row) items) kept >>= λ out.
    Some (if_distinct distinct out))
at_once having items distinct None = refl
at_once having items distinct (Some kept) = refl

-- the part of a query after WHERE: grouping, HAVING, items and DISTINCT
abbrev behind : Option (List ℕ) → List Cond → List Expr → Bool → List Row → Option (List Row)
behind grouping having items distinct rows =
    filter_all (λ (s : Scope). passes s.group s.row having) (scopes grouping rows) >>= λ kept.
    map_all (λ (s : Scope). map_all (eval s.group s.row) items) kept >>= λ out. Some (if_distinct distinct out)

module _ (groups : GroupsKeepNoOrder) where
  behind_same : (grouping : Option (List ℕ)) (having : List Cond) (items : List Expr) (distinct : Bool)
      → NamesGroups grouping having items → (rows rows' : List Row) → SameBag rows rows'
      → Same (behind grouping having items distinct rows) (behind grouping having items distinct rows')
  behind_same grouping having items distinct names rows rows' h =
      let kept : List Row → Option (List Scope) = λ rs.
      filter_all (λ (s : Scope). passes s.group s.row having) (scopes grouping rs) in
      let all = further_same (λ out. Some (if_distinct distinct out)) (λ out. Some (if_distinct distinct out))
      (shown having items (scopes grouping rows)) (shown having items (scopes grouping rows'))
      (λ out out' k. distinct_keeps_no_order distinct out out' k)
      (same_of _ _ (groups grouping having items rows rows' names h)) in
      subst (λ o. Same o (behind grouping having items distinct rows')) (at_once having items distinct (kept rows))
      (subst (λ p. Same (shown having items (scopes grouping rows) >>= λ out. Some (if_distinct distinct out)) p)
      (at_once having items distinct (kept rows')) all)

  -- the part of a query after the chains gives the same bag
  rest_same : (q : Query) → NamesGroups q.grouping q.having q.items → (o p : Option (List (List Row))) → EachSame o p
      → Same (o >>= λ chains. keep q.filter (product chains) >>= behind q.grouping q.having q.items q.distinct)
      (p >>= λ chains. keep q.filter (product chains) >>= behind q.grouping q.having q.items q.distinct)
  rest_same q names None None h = tt
  rest_same q names None (Some yss) h = absurd h
  rest_same q names (Some xss) None h = absurd h
  rest_same q names (Some xss) (Some yss) h =
      further_same (behind q.grouping q.having q.items q.distinct) (behind q.grouping q.having q.items q.distinct)
      (keep q.filter (product xss)) (keep q.filter (product yss))
      (behind_same q.grouping q.having q.items q.distinct names)
      (kept_same q.filter (product xss) (product yss) (product_same xss yss h))

  -- the law of answers, from the law of groups
  pub answers : AnswersKeepNoOrder
  answers q bag bag' names each =
      same_rows (answer bag q) (answer bag' q)
      (rest_same q names (map_all (chain_rows bag) q.chains) (map_all (chain_rows bag') q.chains)
      (chains_same (chain_rows bag) (chain_rows bag') (chain_same bag bag' each) q.chains))

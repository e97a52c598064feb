-- A query over printable rows returns printable rows.
use Rattle.std.specs.Prelude.{◌≡◌, refl, ℕ, zero, suc, Bool, true, false, not, List, [], ◌∷◌, ◌++◌, map, filter}
use Rattle.std.specs.Prelude.{length, replicate, slice_index_or, All, Option, Some, None, ⊤, pos, if◌then◌else◌}
use Rattle.std.specs.List.{flat_map}
use Rattle.std.specs.Ordering.{is_lt, is_gt}
use Rattle.std.proofs.lemmas.List.Elements.{All-head, All-tail, All-append, All-push, All-nil}
use Rattle.std.proofs.lemmas.List.Concat.{flat_map-cons}
use Rattle.std.proofs.Common.{subst, sym, cond}
use Rattle.tql_spec.specs.Words.{◌>>=◌, with_front, map_all, kept_if, filter_all}
use Rattle.tql_spec.specs.Datum.{Datum, Null, Row, Int, order, fits, is_null, same_row}
use Rattle.tql_spec.specs.Definition.{Name, cell}
use Rattle.tql_spec.specs.Expression.{Expr, Function, Count, Sum, Min, Max, Cond, eval, aggregate, best, present}
use Rattle.tql_spec.specs.Expression.{if_countable, passes, total}
use Rattle.tql_spec.specs.Expression as bound
use Rattle.tql_spec.specs.Query.{Chain, Join, Query, Ref, Scope, alone, answer, cells_at, chain_rows, distinct_rows}
use Rattle.tql_spec.specs.Query.{groups_by, if_distinct, joined_with, joins_from, keep, left_join, of_group, or_alone}
use Rattle.tql_spec.specs.Query.{pairs, product, scopes}
use Rattle.tql_spec.specs.Query as query
use Rattle.tql_spec.specs.QueryLaws.{shown}
use Rattle.tql_expr.specs.Meaning.{trees, expr, datum_at}
use Rattle.tql_expr.specs.Trees.{Term, expr_of, term_in, terms_from, node_term}
use Rattle.tql_expr.specs.declared.node.Node.{Node}
use Rattle.tql_expr.specs.declared.node.Node.TheVariants as node
use Rattle.tql_expr.specs.declared.terms.ExprId.{ExprId}
use Rattle.tql_expr.specs.declared.terms.Terms.{Terms}
use Rattle.tql_expr.proofs.Printing.{Prints, literal_prints, node_prints, term_prints, OptionPrints, RowPrints}
use Rattle.tql_expr.proofs.Printing.{RowsPrint, eval_prints, rows_front_print, front_prints, calculated_prints}
use Rattle.tql_expr.proofs.Printing.{negated_prints, binary_prints, if_prints, printable_cell}
use Rattle.tql_value.specs.Points.{IsPrintable}

abbrev pub AllPrint : List Row → Type 0
AllPrint rows = All (All IsPrintable) rows

-- ---- lists

one_and : (r : Row) (rows : List Row) → All IsPrintable r → AllPrint rows → AllPrint (r ∷ rows)
one_and r rows h k = All-append (All IsPrintable) (r ∷ []) rows
    (All-push (All IsPrintable) [] r (All-nil (All IsPrintable)) h) k

cell_and : (v : Datum) (vs : Row) → IsPrintable v → All IsPrintable vs → All IsPrintable (v ∷ vs)
cell_and v vs h k = All-append IsPrintable (v ∷ []) vs (All-push IsPrintable [] v (All-nil IsPrintable) h) k

beside : (x : Row) (ys : List Row) → All IsPrintable x → AllPrint ys → AllPrint (map (λ y. x ++ y) ys)
beside x [] h k = All-nil (All IsPrintable)
beside x (y ∷ ys) h k =
    one_and (x ++ y) (map (λ z. x ++ z) ys) (All-append IsPrintable x y h (All-head (All IsPrintable) y ys k))
    (beside x ys h (All-tail (All IsPrintable) y ys k))

pairs_print : (xs ys : List Row) → AllPrint xs → AllPrint ys → AllPrint (pairs xs ys)
pairs_print [] ys h k = All-nil (All IsPrintable)
pairs_print (x ∷ xs) ys h k =
    subst AllPrint (sym (flat_map-cons (λ x. map (λ y. x ++ y) ys) x xs))
    (All-append (All IsPrintable) (map (λ y. x ++ y) ys) (pairs xs ys)
    (beside x ys (All-head (All IsPrintable) x xs h) k) (pairs_print xs ys (All-tail (All IsPrintable) x xs h) k))

-- ---- filters

if_kept : (row : Row) (test : Option Bool) (rest : Option (List Row)) → All IsPrintable row → RowsPrint rest
    → RowsPrint (kept_if row test rest)
if_kept row None rest h k = tt
if_kept row (Some true) None h k = tt
if_kept row (Some true) (Some rows) h k = one_and row rows h k
if_kept row (Some false) None h k = tt
if_kept row (Some false) (Some rows) h k = k

keep_prints : (conds : List Cond) (rows : List Row) → AllPrint rows → RowsPrint (keep conds rows)
keep_prints conds [] h = All-nil (All IsPrintable)
keep_prints conds (row ∷ rows) h =
    if_kept row (passes [] row conds) (keep conds rows) (All-head (All IsPrintable) row rows h)
    (keep_prints conds rows (All-tail (All IsPrintable) row rows h))

-- ---- joins

nulls_print : (n : ℕ) → All IsPrintable (replicate n Null)
nulls_print zero = All-nil IsPrintable
nulls_print (suc n) = cell_and Null (replicate n Null) tt (nulls_print n)

alone_prints : (width : ℕ) (x : Row) (partners : List Row) → All IsPrintable x → AllPrint partners
    → AllPrint (or_alone width x partners)
alone_prints width x [] h k =
    one_and (x ++ replicate width Null) [] (All-append IsPrintable x (replicate width Null) h (nulls_print width))
    (All-nil (All IsPrintable))
alone_prints width x (p ∷ ps) h k = k

left_by : (width : ℕ) (x : Row) (o rest : Option (List Row)) → All IsPrintable x → RowsPrint o → RowsPrint rest
    → RowsPrint (o >>= λ partners. rest >>= λ more. Some (or_alone width x partners ++ more))
left_by width x None rest h p q = tt
left_by width x (Some partners) None h p q = tt
left_by width x (Some partners) (Some more) h p q =
    All-append (All IsPrintable) (or_alone width x partners) more (alone_prints width x partners h p) q

left_prints : (on : List Cond) (width : ℕ) (xs ys : List Row) → AllPrint xs → AllPrint ys
    → RowsPrint (left_join on width xs ys)
left_prints on width [] ys h k = All-nil (All IsPrintable)
left_prints on width (x ∷ xs) ys h k =
    let here = All-head (All IsPrintable) x xs h in
    left_by width x (keep on (pairs (x ∷ []) ys)) (left_join on width xs ys) here
    (keep_prints on (pairs (x ∷ []) ys) (pairs_print (x ∷ []) ys (one_and x [] here (All-nil (All IsPrintable))) k))
    (left_prints on width xs ys (All-tail (All IsPrintable) x xs h) k)

module _ (bag : Ref → List Row) (bags : (r : Ref) → AllPrint (bag r)) where
  joined_prints : (rows : List Row) (j : Join) → AllPrint rows → RowsPrint (joined_with bag rows j)
  joined_prints rows (query.Inner r on) h = keep_prints on (pairs rows (bag r)) (pairs_print rows (bag r) h (bags r))
  joined_prints rows (query.Left r on) h = left_prints on r.width rows (bag r) h (bags r)
  joined_prints rows (query.Cross r) h = pairs_print rows (bag r) h (bags r)

  then_joins : (js : List Join) → ((rows : List Row) → AllPrint rows → RowsPrint (joins_from bag rows js))
      → (o : Option (List Row)) → RowsPrint o
      → RowsPrint (o >>= λ more. joins_from bag more js)
  then_joins js later None h = tt
  then_joins js later (Some rows) h = later rows h

  joins_print : (rows : List Row) (js : List Join) → AllPrint rows → RowsPrint (joins_from bag rows js)
  joins_print rows [] h = h
  joins_print rows (j ∷ js) h =
      then_joins js (λ more k. joins_print more js k) (joined_with bag rows j) (joined_prints rows j h)

  -- several chains
  abbrev AllChains : Option (List (List Row)) → Type 0
  AllChains None = ⊤
  AllChains (Some bags) = All AllPrint bags

  front_chains : (o : Option (List Row)) (rest : Option (List (List Row))) → RowsPrint o → AllChains rest
      → AllChains (with_front o rest)
  front_chains None rest h k = tt
  front_chains (Some rows) None h k = tt
  front_chains (Some rows) (Some more) h k =
      All-append AllPrint (rows ∷ []) more (All-push AllPrint [] rows (All-nil AllPrint) h) k

  chains_print : (cs : List Chain) → AllChains (map_all (chain_rows bag) cs)
  chains_print [] = All-nil AllPrint
  chains_print (c ∷ cs) =
      front_chains (chain_rows bag c) (map_all (chain_rows bag) cs) (joins_print (bag c.first) c.joins (bags c.first))
      (chains_print cs)

product_prints : (bags : List (List Row)) → All AllPrint bags → AllPrint (product bags)
product_prints [] h = one_and [] [] (All-nil IsPrintable) (All-nil (All IsPrintable))
product_prints (rows ∷ bags) h =
    pairs_print rows (product bags) (All-head AllPrint rows bags h)
    (product_prints bags (All-tail AllPrint rows bags h))

-- ---- groups

some_rows : (test : Row → Bool) (rows : List Row) → AllPrint rows → AllPrint (filter test rows)
some_rows test [] h = h
some_rows test (r ∷ rows) h = left (test r) (some_rows test rows (All-tail (All IsPrintable) r rows h))
  where
    left : (b : Bool) → AllPrint (filter test rows) → AllPrint (cond b (r ∷ filter test rows) (filter test rows))
    left true k = one_and r (filter test rows) (All-head (All IsPrintable) r rows h) k
    left false k = k

-- a printable row or group
pub record ScopePrints (s : Scope) : Type 0 where
  pub row : All IsPrintable s.row
  pub group : AllPrint s.group

abbrev ScopesPrint : List Scope → Type 0
ScopesPrint ss = All ScopePrints ss

abbrev ScopesThere : Option (List Scope) → Type 0
ScopesThere None = ⊤
ScopesThere (Some ss) = ScopesPrint ss

first_prints : (rows : List Row) → AllPrint rows → All IsPrintable (slice_index_or rows 0 [])
first_prints [] h = All-nil IsPrintable
first_prints (r ∷ rows) h = All-head (All IsPrintable) r rows h

group_prints : (rows : List Row) → AllPrint rows → ScopePrints (of_group rows)
group_prints rows h = record { row = first_prints rows h; group = h }

scope_and : (s : Scope) (ss : List Scope) → ScopePrints s → ScopesPrint ss → ScopesPrint (s ∷ ss)
scope_and s ss h k = All-append ScopePrints (s ∷ []) ss (All-push ScopePrints [] s (All-nil ScopePrints) h) k

each_alone : (rows : List Row) → AllPrint rows → ScopesPrint (map alone rows)
each_alone [] h = All-nil ScopePrints
each_alone (r ∷ rows) h =
    scope_and (alone r) (map alone rows) (record {
      row = All-head (All IsPrintable) r rows h;
      group = All-nil (All IsPrintable);
    }) (each_alone rows (All-tail (All IsPrintable) r rows h))

each_group : (test : Row → Row → Bool) (rows : List Row) (tuples : List Row) → AllPrint rows
    → ScopesPrint (map of_group (map (λ tuple. filter (λ r. test r tuple) rows) tuples))
each_group test rows [] h = All-nil ScopePrints
each_group test rows (t ∷ ts) h =
    scope_and (of_group (filter (λ r. test r t) rows)) _
    (group_prints (filter (λ r. test r t) rows) (some_rows (λ r. test r t) rows h)) (each_group test rows ts h)

scopes_print : (grouping : Option (List ℕ)) (rows : List Row) → AllPrint rows → ScopesPrint (scopes grouping rows)
scopes_print None rows h = each_alone rows h
scopes_print (Some []) rows h = scope_and (of_group rows) [] (group_prints rows h) (All-nil ScopePrints)
scopes_print (Some (c ∷ cs)) rows h =
    each_group (λ r tuple. same_row (cells_at (c ∷ cs) r) tuple) rows (distinct_rows (map (cells_at (c ∷ cs)) rows)) h

kept_scope : (s : Scope) (test : Option Bool) (rest : Option (List Scope)) → ScopePrints s → ScopesThere rest
    → ScopesThere (kept_if s test rest)
kept_scope s None rest h k = tt
kept_scope s (Some true) None h k = tt
kept_scope s (Some true) (Some ss) h k = scope_and s ss h k
kept_scope s (Some false) None h k = tt
kept_scope s (Some false) (Some ss) h k = k

kept_scopes : (having : List Cond) (ss : List Scope) → ScopesPrint ss
    → ScopesThere (filter_all (λ s. passes s.group s.row having) ss)
kept_scopes having [] h = All-nil ScopePrints
kept_scopes having (s ∷ ss) h =
    kept_scope s (passes s.group s.row having) (filter_all (λ s. passes s.group s.row having) ss)
    (All-head ScopePrints s ss h) (kept_scopes having ss (All-tail ScopePrints s ss h))

-- ---- values

-- the literals that are the whole expression, or the operand of an aggregate, are printable
abbrev pub LiteralsPrint : Expr → Type 0
LiteralsPrint (bound.Literal v) = IsPrintable v
LiteralsPrint (bound.Aggregate f e) = Prints e
LiteralsPrint _ = ⊤

present_print : (vs : Row) → All IsPrintable vs → All IsPrintable (present vs)
present_print [] h = h
present_print (v ∷ vs) h = left (not (is_null v)) (present_print vs (All-tail IsPrintable v vs h))
  where
    left : (b : Bool) → All IsPrintable (present vs) → All IsPrintable (cond b (v ∷ present vs) (present vs))
    left true k = cell_and v (present vs) (All-head IsPrintable v vs h) k
    left false k = k

either_value : (b : Bool) (v w : Datum) → IsPrintable v → IsPrintable w → IsPrintable (if b then v else w)
either_value true v w h k = h
either_value false v w h k = k

best_prints : (better : Datum → Datum → Bool) (vs : Row) → All IsPrintable vs → IsPrintable (best better vs)
best_prints better [] h = tt
best_prints better (v ∷ []) h = All-head IsPrintable v [] h
best_prints better (v ∷ w ∷ vs) h =
    either_value (better (best better (w ∷ vs)) v) (best better (w ∷ vs)) v
    (best_prints better (w ∷ vs) (All-tail IsPrintable v (w ∷ vs) h)) (All-head IsPrintable v (w ∷ vs) h)

of_values : (f : Function) (vs : Row) → All IsPrintable vs → OptionPrints (aggregate f vs)
of_values Count vs h = tt
of_values Sum [] h = tt
of_values Sum (v ∷ vs) h = if_prints (fits (total (v ∷ vs))) (Some (Int (total (v ∷ vs)))) tt
of_values Min vs h = best_prints (λ a b. is_lt (order a b)) vs h
of_values Max vs h = best_prints (λ a b. is_gt (order a b)) vs h

of_present : (f : Function) (o : Option Row) → RowPrints o → OptionPrints (o >>= λ vs. aggregate f (present vs))
of_present f None h = tt
of_present f (Some vs) h = of_values f (present vs) (present_print vs h)

each_value : (group : List Row) (e : Expr) → AllPrint group → Prints e → RowPrints (map_all (λ r. eval [] r e) group)
each_value [] e h p = All-nil IsPrintable
each_value (r ∷ rows) e h p =
    front_prints (eval [] r e) (map_all (λ r. eval [] r e) rows)
    (eval_prints r e (All-head (All IsPrintable) r rows h) p)
    (each_value rows e (All-tail (All IsPrintable) r rows h) p)

value_prints : (group : List Row) (row : Row) (e : Expr) → AllPrint group → All IsPrintable row → LiteralsPrint e
    → OptionPrints (eval group row e)
value_prints group row (bound.Literal v) g h p = p
value_prints group row (bound.Column i) g h p = printable_cell row i h
value_prints group row (bound.Negate e) g h p = negated_prints (eval group row e)
value_prints group row (bound.Binary op a b) g h p = binary_prints op (eval group row a) (eval group row b)
value_prints group row bound.CountRows g h p =
    if_prints (fits (pos (length group))) (Some (Int (pos (length group)))) tt
value_prints group row (bound.Aggregate f e) g h p =
    if_prints (fits (pos (length group))) (map_all (λ r. eval [] r e) group >>= λ vs. aggregate f (present vs))
    (of_present f (map_all (λ r. eval [] r e) group) (each_value group e g p))

-- ---- output

row_prints : (s : Scope) (items : List Expr) → ScopePrints s → All LiteralsPrint items
    → RowPrints (map_all (eval s.group s.row) items)
row_prints s [] h l = All-nil IsPrintable
row_prints s (e ∷ es) h l =
    front_prints (eval s.group s.row e) (map_all (eval s.group s.row) es)
    (value_prints s.group s.row e h.group h.row (All-head LiteralsPrint e es l))
    (row_prints s es h (All-tail LiteralsPrint e es l))

each_row : (items : List Expr) (ss : List Scope) → ScopesPrint ss → All LiteralsPrint items
    → RowsPrint (map_all (λ (s : Scope). map_all (eval s.group s.row) items) ss)
each_row items [] h l = All-nil (All IsPrintable)
each_row items (s ∷ ss) h l =
    rows_front_print (map_all (eval s.group s.row) items) _ (row_prints s items (All-head ScopePrints s ss h) l)
    (each_row items ss (All-tail ScopePrints s ss h) l)

repeats_gone : (rows : List Row) → AllPrint rows → AllPrint (distinct_rows rows)
repeats_gone [] h = h
repeats_gone (r ∷ rows) h =
    one_and r (filter (λ s. not (same_row r s)) (distinct_rows rows)) (All-head (All IsPrintable) r rows h)
    (some_rows (λ s. not (same_row r s)) (distinct_rows rows) (repeats_gone rows (All-tail (All IsPrintable) r rows h)))

distinct_prints : (b : Bool) (rows : List Row) → AllPrint rows → AllPrint (if_distinct b rows)
distinct_prints true rows h = repeats_gone rows h
distinct_prints false rows h = h

-- ---- the whole query

by_out : (b : Bool) (o : Option (List Row)) → RowsPrint o → RowsPrint (o >>= λ out. Some (if_distinct b out))
by_out b None h = tt
by_out b (Some out) h = distinct_prints b out h

by_kept : (b : Bool) (items : List Expr) (o : Option (List Scope)) → ScopesThere o → All LiteralsPrint items
    → RowsPrint (o >>= λ kept. map_all (λ (s : Scope). map_all (eval s.group s.row) items) kept >>= λ out. Some
    (if_distinct b out))
by_kept b items None h l = tt
by_kept b items (Some kept) h l =
    by_out b (map_all (λ (s : Scope). map_all (eval s.group s.row) items) kept) (each_row items kept h l)

by_rows : (q : Query) (o : Option (List Row)) → RowsPrint o → All LiteralsPrint q.items
    → RowsPrint (o >>= λ rows. filter_all (λ s. passes s.group s.row q.having) (scopes q.grouping rows) >>= λ kept.
    map_all (λ (s : Scope). map_all (eval s.group s.row) q.items) kept >>= λ out. Some (if_distinct q.distinct out))
by_rows q None h l = tt
by_rows q (Some rows) h l =
    by_kept q.distinct q.items (filter_all (λ s. passes s.group s.row q.having) (scopes q.grouping rows))
    (kept_scopes q.having (scopes q.grouping rows) (scopes_print q.grouping rows h)) l

pub answers_print : (bag : Ref → List Row) (q : Query) → ((r : Ref) → AllPrint (bag r)) → All LiteralsPrint q.items
    → RowsPrint (answer bag q)
answers_print bag q h l = by_chains (map_all (chain_rows bag) q.chains) (chains_print bag h q.chains)
  where
    by_chains : (o : Option (List (List Row))) → AllChains bag h o
        → RowsPrint (o >>= λ chains. keep q.filter (product chains) >>= λ rows. filter_all
        (λ s. passes s.group s.row q.having) (scopes q.grouping rows) >>= λ kept.
        map_all (λ (s : Scope). map_all (eval s.group s.row) q.items) kept >>= λ out. Some (if_distinct q.distinct out))
    by_chains None k = tt
    by_chains (Some chains) k =
        by_rows q (keep q.filter (product chains)) (keep_prints q.filter (product chains) (product_prints chains k)) l

-- ---- the items of a statement

node_literals : (lit : ℕ → Datum) (at : ℕ → Term) (n : Node) → ((k : ℕ) → IsPrintable (lit k))
    → ((a : ℕ) → Prints (expr_of (at a))) → LiteralsPrint (expr_of (node_term lit at n))
node_literals lit at (node.Literal k) h p = h k
node_literals lit at (node.Aggregate f a) h p = p a
node_literals lit at _ h p = tt

terms_literals : (lit : ℕ → Datum) (done : List Term) (ns : List Node) → ((k : ℕ) → IsPrintable (lit k))
    → All (λ t. Prints (expr_of t)) done
    → All (λ t. LiteralsPrint (expr_of t)) done → All (λ t. LiteralsPrint (expr_of t)) (terms_from lit done ns)
terms_literals lit done [] h d l = l
terms_literals lit done (n ∷ ns) h d l =
    let t = node_term lit (term_in done) n in
    terms_literals lit (done ++ t ∷ []) ns h
    (All-push (λ t. Prints (expr_of t)) done t d (node_prints lit (term_in done) n h))
    (All-push (λ t. LiteralsPrint (expr_of t)) done t l
    (node_literals lit (term_in done) n h (λ a. term_prints done a d)))

term_literals : (ts : List Term) (k : ℕ) → All (λ t. LiteralsPrint (expr_of t)) ts
    → LiteralsPrint (expr_of (term_in ts k))
term_literals [] k h = tt
term_literals (t ∷ ts) zero h = All-head (λ t. LiteralsPrint (expr_of t)) t ts h
term_literals (t ∷ ts) (suc k) h = term_literals ts k (All-tail (λ t. LiteralsPrint (expr_of t)) t ts h)

pub items_literals : (t : Terms) (xs : List ExprId) → All LiteralsPrint (map (expr t) xs)
items_literals t [] = All-nil LiteralsPrint
items_literals t (x ∷ xs) =
    All-append LiteralsPrint (expr t x ∷ []) (map (expr t) xs)
    (All-push LiteralsPrint [] (expr t x) (All-nil LiteralsPrint)
    (term_literals (trees t) x.place
    (terms_literals (datum_at t.literals.items) [] t.nodes.items (λ k. literal_prints t.literals.items k t.printable)
    (All-nil (λ t. Prints (expr_of t))) (All-nil (λ t. LiteralsPrint (expr_of t))))))
    (items_literals t xs)

-- The rows of a query have the kinds of its items, so the binding of each statement without a fault is typed.
use Rattle.std.proofs.Common.{◌≡◌, ◌<◌, refl, sym, ap, subst, ◌∙◌, ℕ, ◌+◌, suc, Bool, true, false, List, [], ◌∷◌, ◌++◌}
use Rattle.std.proofs.Common.{map, filter, length, inl, inr, arith}
use Rattle.std.specs.Prelude.{not, Option, Some, None}
use Rattle.tql_spec.specs.Words.{map_all, filter_all}
use Rattle.tql_spec.specs.Bag.{In}
use Rattle.tql_spec.specs.Datum.{Row, Kind, same_row}
use Rattle.tql_spec.specs.Refusal.{Refusal, TypesDoNotFit, fault_if}
use Rattle.tql_spec.specs.Expression.{Expr, eval, passes}
use Rattle.tql_spec.specs.Expression as bound
use Rattle.tql_spec.specs.Definition as definition
use Rattle.tql_spec.specs.Definition.{Name, TableDef, cell, table_at}
use Rattle.tql_spec.specs.Query.{Query, Ref, Scope, alone, of_group, scopes, groups_by, cells_at, distinct_rows}
use Rattle.tql_spec.specs.Query.{if_distinct, keep, product, chain_rows, answer}
use Rattle.tql_spec.specs.Syntax.{Item, Items, AllColumns, TheseItems, SelectTree, CreateTree, DropTree, InsertValues}
use Rattle.tql_spec.specs.Syntax.{InsertSelect, UpdateTree, DeleteTree, QueryTree, StartTree, CommitTree, RollbackTree}
use Rattle.tql_spec.specs.Syntax.{AtTree, PruneTree}
use Rattle.tql_spec.specs.Syntax.{OpenTree, ReadTree, CloseTree}
use Rattle.tql_spec.specs.Names.{Checked, check_each, Known, Typed, typed, kind_at}
use Rattle.tql_spec.specs.Creation.{create}
use Rattle.tql_spec.specs.Binding.{Output, Selected, all_columns_from, item_outputs, outputs, chain, whole_scope}
use Rattle.tql_spec.specs.Binding.{select, cells_misfit, kinds_for, table_number, insert_columns, insert_select}
use Rattle.tql_spec.specs.Typing.{IsOfKind, AreOfKinds}
use Rattle.tql_spec.specs.TypingLaws.{HasScopeKinds, ValuesAreOfKind, IsTypedBag, IsTypedBound, BoundAreTyped}
use Rattle.tql_spec.proofs.MemberLists.{in_image, in_kept}
use Rattle.tql_spec.proofs.Steady.{front_is}
use Rattle.tql_spec.proofs.RunKeeps.{no_left, no_right}
use Rattle.tql_spec.proofs.InOrder.{no_fault}
use Rattle.tql_spec.proofs.ExprKinds.{FitsScope, Keeps, in_flat, after, expr_keeps}
use Rattle.tql_spec.proofs.CreateKinds.{created_typed}
use Rattle.tql_spec.proofs.BoundKinds.{Fit, no_misfit, insert_typed, update_typed}
use Rattle.tql_spec.proofs.JoinKinds.{in_filter_all}
use Rattle.tql_spec.proofs.ChainKinds.{product_fits}

-- ---- the select list

-- the values of each output column are of its kind
abbrev AllKeep : List Known → List Output → Type 0
AllKeep scope outs = (o : Output) → In o outs → Keeps scope o.typed

-- the values of a column in scope are of its kind
column_keeps : (scope : List Known) (i : ℕ) (k : Kind)
    → ((row : Row) → FitsScope scope row → IsOfKind (Some k) (cell row i))
    → Keeps scope (typed (bound.Column i) k)
column_keeps scope i k h = record {
  of_kind = λ group row each own v e. let same : cell row i ≡ v = cc in subst (IsOfKind (Some k)) same (h row own);
}

-- the values of all columns of a reference are of their kinds
columns_keep : (scope : List Known) (i : ℕ) (cs : List definition.Column)
    → ((row : Row) → FitsScope scope row → (j : ℕ) → j < length cs → IsOfKind (Some (kind_at cs j)) (cell row (i + j)))
    → AllKeep scope (all_columns_from i cs)
columns_keep scope i [] h o m = absurd m
columns_keep scope i (c ∷ cs) h o (inl e) = subst (λ (x : Output). Keeps scope x.typed) (sym e)
    (column_keeps scope i c.kind (λ row f. subst (λ k. IsOfKind (Some c.kind) (cell row k)) (omega arith)
    (h row f 0 (omega arith))))
columns_keep scope i (c ∷ cs) h o (inr m) = columns_keep scope (suc i) cs
    (λ row f j l. subst (λ k. IsOfKind (Some (kind_at cs j)) (cell row k)) (omega arith)
    (h row f (suc j) (omega arith))) o m

items_keep : (scope : List Known) (i : ℕ) (is : List Item) → AllKeep scope (item_outputs scope i is).value
items_keep scope i [] o m = absurd m
items_keep scope i (it ∷ is) o (inl e) = subst (λ (x : Output). Keeps scope x.typed) (sym e) (expr_keeps scope it.value)
items_keep scope i (it ∷ is) o (inr m) = items_keep scope (suc i) is o m

outputs_keep : (scope : List Known) (items : Items) → AllKeep scope (outputs scope items).value
outputs_keep scope AllColumns o m =
    let k = in_flat (λ (x : Known). all_columns_from x.offset x.columns) o scope m in
    columns_keep scope k.0.offset k.0.columns (λ row f. f.each k.0 k.1) o k.2
outputs_keep scope (TheseItems i is) o m = items_keep scope 1 (i ∷ is) o m

-- ---- scopes of evaluation

-- the row and the rows of its group fit the scope
record Evaluates (scope : List Known) (s : Scope) : Type 0 where
  row : FitsScope scope s.row
  group : (r : Row) → In r s.group → FitsScope scope r

-- the empty row fits every scope
empty_fits : (scope : List Known) → FitsScope scope []
empty_fits scope = record { each = λ k m i l. tt }

-- a group of rows that fit has this property
group_fits : (scope : List Known) (rows : List Row) → ((r : Row) → In r rows → FitsScope scope r)
    → Evaluates scope (of_group rows)
group_fits scope [] h = record { row = empty_fits scope; group = h }
group_fits scope (r ∷ rows) h = record { row = h r (inl refl); group = h }

-- each row or group of rows that fit has this property
scopes_fit : (scope : List Known) (grouping : Option (List ℕ)) (rows : List Row)
    → ((r : Row) → In r rows → FitsScope scope r)
    → (s : Scope) → In s (scopes grouping rows) → Evaluates scope s
scopes_fit scope None rows h s m =
    let i = in_image alone s rows m in
    subst (Evaluates scope) (sym i.2) (record { row = h i.0 i.1; group = λ r n. absurd n })
scopes_fit scope (Some []) rows h s (inl e) = subst (Evaluates scope) (sym e) (group_fits scope rows h)
scopes_fit scope (Some []) rows h s (inr m) = absurd m
scopes_fit scope (Some (c ∷ cs)) rows h s m =
    let i = in_image of_group s (groups_by (c ∷ cs) rows) m in
    let columns : List ℕ = c ∷ cs in
    let j = in_image (λ tuple. filter (λ r. same_row (cells_at columns r) tuple) rows) i.0
    (distinct_rows (map (cells_at columns) rows)) i.1 in
    subst (Evaluates scope) (sym i.2) (group_fits scope i.0
    (λ r n. h r (in_kept (λ x. same_row (cells_at columns x) j.0) r rows (subst (λ (l : List Row). In r l) j.2 n)).0))

-- ---- rows of a query

-- the values of the items, evaluated on a row or group that fits, are of the kinds
item_kinds : (scope : List Known) (ks : List Kind) (outs : List Output) → AllKeep scope outs
    → Fit ks (map (λ (o : Output). o.typed) outs)
    → (s : Scope) → Evaluates scope s
    → (values : Row) → map_all (eval s.group s.row) (map (λ (o : Output). o.typed.expr) outs) ≡ Some values
    → AreOfKinds ks values
item_kinds scope [] [] h f s k values e = let q : [] ≡ values = cc in subst (AreOfKinds []) q tt
item_kinds scope [] (o ∷ outs) h f s k values e = absurd f
item_kinds scope (l ∷ ks) [] h f s k values e = absurd f
item_kinds scope (l ∷ ks) (o ∷ outs) h f s k values e =
    let x = front_is (eval s.group s.row o.typed.expr)
    (map_all (eval s.group s.row) (map (λ (p : Output). p.typed.expr) outs)) values e in
    subst (AreOfKinds (l ∷ ks)) (sym x.whole) (
      f.0 x.head ((h o (inl refl)).of_kind s.group s.row k.group k.row x.head x.one),
      item_kinds scope ks outs (λ p n. h p (inr n)) f.1 s k x.tail x.more,
    )

-- a value of a mapped list is the value of some element
in_all : {A B : Type 0} (f : A → Option B) (y : B) (xs : List A) (ys : List B) → map_all f xs ≡ Some ys → In y ys
    → (x : A) × In x xs × (f x ≡ Some y)
in_all f y [] ys e m = let q : [] ≡ ys = cc in absurd (subst (In y) (sym q) m)
in_all f y (x ∷ xs) ys e m =
    let k = front_is (f x) (map_all f xs) ys e in
    elim (subst (In y) k.whole m) [
      | inl q ↦ (x, inl refl, k.one ∙ ap Some (sym q))
      | inr n ↦ let r = in_all f y xs k.tail k.more n in (r.0, inr r.1, r.2)
    ]

-- a row without repeats is one of the rows
in_distinct : (row : Row) (rows : List Row) → In row (distinct_rows rows) → In row rows
in_distinct row [] m = absurd m
in_distinct row (r ∷ rows) (inl e) = inl e
in_distinct row (r ∷ rows) (inr m) = inr
    (in_distinct row rows (in_kept (λ s. not (same_row r s)) row (distinct_rows rows) m).0)

in_if_distinct : (b : Bool) (row : Row) (rows : List Row) → In row (if_distinct b rows) → In row rows
in_if_distinct true row rows m = in_distinct row rows m
in_if_distinct false row rows m = m

-- the kinds of output columns, found in two ways
twice : (outs : List Output) → map (λ (c : Typed). c.kind) (map (λ (o : Output). o.typed) outs) ≡ map
    (λ (o : Output). o.typed.kind) outs
twice [] = refl
twice (o ∷ outs) = ap (λ l. o.typed.kind ∷ l) (twice outs)

-- if the items of a query fit columns of these kinds, its rows are of these kinds
query_kinds : (defs : List TableDef) (t : SelectTree) (ks : List Kind)
    → cells_misfit ks (select defs t []).value.kinds ≡ false
    → (bag : Ref → List Row) → IsTypedBag defs bag
    → (rows : List Row) → answer bag (select defs t []).value.query ≡ Some rows → (row : Row) → In row rows
    → AreOfKinds ks row
query_kinds defs t ks fit bag typed rows e row m =
    after (map_all (chain_rows bag) q.chains) _ rows e
    (λ all a e1. after (keep q.filter (product all)) _ rows e1
    (λ found b e2. after (filter_all (λ (s : Scope). passes s.group s.row q.having) (scopes q.grouping found)) _ rows e2
    (λ kept c e3. after (map_all (λ (s : Scope). map_all (eval s.group s.row) q.items) kept) _ rows e3
    (λ out d e4.
    let same : if_distinct q.distinct out ≡ rows = cc in
    let there = in_if_distinct q.distinct row out (subst (λ (l : List Row). In row l) (sym same) m) in
    let s = in_all (λ (x : Scope). map_all (eval x.group x.row) q.items) row kept out d there in
    let among = in_filter_all (λ (x : Scope). passes x.group x.row q.having) (scopes q.grouping found) kept c s.0 s.1 in
    item_kinds scope ks outs (outputs_keep scope t.items)
    (no_misfit ks (map (λ (o : Output). o.typed) outs) (ap (cells_misfit ks) (twice outs) ∙ fit))
    s.0 (scopes_fit scope q.grouping found
    (λ r n. product_fits defs bag typed (t.first ∷ t.more) all a [] r
    (in_filter_all (λ x. passes [] x q.filter) (product all) found b r n)) s.0 among)
    row s.2))))
  where
    q : Query
    q = (select defs t []).value.query

    scope : List Known
    scope = whole_scope 0 (check_each (chain defs) (t.first ∷ t.more)).value

    outs : List Output
    outs = (outputs scope t.items).value

-- INSERT from a query is typed
select_typed : (defs : List TableDef) (n : Name) (ns : List Name) (s : SelectTree)
    → (insert_select defs n ns s).faults ≡ [] → IsTypedBound defs (insert_select defs n ns s).value
select_typed defs n ns s e =
    let t : Checked ℕ = table_number defs n in
    let is : Checked (List ℕ) = insert_columns (table_at defs t.value) ns in
    let ks : List Kind = kinds_for (table_at defs t.value) is.value in
    let q : Checked Selected = select defs s [] in
    let misfit : Bool = cells_misfit ks q.value.kinds in
    let last : List Refusal = fault_if misfit TypesDoNotFit ++ [] in
    let e1 : is.faults ++ (q.faults ++ last) ≡ [] = no_right t.faults (is.faults ++ (q.faults ++ last)) e in
    let e2 : last ≡ [] = no_right q.faults last (no_right is.faults (q.faults ++ last) e1) in
    query_kinds defs s ks (no_fault misfit TypesDoNotFit (no_left (fault_if misfit TypesDoNotFit) [] e2))

-- ---- laws

-- the law: the value of a bound expression is of its kind
pub values_typed : ValuesAreOfKind
values_typed scope e group row each own v q = (expr_keeps scope e).of_kind group row (λ r m. fits r (each r m))
    (fits row own) v q
  where
    fits : (r : Row) → HasScopeKinds scope r → FitsScope scope r
    fits r h = record { each = h }

-- the law: the binding of each statement without a fault is typed
pub bound_typed : BoundAreTyped
bound_typed defs (CreateTree n x es versioned) e =
    created_typed defs n (x ∷ es) versioned (no_left (create defs n (x ∷ es) versioned).faults [] e)
bound_typed defs (DropTree n) e = tt
bound_typed defs (InsertValues n ns t ts) e = insert_typed defs n ns (t ∷ ts) e
bound_typed defs (InsertSelect n ns s) e = select_typed defs n ns s e
bound_typed defs (UpdateTree n p s ss c) e = update_typed defs n p (s ∷ ss) c e
bound_typed defs (DeleteTree n p c) e = tt
bound_typed defs (QueryTree s keys) e = tt
bound_typed defs StartTree e = tt
bound_typed defs CommitTree e = tt
bound_typed defs RollbackTree e = tt
bound_typed defs (AtTree t) e = tt
bound_typed defs (PruneTree t) e = tt
bound_typed defs (OpenTree n) e = tt
bound_typed defs (ReadTree n s keys) e = tt
bound_typed defs (CloseTree n) e = tt

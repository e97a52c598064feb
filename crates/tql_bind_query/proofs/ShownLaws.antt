-- Output columns that are added in order, while the terms of their statement grow.
use Rattle.std.proofs.Common.{◌≡◌, refl, sym, ap, ◌∙◌, subst, arith, ℕ, zero, suc, ◌+◌, ◌<◌, ◌≤◌, List, [], ◌∷◌, ◌++◌}
use Rattle.std.proofs.Common.{length, map, All, drop, get_or, append_assoc, append-nil}
use Rattle.std.specs.List.{flat_map}
use Rattle.std.specs.Prelude.{Option, Some, Result, Ok, Err, IfOk, option_map, string_bytes}
use Rattle.std.specs.declared.alloc.AllocError.{AllocError}
use Rattle.std.proofs.lemmas.List.{at_drop_more, drop_all, length-map, map-append}
use Rattle.std.proofs.lemmas.List.Elements.{All-nil, All-cons, All-head, All-tail, All-push}
use Rattle.tql_spec.specs.Binding.{Output, item_outputs, all_columns_from, heading_by}
use Rattle.tql_spec.specs.Datum.{Kind}
use Rattle.tql_spec.specs.Definition.{Name, Column}
use Rattle.tql_spec.specs.Expression as bound
use Rattle.tql_spec.specs.Expression.{Expr}
use Rattle.tql_spec.specs.Names as names
use Rattle.tql_spec.specs.Names.{Checked, ◌>>=◌, sound, Known, Typed, sole_name}
use Rattle.tql_spec.specs.Refusal.{Refusal}
use Rattle.tql_spec.specs.Syntax.{Item, AllColumns, TheseItems}
use Rattle.tql_expr.specs.Meaning.{expr, HasExpr, Stays}
use Rattle.tql_expr.specs.declared.terms.ExprId.{ExprId}
use Rattle.tql_expr.specs.declared.terms.Terms.{Terms}
use Rattle.tql_bind_expr.specs.Bounds.{typed_of}
use Rattle.tql_bind_expr.specs.Gathered.{Gathers}
use Rattle.tql_bind_expr.proofs.Arena.{stays_here, stays_along, expr_kept, expr_there}
use Rattle.tql_bind_expr.proofs.Gathering.{Leads, after_nil, gone_on, ended}
use Rattle.tql_bind_query.specs.Shown.{Shown, behind, column_output, shown_by, shown, outputs_of, PushesItem}
use Rattle.tql_bind_query.specs.Shown.{PushesOutputs}
use Rattle.tql_bind_query.specs.declared.outputs.SelectList.{SelectList}
use Rattle.tql_value.specs.Views.{plain_kind}
use Rattle.tql_value.specs.declared.value.Kind as code

-- ---- expressions in the arena

pub exprs_kept : {t u : Terms} → Stays t u → (xs : List ExprId) → All (HasExpr t) xs → map (expr u) xs ≡ map (expr t) xs
exprs_kept {t} {u} s [] h = refl
exprs_kept {t} {u} s (x ∷ xs) h =
    let here = expr_kept s x (All-head (HasExpr t) x xs h) in
    let later = exprs_kept s xs (All-tail (HasExpr t) x xs h) in
    λ i. here i ∷ later i

pub exprs_there : {t u : Terms} → Stays t u → (xs : List ExprId) → All (HasExpr t) xs → All (HasExpr u) xs
exprs_there {t} {u} s [] h = All-nil (HasExpr u)
exprs_there {t} {u} s (x ∷ xs) h =
    All-cons (HasExpr u) x xs (expr_there s x (All-head (HasExpr t) x xs h))
    (exprs_there s xs (All-tail (HasExpr t) x xs h))

-- ---- items

-- the select list so far, followed by the remaining items
abbrev pub left_of : List Known → List Item → Shown → Checked Shown
left_of scope its c = item_outputs scope (suc (length c.headings)) its >>= λ os. sound (behind c os)

-- the select list so far, followed by one item
abbrev pub with_item : Item → Shown → Typed → Shown
with_item it c v =
    record {
      items = c.items ++ v.expr ∷ [];
      headings = c.headings ++ heading_by it.alias (sole_name it.value) (suc (length c.headings)) ∷ [];
      kinds = c.kinds ++ v.kind ∷ [];
    }

-- no more output columns
behind_none : (c : Shown) → behind c [] ≡ c
behind_none c = λ i. record {
  items = append-nil c.items i;
  headings = append-nil c.headings i;
  kinds = append-nil c.kinds i;
}

-- output columns after others
behind_all : (c : Shown) (os ps : List Output) → behind (behind c os) ps ≡ behind c (os ++ ps)
behind_all c os ps =
    let items_in : List Output → List Expr = map (λ (o : Output). o.typed.expr) in
    let names_in : List Output → List Name = map (λ (o : Output). o.heading) in
    let kinds_in : List Output → List (Option Kind) = map (λ (o : Output). o.typed.kind) in
    let items = append_assoc c.items (items_in os) (items_in ps)
    ∙ ap (λ (l : List Expr). c.items ++ l) (sym (map-append (λ (o : Output). o.typed.expr) os ps)) in
    let headings = append_assoc c.headings (names_in os) (names_in ps)
    ∙ ap (λ (l : List Name). c.headings ++ l) (sym (map-append (λ (o : Output). o.heading) os ps)) in
    let kinds = append_assoc c.kinds (kinds_in os) (kinds_in ps)
    ∙ ap (λ (l : List (Option Kind)). c.kinds ++ l) (sym (map-append (λ (o : Output). o.typed.kind) os ps)) in
    λ i. record { items = items i; headings = headings i; kinds = kinds i }

longer : (ns : List Name) (n : Name) → length (ns ++ n ∷ []) ≡ suc (length ns)
longer [] n = refl
longer (m ∷ ns) n = ap suc (longer ns n)

-- the next item, and the items after it
next_is : (scope : List Known) (it : Item) (its : List Item) (c : Shown)
    → left_of scope (it ∷ its) c ≡ (names.expr scope it.value >>= λ v. left_of scope its (with_item it c v))
next_is scope it its c =
    let e : Checked Typed = names.expr scope it.value in
    let h : Name = heading_by it.alias (sole_name it.value) (suc (length c.headings)) in
    let more : ℕ → Checked (List Output) = λ n. item_outputs scope (suc n) its in
    let items_in : ℕ → List Expr = λ n. map (λ (o : Output). o.typed.expr) (more n).value in
    let names_in : ℕ → List Name = λ n. map (λ (o : Output). o.heading) (more n).value in
    let kinds_in : ℕ → List (Option Kind) = λ n. map (λ (o : Output). o.typed.kind) (more n).value in
    let here : suc (length c.headings) ≡ length (c.headings ++ h ∷ []) = sym (longer c.headings h) in
    let faults : (e.faults ++ ((more (suc (length c.headings))).faults ++ [])) ++ [] ≡ e.faults ++
    ((more (length (c.headings ++ h ∷ []))).faults ++ []) =
    append-nil (e.faults ++ ((more (suc (length c.headings))).faults ++ []))
    ∙ ap (λ (n : ℕ). e.faults ++ ((more n).faults ++ [])) here in
    let items : c.items ++ (e.value.expr ∷ items_in (suc (length c.headings))) ≡ (c.items ++ e.value.expr ∷ []) ++
    items_in (length (c.headings ++ h ∷ [])) =
    sym (append_assoc c.items (e.value.expr ∷ []) (items_in (suc (length c.headings))))
    ∙ ap (λ (n : ℕ). (c.items ++ e.value.expr ∷ []) ++ items_in n) here in
    let headings : c.headings ++ (h ∷ names_in (suc (length c.headings))) ≡ (c.headings ++ h ∷ []) ++ names_in
    (length (c.headings ++ h ∷ [])) =
    sym (append_assoc c.headings (h ∷ []) (names_in (suc (length c.headings))))
    ∙ ap (λ (n : ℕ). (c.headings ++ h ∷ []) ++ names_in n) here in
    let kinds : c.kinds ++ (e.value.kind ∷ kinds_in (suc (length c.headings))) ≡ (c.kinds ++ e.value.kind ∷ []) ++
    kinds_in (length (c.headings ++ h ∷ [])) =
    sym (append_assoc c.kinds (e.value.kind ∷ []) (kinds_in (suc (length c.headings))))
    ∙ ap (λ (n : ℕ). (c.kinds ++ e.value.kind ∷ []) ++ kinds_in n) here in
    λ i. record { faults = faults i; value = record { items = items i; headings = headings i; kinds = kinds i } }

-- the output columns so far are bound, and with the remaining items they give the whole
pub record ItemsLead (scope : List Known) (whole : Checked Shown) (start : Terms) (old : Option Refusal) (t : Terms)
    (x : SelectList) (left : List Item) (now : Option Refusal) : Type 0 where
  pub stays : Stays start t
  pub held : All (HasExpr t) x.items.items
  pub leads : Leads whole old (left_of scope left (outputs_of t x)) now

-- the list is empty so far
nothing_shown : (t : Terms) (x : SelectList) → x.items.items ≡ [] → x.headings.items ≡ [] → x.kinds.items ≡ []
    → outputs_of t x ≡ shown_by []
nothing_shown t x items headings kinds = λ i. record {
  items = map (expr t) (items i);
  headings = map string_bytes (headings i);
  kinds = map (option_map plain_kind) (kinds i);
}

-- no item so far
pub items_begun : (scope : List Known) (it : Item) (its : List Item) (start : Terms) (old : Option Refusal)
    (x : SelectList)
    → x.items.items ≡ [] → x.headings.items ≡ [] → x.kinds.items ≡ []
    → ItemsLead scope (shown scope (TheseItems it its)) start old start x (it ∷ its) old
items_begun scope it its start old x items headings kinds =
    let whole : Checked Shown = shown scope (TheseItems it its) in
    let empty : Shown = record { items = []; headings = []; kinds = [] } in
    let is : empty ≡ outputs_of start x = sym (nothing_shown start x items headings kinds) in
    let at_first : Leads whole old (left_of scope (it ∷ its) empty) old = record { value = refl; least = refl } in
    record {
      stays = stays_here start;
      held = subst (All (HasExpr start)) (sym items) (All-nil (HasExpr start));
      leads = subst (λ (c : Shown). Leads whole old (left_of scope (it ∷ its) c) old) is at_first;
    }

-- one more kind
kinds_pushed : (x y : SelectList) (k : Option code.Kind) → y.kinds.items ≡ x.kinds.items ++ k ∷ []
    → map (option_map plain_kind) y.kinds.items ≡ map (option_map plain_kind) x.kinds.items ++ option_map plain_kind
    k ∷ []
kinds_pushed x y k pushed = ap (map (option_map plain_kind)) pushed
    ∙ map-append (option_map plain_kind) x.kinds.items (k ∷ [])

-- one more item
pub items_next : (scope : List Known) (whole : Checked Shown) (start : Terms) (old : Option Refusal) (t u : Terms)
    (x y : SelectList) (it : Item) (left : List Item) (mid now : Option Refusal)
    → ItemsLead scope whole start old t x (it ∷ left) mid → Stays t u → PushesItem scope it mid now u x y
    → ItemsLead scope whole start old u y left now
items_next scope whole start old t u x y it left mid now l s p =
    let c = outputs_of t x in
    let v = typed_of u p.value in
    let step = subst (λ (k : Checked Shown). Leads whole old k mid) (next_is scope it left c) l.leads in
    let led = gone_on whole old (names.expr scope it.value) (λ v. left_of scope left (with_item it c v)) mid now v
    step p.bound in
    let items : map (expr u) y.items.items ≡ map (expr t) x.items.items ++ v.expr ∷ [] =
    ap (map (expr u)) p.items ∙ map-append (expr u) x.items.items (p.value.expr ∷ [])
    ∙ ap (λ (es : List Expr). es ++ v.expr ∷ []) (exprs_kept s x.items.items l.held) in
    let place : length x.headings.items ≡ length c.headings = sym (length-map x.headings.items string_bytes) in
    let headings : map string_bytes y.headings.items ≡ c.headings ++ heading_by it.alias (sole_name it.value)
    (suc (length c.headings)) ∷ [] =
    p.headings ∙ ap (λ (n : ℕ). c.headings ++ heading_by it.alias (sole_name it.value) (suc n) ∷ []) place in
    let kinds : map (option_map plain_kind) y.kinds.items ≡ c.kinds ++ v.kind ∷ [] =
    kinds_pushed x y p.value.kind p.kinds in
    let is : with_item it c v ≡ outputs_of u y = λ i. record {
      items = sym items i;
      headings = sym headings i;
      kinds = sym kinds i;
    } in
    record {
      stays = stays_along l.stays s;
      held = subst (All (HasExpr u)) (sym p.items)
          (All-push (HasExpr u) x.items.items p.value.expr (exprs_there s x.items.items l.held) p.held);
      leads = subst (λ (d : Shown). Leads whole old (left_of scope left d) now) is led;
    }

-- the rest of a list from an index: its element and the elements after it
at_index : {X : Type 0} (xs : List X) (i : ℕ) (x : X) → i < length xs → x ≡ get_or xs i x
    → drop i xs ≡ x ∷ drop (i + 1) xs
at_index xs i x h is = at_drop_more (λ l. l) xs i x h ∙ ap (λ y. y ∷ drop (i + 1) xs) (sym is)

-- the item at an index
pub items_item : {X : Type 0} (g : X
    → Item) (scope : List Known) (whole : Checked Shown) (start : Terms) (old : Option Refusal) (t u : Terms)
    (xs : List X) (i : ℕ) (z : X) (x y : SelectList) (mid now : Option Refusal)
    → i < length xs → z ≡ get_or xs i z → ItemsLead scope whole start old t x (map g (drop i xs)) mid → Stays t u
    → PushesItem scope (g z) mid now u x y
    → ItemsLead scope whole start old u y (map g (drop (i + 1) xs)) now
items_item {X} g scope whole start old t u xs i z x y mid now within is l s p =
    items_next scope whole start old t u x y (g z) (map g (drop (i + 1) xs)) mid now
    (subst (λ (left : List X). ItemsLead scope whole start old t x (map g left) mid) (at_index xs i z within is) l) s p

-- no item remains
pub items_done : {X : Type 0} (g : X
    → Item) (scope : List Known) (whole : Checked Shown) (start : Terms) (old : Option Refusal) (t : Terms)
    (xs : List X) (i : ℕ) (x : SelectList) (now : Option Refusal)
    → length xs ≤ i → ItemsLead scope whole start old t x (map g (drop i xs)) now
    → Gathers whole old now (outputs_of t x)
items_done {X} g scope whole start old t xs i x now past l =
    let c = outputs_of t x in
    let none = subst (λ (left : List X). Leads whole old (left_of scope (map g left) c) now) (drop_all i xs past)
    l.leads in
    subst (λ (d : Shown). Gathers whole old now d) (behind_none c) (ended whole old now (behind c []) none)

-- ---- all columns

-- one column is added
pub column_pushed : (t u : Terms) (x y : SelectList) (i : ℕ) (c : Column) (e : ExprId) (name : Name)
    (headings : map string_bytes y.headings.items ≡ map string_bytes x.headings.items ++ name ∷ []) (k : code.Kind)
    → All (HasExpr t) x.items.items → Stays t u → HasExpr u e → expr u e ≡ bound.Column i → name ≡ c.name
    → plain_kind k ≡ c.kind
    → y.items.items ≡ x.items.items ++ e ∷ [] → y.kinds.items ≡ x.kinds.items ++ Some k ∷ []
    → PushesOutputs (column_output i c ∷ []) t u x y
column_pushed t u x y i c e name headings k held s there is named kind items kinds =
    let os : List Output = column_output i c ∷ [] in
    let grown : map (expr u) y.items.items ≡ map (expr t) x.items.items ++ bound.Column i ∷ [] =
    ap (map (expr u)) items ∙ map-append (expr u) x.items.items (e ∷ [])
    ∙ (λ j. exprs_kept s x.items.items held j ++ is j ∷ []) in
    let called : map string_bytes y.headings.items ≡ map string_bytes x.headings.items ++ c.name ∷ [] =
    headings ∙ ap (λ (n : Name). map string_bytes x.headings.items ++ n ∷ []) named in
    let kind_is : map (option_map plain_kind) y.kinds.items ≡ map (option_map plain_kind) x.kinds.items ++ Some
    c.kind ∷ [] =
    kinds_pushed x y (Some k) kinds
    ∙ ap (λ (l : Kind). map (option_map plain_kind) x.kinds.items ++ Some l ∷ []) kind in
    record {
      stays = s;
      held = subst (All (HasExpr u)) (sym items)
          (All-push (HasExpr u) x.items.items e (exprs_there s x.items.items held) there);
      are = λ j. record { items = grown j; headings = called j; kinds = kind_is j };
    }

-- the output columns so far are in the arena; with the remaining ones, they are all that follow the initial ones
pub record OutputsLead (start : Terms) (x : SelectList) (all : List Output) (t : Terms) (y : SelectList)
    (left : List Output) : Type 0 where
  pub stays : Stays start t
  pub held : All (HasExpr t) y.items.items
  pub are : behind (outputs_of t y) left ≡ behind (outputs_of start x) all

-- more output columns are added
pub outputs_next : (start : Terms) (x : SelectList) (all : List Output) (t u : Terms) (y z : SelectList)
    (os left : List Output)
    → OutputsLead start x all t y (os ++ left) → PushesOutputs os t u y z → OutputsLead start x all u z left
outputs_next start x all t u y z os left l p =
    record {
      stays = stays_along l.stays p.stays;
      held = p.held;
      are = ap (λ (c : Shown). behind c left) p.are ∙ behind_all (outputs_of t y) os left ∙ l.are;
    }

-- ---- the columns of a reference

-- the element at an index of a mapped list
placed : {X Y : Type 0} (g : X → Y) (xs : List X) (i : ℕ) (d : X) → get_or (map g xs) i (g d) ≡ g (get_or xs i d)
placed g [] i d = refl
placed g (x ∷ xs) zero d = refl
placed g (x ∷ xs) (suc i) d = placed g xs i d

-- the column at an index
pub column_next : {X : Type 0} (g : X
    → Column) (start : Terms) (x : SelectList) (all : List Output) (offset : ℕ) (t u : Terms) (y z : SelectList)
    (xs : List X) (cs : List Column) (i : ℕ) (c : X)
    → map g xs ≡ cs → i < length xs → c ≡ get_or xs i c
    → OutputsLead start x all t y (all_columns_from (offset + i) (drop i cs))
    → PushesOutputs (column_output (offset + i) (g c) ∷ []) t u y z
    → OutputsLead start x all u z (all_columns_from (offset + (i + 1)) (drop (i + 1) cs))
column_next g start x all offset t u y z xs cs i c are within is l p =
    let on : suc (offset + i) ≡ offset + (i + 1) = omega arith in
    let os : List Output = column_output (offset + i) (g c) ∷ [] in
    let left : List Output = all_columns_from (offset + (i + 1)) (drop (i + 1) cs) in
    let there : i < length cs = subst (λ (n : ℕ). i < n) (sym (length-map xs g) ∙ ap length are) within in
    let here : get_or cs i (g c) ≡ g c = ap (λ (l : List Column). get_or l i (g c)) (sym are) ∙ placed g xs i c
    ∙ ap g (sym is) in
    let split : all_columns_from (offset + i) (drop i cs) ≡ os ++ left =
    ap (all_columns_from (offset + i)) (at_index cs i (g c) there (sym here))
    ∙ ap (λ (n : ℕ). column_output (offset + i) (g c) ∷ all_columns_from n (drop (i + 1) cs)) on in
    outputs_next start x all t u y z os left (subst (OutputsLead start x all t y) split l) p

-- ---- the columns of all references

-- the output columns of a reference
abbrev columns_in : Known → List Output
columns_in k = all_columns_from k.offset k.columns

-- the output columns of all references
abbrev pub columns_of_all : List Known → List Output
columns_of_all = flat_map columns_in

-- `*`, as the last call
pub star_ok : {Y : Type 0} (scope : List Known) (whole : Checked Shown) (view : Y
    → Shown) (now : Option Refusal) (r : Result Y AllocError)
    → whole ≡ shown scope AllColumns → IfOk r (λ y. sound (view y) ≡ shown scope AllColumns)
    → IfOk r (λ y. Gathers whole now now (view y))
star_ok scope whole view now (Ok y) is h = subst (λ (c : Checked Shown). Gathers c now now (view y)) (h
    ∙ sym is) (record { value = refl; least = sym (after_nil now) })
star_ok scope whole view now (Err e) is h = tt

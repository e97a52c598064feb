-- The output columns of a query without a fault have known kinds.
use Rattle.std.proofs.Common.{◌≡◌, refl, ap, ℕ, suc, true, List, [], ◌∷◌, ◌++◌, map}
use Rattle.std.specs.Prelude.{Option, Some, None, is_some, option_map, ℤ}
use Rattle.std.specs.List.{flat_map}
use Rattle.tql_spec.specs.Words.{listed}
use Rattle.tql_spec.specs.Calendar.{read_date, read_timestamp}
use Rattle.tql_spec.specs.Datum.{Datum, Kind, Days, Moments, Day, Moment, Plus, Minus, Times}
use Rattle.tql_spec.specs.Refusal.{NameUnknownAmbiguousOrRepeated, Refusal}
use Rattle.tql_spec.specs.Creation.{repeats}
use Rattle.tql_spec.specs.Expression.{Function, Count, Sum, Min, Max, Cond}
use Rattle.tql_spec.specs.Definition as definition
use Rattle.tql_spec.specs.Definition.{TableDef}
use Rattle.tql_spec.specs.Syntax as tree
use Rattle.tql_spec.specs.Syntax.{Product, MoreTerms, NoTerm, PlusTerm, MinusTerm, Terms, MoreFactors, NoFactor}
use Rattle.tql_spec.specs.Syntax.{TimesFactor, Factors, Signed, Unsigned, Positive, Negative, Primary, NumberLiteral}
use Rattle.tql_spec.specs.Syntax.{TextLiteral, DateLiteral, TimestampLiteral, ColumnNamed, Enclosed, CountStar, Over}
use Rattle.tql_spec.specs.Syntax.{Item, Items, AllColumns, TheseItems, SelectTree, OrderTree}
use Rattle.tql_spec.specs.Names.{Checked, ◌>>=◌, check_each, refuse_if, Known, Thing, AColumn, APeriod, things, Typed}
use Rattle.tql_spec.specs.Names.{one_column, literal, arithmetic, aggregate, negative, expr, more_terms, product}
use Rattle.tql_spec.specs.Names.{more_factors, signed, primary, optional_conjuncts}
use Rattle.tql_spec.specs.Binding.{Output, Linked, all_columns_from, item_outputs, outputs, chain, whole_scope}
use Rattle.tql_spec.specs.Binding.{select, plain_filter, group_column}
use Rattle.tql_spec.proofs.RunKeeps.{no_left, no_right}
use Rattle.tql_value.specs.Views.{plain_kind}
use Rattle.tql_value.specs.declared.value.Kind as code

-- ---- expressions

-- the kind is known
abbrev IsKnown : Typed → Type 0
IsKnown t = is_some t.kind ≡ true

literal_known : (k : Kind) (f : ℤ → Datum) (o : Option ℤ) → IsKnown (literal k f o).value
literal_known k f None = refl
literal_known k f (Some p) = refl

column_known : (ts : List Thing) → (one_column ts).faults ≡ [] → IsKnown (one_column ts).value
column_known [] e = absurd (cc)
column_known (AColumn i c ∷ []) e = refl
column_known (AColumn i c ∷ t ∷ ts) e = absurd (cc)
column_known (APeriod s f k ∷ ts) e = absurd (cc)

aggregate_known : (f : Function) (a : Typed) → IsKnown a → IsKnown (aggregate f a).value
aggregate_known Count a h = refl
aggregate_known Sum a h = refl
aggregate_known Min a h = h
aggregate_known Max a h = h

negative_known : (p : Primary) (c : Checked Typed) → IsKnown (negative p c).value
negative_known (NumberLiteral ds) c = refl
negative_known _ c = refl

mutual
  expr_known : (scope : List Known) (e : tree.Sum) → (expr scope e).faults ≡ [] → IsKnown (expr scope e).value
  expr_known scope (Terms t more) e =
      let p : Checked Typed = product scope t in
      let rest : List Refusal = (more_terms scope more p.value).faults in
      more_terms_known scope more p.value (product_known scope t (no_left p.faults rest e)) (no_right p.faults rest e)

  more_terms_known : (scope : List Known) (more : MoreTerms) (a : Typed) → IsKnown a
      → (more_terms scope more a).faults ≡ [] → IsKnown (more_terms scope more a).value
  more_terms_known scope NoTerm a h e = h
  more_terms_known scope (PlusTerm t more) a h e =
      let c : Checked Typed = product scope t >>= arithmetic Plus a in
      more_terms_known scope more c.value refl (no_right c.faults (more_terms scope more c.value).faults e)
  more_terms_known scope (MinusTerm t more) a h e =
      let c : Checked Typed = product scope t >>= arithmetic Minus a in
      more_terms_known scope more c.value refl (no_right c.faults (more_terms scope more c.value).faults e)

  product_known : (scope : List Known) (t : Product) → (product scope t).faults ≡ [] → IsKnown (product scope t).value
  product_known scope (Factors s more) e =
      let p : Checked Typed = signed scope s in
      let rest : List Refusal = (more_factors scope more p.value).faults in
      more_factors_known scope more p.value (signed_known scope s (no_left p.faults rest e)) (no_right p.faults rest e)

  more_factors_known : (scope : List Known) (more : MoreFactors) (a : Typed) → IsKnown a
      → (more_factors scope more a).faults ≡ [] → IsKnown (more_factors scope more a).value
  more_factors_known scope NoFactor a h e = h
  more_factors_known scope (TimesFactor s more) a h e =
      let c : Checked Typed = signed scope s >>= arithmetic Times a in
      more_factors_known scope more c.value refl (no_right c.faults (more_factors scope more c.value).faults e)

  signed_known : (scope : List Known) (s : Signed) → (signed scope s).faults ≡ [] → IsKnown (signed scope s).value
  signed_known scope (Unsigned p) e = primary_known scope p e
  signed_known scope (Positive p) e = primary_known scope p (no_left (primary scope p).faults _ e)
  signed_known scope (Negative p) e = negative_known p (primary scope p)

  primary_known : (scope : List Known) (p : Primary) → (primary scope p).faults ≡ [] → IsKnown (primary scope p).value
  primary_known scope (NumberLiteral ds) e = refl
  primary_known scope (TextLiteral t) e = refl
  primary_known scope (DateLiteral t) e = literal_known Days Day (read_date t)
  primary_known scope (TimestampLiteral t) e = literal_known Moments Moment (read_timestamp t)
  primary_known scope (ColumnNamed r) e = column_known (things scope r) e
  primary_known scope (Enclosed x) e = expr_known scope x e
  primary_known scope CountStar e = refl
  primary_known scope (Over f x) e =
      aggregate_known f (expr scope x).value
      (expr_known scope x (no_left (expr scope x).faults (aggregate f (expr scope x).value).faults e))

-- ---- the select list

-- each kind is known
abbrev AreKnown : List Output → Type 0
AreKnown [] = Unit {0}
AreKnown (o ∷ os) = IsKnown o.typed × AreKnown os

both_known : (xs ys : List Output) → AreKnown xs → AreKnown ys → AreKnown (xs ++ ys)
both_known [] ys h k = k
both_known (x ∷ xs) ys h k = (h.0, both_known xs ys h.1 k)

columns_known : (i : ℕ) (cs : List definition.Column) → AreKnown (all_columns_from i cs)
columns_known i [] = tt
columns_known i (c ∷ cs) = (refl, columns_known (suc i) cs)

scope_known : (scope : List Known)
    → AreKnown (flat_map (λ (k : Known). all_columns_from k.offset k.columns) scope)
scope_known [] = tt
scope_known (k ∷ ks) = both_known (all_columns_from k.offset k.columns)
    (flat_map (λ (x : Known). all_columns_from x.offset x.columns) ks)
    (columns_known k.offset k.columns) (scope_known ks)

items_known : (scope : List Known) (i : ℕ) (is : List Item) → (item_outputs scope i is).faults ≡ []
    → AreKnown (item_outputs scope i is).value
items_known scope i [] e = tt
items_known scope i (it ∷ is) e =
    let first : Checked Typed = expr scope it.value in
    let rest : Checked (List Output) = item_outputs scope (suc i) is in
    let behind : rest.faults ++ [] ≡ [] = no_right first.faults (rest.faults ++ []) e in (
      expr_known scope it.value (no_left first.faults (rest.faults ++ []) e),
      items_known scope (suc i) is (no_left rest.faults [] behind),
    )

outputs_known : (scope : List Known) (items : Items) → (outputs scope items).faults ≡ []
    → AreKnown (outputs scope items).value
outputs_known scope AllColumns e = scope_known scope
outputs_known scope (TheseItems i is) e = items_known scope 1 (i ∷ is) e

-- ---- a query

-- the kinds of output columns
abbrev kinds_in : List Output → List (Option Kind)
kinds_in outs = map (λ (o : Output). o.typed.kind) outs

one_told : (k : Option Kind) (ks : List (Option Kind)) → is_some k ≡ true
    → map Some (flat_map listed ks) ≡ ks → map Some (flat_map listed (k ∷ ks)) ≡ k ∷ ks
one_told None ks h e = absurd (cc)
one_told (Some k) ks h e = ap (λ (l : List (Option Kind)). Some k ∷ l) e

all_told : (outs : List Output) → AreKnown outs → map Some (flat_map listed (kinds_in outs)) ≡ kinds_in outs
all_told [] h = refl
all_told (o ∷ os) h = one_told o.typed.kind (kinds_in os) h.0 (all_told os h.1)

-- the kinds of a query without a fault are all known
pub kinds_told : (defs : List TableDef) (s : SelectTree) (keys : List OrderTree) → (select defs s keys).faults ≡ []
    → map Some (flat_map listed (select defs s keys).value.kinds) ≡ (select defs s keys).value.kinds
kinds_told defs s keys e =
    all_told outs.value
    (outputs_known scope s.items
    (no_left outs.faults _
    (no_right judged.faults _
    (no_right grouped.faults _
    (no_right filtered.faults _ (no_right repeated.faults _ (no_right chains.faults _ e)))))))
  where
    chains : Checked (List Linked)
    chains = check_each (chain defs) (s.first ∷ s.more)

    scope : List Known
    scope = whole_scope 0 chains.value

    repeated : Checked (Unit {0})
    repeated = refuse_if (repeats (map (λ (k : Known). k.name) scope)) NameUnknownAmbiguousOrRepeated

    outs : Checked (List Output)
    outs = outputs scope s.items

    filtered : Checked (List Cond)
    filtered = plain_filter scope s.filter

    grouped : Checked (List ℕ)
    grouped = check_each (group_column scope) s.grouping

    judged : Checked (List Cond)
    judged = optional_conjuncts scope s.having

-- ---- a list of kinds

-- the known kinds of a list
abbrev pub known_of : List (Option code.Kind) → List Kind
known_of ks = flat_map listed (map (option_map plain_kind) ks)

-- A query that is bound without a fault names existing tables, and uses only its grouping columns outside aggregates.
use Rattle.std.proofs.Common.{◌≡◌, refl, ℕ, suc, ◌<◌, Bool, true, false, List, [], ◌∷◌, ◌++◌}
use Rattle.std.proofs.Common.{Some, None, Option, length, map, arith}
use Rattle.std.specs.Prelude.{◌||◌, ◌&&◌, IsTrue, not, if◌then◌else◌, is_none, is_some}
use Rattle.std.specs.List.{list_any, list_all}
use Rattle.tql_spec.specs.Binding.{Joined, Linked, Output, chain, group_column}
use Rattle.tql_spec.specs.Binding.{grouping_faults}
use Rattle.tql_spec.specs.Binding.{grouping_of, is_grouped, is_loose, is_star, join, joins, or_no_table}
use Rattle.tql_spec.specs.Binding.{outputs, plain_filter, select, source, table_number, when}
use Rattle.tql_spec.specs.Binding.{whole_scope}
use Rattle.tql_spec.specs.Creation.{has_expr, nests_aggregates, repeats}
use Rattle.tql_spec.specs.Definition.{Name, TableDef, next_place, place_of, table_at}
use Rattle.tql_spec.specs.Expression.{Cond, Expr}
use Rattle.tql_spec.specs.Names.{Known, check_each, optional_conjuncts}
use Rattle.tql_spec.specs.Query.{Join}
use Rattle.tql_spec.specs.QueryLaws.{NamesGroups}
use Rattle.tql_spec.specs.Refusal.{Refusal, FormNotAllowedHere, NameUnknownAmbiguousOrRepeated, fault_if, first}
use Rattle.tql_spec.specs.Syntax.{AsOfTree, BetweenTree, ChainTree, CrossJoin, FromToTree, InnerJoin, JoinTree}
use Rattle.tql_spec.specs.Syntax.{LeftJoin, NoSpan, OrderTree, RefTree, SelectTree, SpanTree}
use Rattle.tql_spec.specs.Words.{same_text}
use Rattle.tql_value.specs.When.{is_now}
use Rattle.tql_bound.specs.Placed.{AreChainsPlaced, AreJoinsPlaced, IsPlacedQuery, IsPlacedRef, ref_of}

-- ---- no fault

pub none_present : (fs : List Refusal) → first fs ≡ None → fs ≡ []
none_present [] e = refl
none_present (f ∷ fs) e = cc

pub front_none : (xs ys : List Refusal) → xs ++ ys ≡ [] → xs ≡ []
front_none [] ys e = refl
front_none (x ∷ xs) ys e = cc

pub behind_none : (xs ys : List Refusal) → xs ++ ys ≡ [] → ys ≡ []
behind_none [] ys e = e
behind_none (x ∷ xs) ys e = cc

-- ---- a table

no_next : (o : Option ℕ) (t : ℕ) → next_place o ≡ Some t → (i : ℕ) × (o ≡ Some i) × (t ≡ suc i)
no_next None t e = cc
no_next (Some i) t e = (i, refl, the_same t i e)
  where
    the_same : (t i : ℕ) → Some (suc i) ≡ Some t → t ≡ suc i
    the_same t i e = cc

first_place : (t : ℕ) → Some 0 ≡ Some t → t ≡ 0
first_place t e = cc

here_or_later : (b : Bool) (o : Option ℕ) (t : ℕ) → (if b then Some 0 else next_place o) ≡ Some t → (n : ℕ)
    → ((i : ℕ) → o ≡ Some i → i < n) → t < suc n
here_or_later true o t e n within = let k = first_place t e in omega (arith, k)
here_or_later false o t e n within = let k = no_next o t e in let l = within k.0 k.1 in let j : t ≡ suc k.0 =
    k.2 in omega (arith, l, j)

-- the index of a table that is found is within the list
place_within : (n : Name) (defs : List TableDef) (t : ℕ) → place_of n defs ≡ Some t → t < length defs
place_within n [] t e = cc
place_within n (d ∷ defs) t e =
    here_or_later (same_text n d.name) (place_of n defs) t e (length defs) (place_within n defs)

by_place : (defs : List TableDef) (o : Option ℕ) → ((t : ℕ) → o ≡ Some t → t < length defs)
    → (or_no_table o).faults ≡ [] → (or_no_table o).value < length defs
by_place defs None within e = absurd (cc)
by_place defs (Some t) within e = within t refl

-- a table that is found without a fault
pub table_there : (defs : List TableDef) (n : Name) → (table_number defs n).faults ≡ []
    → (table_number defs n).value < length defs
table_there defs n e = by_place defs (place_of n defs) (place_within n defs) e

-- ---- a clause

is_there : {X : Type 0} (o : Option X) (rest : List Refusal) → fault_if (is_none o) FormNotAllowedHere ++ rest ≡ []
    → IsTrue (is_some o)
is_there None rest e = absurd (never _ _ e)
  where
    never : (f : Refusal) (fs : List Refusal) → f ∷ fs ≡ [] → ⊥
    never f fs e = cc
is_there (Some x) rest e = refl

past_versioned : (d : TableDef) (span : SpanTree) → (when d span).faults ≡ []
    → IsTrue (is_now (when d span).value || is_some d.system)
past_versioned d NoSpan e = refl
past_versioned d (AsOfTree t) e = is_there d.system _ e
past_versioned d (FromToTree a b) e = is_there d.system _ e
past_versioned d (BetweenTree a b) e = is_there d.system _ e

-- ---- references

one_more : (defs : List TableDef) (js : List Join) (j : Join) → AreJoinsPlaced defs js → IsPlacedRef defs (ref_of j)
    → AreJoinsPlaced defs (js ++ j ∷ [])
one_more defs [] j h k = (k, tt)
one_more defs (i ∷ js) j h k = (h.0, one_more defs js j h.1 k)

source_placed : (defs : List TableDef) (offset : ℕ) (r : RefTree) → (source defs offset r).faults ≡ []
    → IsPlacedRef defs (source defs offset r).value.ref
source_placed defs offset r e = record {
  table = table_there defs r.table (front_none (table_number defs r.table).faults _ e);
  versioned = past_versioned (table_at defs (table_number defs r.table).value) r.span
      (front_none (when (table_at defs (table_number defs r.table).value) r.span).faults _
      (behind_none (table_number defs r.table).faults _ e));
  width = refl;
}

join_placed : (defs : List TableDef) (so : Joined) (j : JoinTree) → AreJoinsPlaced defs so.joins
    → (join defs so j).faults ≡ [] → AreJoinsPlaced defs (join defs so j).value.joins
join_placed defs so (InnerJoin r c) h e =
    one_more defs so.joins _ h (source_placed defs so.width r (front_none (source defs so.width r).faults _ e))
join_placed defs so (LeftJoin r c) h e =
    one_more defs so.joins _ h (source_placed defs so.width r (front_none (source defs so.width r).faults _ e))
join_placed defs so (CrossJoin r) h e =
    one_more defs so.joins _ h (source_placed defs so.width r (front_none (source defs so.width r).faults _ e))

joins_placed : (defs : List TableDef) (so : Joined) (js : List JoinTree) → AreJoinsPlaced defs so.joins
    → (joins defs so js).faults ≡ [] → AreJoinsPlaced defs (joins defs so js).value.joins
joins_placed defs so [] h e = h
joins_placed defs so (j ∷ js) h e =
    joins_placed defs (join defs so j).value js (join_placed defs so j h (front_none (join defs so j).faults _ e))
    (behind_none (join defs so j).faults _ e)

chains_placed : (defs : List TableDef) (cs : List ChainTree) → (check_each (chain defs) cs).faults ≡ []
    → AreChainsPlaced defs (map (λ (l : Linked). l.chain) (check_each (chain defs) cs).value)
chains_placed defs [] e = tt
chains_placed defs (c ∷ cs) e =
    let here : (chain defs c).faults ≡ [] = front_none (chain defs c).faults _ e in
    let later = behind_none (chain defs c).faults _ e in
    let s = source defs 0 c.first in
    let so : Joined = record { joins = []; scope = s.value.known ∷ []; width = s.value.ref.width } in
    let inside = behind_none s.faults _ here in (
      (
        source_placed defs 0 c.first (front_none s.faults _ here),
        joins_placed defs so c.joins tt
            (front_none (joins defs so c.joins).faults _ inside),
      ),
      chains_placed defs cs (front_none (check_each (chain defs) cs).faults _ later),
    )

-- ---- groups

none_any : {A : Type 0} (p : A → Bool) (xs : List A) → list_any p xs ≡ false → IsTrue (list_all (λ x. not (p x)) xs)
none_any p [] e = refl
none_any p (x ∷ xs) e = by_first (p x) (list_any p xs) e (none_any p xs)
  where
    by_first : (b c : Bool) → (b || c) ≡ false → (c ≡ false → IsTrue (list_all (λ x. not (p x)) xs))
        → IsTrue (not b && list_all (λ x. not (p x)) xs)
    by_first true c e k = absurd (cc)
    by_first false c e k = k e

named_where : (grouped nested starred : Bool) (groups : List ℕ) (items : List Expr) (having : List Cond)
    → (nested || (grouped &&
    (starred || list_any (is_loose groups) items || list_any (has_expr (is_loose groups)) having))) ≡ false
    → NamesGroups (grouping_of grouped groups) having items
named_where false nested starred groups items having e = tt
named_where true true starred groups items having e = absurd (cc)
named_where true false true groups items having e = absurd (cc)
named_where true false false groups items having e =
    by_items (list_any (is_loose groups) items) (list_any (has_expr (is_loose groups)) having) refl refl e
  where
    by_items : (b c : Bool) → list_any (is_loose groups) items ≡ b → list_any (has_expr (is_loose groups)) having ≡ c
        → (b || c) ≡ false → NamesGroups (Some groups) having items
    by_items true c i h e = absurd (cc)
    by_items false true i h e = absurd (cc)
    by_items false false i h e = (none_any (is_loose groups) items i, none_any (has_expr (is_loose groups)) having h)

pub not_present : (b : Bool) (f : Refusal) → fault_if b f ≡ [] → b ≡ false
not_present true f e = cc
not_present false f e = refl

-- ---- queries

or_else : (a b c : Bool) → (a || b || c) ≡ false → ((a || b) || c) ≡ false
or_else true b c e = cc
or_else false b c e = e

pub query_placed : (defs : List TableDef) (s : SelectTree) (keys : List OrderTree) → (select defs s keys).faults ≡ []
    → IsPlacedQuery defs (select defs s keys).value.query
query_placed defs s keys e =
    let cs = check_each (chain defs) (s.first ∷ s.more) in
    let scope : List Known = whole_scope 0 cs.value in
    let u : Bool = repeats (map (λ (k : Known). k.name) scope) in
    let filter = plain_filter scope s.filter in
    let groups = check_each (group_column scope) s.grouping in
    let having = optional_conjuncts scope s.having in
    let outs = outputs scope s.items in
    let items : List Expr = map (λ (o : Output). o.typed.expr) outs.value in
    let grouped : Bool = is_grouped s items having.value in
    let at_names = behind_none cs.faults _ e in
    let at_filter = behind_none (fault_if u NameUnknownAmbiguousOrRepeated) _ at_names in
    let at_groups = behind_none filter.faults _ at_filter in
    let at_having = behind_none groups.faults _ at_groups in
    let at_items = behind_none having.faults _ at_having in
    let at_form = behind_none outs.faults _ at_items in
    let form = front_none (fault_if (grouping_faults grouped groups.value s items having.value) FormNotAllowedHere) _
    at_form in
    let right = not_present (grouping_faults grouped groups.value s items having.value) FormNotAllowedHere form in
    record {
      references = chains_placed defs (s.first ∷ s.more) (front_none cs.faults _ e);
      grouped = named_where grouped
          (list_any nests_aggregates items || list_any (has_expr nests_aggregates) having.value) (is_star s.items)
          groups.value items having.value
          (or_else (list_any nests_aggregates items) (list_any (has_expr nests_aggregates) having.value) _ right);
    }

-- A query in parts: its clauses over the references in scope, and its order.
use Rattle.std.specs.Prelude.{ℕ, Bool, List, ◌∷◌, map, All, Option, option_map}
use Rattle.tql_spec.specs.Binding.{Linked, Selected, chain, group_column, grouping_faults, grouping_of, is_grouped}
use Rattle.tql_spec.specs.Binding.{order_key, plain_filter, whole_scope}
use Rattle.tql_spec.specs.Creation.{repeats}
use Rattle.tql_spec.specs.Definition.{TableDef}
use Rattle.tql_spec.specs.Expression.{Cond}
use Rattle.tql_spec.specs.Names.{Checked, ◌>>=◌, sound, refuse_if, check_each, Known, optional_conjuncts}
use Rattle.tql_spec.specs.Query.{Chain, OrderKey}
use Rattle.tql_spec.specs.Refusal.{FormNotAllowedHere, NameUnknownAmbiguousOrRepeated}
use Rattle.tql_spec.specs.Syntax.{OrderTree, SelectTree}
use Rattle.tql_bound.specs.Queries.{bound_query_of}
use Rattle.tql_expr.specs.Meaning.{cond, HasCond, HasExpr}
use Rattle.tql_expr.specs.declared.terms.Terms.{Terms}
use Rattle.tql_value.specs.Views.{plain_kind}
use Rattle.tql_bind_query.specs.Shown.{Shown, outputs_of, shown}
use Rattle.tql_bind_query.specs.declared.clauses.Clauses as code
use Rattle.tql_bind_query.specs.declared.query.TypedQuery.{TypedQuery}

-- the clauses after FROM
pub record Clauses : Type 0 where
  pub filter : List Cond
  pub grouping : Option (List ℕ)
  pub having : List Cond
  pub what : Shown

-- the clauses of a query over the references in scope
abbrev pub clauses : List Known → SelectTree → Checked Clauses
clauses scope s = do
  filter ← plain_filter scope s.filter
  groups ← check_each (group_column scope) s.grouping
  having ← optional_conjuncts scope s.having
  what ← shown scope s.items
  let grouped = is_grouped s what.items having
  v ← refuse_if (grouping_faults grouped groups s what.items having) FormNotAllowedHere
  sound (record { filter = filter; grouping = grouping_of grouped groups; having = having; what = what })

-- a query from its parts
abbrev pub selected_by : List Chain → Bool → Clauses → List OrderKey → Selected
selected_by chains distinct c order = record {
  query = record {
    chains = chains;
    filter = c.filter;
    grouping = c.grouping;
    having = c.having;
    items = c.what.items;
    headings = c.what.headings;
    distinct = distinct;
    ordering = order;
  };
  kinds = c.what.kinds;
}

-- a query over these chains
abbrev pub selected_over : List Linked → SelectTree → List OrderTree → Checked Selected
selected_over chains s keys = do
  c ← clauses (whole_scope 0 chains) s
  order ← check_each (order_key c.what.headings) keys
  sound (selected_by (map (λ (l : Linked). l.chain) chains) s.distinct c order)

-- no two references are known by the same name
abbrev pub unrepeated : List Known → Checked (Unit {0})
unrepeated scope = refuse_if (repeats (map (λ (k : Known). k.name) scope)) NameUnknownAmbiguousOrRepeated

-- the whole query
abbrev pub selected : List TableDef → SelectTree → List OrderTree → Checked Selected
selected defs s keys = do
  chains ← check_each (chain defs) (s.first ∷ s.more)
  u ← unrepeated (whole_scope 0 chains)
  selected_over chains s keys

-- ---- the meaning of the code's values

-- the clauses, in this arena
abbrev pub clauses_of : Terms → code.Clauses → Clauses
clauses_of t c =
    record {
      filter = map (cond t) c.filter.items;
      grouping = option_map (λ g. g.items) c.grouping;
      having = map (cond t) c.having.items;
      what = outputs_of t c.list;
    }

-- their conditions and expressions are in the arena
pub record HoldsClauses (t : Terms) (c : code.Clauses) : Type 0 where
  pub filter : All (HasCond t) c.filter.items
  pub having : All (HasCond t) c.having.items
  pub items : All (HasExpr t) c.list.items.items

-- the query, and the kinds of its output columns
abbrev pub typed_query_of : TypedQuery → Selected
typed_query_of x = record { query = bound_query_of x.query; kinds = map (option_map plain_kind) x.kinds.items }

-- The queries of the reference model that bound queries represent.
use Rattle.std.specs.Prelude.{List, ◌∷◌, map, option_map, string_bytes}
use Rattle.std.specs.List.{flat_map}
use Rattle.tql_spec.specs.Expression.{Cond}
use Rattle.tql_spec.specs.Query as query
use Rattle.tql_spec.specs.Query.{Query, Ref}
use Rattle.tql_expr.specs.Meaning.{expr, cond}
use Rattle.tql_expr.specs.declared.terms.Terms.{Terms}
use Rattle.tql_bound.specs.References.{reference_of}
use Rattle.tql_bound.specs.declared.reference.Reference.{Reference}
use Rattle.tql_bound.specs.declared.query.Chain.{Chain}
use Rattle.tql_bound.specs.declared.query.Join.{Join}
use Rattle.tql_bound.specs.declared.query.JoinKind.{JoinKind}
use Rattle.tql_bound.specs.declared.query.JoinKind.TheVariants.{Inner, Left, Cross}
use Rattle.tql_bound.specs.declared.query.OrderKey.{OrderKey}
use Rattle.tql_bound.specs.declared.query.BoundQuery.{BoundQuery}

-- a join of this kind
abbrev pub join_by : JoinKind → Ref → List Cond → query.Join
join_by Inner r on = query.Inner r on
join_by Left r on = query.Left r on
join_by Cross r on = query.Cross r

-- a joined table reference of a chain
abbrev pub join_of : Terms → Join → query.Join
join_of t j = join_by j.kind (reference_of j.reference) (map (cond t) j.on.items)

-- a chain
abbrev pub chain_of : Terms → Chain → query.Chain
chain_of t c = record { first = reference_of c.first; joins = map (join_of t) c.joins.items }

-- a key of ORDER BY
abbrev pub order_of : OrderKey → query.OrderKey
order_of k = record { column = k.column; falls = k.falls }

-- the query
abbrev pub bound_query_of : BoundQuery → Query
bound_query_of x = record {
  chains = map (chain_of x.terms) x.chains.items;
  filter = map (cond x.terms) x.filter.items;
  grouping = option_map (λ g. g.items) x.grouping;
  having = map (cond x.terms) x.having.items;
  items = map (expr x.terms) x.items.items;
  headings = map string_bytes x.headings.items;
  distinct = x.is_distinct;
  ordering = map order_of x.ordering.items;
}

-- the table references of a chain, and those of a bound query, from left to right
abbrev pub references_in : Chain → List Reference
references_in c = c.first ∷ map (λ (j : Join). j.reference) c.joins.items

abbrev pub references_of : BoundQuery → List Reference
references_of x = flat_map references_in x.chains.items

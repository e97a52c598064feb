-- The groups of rows, in the order of their first rows, and what the state of the sink says of the rows so far.
use Rattle.std.specs.Prelude.{◌≡◌, ℕ, List, [], ◌∷◌, ◌++◌, All, filter, length, map, Option, Some}
use Rattle.std.specs.Prelude.{slice_index_or}
use Rattle.std.specs.List.{AllZip}
use Rattle.tql_spec.specs.Datum.{Row, same_row}
use Rattle.tql_spec.specs.Query.{cells_at, distinct_rows, of_group, Scope}
use Rattle.tql_spec.specs.QueryLaws.{NamesGroups, shown}
use Rattle.tql_expr.specs.Meaning.{cond, expr}
use Rattle.tql_expr.specs.declared.terms.Aggregate.{Aggregate}
use Rattle.tql_expr.specs.declared.terms.CondId.{CondId}
use Rattle.tql_expr.specs.declared.terms.ExprId.{ExprId}
use Rattle.tql_expr.specs.declared.terms.Terms.{Terms}
use Rattle.tql_exec_fold.specs.Folded.{HaveFolded}
use Rattle.tql_exec_group.specs.Counted.{kept_count}
use Rattle.tql_exec_group.specs.Sources.{AreSources}
use Rattle.tql_exec_group.specs.Steps.{AreSteps, IsStepped}
use Rattle.tql_exec_fold.specs.declared.fold.Accumulator.{Accumulator}
use Rattle.tql_exec_group.specs.declared.grouping.Grouping.{Grouping}
use Rattle.tql_exec_group.specs.declared.grouping.Groups.{Groups}

-- the cells of each group in the grouping columns; without grouping columns all rows are one group, also of no rows
abbrev pub keys_of : List ℕ → List Row → List Row
keys_of [] rows = [] ∷ []
keys_of (c ∷ cs) rows = distinct_rows (map (cells_at (c ∷ cs)) rows)

-- the rows of the group with these cells
abbrev pub with_key : List ℕ → List Row → Row → List Row
with_key columns rows key = filter (λ r. same_row (cells_at columns r) key) rows

-- the group with a number
abbrev pub scope_at : List ℕ → List Row → ℕ → Scope
scope_at columns rows number = of_group (with_key columns rows (slice_index_or (keys_of columns rows) number []))

-- the keys that are kept: none if there are no grouping columns
abbrev pub kept_keys : List ℕ → List Row → List Row
kept_keys [] rows = []
kept_keys (c ∷ cs) rows = keys_of (c ∷ cs) rows

-- lists one after another
abbrev pub joined : {X : Type 0} → List (List X) → List X
joined [] = []
joined (xs ∷ others) = xs ++ joined others

-- the keys are those of these rows, and the aggregates of each group have taken its rows
pub record AreGrouped (t : Terms) (columns : List ℕ) (aggregates : List Aggregate) (kept : List Row)
    (all : List Accumulator) (rows : List Row) : Type 0 where
  pub keys : kept ≡ kept_keys columns rows
  pub parts : List (List Accumulator)
  pub flat : all ≡ joined parts
  pub folds : AllZip (λ key part. HaveFolded t aggregates part (with_key columns rows key)) (keys_of columns rows) parts

-- the rows of each group are counted
abbrev pub AreCounted : List ℕ → List ℕ → List Row → Type 0
AreCounted columns counts rows =
    AllZip (λ key n. n ≡ kept_count (length (with_key columns rows key))) (keys_of columns rows) counts

-- the groups are those of these rows
pub record HasGrouped (t : Terms) (columns : List ℕ) (aggregates : List Aggregate) (s : Groups) (rows : List Row)
    : Type 0 where
  pub grouped : AreGrouped t columns aggregates s.keys s.folds.items rows
  pub counted : AreCounted columns s.counts.items rows

-- the sink of a query with these columns of GROUP BY, this HAVING and these items
pub record IsGroupingOf (t : Terms) (cs : List ℕ) (conds : List CondId) (exprs : List ExprId) (g : Grouping)
    : Type 0 where
  pub terms : g.terms.now ≡ t
  pub columns : g.columns.now ≡ cs
  pub having : g.having.now ≡ conds
  pub items : g.items.now ≡ exprs

-- the nodes that a sink evaluates are those of its terms, with those of HAVING and the items among them, and it knows
-- where the first items stand
pub record IsReady (g : Grouping) : Type 0 where
  pub steps : AreSteps g.terms.now g.steps
  pub having : All (λ (c : CondId). IsStepped g.steps c.place) g.having.now
  pub items : All (λ (x : ExprId). IsStepped g.steps x.place) g.items.now
  pub sources : AreSources g.terms.now g.columns.now g.sources.items g.items.now

-- all items stand in a group as they are, and all groups are shown
pub record IsDirect (g : Grouping) : Type 0 where
  pub having : g.having.now ≡ []
  pub items : length g.sources.items ≡ length g.items.now

-- outside aggregates, HAVING and the items name grouping columns alone
abbrev pub NamesKeys : Grouping → Type 0
NamesKeys g =
    NamesGroups (Some g.columns.now) (map (cond g.terms.now) g.having.now) (map (expr g.terms.now) g.items.now)

-- the values of the items on the groups that pass HAVING
abbrev pub shows : Grouping → List Scope → Option (List Row)
shows g scopes = shown (map (cond g.terms.now) g.having.now) (map (expr g.terms.now) g.items.now) scopes

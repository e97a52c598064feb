use Rattle.std.proofs.Common.{◌≡◌, drop, map}
use Rattle.std.specs.Prelude.{List, Some}
use Rattle.tql_spec.specs.Datum.{Row}
use Rattle.tql_spec.specs.Query.{scopes}
use Rattle.tql_spec.specs.QueryLaws.{shown}
use Rattle.tql_expr.specs.Evaluated.{behind}
use Rattle.tql_expr.specs.Meaning.{cond, expr}
use Rattle.tql_value.specs.Views.{rows_of}
use Rattle.tql_exec_group.specs.Grouped.{HasGrouped}
use Rattle.tql_exec_group.proofs.grouping.Grouping.told.Given as goal

-- invariant: the results so far, followed by those of the remaining groups, are all
abbrev pub invariant-loop-number : goal.invariant-loop-number
invariant-loop-number l =
    (rows : List Row) → HasGrouped l.self.terms.now l.self.columns.now l.self.steps.aggregates.items l.state rows
    → behind (rows_of l.made.items) (shown (map (cond l.self.terms.now) l.self.having.now)
    (map (expr l.self.terms.now) l.self.items.now) (drop l.number (scopes (Some l.self.columns.now) rows)))
    ≡ shown (map (cond l.self.terms.now) l.self.having.now) (map (expr l.self.terms.now) l.self.items.now)
    (scopes (Some l.self.columns.now) rows)

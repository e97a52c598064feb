-- Bound cells in the arena of their statement.
use Rattle.std.specs.Prelude.{All, Option, option_map, Vec}
use Rattle.tql_spec.specs.Datum.{Kind}
use Rattle.tql_value.specs.Views.{plain_kind}
use Rattle.tql_expr.specs.Meaning.{HasExpr}
use Rattle.tql_expr.specs.declared.terms.ExprId.{ExprId}
use Rattle.tql_expr.specs.declared.terms.Terms.{Terms}
use Rattle.tql_bound.specs.declared.change.Assignment.{Assignment}
use Rattle.tql_bind_expr.specs.declared.scope.Typed.{Typed}

-- the kind of a cell, if known
abbrev pub kind_of : Typed → Option Kind
kind_of cell = option_map plain_kind cell.kind

-- the expression of a cell is in the arena
abbrev pub HasValue : Terms → Typed → Type 0
HasValue t cell = HasExpr t cell.expr

-- the expressions of a tuple are in the arena
abbrev pub HasValues : {A : Type 0} → Terms → Vec ExprId A → Type 0
HasValues t tuple = All (HasExpr t) tuple.items

-- the expression of an assignment is in the arena
abbrev pub HasAssigned : Terms → Assignment → Type 0
HasAssigned t a = HasExpr t a.value

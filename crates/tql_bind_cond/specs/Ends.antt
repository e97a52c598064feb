-- The meaning of the ends of periods.
use Rattle.std.specs.Prelude.{ℕ, List, [], ◌∷◌, map, option_map, Option, Some, None}
use Rattle.tql_spec.specs.Datum.{Moments}
use Rattle.tql_spec.specs.Names as names
use Rattle.tql_value.specs.Views.{plain_kind}
use Rattle.tql_value.specs.declared.value.Kind.{Kind}
use Rattle.tql_catalog.specs.declared.definition.System.{System}
use Rattle.tql_expr.specs.Meaning.{expr, HasExpr}
use Rattle.tql_expr.specs.declared.terms.Terms.{Terms}
use Rattle.tql_bind_cond.specs.declared.periods.Ends.{Ends}

-- the ends of a period in this arena
abbrev pub ends_of : Terms → Ends → names.Ends
ends_of t x = record { start = expr t x.start; end = expr t x.end; kind = option_map plain_kind x.kind }

-- both ends are in the arena
pub record HasEnds (t : Terms) (x : Ends) : Type 0 where
  pub start : HasExpr t x.start
  pub end : HasExpr t x.end

-- the system period of these two columns
abbrev pub period_at : System → names.Ends
period_at s = names.ends_at s.start s.end Moments

abbrev pub periods_of : List System → List names.Ends
periods_of ss = map period_at ss

-- the application period of these two columns
abbrev pub period_of : ℕ × ℕ × Kind → names.Ends
period_of p = names.ends_at p.0 p.1 (plain_kind p.2)

-- the period that a name means, if it means exactly one period and nothing else
abbrev pub sole_period : List names.Thing → Option names.Ends
sole_period (names.APeriod s e k ∷ []) = Some (names.ends_at s e k)
sole_period _ = None

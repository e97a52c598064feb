-- Bound select lists.
use Rattle.std.specs.Prelude.{◌≡◌, ℕ, suc, List, [], ◌∷◌, ◌++◌, map, length, Option, option_map, string_bytes, All}
use Rattle.tql_spec.specs.Binding.{Output, heading_by, outputs}
use Rattle.tql_spec.specs.Definition as definition
use Rattle.tql_spec.specs.Definition.{Name}
use Rattle.tql_spec.specs.Datum.{Kind}
use Rattle.tql_spec.specs.Expression.{Expr, Column}
use Rattle.tql_spec.specs.Names as names
use Rattle.tql_spec.specs.Names.{Checked, ◌>>=◌, sound, Known, sole_name}
use Rattle.tql_spec.specs.Refusal.{Refusal}
use Rattle.tql_spec.specs.Syntax.{Item, Items}
use Rattle.tql_expr.specs.Meaning.{expr, HasExpr, Stays}
use Rattle.tql_expr.specs.declared.terms.Terms.{Terms}
use Rattle.tql_bind_expr.specs.Bounds.{typed_of}
use Rattle.tql_bind_expr.specs.Gathered.{Gathers}
use Rattle.tql_bind_expr.specs.declared.scope.Typed.{Typed}
use Rattle.tql_value.specs.Views.{plain_kind}
use Rattle.tql_bind_query.specs.declared.outputs.SelectList.{SelectList}

-- the values of output columns, their headings, and their kinds
pub record Shown : Type 0 where
  pub items : List Expr
  pub headings : List Name
  pub kinds : List (Option Kind)

-- the values, headings and kinds of these output columns
abbrev pub shown_by : List Output → Shown
shown_by os = record {
  items = map (λ (o : Output). o.typed.expr) os;
  headings = map (λ (o : Output). o.heading) os;
  kinds = map (λ (o : Output). o.typed.kind) os;
}

-- the select list so far, followed by more output columns
abbrev pub behind : Shown → List Output → Shown
behind c os =
    record {
      items = c.items ++ map (λ (o : Output). o.typed.expr) os;
      headings = c.headings ++ map (λ (o : Output). o.heading) os;
      kinds = c.kinds ++ map (λ (o : Output). o.typed.kind) os;
    }

-- a bound select list
abbrev pub shown : List Known → Items → Checked Shown
shown scope is = outputs scope is >>= λ os. sound (shown_by os)

-- the column with this number as an output column
abbrev pub column_output : ℕ → definition.Column → Output
column_output i c = record { typed = names.typed (Column i) c.kind; heading = c.name }

-- the output columns of the code, in this arena
abbrev pub outputs_of : Terms → SelectList → Shown
outputs_of t x = record {
  items = map (expr t) x.items.items;
  headings = map string_bytes x.headings.items;
  kinds = map (option_map plain_kind) x.kinds.items;
}

-- an item is bound and added as the last output column, with the heading of that position
pub record PushesItem (scope : List Known) (it : Item) (old new : Option Refusal) (t : Terms) (x y : SelectList) :
    Type 0 where
  pub value : Typed
  pub bound : Gathers (names.expr scope it.value) old new (typed_of t value)
  pub held : HasExpr t value.expr
  pub items : y.items.items ≡ x.items.items ++ value.expr ∷ []
  pub headings : map string_bytes y.headings.items ≡ map string_bytes x.headings.items ++ heading_by it.alias
      (sole_name it.value) (suc (length x.headings.items)) ∷ []
  pub kinds : y.kinds.items ≡ x.kinds.items ++ value.kind ∷ []

-- these output columns are added after the existing ones
pub record PushesOutputs (os : List Output) (t u : Terms) (x y : SelectList) : Type 0 where
  pub stays : Stays t u
  pub held : All (HasExpr u) y.items.items
  pub are : outputs_of u y ≡ behind (outputs_of t x) os

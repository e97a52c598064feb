-- How literals are read.
use Rattle.std.specs.Prelude.{◌≡◌, ℕ, ◌||◌, ◌==◌, IsFalse, ⊤, List, [], ◌∷◌, ◌++◌, ℤ, Some}
use Rattle.tql_spec.specs.Binding as binding
use Rattle.tql_spec.specs.Calendar.{read_date, read_timestamp}
use Rattle.tql_spec.specs.Datum.{Datum, Null, Int, Text, Day, Moment}
use Rattle.tql_spec.specs.Expression.{Literal}
use Rattle.tql_spec.specs.Grammar as grammar
use Rattle.tql_spec.specs.Names.{Known}
use Rattle.tql_spec.specs.Syntax.{CellTree}
use Rattle.tql_spec.specs.Text.{cell_text}
use Rattle.tql_spec.specs.Token.{AreTokens, Token, is_word_byte}
use Rattle.tql_result_laws.specs.ReadBack.{IsKept}
use Rattle.tql_value.specs.Points.{IsDay, IsMoment}
use Rattle.tql_literal.specs.Literals.{literal_text}

-- nothing follows, or a byte that continues no literal: no letter, `_`, digit or quote
abbrev pub IsParted : List ℕ → Type 0
IsParted [] = ⊤
IsParted (b ∷ bs) = IsFalse (is_word_byte b || (b == 39))

-- a literal is read as this value. Its tokens are read from its text before any separator, and the grammar reads them
-- as a cell. In any scope that cell is bound to the value without a fault.
pub record ReadsBack (v : Datum) : Type 0 where
  pub tokens : List Token
  pub cell : CellTree
  pub spelled : (rest : List ℕ) (behind : List Token) → IsParted rest → AreTokens behind rest
      → AreTokens (tokens ++ behind) (literal_text v ++ rest)
  pub read : (behind : List Token) → grammar.cell cell (tokens ++ behind) behind
  pub clean : (scope : List Known) → (binding.cell scope cell).faults ≡ []
  pub value : (scope : List Known) → (binding.cell scope cell).value.expr ≡ Literal v

-- the law: this is so for each value that can be stored
abbrev pub LiteralsReadBack : Type 0
LiteralsReadBack = (v : Datum) → IsKept v → ReadsBack v

-- the law: the texts of dates and timestamps are read as these values
pub record PointsReadBack : Type 0 where
  pub days : (d : ℤ) → IsDay d → read_date (cell_text (Day d)) ≡ Some d
  pub moments : (m : ℤ) → IsMoment m → read_timestamp (cell_text (Moment m)) ≡ Some m

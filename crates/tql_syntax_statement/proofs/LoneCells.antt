-- A literal that nothing goes on behind is a cell.
use Rattle.std.specs.Prelude.{◌≡◌, refl, ℕ, Bool, true, false, ◌&&◌, not, List, [], ◌∷◌, codes, length, Option, Some}
use Rattle.std.specs.Prelude.{None}
use Rattle.std.proofs.Common.{sym, ap, subst, ◌∙◌}
use Rattle.tql_spec.specs.Token.{Token, Word, QuotedName, Number, Quote, Sign}
use Rattle.tql_spec.specs.Syntax.{NumberLiteral, TextLiteral, DateLiteral}
use Rattle.tql_syntax_grammar.specs.Outcome.{Read, eat_number, eat_quote, begins, expect, quote_at}
use Rattle.tql_syntax_grammar.specs.ReadingExpressions.{primary_over, signed_over, term_over, sum_over, expr_at}
use Rattle.tql_syntax_grammar.specs.ReadingStatements.{cell_at}
use Rattle.tql_syntax_grammar.proofs.Ends.{EndsExpr}
use Rattle.tql_syntax_grammar.proofs.Steps.{is_token_true}
use Rattle.tql_syntax_tree.specs.Statements.{literal_cell}
use Rattle.tql_syntax_expr.specs.Alone.{goes_on_second, goes_on_third}
use Rattle.tql_syntax_expr.proofs.AloneLaws.{takes_number, takes_text, sum_is, ends_behind}
use Rattle.tql_syntax_statement.specs.Cells.{begins_date, date_cell}

not_some : (x : List ℕ) → None ≡ Some x → ⊥
not_some x e = absurd cc

pub number_cell : (ts us : List Token) (ds : List ℕ) → goes_on_second ts ≡ false → eat_number ts ≡ (Some ds, us)
    → cell_at ts ≡ Read (literal_cell (NumberLiteral ds)) us
unfolding cell_at expr_at
number_cell (Number x ∷ ts) us ds e n =
    rw (takes_number (expr_at (length ts)) (Number x ∷ ts) us ds e n) refl
number_cell [] us ds e n = absurd (not_some ds (ap (λ (p : Option (List ℕ) × List Token). p.0) n))
number_cell (_ ∷ ts) us ds e n = absurd (not_some ds (ap (λ (p : Option (List ℕ) × List Token). p.0) n))

pub text_cell : (ts us : List Token) (x : List ℕ) → goes_on_second ts ≡ false → eat_quote ts ≡ (Some x, us)
    → cell_at ts ≡ Read (literal_cell (TextLiteral x)) us
unfolding cell_at expr_at
text_cell (Quote y ∷ ts) us x e n = rw (takes_text (expr_at (length ts)) (Quote y ∷ ts) us x e n) refl
text_cell [] us x e n = absurd (not_some x (ap (λ (p : Option (List ℕ) × List Token). p.0) n))
text_cell (_ ∷ ts) us x e n = absurd (not_some x (ap (λ (p : Option (List ℕ) × List Token). p.0) n))

-- ---- a date

-- DATE and this token, before these tokens
abbrev IsDate : Token → List Token → Type 0
IsDate u ts = cell_at (Word (codes "DATE") ∷ u ∷ ts) ≡ date_cell (Word (codes "DATE") ∷ u ∷ ts)

text_date : (x : List ℕ) (ts : List Token) → EndsExpr ts → IsDate (Quote x) ts
unfolding cell_at expr_at primary_over expect quote_at
text_date x ts ends =
    rw (sum_is (expr_at (length (Quote x ∷ ts))) (DateLiteral x) (Word (codes "DATE") ∷ Quote x ∷ ts) ts refl refl refl
    ends) refl

date_before : (u : Token) (ts : List Token) → goes_on_second (u ∷ ts) ≡ false → IsDate u ts
unfolding cell_at expr_at sum_over term_over signed_over primary_over expect quote_at
date_before (Quote x) ts e = text_date x ts (ends_behind (Quote x) ts e)
date_before (Word x) ts e = refl
date_before (QuotedName x) ts e = refl
date_before (Number x) ts e = refl
date_before (Sign x) ts e = refl

no_text_behind : cell_at (Word (codes "DATE") ∷ []) ≡ date_cell (Word (codes "DATE") ∷ [])
unfolding cell_at expr_at sum_over term_over signed_over primary_over expect quote_at
no_text_behind = refl

record Both (a b : Bool) : Type 0 where
  first : a ≡ true
  second : b ≡ false

both : (a b : Bool) → (a && not b) ≡ true → Both a b
both true false e = record { first = refl; second = refl }
both true true e = absurd cc
both false b e = absurd cc

pub reads_date : (ts : List Token) → begins_date ts ≡ true → cell_at ts ≡ date_cell ts
reads_date [] e = absurd cc
reads_date (w ∷ []) e =
    subst (λ v. cell_at (v ∷ []) ≡ date_cell (v ∷ []))
    (is_token_true (Word (codes "DATE")) w (both (begins (Word (codes "DATE")) (w ∷ [])) false e).first)
    no_text_behind
reads_date (w ∷ u ∷ ts) e =
    let parts = both (begins (Word (codes "DATE")) (w ∷ u ∷ ts)) (goes_on_third (w ∷ u ∷ ts)) e in
    subst (λ v. cell_at (v ∷ u ∷ ts) ≡ date_cell (v ∷ u ∷ ts))
    (is_token_true (Word (codes "DATE")) w parts.first) (date_before u ts parts.second)

-- The pure trees that the code's expressions represent.
use Rattle.std.specs.Prelude.{ℕ, Bool, true, false, List, map, Option, option_map, Box, Vec}
use denote.Ref.{Bor}
use Rattle.tql_spec.specs.Definition as definition
use Rattle.tql_spec.specs.Expression as bound
use Rattle.tql_spec.specs.Token.{upper}
use Rattle.tql_spec.specs.FirstToken.{content}
use Rattle.tql_spec.specs.Syntax as tree
use Rattle.tql_spec.specs.Parts.{AddedTerm, terms_of, factors_of}
use Rattle.tql_syntax_tree.specs.declared.expression.Name.{Name}
use Rattle.tql_syntax_tree.specs.declared.expression.Named.{Named}
use Rattle.tql_syntax_tree.specs.declared.expression.Function.{Function}
use Rattle.tql_syntax_tree.specs.declared.expression.Function.TheVariants.{Count, Sum, Min, Max}
use Rattle.tql_syntax_tree.specs.declared.expression.Sign.{Sign}
use Rattle.tql_syntax_tree.specs.declared.expression.Sign.TheVariants as sign
use Rattle.tql_syntax_tree.specs.declared.expression.ExprIn.{ExprIn}
use Rattle.tql_syntax_tree.specs.declared.expression.AddedTermIn.{AddedTermIn}
use Rattle.tql_syntax_tree.specs.declared.expression.TermIn.{TermIn}
use Rattle.tql_syntax_tree.specs.declared.expression.SignedIn.{SignedIn}
use Rattle.tql_syntax_tree.specs.declared.expression.PrimaryIn.{PrimaryIn}
use Rattle.tql_syntax_tree.specs.declared.expression.PrimaryIn.TheOpen.{ExprIn-F, AddedTermIn-F, TermIn-F, SignedIn-F}
use Rattle.tql_syntax_tree.specs.declared.expression.PrimaryIn.TheOpen.{PrimaryIn-F, Number, Text, Date, Timestamp}
use Rattle.tql_syntax_tree.specs.declared.expression.PrimaryIn.TheOpen.{Column}
use Rattle.tql_syntax_tree.specs.declared.expression.PrimaryIn.TheOpen.{Enclosed, CountStar, Over}
use Rattle.tql_syntax_tree.specs.declared.expression.PrimaryIn.TheFolds.{fold-ExprIn, fold-AddedTermIn, fold-TermIn}
use Rattle.tql_syntax_tree.specs.declared.expression.PrimaryIn.TheFolds.{fold-SignedIn, fold-PrimaryIn}

-- the digits
abbrev pub digits_of : Bor (List ℕ) → List ℕ
digits_of text = text.now

-- the content of a quoted text
abbrev pub content_of : Bor (List ℕ) → List ℕ
content_of text = content 39 text.now

-- the name of a word or of a quoted name
abbrev pub name_by : Bool → Bor (List ℕ) → definition.Name
name_by true text = content 34 text.now
name_by false text = map upper text.now

abbrev pub name_of : Name → definition.Name
name_of n = name_by n.is_quoted n.text

abbrev pub named_of : Named → tree.Named
named_of r = record { qualifier = option_map name_of r.qualifier; name = name_of r.name }

abbrev pub function_of : Function → bound.Function
function_of Count = bound.Count
function_of Sum = bound.Sum
function_of Min = bound.Min
function_of Max = bound.Max

-- a primary with this sign
abbrev pub signed_by : Sign → tree.Primary → tree.Signed
signed_by sign.None p = tree.Unsigned p
signed_by sign.Plus p = tree.Positive p
signed_by sign.Minus p = tree.Negative p

-- ---- one layer of a tree, whose recursive parts are already pure trees

abbrev pub primary_step : {A : Type 0} → PrimaryIn-F A tree.Primary AddedTerm tree.Sum tree.Signed tree.Product
    → tree.Primary
primary_step (Number ds) = tree.NumberLiteral (digits_of ds)
primary_step (Text t) = tree.TextLiteral (content_of t)
primary_step (Date t) = tree.DateLiteral (content_of t)
primary_step (Timestamp t) = tree.TimestampLiteral (content_of t)
primary_step (Column r) = tree.ColumnNamed (named_of r)
primary_step (Enclosed e) = tree.Enclosed e.value
primary_step CountStar = tree.CountStar
primary_step (Over f e) = tree.Over (function_of f) e.value

abbrev pub added_step : {A : Type 0} → AddedTermIn-F A tree.Primary AddedTerm tree.Sum tree.Signed tree.Product
    → AddedTerm
added_step t = record { is_minus = t.is_minus; term = t.term }

abbrev pub expr_step : {A : Type 0} → ExprIn-F A tree.Primary AddedTerm tree.Sum tree.Signed tree.Product → tree.Sum
expr_step e = tree.Terms e.first (terms_of e.more.items)

abbrev pub signed_step : {A : Type 0} → SignedIn-F A tree.Primary AddedTerm tree.Sum tree.Signed tree.Product
    → tree.Signed
signed_step s = signed_by s.sign s.primary

abbrev pub term_step : {A : Type 0} → TermIn-F A tree.Primary AddedTerm tree.Sum tree.Signed tree.Product → tree.Product
term_step t = tree.Factors t.first (factors_of t.more.items)

-- ---- trees

abbrev pub primary_of : {A : Type 0} → PrimaryIn A → tree.Primary
primary_of {A} p = fold-PrimaryIn A tree.Primary AddedTerm tree.Sum tree.Signed tree.Product primary_step added_step
    expr_step signed_step term_step p

abbrev pub added_of : {A : Type 0} → AddedTermIn A → AddedTerm
added_of {A} t = fold-AddedTermIn A tree.Primary AddedTerm tree.Sum tree.Signed tree.Product primary_step added_step
    expr_step signed_step term_step t

abbrev pub expr_of : {A : Type 0} → ExprIn A → tree.Sum
expr_of {A} e = fold-ExprIn A tree.Primary AddedTerm tree.Sum tree.Signed tree.Product primary_step added_step
    expr_step signed_step term_step e

abbrev pub signed_of : {A : Type 0} → SignedIn A → tree.Signed
signed_of {A} s = fold-SignedIn A tree.Primary AddedTerm tree.Sum tree.Signed tree.Product primary_step added_step
    expr_step signed_step term_step s

abbrev pub term_of : {A : Type 0} → TermIn A → tree.Product
term_of {A} t = fold-TermIn A tree.Primary AddedTerm tree.Sum tree.Signed tree.Product primary_step added_step
    expr_step signed_step term_step t

-- a boxed expression
abbrev pub boxed_expr_of : {A B : Type 0} → Box (ExprIn A) B → tree.Sum
boxed_expr_of b = expr_of b.value

-- the factors of a list
abbrev pub signeds_of : {A B : Type 0} → Vec (SignedIn A) B → List tree.Signed
signeds_of ss = map signed_of ss.items

-- the added terms of a list
abbrev pub added_terms_of : {A B : Type 0} → Vec (AddedTermIn A) B → List AddedTerm
added_terms_of ts = map added_of ts.items

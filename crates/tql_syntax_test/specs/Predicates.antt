-- What the code's `Tested` values represent, and which expressions are one column reference.
use Rattle.std.specs.Prelude.{Bool, true, false, ◌&&◌, Option, Some, None}
use Rattle.tql_spec.specs.Syntax as tree
use Rattle.tql_syntax_grammar.specs.ReadingExpressions as reading
use Rattle.tql_syntax_tree.specs.Expressions.{boxed_expr_of}
use Rattle.tql_syntax_tree.specs.Conditions.{boxed_test_of}
use Rattle.tql_syntax_test.specs.declared.predicates.Tested.{Tested}
use Rattle.tql_syntax_test.specs.declared.predicates.Tested.TheVariants as tested

-- whether a primary has no sign
abbrev pub is_unsigned : tree.Signed → Bool
is_unsigned (tree.Unsigned p) = true
is_unsigned (tree.Positive p) = false
is_unsigned (tree.Negative p) = false

-- whether there is no further factor
abbrev pub has_no_factor : tree.MoreFactors → Bool
has_no_factor tree.NoFactor = true
has_no_factor (tree.TimesFactor s fs) = false

-- whether there is no further term
abbrev pub has_no_term : tree.MoreTerms → Bool
has_no_term tree.NoTerm = true
has_no_term (tree.PlusTerm t ts) = false
has_no_term (tree.MinusTerm t ts) = false

-- whether an expression is one primary without a sign
abbrev pub is_lone : tree.Sum → Bool
is_lone (tree.Terms (tree.Factors s fs) ts) = has_no_term ts && (has_no_factor fs && is_unsigned s)

-- the column reference that a primary is, if it is one
abbrev pub column_in : tree.Primary → Option tree.Named
column_in (tree.ColumnNamed r) = Some r
column_in (tree.NumberLiteral ds) = None
column_in (tree.TextLiteral t) = None
column_in (tree.DateLiteral t) = None
column_in (tree.TimestampLiteral t) = None
column_in (tree.Enclosed e) = None
column_in tree.CountStar = None
column_in (tree.Over f e) = None

abbrev pub tested_of : Tested → reading.Tested
tested_of (tested.Test t) = reading.WholeTest (boxed_test_of t)
tested_of (tested.Expr e) = reading.BareExpr (boxed_expr_of e)

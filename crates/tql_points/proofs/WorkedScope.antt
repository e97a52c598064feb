-- Worked examples of written statements, and whether they are in scope.
use Rattle.std.specs.Prelude.{refl, ℕ, Bool, true, false, IsTrue, IsFalse, List, [], ◌∷◌, Option, Some, None, codes}
use Rattle.tql_spec.specs.Datum.{Above}
use Rattle.tql_spec.specs.Definition.{Name, TableDef}
use Rattle.tql_spec.specs.Syntax.{Sum, Terms, NoTerm, Factors, NoFactor, Unsigned, Primary, NumberLiteral}
use Rattle.tql_spec.specs.Syntax.{DateLiteral, ColumnNamed, Enclosed, Condition, AnyOf, NoConj, AllOf, NoTest}
use Rattle.tql_spec.specs.Syntax.{Straight, Compared, ContainsPoint, ByName, ByMark, SystemTime, Test, TypeName}
use Rattle.tql_spec.specs.Syntax.{IntegerType, DateType, TimestampType, RowStart, RowEnd, Generated, Element}
use Rattle.tql_spec.specs.Syntax.{ColumnElement, PeriodElement, ConstraintElement, KeyTree, CheckTree, CellTree}
use Rattle.tql_spec.specs.Syntax.{NullCell, DropTree, OpenTree, CloseTree}
use Rattle.tql_spec.specs.Syntax.{ValueCell, DatePoint, Statement, CreateTree, InsertValues, UpdateTree, DeleteTree}
use Rattle.tql_spec.specs.Creation.{create}
use Rattle.tql_points.specs.StatementScope.{makes_point_table, is_statement_in_scope}

-- ---- CREATE TABLE

abbrev column : Name → TypeName → Option Generated → Element
column n t g = ColumnElement (record { name = n; type_name = t; required = false; generated = g })

abbrev only : Primary → Sum
only p = Terms (Factors (Unsigned p) NoFactor) NoTerm

abbrev called : Name → Sum
called n = only (ColumnNamed (record { qualifier = None; name = n }))

-- one test as a condition
abbrev holds_if : Test → Condition
holds_if t = AnyOf (AllOf (Straight t) NoTest) NoConj

abbrev eno : Element
eno = column (codes "ENO") IntegerType None

-- the columns and the periods after the first column
abbrev rest : List Element
rest =
    column (codes "ESTART") DateType None ∷ column (codes "EEND") DateType None
    ∷ column (codes "S") (TimestampType (Some (1 ∷ 2 ∷ []))) (Some RowStart)
    ∷ column (codes "E") (TimestampType (Some (1 ∷ 2 ∷ []))) (Some RowEnd)
    ∷ PeriodElement (Some (codes "EP")) (codes "ESTART") (codes "EEND") ∷ PeriodElement None (codes "S") (codes "E")
    ∷ []

abbrev emp : List Element → Statement
emp more = CreateTree (codes "EMP") eno more true

abbrev positive : Condition
positive = holds_if (Compared Above (called (codes "ENO")) (only (NumberLiteral (0 ∷ []))))

plain_is_in_scope : IsTrue (makes_point_table (emp rest))
plain_is_in_scope = refl

key_is_in_scope : IsTrue (makes_point_table
    (emp (ConstraintElement (KeyTree true (codes "ENO") [] (Some (codes "EP"))) ∷ ConstraintElement (CheckTree positive)
    ∷ rest)))
key_is_in_scope = refl

plain_key_is_not : IsFalse (makes_point_table (emp (ConstraintElement (KeyTree true (codes "ENO") [] None) ∷ rest)))
plain_key_is_not = refl

check_of_a_period_is_not : IsFalse (makes_point_table
    (emp (ConstraintElement (CheckTree (holds_if (Compared Above (called (codes "EEND")) (called (codes "ESTART")))))
    ∷ rest)))
check_of_a_period_is_not = refl

no_period_is_not : IsFalse (makes_point_table (CreateTree (codes "EMP") eno [] false))
no_period_is_not = refl

-- ---- changes

abbrev made : TableDef
made = (create [] (codes "EMP") (eno ∷ rest) true).value

abbrev scoped : Statement → Bool
scoped t = is_statement_in_scope (made ∷ []) t

abbrev number : ℕ → CellTree
number n = ValueCell (only (NumberLiteral (n ∷ [])))

abbrev date : List ℕ → CellTree
date t = ValueCell (only (DateLiteral t))

abbrev inserted : List Name → List CellTree → Statement
inserted names cells = InsertValues (codes "EMP") names (record { first = number 1; more = cells }) []

rising_is_in_scope : IsTrue (scoped (inserted [] (date (codes "2011-01-01") ∷ date (codes "2011-12-31") ∷ [])))
rising_is_in_scope = refl

listed_is_in_scope : IsTrue (scoped (inserted (codes "ENO" ∷ codes "EEND" ∷ codes "ESTART" ∷ [])
    (ValueCell (only (Enclosed (only (DateLiteral (codes "2011-12-31"))))) ∷ date (codes "2011-01-01") ∷ [])))
listed_is_in_scope = refl

falling_is_not : IsFalse (scoped (inserted [] (date (codes "2011-12-31") ∷ date (codes "2011-01-01") ∷ [])))
falling_is_not = refl

null_is_not : IsFalse (scoped (inserted [] (date (codes "2011-12-31") ∷ NullCell ∷ [])))
null_is_not = refl

-- UPDATE emp FOR PORTION OF ep .. SET eno = 2 WHERE ..
abbrev changed : Option Condition → Statement
changed c = UpdateTree (codes "EMP")
    (Some (record {
      period = Some (codes "EP");
      from = DatePoint (codes "2011-03-01");
      to = DatePoint (codes "2011-06-01");
    })) (record { column = codes "ENO"; value = number 2 }) [] c

portion_is_in_scope : IsTrue (scoped (changed (Some positive)))
portion_is_in_scope = refl

period_in_where_is_not : IsFalse (scoped (changed (Some
    (holds_if (ContainsPoint (ByName (record { qualifier = None; name = codes "EP" }))
    (only (DateLiteral (codes "2011-04-01"))))))))
period_in_where_is_not = refl

system_time_in_where_is_not : IsFalse (scoped (DeleteTree (codes "EMP") None (Some
    (holds_if (ContainsPoint (ByMark (SystemTime None)) (only (DateLiteral (codes "2011-04-01"))))))))
system_time_in_where_is_not = refl

row_start_in_set_is_not : IsFalse (scoped (UpdateTree (codes "EMP") None
    (record { column = codes "ENO"; value = ValueCell (called (codes "S")) }) [] None))
row_start_in_set_is_not = refl

created_later_is_in_scope : IsTrue (scoped (emp rest))
created_later_is_in_scope = refl

plain_table_is_not : IsFalse (scoped (CreateTree (codes "P") eno [] false))
plain_table_is_not = refl

dropping_is_in_scope : IsTrue (scoped (DropTree (codes "EMP")))
dropping_is_in_scope = refl

-- readers change no table
opening_is_in_scope : IsTrue (scoped (OpenTree (codes "R")))
opening_is_in_scope = refl

closing_is_in_scope : IsTrue (scoped (CloseTree (codes "R")))
closing_is_in_scope = refl

-- The pure trees that the code's statements represent.
use Rattle.std.specs.Prelude.{List, map, Option, option_map, Box, Vec}
use Rattle.tql_spec.specs.Definition as definition
use Rattle.tql_spec.specs.Syntax as tree
use Rattle.tql_syntax_tree.specs.Expressions.{digits_of, content_of, name_of, named_of, boxed_expr_of}
use Rattle.tql_syntax_tree.specs.Conditions.{boxed_cond_of}
use Rattle.tql_syntax_tree.specs.declared.condition.CondIn.{CondIn}
use Rattle.tql_syntax_tree.specs.declared.expression.Name.{Name}
use Rattle.tql_syntax_tree.specs.declared.expression.Named.{Named}
use Rattle.tql_syntax_tree.specs.declared.statement.TypeName.{TypeName}
use Rattle.tql_syntax_tree.specs.declared.statement.TypeName.TheVariants as type_name
use Rattle.tql_syntax_tree.specs.declared.statement.Generated.{Generated}
use Rattle.tql_syntax_tree.specs.declared.statement.Generated.TheVariants.{RowStart, RowEnd}
use Rattle.tql_syntax_tree.specs.declared.statement.ColumnTree.{ColumnTree}
use Rattle.tql_syntax_tree.specs.declared.statement.RefList.{RefList}
use Rattle.tql_syntax_tree.specs.declared.statement.KeyTree.{KeyTree}
use Rattle.tql_syntax_tree.specs.declared.statement.ForeignTree.{ForeignTree}
use Rattle.tql_syntax_tree.specs.declared.statement.Constraint.{Constraint}
use Rattle.tql_syntax_tree.specs.declared.statement.Constraint.TheVariants as constraint
use Rattle.tql_syntax_tree.specs.declared.statement.PeriodTree.{PeriodTree}
use Rattle.tql_syntax_tree.specs.declared.statement.Element.{Element}
use Rattle.tql_syntax_tree.specs.declared.statement.Element.TheVariants as element
use Rattle.tql_syntax_tree.specs.declared.statement.CreateTree.{CreateTree}
use Rattle.tql_syntax_tree.specs.declared.statement.SpanTree.{SpanTree}
use Rattle.tql_syntax_tree.specs.declared.statement.SpanTree.TheVariants as span
use Rattle.tql_syntax_tree.specs.declared.statement.RefTree.{RefTree}
use Rattle.tql_syntax_tree.specs.declared.statement.Joined.{Joined}
use Rattle.tql_syntax_tree.specs.declared.statement.JoinTree.{JoinTree}
use Rattle.tql_syntax_tree.specs.declared.statement.JoinTree.TheVariants as join
use Rattle.tql_syntax_tree.specs.declared.statement.ChainTree.{ChainTree}
use Rattle.tql_syntax_tree.specs.declared.statement.Item.{Item}
use Rattle.tql_syntax_tree.specs.declared.statement.Items.{Items}
use Rattle.tql_syntax_tree.specs.declared.statement.Items.TheVariants.{All, These}
use Rattle.tql_syntax_tree.specs.declared.statement.SelectTree.{SelectTree}
use Rattle.tql_syntax_tree.specs.declared.statement.KeyName.{KeyName}
use Rattle.tql_syntax_tree.specs.declared.statement.KeyName.TheVariants.{Heading, Position}
use Rattle.tql_syntax_tree.specs.declared.statement.OrderTree.{OrderTree}
use Rattle.tql_syntax_tree.specs.declared.statement.Query.{Query}
use Rattle.tql_syntax_tree.specs.declared.statement.CellTree.{CellTree}
use Rattle.tql_syntax_tree.specs.declared.statement.CellTree.TheVariants as cell
use Rattle.tql_syntax_tree.specs.declared.statement.Tuple.{Tuple}
use Rattle.tql_syntax_tree.specs.declared.statement.RowSource.{RowSource}
use Rattle.tql_syntax_tree.specs.declared.statement.RowSource.TheVariants as rows
use Rattle.tql_syntax_tree.specs.declared.statement.Insert.{Insert}
use Rattle.tql_syntax_tree.specs.declared.statement.SetTree.{SetTree}
use Rattle.tql_syntax_tree.specs.declared.statement.PointTree.{PointTree}
use Rattle.tql_syntax_tree.specs.declared.statement.PointTree.TheVariants as point
use Rattle.tql_syntax_tree.specs.declared.statement.PortionTree.{PortionTree}
use Rattle.tql_syntax_tree.specs.declared.statement.Update.{Update}
use Rattle.tql_syntax_tree.specs.declared.statement.Delete.{Delete}
use Rattle.tql_syntax_tree.specs.declared.statement.Statement.{Statement}
use Rattle.tql_syntax_tree.specs.declared.statement.Statement.TheVariants as statement

-- the names of a list
abbrev pub names_of : {B : Type 0} → Vec Name B → List definition.Name
names_of ns = map name_of ns.items

-- ---- definitions

abbrev pub type_of : TypeName → tree.TypeName
type_of type_name.Integer = tree.IntegerType
type_of (type_name.Varchar ds) = tree.VarcharType (digits_of ds)
type_of type_name.Date = tree.DateType
type_of (type_name.Timestamp p) = tree.TimestampType (option_map digits_of p)

abbrev pub generated_of : Generated → tree.Generated
generated_of RowStart = tree.RowStart
generated_of RowEnd = tree.RowEnd

abbrev pub column_of : ColumnTree → tree.ColumnTree
column_of c = record {
  name = name_of c.name;
  type_name = type_of c.type_name;
  required = c.is_required;
  generated = option_map generated_of c.generated;
}

abbrev pub reflist_of : RefList → tree.RefList
reflist_of r = record { first = name_of r.first; more = names_of r.more; period = option_map name_of r.period }

abbrev pub key_of : KeyTree → tree.Constraint
key_of k = tree.KeyTree k.is_primary (name_of k.first) (names_of k.more) (option_map name_of k.period)

abbrev pub foreign_of : ForeignTree → tree.Constraint
foreign_of f = tree.ForeignTree (reflist_of f.child) (name_of f.table) (reflist_of f.parent)

abbrev pub constraint_of : Constraint → tree.Constraint
constraint_of (constraint.Key k) = key_of k
constraint_of (constraint.Foreign f) = foreign_of f
constraint_of (constraint.Check c) = tree.CheckTree (boxed_cond_of c)

-- a boxed constraint
abbrev pub boxed_constraint_of : {B : Type 0} → Box Constraint B → tree.Constraint
boxed_constraint_of b = constraint_of b.value

abbrev pub period_of : PeriodTree → tree.Element
period_of p = tree.PeriodElement (option_map name_of p.name) (name_of p.start) (name_of p.end)

abbrev pub element_of : Element → tree.Element
element_of (element.Column c) = tree.ColumnElement (column_of c)
element_of (element.Period p) = period_of p
element_of (element.Constraint _ c) = tree.ConstraintElement (boxed_constraint_of c)

-- the elements of a list
abbrev pub elements_of : {B : Type 0} → Vec Element B → List tree.Element
elements_of es = map element_of es.items

abbrev pub create_of : CreateTree → tree.Statement
create_of c = tree.CreateTree (name_of c.table) (element_of c.first) (elements_of c.more) c.is_versioned

-- ---- queries

abbrev pub span_of : SpanTree → tree.SpanTree
span_of span.None = tree.NoSpan
span_of (span.AsOf t) = tree.AsOfTree (content_of t)
span_of (span.FromTo s t) = tree.FromToTree (content_of s) (content_of t)
span_of (span.Between s t) = tree.BetweenTree (content_of s) (content_of t)

abbrev pub ref_of : RefTree → tree.RefTree
ref_of r = record { table = name_of r.table; span = span_of r.span; alias = option_map name_of r.alias }

-- a join of this kind, from a boxed reference and condition
abbrev pub joined_by : {B : Type 0} → (tree.RefTree → tree.Condition → tree.JoinTree) → Box Joined B → tree.JoinTree
joined_by which j = which (ref_of j.value.reference) (boxed_cond_of j.value.condition)

-- a cross join, from a boxed reference
abbrev pub crossed_of : {B : Type 0} → Box RefTree B → tree.JoinTree
crossed_of r = tree.CrossJoin (ref_of r.value)

abbrev pub join_of : JoinTree → tree.JoinTree
join_of (join.Inner j) = joined_by tree.InnerJoin j
join_of (join.Left j) = joined_by tree.LeftJoin j
join_of (join.Cross r) = crossed_of r

-- the joins of a list
abbrev pub joins_of : {B : Type 0} → Vec JoinTree B → List tree.JoinTree
joins_of js = map join_of js.items

abbrev pub chain_of : ChainTree → tree.ChainTree
chain_of c = record { first = ref_of c.first; joins = joins_of c.joins }

-- the chains of a list
abbrev pub chains_of : {B : Type 0} → Vec ChainTree B → List tree.ChainTree
chains_of cs = map chain_of cs.items

abbrev pub item_of : Item → tree.Item
item_of i = record { value = boxed_expr_of i.value; alias = option_map name_of i.alias }

-- the items of a list
abbrev pub item_list_of : {B : Type 0} → Vec Item B → List tree.Item
item_list_of is = map item_of is.items

abbrev pub items_of : Items → tree.Items
items_of All = tree.AllColumns
items_of (These i is) = tree.TheseItems (item_of i) (item_list_of is)

-- the columns of a list
abbrev pub nameds_of : {B : Type 0} → Vec Named B → List tree.Named
nameds_of rs = map named_of rs.items

-- the condition, if there is one
abbrev pub filter_of : {A B : Type 0} → Option (Box (CondIn A) B) → Option tree.Condition
filter_of c = option_map boxed_cond_of c

abbrev pub select_of : SelectTree → tree.SelectTree
select_of s =
    record {
      distinct = s.is_distinct;
      items = items_of s.items;
      first = chain_of s.first;
      more = chains_of s.more;
      filter = filter_of s.filter;
      grouping = nameds_of s.grouping;
      having = filter_of s.having;
    }

-- a boxed select
abbrev pub boxed_select_of : {B : Type 0} → Box SelectTree B → tree.SelectTree
boxed_select_of b = select_of b.value

abbrev pub key_name_of : KeyName → tree.KeyName
key_name_of (Heading n) = tree.ByHeading (name_of n)
key_name_of (Position ds) = tree.ByPosition (digits_of ds)

abbrev pub order_of : OrderTree → tree.OrderTree
order_of k = record { key = key_name_of k.key; falls = k.falls }

-- the keys of a list
abbrev pub orders_of : {B : Type 0} → Vec OrderTree B → List tree.OrderTree
orders_of ks = map order_of ks.items

abbrev pub query_of : Query → tree.Statement
query_of q = tree.QueryTree (boxed_select_of q.select) (orders_of q.ordering)

-- READ of the reader with this name
abbrev pub read_of : Name → Query → tree.Statement
read_of n q = tree.ReadTree (name_of n) (boxed_select_of q.select) (orders_of q.ordering)

-- ---- changes

-- the cell that is this literal alone
abbrev pub literal_cell : tree.Primary → tree.CellTree
literal_cell p = tree.ValueCell (tree.Terms (tree.Factors (tree.Unsigned p) tree.NoFactor) tree.NoTerm)

abbrev pub cell_of : CellTree → tree.CellTree
cell_of cell.Null = tree.NullCell
cell_of (cell.Number ds _) = literal_cell (tree.NumberLiteral (digits_of ds))
cell_of (cell.Text t _) = literal_cell (tree.TextLiteral (content_of t))
cell_of (cell.Date t _) = literal_cell (tree.DateLiteral (content_of t))
cell_of (cell.Value e) = tree.ValueCell (boxed_expr_of e)

-- the cells of a list
abbrev pub cells_of : {B : Type 0} → Vec CellTree B → List tree.CellTree
cells_of cs = map cell_of cs.items

abbrev pub tuple_of : Tuple → tree.Tuple
tuple_of t = record { first = cell_of t.first; more = cells_of t.more }

-- the tuples of a list
abbrev pub tuples_of : {B : Type 0} → Vec Tuple B → List tree.Tuple
tuples_of ts = map tuple_of ts.items

-- INSERT with these rows
abbrev pub insert_by : definition.Name → List definition.Name → RowSource → tree.Statement
insert_by n cs (rows.Values t ts) = tree.InsertValues n cs (tuple_of t) (tuples_of ts)
insert_by n cs (rows.Select s) = tree.InsertSelect n cs (boxed_select_of s)

abbrev pub insert_of : Insert → tree.Statement
insert_of i = insert_by (name_of i.table) (names_of i.columns) i.rows

abbrev pub assignment_of : SetTree → tree.SetTree
assignment_of a = record { column = name_of a.column; value = cell_of a.value }

-- the assignments of a list
abbrev pub assignments_of : {B : Type 0} → Vec SetTree B → List tree.SetTree
assignments_of as' = map assignment_of as'.items

abbrev pub point_of : PointTree → tree.PointTree
point_of (point.Date t) = tree.DatePoint (content_of t)
point_of (point.Moment t) = tree.MomentPoint (content_of t)

abbrev pub portion_of : PortionTree → tree.PortionTree
portion_of p = record { period = option_map name_of p.period; from = point_of p.from; to = point_of p.to }

abbrev pub update_of : Update → tree.Statement
update_of u =
    tree.UpdateTree (name_of u.table) (option_map portion_of u.portion) (assignment_of u.first)
    (assignments_of u.more) (filter_of u.filter)

abbrev pub delete_of : Delete → tree.Statement
delete_of d = tree.DeleteTree (name_of d.table) (option_map portion_of d.portion) (filter_of d.filter)

-- ---- statements

abbrev pub statement_of : Statement → tree.Statement
statement_of (statement.Create c) = create_of c.value
statement_of (statement.DropTable n) = tree.DropTree (name_of n)
statement_of (statement.Insert i) = insert_of i.value
statement_of (statement.Update u) = update_of u.value
statement_of (statement.Delete d) = delete_of d.value
statement_of (statement.Query q) = query_of q.value
statement_of statement.StartTransaction = tree.StartTree
statement_of statement.Commit = tree.CommitTree
statement_of statement.Rollback = tree.RollbackTree
statement_of (statement.At t) = tree.AtTree (content_of t)
statement_of (statement.Prune t) = tree.PruneTree (content_of t)
statement_of (statement.OpenReader n) = tree.OpenTree (name_of n)
statement_of (statement.Read n q) = read_of n q.value
statement_of (statement.CloseReader n) = tree.CloseTree (name_of n)

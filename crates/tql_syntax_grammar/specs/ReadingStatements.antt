-- Reading statements.
use Rattle.std.specs.Prelude.{ℕ, zero, suc, Bool, true, false, ◌||◌, ◌&&◌, if◌then◌else◌, List, [], ◌∷◌, codes}
use Rattle.std.specs.Prelude.{length, Option, Some, None}
use Rattle.tql_spec.specs.Definition.{Name}
use Rattle.tql_spec.specs.Token.{Token, Word, Number, Sign, Open, Close, Comma, Star, EqualSign}
use Rattle.tql_spec.specs.Syntax.{Named, Condition, TypeName, IntegerType, VarcharType, DateType, TimestampType}
use Rattle.tql_spec.specs.Syntax.{Generated, RowStart, RowEnd, RefList, Constraint, KeyTree, ForeignTree, CheckTree}
use Rattle.tql_spec.specs.Syntax.{Element, ColumnElement, PeriodElement, ConstraintElement, MomentTree, SpanTree}
use Rattle.tql_spec.specs.Syntax.{NoSpan, AsOfTree, FromToTree, BetweenTree, RefTree, JoinTree, InnerJoin, LeftJoin}
use Rattle.tql_spec.specs.Syntax.{CrossJoin, ChainTree, Item, Items, AllColumns, TheseItems, SelectTree, KeyName}
use Rattle.tql_spec.specs.Syntax.{ByHeading, ByPosition, OrderTree, CellTree, NullCell, ValueCell, Tuple, SetTree}
use Rattle.tql_spec.specs.Syntax.{PointTree, DatePoint, MomentPoint, PortionTree, Statement, CreateTree, DropTree}
use Rattle.tql_spec.specs.Syntax.{InsertValues, InsertSelect, UpdateTree, DeleteTree, QueryTree, StartTree}
use Rattle.tql_spec.specs.Syntax.{CommitTree, RollbackTree, AtTree, PruneTree, OpenTree, ReadTree, CloseTree}
use Rattle.tql_syntax_grammar.specs.Outcome.{Read, Parser, ◌>>=◌, found, into, eat, keyword, symbol, name_at, number_at}
use Rattle.tql_syntax_grammar.specs.Outcome.{quote_at, begins, begins_second, begins_third, begins_name, if_front}
use Rattle.tql_syntax_grammar.specs.Outcome.{behind}
use Rattle.tql_syntax_grammar.specs.Outcome.{more, next, separated, whole}
use Rattle.tql_syntax_grammar.specs.ReadingExpressions.{named_at, expr_here, condition_here}

-- ---- types and columns

-- ( number )
unfoldable pub size_at : Parser (List ℕ)
size_at ts = symbol Open ts >>= λ _ a. number_at a >>= λ ds b. symbol Close b >>= λ _ c. Read ds c

-- [( number )]
unfoldable pub precision_at : Parser (Option (List ℕ))
precision_at ts = if begins (Sign Open) ts then into Some (size_at ts) else Read None ts

-- [WITHOUT TIME ZONE]
unfoldable pub zone_at : Parser (Unit {0})
zone_at = if_front (Word (codes "WITHOUT")) (λ us. keyword (codes "TIME") us >>= λ _ a. keyword (codes "ZONE") a)
    (found tt)

-- after TIMESTAMP
unfoldable pub timestamp_type_at : Parser TypeName
timestamp_type_at ts = precision_at ts >>= λ p a. into (λ _. TimestampType p) (zone_at a)

-- the types other than whole numbers
abbrev pub other_type_at : Parser TypeName
other_type_at =
    if_front (Word (codes "VARCHAR")) (λ us. into VarcharType (size_at us))
    (if_front (Word (codes "DATE")) (found DateType)
    (λ us. keyword (codes "TIMESTAMP") us >>= λ _ a. timestamp_type_at a))

unfoldable pub type_at : Parser TypeName
type_at =
    if_front (Word (codes "INTEGER")) (found IntegerType)
    (if_front (Word (codes "INT")) (found IntegerType)
    (if_front (Word (codes "BIGINT")) (found IntegerType) other_type_at))

-- [NOT NULL], and whether it is there
unfoldable pub not_null_at : Parser Bool
not_null_at = if_front (Word (codes "NOT")) (λ us. into (λ _. true) (keyword (codes "NULL") us)) (found false)

-- after GENERATED: ALWAYS AS ROW, and START or END
unfoldable pub generated_at : Parser Generated
generated_at ts =
    keyword (codes "ALWAYS") ts >>= λ _ a. keyword (codes "AS") a >>= λ _ b. keyword (codes "ROW") b >>= λ _ c.
    if_front (Word (codes "START")) (found RowStart) (λ us. into (λ _. RowEnd) (keyword (codes "END") us)) c

-- a column, from its parts; NOT NULL may come before or after GENERATED
abbrev pub column_of : Name → TypeName → Bool → Option Generated → Bool → Element
column_of n t first g second = ColumnElement (record {
  name = n;
  type_name = t;
  required = first || second;
  generated = g;
})

-- the end of a column, after the optional GENERATED
abbrev pub column_end : Name → TypeName → Bool → Option Generated → Parser Element
column_end n t first None ts = Read (column_of n t first None false) ts
column_end n t first (Some g) ts = not_null_at ts >>= λ second a. Read (column_of n t first (Some g) second) a

unfoldable pub column_at : Parser Element
column_at ts =
    name_at ts >>= λ n a. type_at a >>= λ t b. not_null_at b >>= λ first c.
    behind (Word (codes "GENERATED")) generated_at c >>= λ g d. column_end n t first g d

-- ---- periods and constraints

-- a period's name, or SYSTEM_TIME, which has none
unfoldable pub period_name_at : Parser (Option Name)
period_name_at = if_front (Word (codes "SYSTEM_TIME")) (found None) (λ us. into Some (name_at us))

-- after PERIOD
unfoldable pub period_at : Parser Element
period_at ts =
    keyword (codes "FOR") ts >>= λ _ a. period_name_at a >>= λ p b. symbol Open b >>= λ _ c. name_at c >>= λ s d.
    symbol Comma d >>= λ _ e. name_at e >>= λ f g. symbol Close g >>= λ _ rest. Read (PeriodElement p s f) rest

-- whether a comma is in front and WITHOUT is the third token
abbrev pub begins_key_period : List Token → Bool
begins_key_period ts = begins (Sign Comma) ts && begins_third (Word (codes "WITHOUT")) ts

-- whether a comma and PERIOD are in front
abbrev pub begins_reference_period : List Token → Bool
begins_reference_period ts = begins (Sign Comma) ts && begins_second (Word (codes "PERIOD")) ts

-- , name, unless it is the period of the key
unfoldable pub next_key_column : Parser (Option Name)
next_key_column ts = if begins_key_period ts then Read None ts else next name_at ts

-- name WITHOUT OVERLAPS
unfoldable pub key_period_at : Parser Name
key_period_at ts =
    name_at ts >>= λ n a. keyword (codes "WITHOUT") a >>= λ _ b. keyword (codes "OVERLAPS") b >>= λ _ c. Read n c

-- after PRIMARY KEY or UNIQUE
unfoldable pub key_at : Bool → Parser Constraint
key_at primary ts =
    symbol Open ts >>= λ _ a. name_at a >>= λ c b. more next_key_column [] b >>= λ cs d. next key_period_at d >>= λ p e.
    symbol Close e >>= λ _ rest. Read (KeyTree primary c cs p) rest

-- , name, unless it is the period of the foreign key
unfoldable pub next_reference_column : Parser (Option Name)
next_reference_column ts = if begins_reference_period ts then Read None ts else next name_at ts

-- PERIOD name
unfoldable pub reference_period_at : Parser Name
reference_period_at ts = keyword (codes "PERIOD") ts >>= λ _ a. name_at a

unfoldable pub reflist_at : Parser RefList
reflist_at ts =
    symbol Open ts >>= λ _ a. name_at a >>= λ c b. more next_reference_column [] b >>= λ cs d. next
    reference_period_at d >>= λ p e.
    symbol Close e >>= λ _ rest. Read (record { first = c; more = cs; period = p }) rest

-- after ON: DELETE or UPDATE, and NO ACTION
unfoldable pub no_action_at : Parser (Unit {0})
no_action_at ts =
    if_front (Word (codes "DELETE")) (found tt) (keyword (codes "UPDATE")) ts >>= λ _ a.
    keyword (codes "NO") a >>= λ _ b. keyword (codes "ACTION") b

-- any number of ON .. NO ACTION; the number bounds the turns
unfoldable pub no_actions_from : ℕ → Parser (Unit {0})
no_actions_from zero ts = Read tt ts
no_actions_from (suc n) ts =
    if (eat (Word (codes "ON")) ts).0
    then (no_action_at (eat (Word (codes "ON")) ts).1 >>= λ _ a. no_actions_from n a)
    else Read tt (eat (Word (codes "ON")) ts).1

abbrev pub no_actions : Parser (Unit {0})
no_actions ts = no_actions_from (length ts) ts

-- after FOREIGN
unfoldable pub foreign_at : Parser Constraint
foreign_at ts =
    keyword (codes "KEY") ts >>= λ _ a. reflist_at a >>= λ child b. keyword (codes "REFERENCES") b >>= λ _ c. name_at
    c >>= λ t d.
    reflist_at d >>= λ parent e. no_actions e >>= λ _ rest. Read (ForeignTree child t parent) rest

-- after CHECK
unfoldable pub check_at : Parser Constraint
check_at ts = symbol Open ts >>= λ _ a. condition_here a >>= λ c b. symbol Close b >>= λ _ rest. Read (CheckTree c) rest

unfoldable pub constraint_at : Parser Constraint
constraint_at =
    if_front (Word (codes "PRIMARY")) (λ us. keyword (codes "KEY") us >>= λ _ a. key_at true a)
    (if_front (Word (codes "UNIQUE")) (key_at false)
    (if_front (Word (codes "FOREIGN")) foreign_at (λ us. keyword (codes "CHECK") us >>= λ _ a. check_at a)))

-- after CONSTRAINT
unfoldable pub named_constraint_at : Parser Constraint
named_constraint_at ts = name_at ts >>= λ _ a. constraint_at a

-- whether a constraint without a name is in front
abbrev pub begins_constraint : List Token → Bool
begins_constraint ts =
    begins (Word (codes "PRIMARY")) ts || (begins (Word (codes "UNIQUE")) ts
    || (begins (Word (codes "FOREIGN")) ts || begins (Word (codes "CHECK")) ts))

-- a constraint without a name, or a column
abbrev pub constraint_or_column_at : Parser Element
constraint_or_column_at ts = if begins_constraint ts then into ConstraintElement (constraint_at ts) else column_at ts

unfoldable pub element_at : Parser Element
element_at =
    if_front (Word (codes "PERIOD")) period_at
    (if_front (Word (codes "CONSTRAINT")) (λ us. into ConstraintElement (named_constraint_at us))
    constraint_or_column_at)

-- ---- CREATE and DROP

-- [WITH SYSTEM VERSIONING], and whether it is there
unfoldable pub versioning_at : Parser Bool
versioning_at =
    if_front (Word (codes "WITH"))
    (λ us. keyword (codes "SYSTEM") us >>= λ _ a. into (λ _. true) (keyword (codes "VERSIONING") a)) (found false)

-- after CREATE
unfoldable pub create_at : Parser Statement
create_at ts =
    keyword (codes "TABLE") ts >>= λ _ a. name_at a >>= λ n b. symbol Open b >>= λ _ c. element_at c >>= λ e d.
    more (next element_at) [] d >>= λ es f. symbol Close f >>= λ _ g. versioning_at g >>= λ v rest. Read
    (CreateTree n e es v) rest

-- an optional word without meaning
abbrev pub noise : List ℕ → Parser (Unit {0})
noise w ts = Read tt (eat (Word w) ts).1

-- after DROP
unfoldable pub drop_at : Parser Statement
drop_at ts =
    keyword (codes "TABLE") ts >>= λ _ a. name_at a >>= λ n b. noise (codes "RESTRICT") b >>= λ _ rest. Read
    (DropTree n) rest

-- ---- literals

-- TIMESTAMP text
unfoldable pub moment_at : Parser MomentTree
moment_at ts = keyword (codes "TIMESTAMP") ts >>= λ _ a. quote_at a

-- DATE text, or TIMESTAMP text
unfoldable pub point_at : Parser PointTree
point_at = if_front (Word (codes "DATE")) (λ us. into DatePoint (quote_at us)) (λ us. into MomentPoint (moment_at us))

-- ---- queries

-- after FROM: moment TO moment
unfoldable pub from_to_at : Parser SpanTree
from_to_at ts = moment_at ts >>= λ a b. keyword (codes "TO") b >>= λ _ c. into (FromToTree a) (moment_at c)

-- after BETWEEN: moment AND moment
unfoldable pub between_at : Parser SpanTree
between_at ts = moment_at ts >>= λ a b. keyword (codes "AND") b >>= λ _ c. into (BetweenTree a) (moment_at c)

-- after FOR
unfoldable pub span_behind : Parser SpanTree
span_behind ts =
    keyword (codes "SYSTEM_TIME") ts >>= λ _ a.
    if_front (Word (codes "AS")) (λ us. keyword (codes "OF") us >>= λ _ b. into AsOfTree (moment_at b))
    (if_front (Word (codes "FROM")) from_to_at (λ us. keyword (codes "BETWEEN") us >>= λ _ b. between_at b)) a

unfoldable pub span_at : Parser SpanTree
span_at = if_front (Word (codes "FOR")) span_behind (found NoSpan)

-- a name, where one is in front
abbrev pub name_or_none : Parser (Option Name)
name_or_none ts = if begins_name ts then into Some (name_at ts) else Read None ts

-- [[AS] name]
unfoldable pub alias_at : Parser (Option Name)
alias_at = if_front (Word (codes "AS")) (λ us. into Some (name_at us)) name_or_none

unfoldable pub ref_at : Parser RefTree
ref_at ts = name_at ts >>= λ t a. span_at a >>= λ s b. into (λ n. record {
  table = t;
  span = s;
  alias = n;
}) (alias_at b)

-- ref ON condition, in a join of this kind
unfoldable pub joined_on_at : (RefTree → Condition → JoinTree) → Parser JoinTree
joined_on_at which ts = ref_at ts >>= λ r a. keyword (codes "ON") a >>= λ _ b. into (which r) (condition_here b)

-- after INNER
unfoldable pub inner_at : Parser JoinTree
inner_at ts = keyword (codes "JOIN") ts >>= λ _ a. joined_on_at InnerJoin a

-- after LEFT
unfoldable pub left_at : Parser JoinTree
left_at ts = noise (codes "OUTER") ts >>= λ _ a. keyword (codes "JOIN") a >>= λ _ b. joined_on_at LeftJoin b

-- after CROSS
unfoldable pub cross_at : Parser JoinTree
cross_at ts = keyword (codes "JOIN") ts >>= λ _ a. into CrossJoin (ref_at a)

unfoldable pub next_join : Parser (Option JoinTree)
next_join =
    if_front (Word (codes "INNER")) (λ us. into Some (inner_at us))
    (if_front (Word (codes "JOIN")) (λ us. into Some (joined_on_at InnerJoin us))
    (if_front (Word (codes "LEFT")) (λ us. into Some (left_at us))
    (behind (Word (codes "CROSS")) cross_at)))

unfoldable pub chain_at : Parser ChainTree
chain_at ts = ref_at ts >>= λ r a. into (λ js. record { first = r; joins = js }) (more next_join [] a)

unfoldable pub item_at : Parser Item
item_at ts = expr_here ts >>= λ e a. into (λ n. record { value = e; alias = n }) (alias_at a)

unfoldable pub items_behind : Parser Items
items_behind ts = item_at ts >>= λ i a. into (TheseItems i) (more (next item_at) [] a)

unfoldable pub items_at : Parser Items
items_at = if_front (Sign Star) (found AllColumns) items_behind

-- [DISTINCT | ALL], and whether it is DISTINCT
unfoldable pub distinct_at : Parser Bool
distinct_at = if_front (Word (codes "DISTINCT")) (found true) (λ us. into (λ _. false) (noise (codes "ALL") us))

-- [WHERE condition]
unfoldable pub where_at : Parser (Option Condition)
where_at = behind (Word (codes "WHERE")) condition_here

-- [HAVING condition]
unfoldable pub having_at : Parser (Option Condition)
having_at = behind (Word (codes "HAVING")) condition_here

-- [GROUP BY colref {, colref}]
unfoldable pub group_by_at : Parser (List Named)
group_by_at = if_front (Word (codes "GROUP")) (λ us. keyword (codes "BY") us >>= λ _ a. separated named_at a) (found [])

-- the clauses after FROM and its chains
unfoldable pub select_end : Bool → Items → ChainTree → List ChainTree → Parser SelectTree
select_end d is c cs ts =
    where_at ts >>= λ w a. group_by_at a >>= λ g b. having_at b >>= λ h rest.
    Read (record { distinct = d; items = is; first = c; more = cs; filter = w; grouping = g; having = h }) rest

-- after SELECT
unfoldable pub select_at : Parser SelectTree
select_at ts =
    distinct_at ts >>= λ d a. items_at a >>= λ is b. keyword (codes "FROM") b >>= λ _ c. chain_at c >>= λ first e.
    more (next chain_at) [] e >>= λ others f. select_end d is first others f

-- the digits of a position, or a heading
unfoldable pub key_name_at : Parser KeyName
key_name_at (Number ds ∷ ts) = Read (ByPosition ds) ts
key_name_at ts = into ByHeading (name_at ts)

-- [ASC | DESC], and whether it is DESC
unfoldable pub direction_at : Parser Bool
direction_at = if_front (Word (codes "DESC")) (found true) (λ us. into (λ _. false) (noise (codes "ASC") us))

unfoldable pub order_key_at : Parser OrderTree
order_key_at ts = key_name_at ts >>= λ k a. into (λ d. record { key = k; falls = d }) (direction_at a)

-- [ORDER BY key {, key}]
unfoldable pub order_by_at : Parser (List OrderTree)
order_by_at = if_front (Word (codes "ORDER")) (λ us. keyword (codes "BY") us >>= λ _ a. separated order_key_at a)
    (found [])

-- after SELECT
unfoldable pub query_at : Parser Statement
query_at ts = select_at ts >>= λ s a. into (QueryTree s) (order_by_at a)

-- ---- changes

unfoldable pub cell_at : Parser CellTree
cell_at = if_front (Word (codes "NULL")) (found NullCell) (λ us. into ValueCell (expr_here us))

unfoldable pub tuple_at : Parser Tuple
tuple_at ts =
    symbol Open ts >>= λ _ a. cell_at a >>= λ c b. more (next cell_at) [] b >>= λ cs d. symbol Close d >>= λ _ rest.
    Read (record { first = c; more = cs }) rest

-- after FOR
unfoldable pub portion_behind : Parser PortionTree
portion_behind ts =
    keyword (codes "PORTION") ts >>= λ _ a. keyword (codes "OF") a >>= λ _ b. period_name_at b >>= λ p c.
    keyword (codes "FROM") c >>= λ _ d. point_at d >>= λ f e. keyword (codes "TO") e >>= λ _ g.
    into (λ to. record { period = p; from = f; to = to }) (point_at g)

-- [FOR PORTION OF ..]
unfoldable pub portion_at : Parser (Option PortionTree)
portion_at = behind (Word (codes "FOR")) portion_behind

unfoldable pub assignment_at : Parser SetTree
assignment_at ts = name_at ts >>= λ n a. symbol EqualSign a >>= λ _ b. into (λ c. record {
  column = n;
  value = c;
}) (cell_at b)

-- after UPDATE
unfoldable pub update_at : Parser Statement
update_at ts =
    name_at ts >>= λ n a. portion_at a >>= λ p b. keyword (codes "SET") b >>= λ _ c. assignment_at c >>= λ first d.
    more (next assignment_at) [] d >>= λ others e. into (UpdateTree n p first others) (where_at e)

-- after DELETE
unfoldable pub delete_at : Parser Statement
delete_at ts =
    keyword (codes "FROM") ts >>= λ _ a. name_at a >>= λ n b. portion_at b >>= λ p c. into (DeleteTree n p) (where_at c)

-- [( name {, name} )]
unfoldable pub column_list_at : Parser (List Name)
column_list_at =
    if_front (Sign Open) (λ us. separated name_at us >>= λ ns a. symbol Close a >>= λ _ rest. Read ns rest) (found [])

-- after VALUES
unfoldable pub values_at : Name → List Name → Parser Statement
values_at n cs ts = tuple_at ts >>= λ t a. into (InsertValues n cs t) (more (next tuple_at) [] a)

-- after INSERT
unfoldable pub insert_at : Parser Statement
insert_at ts =
    keyword (codes "INTO") ts >>= λ _ a. name_at a >>= λ n b. column_list_at b >>= λ cs c.
    if_front (Word (codes "VALUES")) (values_at n cs)
    (λ us. keyword (codes "SELECT") us >>= λ _ d. into (InsertSelect n cs) (select_at d)) c

-- ---- statements

-- after START: TRANSACTION
abbrev pub start_at : Parser Statement
start_at ts = into (λ _. StartTree) (keyword (codes "TRANSACTION") ts)

-- after COMMIT or ROLLBACK: an optional WORK
abbrev pub work_at : Statement → Parser Statement
work_at s ts = into (λ _. s) (noise (codes "WORK") ts)

-- after PRUNE
unfoldable pub prune_at : Parser Statement
prune_at ts =
    keyword (codes "HISTORY") ts >>= λ _ a. keyword (codes "BEFORE") a >>= λ _ b. into PruneTree (moment_at b)

-- transactions, the clock and the horizon
unfoldable pub control_at : Parser Statement
control_at =
    if_front (Word (codes "START")) start_at
    (if_front (Word (codes "COMMIT")) (work_at CommitTree)
    (if_front (Word (codes "ROLLBACK")) (work_at RollbackTree)
    (if_front (Word (codes "PRUNE")) prune_at
    (λ us. keyword (codes "AT") us >>= λ _ a. into AtTree (moment_at a)))))

-- after OPEN
unfoldable pub open_at : Parser Statement
open_at ts = keyword (codes "READER") ts >>= λ _ a. into OpenTree (name_at a)

-- after READ
unfoldable pub read_at : Parser Statement
read_at ts =
    name_at ts >>= λ n a. keyword (codes "SELECT") a >>= λ _ b. select_at b >>= λ s c.
    into (ReadTree n s) (order_by_at c)

-- after CLOSE
unfoldable pub close_at : Parser Statement
close_at ts = keyword (codes "READER") ts >>= λ _ a. into CloseTree (name_at a)

-- readers, or transactions, the clock and the horizon
unfoldable pub reader_at : Parser Statement
reader_at =
    if_front (Word (codes "OPEN")) open_at
    (if_front (Word (codes "READ")) read_at
    (if_front (Word (codes "CLOSE")) close_at control_at))

-- changes, readers, or transactions, the clock and the horizon
unfoldable pub change_at : Parser Statement
change_at =
    if_front (Word (codes "INSERT")) insert_at
    (if_front (Word (codes "UPDATE")) update_at
    (if_front (Word (codes "DELETE")) delete_at reader_at))

-- a statement
unfoldable pub statement_at : Parser Statement
statement_at =
    if_front (Word (codes "SELECT")) query_at
    (if_front (Word (codes "CREATE")) create_at
    (if_front (Word (codes "DROP")) drop_at change_at))

-- the statement that the whole token list spells
abbrev pub read_statement : List Token → Option Statement
read_statement ts = whole (statement_at ts)

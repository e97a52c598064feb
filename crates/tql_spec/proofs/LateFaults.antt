-- In the order of report, the faults of names, kinds, forms and literals come after those of the transaction, the clock
-- and open readers.
use Rattle.std.specs.Prelude.{◌≡◌, refl, ◌<◌, ℕ, ℤ, Bool, true, false, not, ◌||◌, is_some, is_none, nat_lt, List, []}
use Rattle.std.specs.Prelude.{◌∷◌, map, Option, Some, None, ⊤, if◌then◌else◌}
use Rattle.std.proofs.Common.{arith}
use Rattle.std.proofs.lemmas.Bool.Decides.{nat_tests}
use Rattle.tql_spec.specs.Words.{listed}
use Rattle.tql_spec.specs.Calendar.{read_timestamp}
use Rattle.tql_spec.specs.Datum.{Kind}
use Rattle.tql_spec.specs.Refusal.{Refusal, place, earlier, first}
use Rattle.tql_spec.specs.Definition.{Name, TableDef, Application, place_of, table_at}
use Rattle.tql_spec.specs.Names.{Known, things, check_each, optional_conjuncts}
use Rattle.tql_spec.specs.Creation.{or_first, number_in, column_number, column_numbers, PeriodPart, application_period}
use Rattle.tql_spec.specs.Creation.{system_period, period_number, listed_columns, kinds_differ, kinds_at, kinds_in}
use Rattle.tql_spec.specs.Creation.{kinds_of, periods_differ, application_kind, period_called, is_declared_key}
use Rattle.tql_spec.specs.Creation.{names_of, application_name, application_parts, system_parts, constraints_of}
use Rattle.tql_spec.specs.Creation.{repeats, reference, reference_in, references, keys, checks, whole_faults, create}
use Rattle.tql_spec.specs.Binding.{or_no_table, table_number, or_bad_moment, moment, when, source, Joined, join, joins}
use Rattle.tql_spec.specs.Binding.{chain, Output, item_outputs, outputs, group_column, only_place, places_of, key_place}
use Rattle.tql_spec.specs.Binding.{order_key, plain_conjuncts, plain_filter, whole_scope, is_grouped, grouping_faults}
use Rattle.tql_spec.specs.Binding.{select, cell, assigned_columns, insert_columns, kinds_for, cells_misfit, tuple}
use Rattle.tql_spec.specs.Binding.{rising, read_point, period_kind, portion_period, portion, own_scope, assignment}
use Rattle.tql_spec.specs.Binding.{sets_period, bind}
use Rattle.tql_spec.specs.Syntax.{Named, Condition, MomentTree, SpanTree, NoSpan, AsOfTree, FromToTree, BetweenTree}
use Rattle.tql_spec.specs.Syntax.{RefTree, JoinTree, InnerJoin, LeftJoin, CrossJoin, ChainTree, Item, Items, AllColumns}
use Rattle.tql_spec.specs.Syntax.{TheseItems, SelectTree, KeyName, ByHeading, ByPosition, OrderTree, CellTree, NullCell}
use Rattle.tql_spec.specs.Syntax.{ValueCell, Tuple, SetTree, PortionTree, RefList, Constraint, KeyTree, ForeignTree}
use Rattle.tql_spec.specs.Syntax.{CheckTree, Element, Statement, CreateTree, DropTree, InsertValues, InsertSelect}
use Rattle.tql_spec.specs.Syntax.{UpdateTree, DeleteTree, QueryTree, StartTree, CommitTree, RollbackTree, AtTree}
use Rattle.tql_spec.specs.Syntax.{PruneTree}
use Rattle.tql_spec.proofs.LateNames.{is_late, AreLate, none, ◌⊗◌, unknown, ambiguous, misfit, misplaced, referenced}
use Rattle.tql_spec.proofs.LateNames.{crowded, outside, falling, each_late, one_column_late, expr_late, condition_late}
use Rattle.tql_spec.proofs.LateNames.{conjuncts_late, optional_late}
use Rattle.tql_spec.specs.Syntax.{OpenTree, ReadTree, CloseTree}

-- ---- names in lists

or_first_late : (o : Option ℕ) → AreLate (or_first o).faults
or_first_late None = ambiguous true
or_first_late (Some i) = none

number_late : (names : List Name) (n : Name) → AreLate (column_number names n).faults
number_late names n = or_first_late (number_in n names)

numbers_late : (names ns : List Name) → AreLate (column_numbers names ns).faults
numbers_late names ns = each_late (column_number names) ns (number_late names) ⊗ ambiguous _

-- ---- CREATE TABLE

application_late : (es : List Element) (p : PeriodPart) → AreLate (application_period es p).faults
application_late es p = number_late _ p.start ⊗ number_late _ p.end ⊗ misfit _ ⊗ misplaced _ ⊗ none

system_late : (es : List Element) (p : PeriodPart) → AreLate (system_period es p).faults
system_late es p = number_late _ p.start ⊗ number_late _ p.end ⊗ misfit _ ⊗ misplaced _ ⊗ none

listed_late : (es : List Element) (as' : List Application) (ns : List Name) (p : Option Name)
    → AreLate (listed_columns es as' ns p).faults
listed_late es as' ns p = numbers_late _ ns ⊗ each_late (period_number es) (listed p) (number_late _) ⊗ misplaced _

reference_late : (es : List Element) (as' : List Application) (child : RefList) (n : Name) (parent : TableDef)
    (names : RefList)
    → AreLate (reference es as' child n parent names).faults
reference_late es as' child n parent names =
    let cs = (listed_columns es as' (child.first ∷ child.more) child.period).value in
    let ps = (column_numbers (names_of parent) (names.first ∷ names.more)).value in
    listed_late es as' (child.first ∷ child.more) child.period ⊗ numbers_late (names_of parent)
    (names.first ∷ names.more)
    ⊗ each_late (column_number (application_name parent.application)) (listed names.period) (number_late _)
    ⊗ misfit (kinds_differ (kinds_at (kinds_in es) cs) (kinds_at (kinds_of parent) ps))
    ⊗ misfit (periods_differ (application_kind (kinds_in es) (period_called child.period as'))
    (application_kind (kinds_of parent) parent.application) child.period names.period)
    ⊗ misplaced (not (if is_some child.period then is_some names.period else is_none names.period) || not
    (is_declared_key parent (is_some names.period) ps))
    ⊗ none

reference_in_late : (defs : List TableDef) (es : List Element) (as' : List Application) (child : RefList) (n : Name)
    (names : RefList) (o : Option ℕ)
    → AreLate (reference_in defs es as' child n names o).faults
reference_in_late defs es as' child n names None = unknown true
reference_in_late defs es as' child n names (Some t) = reference_late es as' child n (table_at defs t) names ⊗ none

references_late : (defs : List TableDef) (es : List Element) (as' : List Application) (cs : List Constraint)
    → AreLate (references defs es as' cs).faults
references_late defs es as' [] = none
references_late defs es as' (ForeignTree child n names ∷ cs) =
    reference_in_late defs es as' child n names (place_of n defs) ⊗ references_late defs es as' cs ⊗ none
references_late defs es as' (KeyTree primary n ns p ∷ cs) = references_late defs es as' cs
references_late defs es as' (CheckTree c ∷ cs) = references_late defs es as' cs

keys_late : (es : List Element) (as' : List Application) (cs : List Constraint) → AreLate (keys es as' cs).faults
keys_late es as' [] = none
keys_late es as' (KeyTree primary n ns p ∷ cs) = listed_late es as' (n ∷ ns) p ⊗ keys_late es as' cs ⊗ none
keys_late es as' (ForeignTree child n names ∷ cs) = keys_late es as' cs
keys_late es as' (CheckTree c ∷ cs) = keys_late es as' cs

checks_late : (es : List Element) (scope : List Known) (cs : List Constraint) → AreLate (checks es scope cs).faults
checks_late es scope [] = none
checks_late es scope (CheckTree c ∷ cs) = condition_late scope c ⊗ misplaced _ ⊗ checks_late es scope cs ⊗ none
checks_late es scope (KeyTree primary n ns p ∷ cs) = checks_late es scope cs
checks_late es scope (ForeignTree child n names ∷ cs) = checks_late es scope cs

whole_late : (defs : List TableDef) (n : Name) (es : List Element) (versioned : Bool)
    → AreLate (whole_faults defs n es versioned)
whole_late defs n es versioned =
    (((((((unknown _ ⊗ ambiguous _) ⊗ misfit _) ⊗ misplaced _) ⊗ misplaced _) ⊗ misplaced _) ⊗ misplaced _) ⊗ misplaced
    _) ⊗ crowded _

create_late : (defs : List TableDef) (n : Name) (es : List Element) (versioned : Bool)
    → AreLate (create defs n es versioned).faults
create_late defs n es versioned =
    whole_late defs n es versioned ⊗ each_late (application_period es) (application_parts es) (application_late es)
    ⊗ each_late (system_period es) (system_parts es) (system_late es) ⊗ keys_late es _ (constraints_of es)
    ⊗ references_late defs es _ (constraints_of es) ⊗ checks_late es _ (constraints_of es) ⊗ none

-- ---- tables and moments

or_no_table_late : (o : Option ℕ) → AreLate (or_no_table o).faults
or_no_table_late None = unknown true
or_no_table_late (Some t) = none

table_late : (defs : List TableDef) (n : Name) → AreLate (table_number defs n).faults
table_late defs n = or_no_table_late (place_of n defs)

or_bad_moment_late : (o : Option ℤ) → AreLate (or_bad_moment o).faults
or_bad_moment_late None = outside true
or_bad_moment_late (Some m) = none

moment_late : (t : MomentTree) → AreLate (moment t).faults
moment_late t = or_bad_moment_late (read_timestamp t)

-- ---- FROM

when_late : (d : TableDef) (span : SpanTree) → AreLate (when d span).faults
when_late d NoSpan = none
when_late d (AsOfTree t) = misplaced _ ⊗ moment_late t ⊗ none
when_late d (FromToTree a b) = misplaced _ ⊗ moment_late a ⊗ moment_late b ⊗ none
when_late d (BetweenTree a b) = misplaced _ ⊗ moment_late a ⊗ moment_late b ⊗ none

source_late : (defs : List TableDef) (offset : ℕ) (r : RefTree) → AreLate (source defs offset r).faults
source_late defs offset r =
    table_late defs r.table ⊗ when_late (table_at defs (table_number defs r.table).value) r.span ⊗ none

plain_late : (scope : List Known) (c : Condition) → AreLate (plain_conjuncts scope c).faults
plain_late scope c = conjuncts_late scope c ⊗ misplaced _

filter_late : (scope : List Known) (c : Option Condition) → AreLate (plain_filter scope c).faults
filter_late scope c = optional_late scope c ⊗ misplaced _

join_late : (defs : List TableDef) (so : Joined) (j : JoinTree) → AreLate (join defs so j).faults
join_late defs so (InnerJoin r c) = source_late defs so.width r ⊗ plain_late _ c ⊗ none
join_late defs so (LeftJoin r c) = source_late defs so.width r ⊗ plain_late _ c ⊗ none
join_late defs so (CrossJoin r) = source_late defs so.width r ⊗ none

joins_late : (defs : List TableDef) (so : Joined) (js : List JoinTree) → AreLate (joins defs so js).faults
joins_late defs so [] = none
joins_late defs so (j ∷ js) = join_late defs so j ⊗ joins_late defs (join defs so j).value js

chain_late : (defs : List TableDef) (c : ChainTree) → AreLate (chain defs c).faults
chain_late defs c = source_late defs 0 c.first ⊗ joins_late defs _ c.joins ⊗ none

-- ---- a query

items_late : (scope : List Known) (i : ℕ) (is : List Item) → AreLate (item_outputs scope i is).faults
items_late scope i [] = none
items_late scope i (it ∷ is) = expr_late scope it.value ⊗ items_late scope _ is ⊗ none

outputs_late : (scope : List Known) (is : Items) → AreLate (outputs scope is).faults
outputs_late scope AllColumns = none
outputs_late scope (TheseItems i is) = items_late scope 1 (i ∷ is)

group_late : (scope : List Known) (r : Named) → AreLate (group_column scope r).faults
group_late scope r = one_column_late (things scope r) ⊗ none

only_late : (is : List ℕ) → AreLate (only_place is).faults
only_late [] = ambiguous true
only_late (i ∷ []) = none
only_late (i ∷ j ∷ is) = ambiguous true

key_place_late : (headings : List Name) (k : KeyName) → AreLate (key_place headings k).faults
key_place_late headings (ByHeading n) = only_late (places_of n 0 headings)
key_place_late headings (ByPosition ds) = ambiguous _

order_late : (headings : List Name) (k : OrderTree) → AreLate (order_key headings k).faults
order_late headings k = key_place_late headings k.key ⊗ none

select_late : (defs : List TableDef) (s : SelectTree) (order : List OrderTree) → AreLate (select defs s order).faults
select_late defs s order =
    let scope : List Known = whole_scope 0 (check_each (chain defs) (s.first ∷ s.more)).value in
    let outs : List Output = (outputs scope s.items).value in
    let items = map (λ (o : Output). o.typed.expr) outs in
    let having = (optional_conjuncts scope s.having).value in
    let headings = map (λ (o : Output). o.heading) outs in
    each_late (chain defs) (s.first ∷ s.more) (chain_late defs) ⊗ ambiguous
    (repeats (map (λ (k : Known). k.name) scope)) ⊗ filter_late scope s.filter
    ⊗ each_late (group_column scope) s.grouping
    (group_late scope) ⊗ optional_late scope s.having ⊗ outputs_late scope s.items
    ⊗ misplaced (grouping_faults (is_grouped s items having)
    (check_each (group_column scope) s.grouping).value s items having)
    ⊗ each_late (order_key headings) order (order_late headings) ⊗ none

-- ---- changes

cell_late : (scope : List Known) (c : CellTree) → AreLate (cell scope c).faults
cell_late scope NullCell = none
cell_late scope (ValueCell e) = expr_late scope e ⊗ misplaced _

assigned_late : (d : TableDef) (ns : List Name) → AreLate (assigned_columns d ns).faults
assigned_late d ns = numbers_late (names_of d) ns ⊗ misplaced _

insert_columns_late : (d : TableDef) (ns : List Name) → AreLate (insert_columns d ns).faults
insert_columns_late d [] = none
insert_columns_late d (n ∷ ns) = assigned_late d (n ∷ ns)

tuple_late : (kinds : List Kind) (t : Tuple) → AreLate (tuple kinds t).faults
tuple_late kinds t = each_late (cell []) (t.first ∷ t.more) (cell_late []) ⊗ misfit _

rising_late : (f g : Option ℤ) → AreLate (rising f g).faults
rising_late None g = outside true
rising_late (Some f) None = outside true
rising_late (Some f) (Some g) = falling _

period_late : (d : TableDef) (a : Option Application) (n : Name) → AreLate (period_kind d a n).faults
period_late d None n = ambiguous true
period_late d (Some a) n = ambiguous _

portion_period_late : (d : TableDef) (n : Option Name) → AreLate (portion_period d n).faults
portion_period_late d None = misplaced true
portion_period_late d (Some n) = period_late d d.application n

portion_late : (d : TableDef) (p : Option PortionTree) → AreLate (portion d p).faults
portion_late d None = none
portion_late d (Some p) = portion_period_late d p.period ⊗ misfit _ ⊗ rising_late (read_point p.from) (read_point p.to)

assignment_late : (d : TableDef) (s : SetTree) → AreLate (assignment d s).faults
assignment_late d s = number_late (names_of d) s.column ⊗ cell_late (own_scope d) s.value ⊗ misfit _ ⊗ none

-- ---- statements

-- each fault of a bound statement comes late
pub bind_late : (defs : List TableDef) (t : Statement) → AreLate (bind defs t).faults
bind_late defs (CreateTree n e es versioned) = create_late defs n (e ∷ es) versioned ⊗ none
bind_late defs (DropTree n) = table_late defs n ⊗ referenced _
bind_late defs (InsertValues n ns t ts) =
    let d : TableDef = table_at defs (table_number defs n).value in
    let kinds : List Kind = kinds_for d (insert_columns d ns).value in
    table_late defs n ⊗ insert_columns_late d ns ⊗ each_late (tuple kinds) (t ∷ ts) (tuple_late kinds) ⊗ none
bind_late defs (InsertSelect n ns s) =
    let d : TableDef = table_at defs (table_number defs n).value in
    table_late defs n ⊗ insert_columns_late d ns ⊗ select_late defs s []
    ⊗ misfit (cells_misfit (kinds_for d (insert_columns d ns).value) (select defs s []).value.kinds) ⊗ none
bind_late defs (UpdateTree n p s ss c) =
    let d : TableDef = table_at defs (table_number defs n).value in
    let ns : List Name = map (λ (s : SetTree). s.column) (s ∷ ss) in
    table_late defs n ⊗ portion_late d p ⊗ assigned_late d ns ⊗ misplaced
    (sets_period d p (assigned_columns d ns).value)
    ⊗ each_late (assignment d) (s ∷ ss) (assignment_late d) ⊗ filter_late (own_scope d) c ⊗ none
bind_late defs (DeleteTree n p c) =
    let d : TableDef = table_at defs (table_number defs n).value in
    table_late defs n ⊗ portion_late d p ⊗ filter_late (own_scope d) c ⊗ none
bind_late defs (QueryTree s order) = select_late defs s order ⊗ none
bind_late defs StartTree = none
bind_late defs CommitTree = none
bind_late defs RollbackTree = none
bind_late defs (AtTree t) = moment_late t ⊗ none
bind_late defs (PruneTree t) = moment_late t ⊗ none
bind_late defs (OpenTree n) = none
bind_late defs (ReadTree n s order) = select_late defs s order ⊗ none
bind_late defs (CloseTree n) = none

-- ---- the first fault

-- a fault, if there is one, comes after those of the transaction, the clock and open readers
abbrev pub MayBeLate : Option Refusal → Type 0
MayBeLate None = ⊤
MayBeLate (Some e) = is_late e ≡ true

one_of_two : (b : Bool) (a e : Refusal) → is_late a ≡ true → is_late e ≡ true → is_late (if b then e else a) ≡ true
one_of_two true a e h k = k
one_of_two false a e h k = h

earlier_late : (a : Refusal) (o : Option Refusal) → is_late a ≡ true → MayBeLate o → is_late (earlier a o) ≡ true
earlier_late a None h k = h
earlier_late a (Some e) h k = one_of_two (nat_lt (place e) (place a)) a e h k

pub first_late : (fs : List Refusal) → AreLate fs → MayBeLate (first fs)
first_late [] h = tt
first_late (a ∷ fs) h = earlier_late a (first fs) h.each.0 (first_late fs (record { each = h.each.1 }))

not_sooner : (m n : ℕ) → m < 9 → nat_lt 8 n ≡ true → nat_lt n m ≡ false
not_sooner m n h k = grind (arith, nat_tests)

-- a fault of the transaction, the clock or open readers stays the first
pub earlier_stays : (a : Refusal) (o : Option Refusal) → place a < 9 → MayBeLate o → earlier a o ≡ a
earlier_stays a None h k = refl
earlier_stays a (Some e) h k = rw (not_sooner (place a) (place e) h k)

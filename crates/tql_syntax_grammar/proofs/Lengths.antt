-- How many tokens phrases take: the tokens after a phrase are no more, or are fewer, than those before it.
use Rattle.std.specs.Prelude.{ℕ, ◌<◌, ◌≤◌, Bool, true, false, List, [], ◌∷◌, length, Option, Some, None}
use Rattle.std.proofs.Common.{ap, arith, inl, inr}
use Rattle.tql_spec.specs.Definition.{Name}
use Rattle.tql_spec.specs.Token.{Token}
use Rattle.tql_spec.specs.Syntax.{Sum, Condition, TypeName, IntegerType, VarcharType, DateType, TimestampType}
use Rattle.tql_spec.specs.Syntax.{Generated, RowStart, RowEnd, RefList, Constraint, KeyTree, ForeignTree, CheckTree}
use Rattle.tql_spec.specs.Syntax.{Element, ColumnElement, PeriodElement, ConstraintElement, SpanTree, NoSpan}
use Rattle.tql_spec.specs.Syntax.{AsOfTree, FromToTree, BetweenTree, RefTree, JoinTree, InnerJoin, LeftJoin}
use Rattle.tql_spec.specs.Syntax.{CrossJoin, ChainTree, Item, KeyName, ByHeading, ByPosition, OrderTree, CellTree}
use Rattle.tql_spec.specs.Syntax.{NullCell, ValueCell, Tuple, SetTree}
use Rattle.tql_spec.specs.Grammar.{Phrase, token, ◌⨟◌, ◌∣◌, empty, maybe, optional, each, commas, in_parens}
use Rattle.tql_spec.specs.Grammar.{name, moment, condition, type_name, generated, not_null, column_tail, period_name}
use Rattle.tql_spec.specs.Grammar.{reflist, NoActions, none, more, key_word, without_overlaps, constraint, any_name}
use Rattle.tql_spec.specs.Grammar.{element, span, alias, ref, join, chain, item, expr, key_name, direction, order_key}
use Rattle.tql_spec.specs.Grammar.{cell, tuple, assignment}
use Rattle.tql_syntax_grammar.proofs.ExpressionLaws.{expr_shortens}
use Rattle.tql_syntax_grammar.proofs.ConditionLaws.{condition_shortens}
use Rattle.tql_syntax_grammar.proofs.Steps.{Shortens, behind_comma, name_shortens}

-- ---- parts of the notation

-- no more tokens are after the phrase than before it
pub record Keeps (a : Phrase) : Type 0 where
  pub less : (before after : List Token) → a before after → length after ≤ length before

-- fewer tokens are after the phrase than before it
pub record Takes (a : Phrase) : Type 0 where
  pub less : (before after : List Token) → a before after → length after < length before

pub kept : {a : Phrase} → Takes a → Keeps a
kept h = record { less = λ before after s. let k = h.less before after s in omega arith }

pub takes_token : (t : Token) → Takes (token t)
takes_token t = record { less = λ before after s. omega (arith, ap length s) }

pub keeps_token : (t : Token) → Keeps (token t)
keeps_token t = kept (takes_token t)

pub keeps_empty : Keeps empty
keeps_empty = record { less = λ before after s. omega (arith, ap length s) }

pub keeps_then : {a b : Phrase} → Keeps a → Keeps b → Keeps (a ⨟ b)
keeps_then h k =
    record { less = λ before after s. let x = h.less before s.0 s.1 in let y = k.less s.0 after s.2 in omega arith }

pub takes_then : {a b : Phrase} → Takes a → Keeps b → Takes (a ⨟ b)
takes_then h k =
    record { less = λ before after s. let x = h.less before s.0 s.1 in let y = k.less s.0 after s.2 in omega arith }

pub then_takes : {a b : Phrase} → Keeps a → Takes b → Takes (a ⨟ b)
then_takes h k =
    record { less = λ before after s. let x = h.less before s.0 s.1 in let y = k.less s.0 after s.2 in omega arith }

pub keeps_or : {a b : Phrase} → Keeps a → Keeps b → Keeps (a ∣ b)
keeps_or h k = record
    { less = λ before after s. elim s [ inl x ↦ h.less before after x | inr y ↦ k.less before after y ] }

pub keeps_maybe : {a : Phrase} → Keeps a → Keeps (maybe a)
keeps_maybe h = keeps_or keeps_empty h

pub keeps_optional : {A : Type 0} (f : A → Phrase) → ((x : A) → Keeps (f x)) → (o : Option A) → Keeps (optional f o)
keeps_optional f h None = keeps_empty
keeps_optional f h (Some x) = h x

pub keeps_each : {A : Type 0} (f : A → Phrase) → ((x : A) → Keeps (f x)) → (xs : List A) → Keeps (each f xs)
keeps_each f h [] = keeps_empty
keeps_each f h (x ∷ xs) = keeps_then (h x) (keeps_each f h xs)

pub takes_commas : {A : Type 0} (f : A → Phrase) → ((x : A) → Takes (f x)) → (x : A) (xs : List A)
    → Takes (commas f x xs)
takes_commas f h x xs =
    takes_then (h x) (keeps_each (behind_comma f) (λ y. kept (then_takes (keeps_token _) (h y))) xs)

pub takes_parens : {a : Phrase} → Keeps a → Takes (in_parens a)
takes_parens h = takes_then (takes_then (takes_token _) h) (keeps_token _)

-- ---- names, columns, expressions and conditions

pub takes_name : (n : Name) → Takes (name n)
takes_name n = record { less = λ before after s. name_shortens before n after s }

keeps_name : (n : Name) → Keeps (name n)
keeps_name n = kept (takes_name n)

pub takes_expr : (e : Sum) → Takes (expr e)
takes_expr e = record { less = λ before after s. expr_shortens before e after s }

keeps_condition : (c : Condition) → Keeps (condition c)
keeps_condition c = kept (record { less = λ before after s. condition_shortens before c after s })

-- two tokens, three, and so on
keeps_two : (t u : Token) → Keeps (token t ⨟ token u)
keeps_two t u = keeps_then (keeps_token t) (keeps_token u)

keeps_three : (t u v : Token) → Keeps (token t ⨟ token u ⨟ token v)
keeps_three t u v = keeps_then (keeps_two t u) (keeps_token v)

keeps_four : (t u v w : Token) → Keeps (token t ⨟ token u ⨟ token v ⨟ token w)
keeps_four t u v w = keeps_then (keeps_three t u v) (keeps_token w)

-- ---- elements

keeps_type : (t : TypeName) → Keeps (type_name t)
keeps_type IntegerType = keeps_or (keeps_or (keeps_token _) (keeps_token _)) (keeps_token _)
keeps_type (VarcharType ds) = keeps_then (keeps_token _) (kept (takes_parens (keeps_token _)))
keeps_type DateType = keeps_token _
keeps_type (TimestampType p) =
    keeps_then (keeps_then (keeps_token _) (keeps_optional _ (λ ds. kept (takes_parens (keeps_token _))) p))
    (keeps_maybe (keeps_three _ _ _))

keeps_not_null : Keeps not_null
keeps_not_null = keeps_two _ _

keeps_generated : (g : Generated) → Keeps (generated g)
keeps_generated RowStart = keeps_then (keeps_four _ _ _ _) (keeps_token _)
keeps_generated RowEnd = keeps_then (keeps_four _ _ _ _) (keeps_token _)

keeps_tail : (required : Bool) (g : Option Generated) → Keeps (column_tail required g)
keeps_tail true None = keeps_not_null
keeps_tail false None = keeps_empty
keeps_tail false (Some g) = keeps_generated g
keeps_tail true (Some g) =
    keeps_or (keeps_then (keeps_then keeps_not_null (keeps_generated g)) (keeps_maybe keeps_not_null))
    (keeps_then (keeps_generated g) keeps_not_null)

keeps_period_name : (p : Option Name) → Keeps (period_name p)
keeps_period_name None = keeps_token _
keeps_period_name (Some n) = keeps_name n

keeps_names : (c : Name) (cs : List Name) → Keeps (commas name c cs)
keeps_names c cs = kept (takes_commas name takes_name c cs)

keeps_reflist : (r : RefList) → Keeps (reflist r)
keeps_reflist r =
    kept (takes_parens (keeps_then (keeps_names r.first r.more)
    (keeps_optional _ (λ p. keeps_then (keeps_two _ _) (keeps_name p)) r.period)))

no_actions_less : (ts rest : List Token) → NoActions ts rest → length rest ≤ length ts
no_actions_less ts rest none = omega arith
no_actions_less ts rest (more {mid = mid} one others) =
    let action = keeps_then
    (keeps_then (keeps_then (keeps_token _) (keeps_or (keeps_token _) (keeps_token _))) (keeps_token _))
    (keeps_token _) in
    let h = action.less ts mid one in
    let k = no_actions_less mid rest others in
    omega arith

keeps_key_word : (primary : Bool) → Keeps (key_word primary)
keeps_key_word true = keeps_two _ _
keeps_key_word false = keeps_token _

takes_constraint : (c : Constraint) → Takes (constraint c)
takes_constraint (KeyTree primary c cs p) =
    then_takes (keeps_key_word primary) (takes_parens (keeps_then (keeps_names c cs)
    (keeps_optional without_overlaps
    (λ q. keeps_then (keeps_then (keeps_then (keeps_token _) (keeps_name q)) (keeps_token _)) (keeps_token _)) p)))
takes_constraint (ForeignTree child t parent) =
    let references = keeps_then (keeps_then (keeps_two _ _) (keeps_reflist child)) (keeps_token _) in
    takes_then (takes_then (then_takes references (takes_name t)) (keeps_reflist parent))
    (record { less = no_actions_less })
takes_constraint (CheckTree c) = then_takes (keeps_token _) (takes_parens (keeps_condition c))

keeps_any_name : Keeps any_name
keeps_any_name = record { less = λ before after s. (keeps_name s.0).less before after s.1 }

pub takes_element : (e : Element) → Takes (element e)
takes_element (ColumnElement c) =
    takes_then (takes_then (takes_name c.name) (keeps_type c.type_name)) (keeps_tail c.required c.generated)
takes_element (PeriodElement p s e) =
    then_takes (keeps_then (keeps_two _ _) (keeps_period_name p))
    (takes_parens (keeps_then (keeps_then (keeps_name s) (keeps_token _)) (keeps_name e)))
takes_element (ConstraintElement c) =
    then_takes (keeps_maybe (keeps_then (keeps_token _) keeps_any_name)) (takes_constraint c)

-- ---- queries

keeps_moment : (t : List ℕ) → Keeps (moment t)
keeps_moment t = keeps_two _ _

keeps_span : (s : SpanTree) → Keeps (span s)
keeps_span NoSpan = keeps_empty
keeps_span (AsOfTree m) = keeps_then (keeps_four _ _ _ _) (keeps_moment m)
keeps_span (FromToTree a b) =
    keeps_then (keeps_then (keeps_then (keeps_three _ _ _) (keeps_moment a)) (keeps_token _)) (keeps_moment b)
keeps_span (BetweenTree a b) =
    keeps_then (keeps_then (keeps_then (keeps_three _ _ _) (keeps_moment a)) (keeps_token _)) (keeps_moment b)

keeps_alias : (n : Name) → Keeps (alias n)
keeps_alias n = keeps_then (keeps_maybe (keeps_token _)) (keeps_name n)

takes_ref : (r : RefTree) → Takes (ref r)
takes_ref r = takes_then (takes_then (takes_name r.table) (keeps_span r.span))
    (keeps_optional alias keeps_alias r.alias)

keeps_ref : (r : RefTree) → Keeps (ref r)
keeps_ref r = kept (takes_ref r)

pub takes_join : (j : JoinTree) → Takes (join j)
takes_join (InnerJoin r c) =
    let join_word = then_takes (keeps_maybe (keeps_token _)) (takes_token _) in
    takes_then (takes_then (takes_then join_word (keeps_ref r)) (keeps_token _)) (keeps_condition c)
takes_join (LeftJoin r c) =
    let join_word = then_takes (keeps_then (keeps_token _) (keeps_maybe (keeps_token _))) (takes_token _) in
    takes_then (takes_then (takes_then join_word (keeps_ref r)) (keeps_token _)) (keeps_condition c)
takes_join (CrossJoin r) = then_takes (keeps_two _ _) (takes_ref r)

pub takes_chain : (c : ChainTree) → Takes (chain c)
takes_chain c = takes_then (takes_ref c.first) (keeps_each join (λ j. kept (takes_join j)) c.joins)

pub takes_item : (i : Item) → Takes (item i)
takes_item i = takes_then (takes_expr i.value) (keeps_optional alias keeps_alias i.alias)

keeps_direction : (falls : Bool) → Keeps (direction falls)
keeps_direction true = keeps_token _
keeps_direction false = keeps_maybe (keeps_token _)

takes_key_name : (k : KeyName) → Takes (key_name k)
takes_key_name (ByHeading n) = takes_name n
takes_key_name (ByPosition ds) = takes_token _

pub takes_order_key : (k : OrderTree) → Takes (order_key k)
takes_order_key k = takes_then (takes_key_name k.key) (keeps_direction k.falls)

-- ---- changes

pub takes_cell : (c : CellTree) → Takes (cell c)
takes_cell NullCell = takes_token _
takes_cell (ValueCell e) = takes_expr e

pub takes_tuple : (t : Tuple) → Takes (tuple t)
takes_tuple t = takes_parens (kept (takes_commas cell takes_cell t.first t.more))

pub takes_assignment : (a : SetTree) → Takes (assignment a)
takes_assignment a = takes_then (takes_then (takes_name a.column) (keeps_token _)) (kept (takes_cell a.value))

-- ---- in the form that the rules of lists need

pub shortens : {A : Type 0} (P : A → Phrase) → ((x : A) → Takes (P x)) → Shortens P
shortens P h ts x rest s = (h x).less ts rest s

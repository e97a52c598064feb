-- SELECT and its clauses: the reading rules are sound and complete.
use Rattle.std.specs.Prelude.{◌≡◌, refl, Bool, true, false, List, [], ◌∷◌, codes, Option, Some, None}
use Rattle.std.proofs.Common.{sym, ◌∙◌, ap, subst, inl, inr}
use Rattle.tql_spec.specs.Definition.{Name}
use Rattle.tql_spec.specs.Token.{Token, Word, QuotedName, Number, Sign, Comma, Dot, Star}
use Rattle.tql_spec.specs.Syntax.{Named, Condition, ChainTree, Item, Items, AllColumns, TheseItems, SelectTree}
use Rattle.tql_spec.specs.Syntax.{KeyName, ByHeading, ByPosition, OrderTree, Statement, QueryTree, ReadTree}
use Rattle.tql_spec.specs.Grammar.{Phrase, key, ◌⨟◌, optional, commas, named, condition, alias, chain, item, items}
use Rattle.tql_spec.specs.Grammar.{distinct, where_clause, group_by, select, key_name, direction, order_key, order_by}
use Rattle.tql_spec.specs.Grammar.{statement}
use Rattle.tql_syntax_grammar.specs.Outcome.{Read, name_at}
use Rattle.tql_syntax_grammar.specs.ReadingExpressions.{named_at, condition_here}
use Rattle.tql_syntax_grammar.specs.ReadingStatements.{chain_at, item_at, items_behind, items_at, distinct_at, where_at}
use Rattle.tql_syntax_grammar.specs.ReadingStatements.{having_at, group_by_at, select_end, select_at, key_name_at}
use Rattle.tql_syntax_grammar.specs.ReadingStatements.{direction_at, order_key_at, order_by_at, query_at, read_at}
use Rattle.tql_syntax_grammar.proofs.Ends.{EndsExpr, EndsCondition}
use Rattle.tql_syntax_grammar.proofs.ExpressionLaws.{expr_sound, expr_complete, named_sound, named_complete}
use Rattle.tql_syntax_grammar.proofs.ExpressionLaws.{named_shortens}
use Rattle.tql_syntax_grammar.proofs.ConditionLaws.{condition_sound, condition_complete}
use Rattle.tql_syntax_grammar.proofs.Lengths.{takes_item, takes_chain, takes_order_key, shortens}
use Rattle.tql_syntax_grammar.proofs.WordLaws.{noise_spelled}
use Rattle.tql_syntax_grammar.proofs.Fronts.{expr_front}
use Rattle.tql_syntax_grammar.proofs.FromLaws.{EndsAlias, alias_sound, alias_complete, EndsChain, chain_sound}
use Rattle.tql_syntax_grammar.proofs.FromLaws.{chain_complete, chain_ends}
use Rattle.tql_syntax_grammar.proofs.Steps.{Sound, Complete, CompleteBefore, Stops, EndsList, read_is, and_then}
use Rattle.tql_syntax_grammar.proofs.Steps.{into_is}
use Rattle.tql_syntax_grammar.proofs.Steps.{spelled, into_sound, eat_false, expected, expected_of, name_is, name_of}
use Rattle.tql_syntax_grammar.proofs.Steps.{front_is, behind_is, behind_of, more_next_is, more_next_of, commas_front}
use Rattle.tql_syntax_grammar.proofs.Steps.{separated_is, separated_of}

-- ---- items

item_sound : Sound item item_at
unfolding item_at
item_sound ts i rest e =
    let v = and_then e in
    let n = into_is (λ (a : Option Name). let made : Item = record { value = v.0; alias = a } in made) _ i rest v.3 in
    subst (λ (x : Item). item x ts rest) n.2 (v.1, expr_sound _ _ _ v.2, alias_sound _ _ _ n.1)

-- the condition on the tokens after an item
record EndsItem (rest : List Token) : Type 0 where
  expr : EndsExpr rest
  alias : EndsAlias rest

-- an expression ends before an optional alias
alias_ends_expr : (ts : List Token) (n : Option Name) (rest : List Token) → optional alias n ts rest → EndsExpr rest
    → EndsExpr ts
alias_ends_expr ts None rest s ends = subst EndsExpr (sym s) ends
alias_ends_expr ts (Some n) rest s ends =
    elim s.1 [
      | inl same ↦
          elim s.2 [
            | inl word ↦ let w : ts ≡ Word n ∷ rest = same
                ∙ word.0 in record { dot = rw w refl; star = rw w refl; plus = rw w refl; minus = rw w refl }
            | inr quoted ↦ let w : ts ≡ QuotedName n ∷ rest = same
                ∙ quoted in record { dot = rw w refl; star = rw w refl; plus = rw w refl; minus = rw w refl }
          ]
      | inr word ↦ record { dot = rw word refl; star = rw word refl; plus = rw word refl; minus = rw word refl }
    ]

item_complete : CompleteBefore EndsItem item item_at
unfolding item_at
item_complete ts i rest s ends =
    rw (
      expr_complete ts i.value s.0 s.1 (alias_ends_expr s.0 i.alias rest s.2 ends.expr),
      alias_complete s.0 i.alias rest s.2 ends.alias,
    ) refl

item_ends_comma : (ts : List Token) → EndsItem (Sign Comma ∷ ts)
item_ends_comma ts =
    record {
      expr = record { dot = refl; star = refl; plus = refl; minus = refl };
      alias = record { word = refl; name = refl };
    }

-- items end before FROM
items_end_from : (ts us : List Token) → ts ≡ Word (codes "FROM") ∷ us → EndsList EndsItem ts
items_end_from ts us e =
    record {
      item = record {
        expr = record { dot = rw e refl; star = rw e refl; plus = rw e refl; minus = rw e refl };
        alias = record { word = rw e refl; name = rw e refl };
      };
      comma = rw e refl;
    }

items_sound : Sound items items_at
unfolding items_at items_behind
items_sound ts is rest e =
    elim (front_is (Sign Star) ts e) [
      | inl a ↦ spelled items a.1 a.0
      | inr a ↦
          let first = and_then (rw a.0 at a.1) in
          let others = into_is (TheseItems first.0) _ is rest first.3 in
          subst (λ (x : Items). items x ts rest) others.2
          (first.1, item_sound _ _ _ first.2, more_next_is item item_at item_sound _ _ _ others.1)
    ]

items_complete : CompleteBefore (EndsList EndsItem) items items_at
unfolding items_at items_behind
items_complete ts AllColumns rest s ends = rw s refl
items_complete ts (TheseItems i is) rest s ends =
    let front = expr_front i.value ts s.1.0 s.1.1 in
    let behind_first = commas_front item item_at EndsItem item_ends_comma is s.0 rest s.2 ends.item in
    let others = more_next_of item item_at EndsItem item_ends_comma item_complete (shortens item takes_item) s.0 is
    rest s.2 ends in
    rw (front.star, eat_false (Sign Star) ts front.star, item_complete ts i s.0 s.1 behind_first, others) refl

-- words that are not at the front of items
record BeginsItems (ts : List Token) : Type 0 where
  distinct : Stops (Word (codes "DISTINCT")) ts
  all : Stops (Word (codes "ALL")) ts

items_front : (is : Items) (ts rest : List Token) → items is ts rest → BeginsItems ts
items_front AllColumns ts rest s = record { distinct = rw s refl; all = rw s refl }
items_front (TheseItems i is) ts rest s =
    let front = expr_front i.value ts s.1.0 s.1.1 in
    record { distinct = front.distinct; all = front.all }

-- ---- DISTINCT, WHERE, GROUP BY and HAVING

distinct_sound : Sound distinct distinct_at
unfolding distinct_at
distinct_sound ts d rest e =
    elim (front_is (Word (codes "DISTINCT")) ts e) [
      | inl a ↦ spelled distinct a.1 a.0
      | inr a ↦ spelled distinct (rw a.0 at a.1) (noise_spelled (codes "ALL") ts)
    ]

distinct_complete : CompleteBefore BeginsItems distinct distinct_at
unfolding distinct_at
distinct_complete ts true rest s ends = rw s refl
distinct_complete ts false rest s ends =
    elim s [
      | inl same ↦ rw (
        same,
        ends.distinct,
        eat_false (Word (codes "DISTINCT")) rest ends.distinct,
        eat_false
            (Word (codes "ALL")) rest ends.all,
      ) refl
      | inr word ↦ rw (word) refl
    ]

pub where_sound : Sound where_clause where_at
unfolding where_at
where_sound = behind_is (Word (codes "WHERE")) condition condition_here condition_sound

pub where_complete : (ts : List Token) (c : Option Condition) (rest : List Token) → where_clause c ts rest
    → EndsCondition rest → Stops (Word (codes "WHERE")) rest → where_at ts ≡ Read c rest
unfolding where_at
where_complete = behind_of (Word (codes "WHERE")) condition condition_here EndsCondition condition_complete

-- [HAVING condition]
abbrev having_clause : Option Condition → Phrase
having_clause c = optional (λ d. key (codes "HAVING") ⨟ condition d) c

having_sound : Sound having_clause having_at
unfolding having_at
having_sound = behind_is (Word (codes "HAVING")) condition condition_here condition_sound

having_complete : (ts : List Token) (c : Option Condition) (rest : List Token) → having_clause c ts rest
    → EndsCondition rest → Stops (Word (codes "HAVING")) rest → having_at ts ≡ Read c rest
unfolding having_at
having_complete = behind_of (Word (codes "HAVING")) condition condition_here EndsCondition condition_complete

group_by_sound : Sound group_by group_by_at
unfolding group_by_at
group_by_sound ts g rest e =
    elim (front_is (Word (codes "GROUP")) ts e) [
      | inl a ↦
          let by = expected _ a.1 in
          let took = separated_is named named_at named_sound by.0 g rest by.2 in
          subst (λ (x : List Named). group_by x ts rest) (sym took.is) (by.0, (_, a.0, by.1), took.spelled)
      | inr a ↦ spelled group_by (rw a.0 at a.1) refl
    ]

group_by_complete : (ts : List Token) (g : List Named) (rest : List Token) → group_by g ts rest
    → EndsList (Stops (Sign Dot)) rest → Stops (Word (codes "GROUP")) rest → group_by_at ts ≡ Read g rest
unfolding group_by_at
group_by_complete ts [] rest s ends stops = rw (s, stops, eat_false (Word (codes "GROUP")) rest stops) refl
group_by_complete ts (c ∷ cs) rest s ends stops =
    rw (
      s.1.1,
      expected_of s.1.2,
      separated_of named named_at (Stops (Sign Dot)) (λ us. refl) named_complete named_shortens c cs s.0 rest s.2 ends,
    ) refl

-- ---- SELECT

-- the conditions on the tokens after the chains of FROM, after [WHERE ..], after [GROUP BY ..] and after a select
pub record EndsFrom (rest : List Token) : Type 0 where
  pub chain : EndsList EndsChain rest

pub record EndsWhere (rest : List Token) : Type 0 where
  pub from : EndsFrom rest
  pub word : Stops (Word (codes "WHERE")) rest

pub record EndsGroup (rest : List Token) : Type 0 where
  pub filter : EndsWhere rest
  pub word : Stops (Word (codes "GROUP")) rest

pub record EndsSelect (rest : List Token) : Type 0 where
  pub grouping : EndsGroup rest
  pub word : Stops (Word (codes "HAVING")) rest

from_ends : (ts : List Token) → EndsFrom ts → EndsCondition ts
from_ends ts ends = ends.chain.item.join.condition

list_ends : (ts : List Token) → EndsFrom ts → EndsList (Stops (Sign Dot)) ts
list_ends ts ends = record { item = (from_ends ts ends).expr.dot; comma = ends.chain.comma }

-- a chain ends before a comma, and before the words of the clauses after it
chain_ends_comma : (ts : List Token) → EndsChain (Sign Comma ∷ ts)
chain_ends_comma ts = chain_ends (Sign Comma ∷ ts) refl refl

ends_at_where : (ts us : List Token) → ts ≡ Word (codes "WHERE") ∷ us → EndsFrom ts
ends_at_where ts us e = record { chain = record { item = chain_ends ts (rw e refl) (rw e refl); comma = rw e refl } }

ends_at_group : (ts us : List Token) → ts ≡ Word (codes "GROUP") ∷ us → EndsWhere ts
ends_at_group ts us e =
    let chain : EndsList EndsChain ts = record { item = chain_ends ts (rw e refl) (rw e refl); comma = rw e refl } in
    record { from = record { chain = chain }; word = rw e refl }

ends_at_having : (ts us : List Token) → ts ≡ Word (codes "HAVING") ∷ us → EndsGroup ts
ends_at_having ts us e =
    let chain : EndsList EndsChain ts = record { item = chain_ends ts (rw e refl) (rw e refl); comma = rw e refl } in
    record { filter = record { from = record { chain = chain }; word = rw e refl }; word = rw e refl }

where_front : (ts : List Token) (c : Option Condition) (rest : List Token) → where_clause c ts rest → EndsWhere rest
    → EndsFrom ts
where_front ts None rest s ends = subst EndsFrom (sym s) ends.from
where_front ts (Some c) rest s ends = ends_at_where ts s.0 s.1

group_front : (ts : List Token) (g : List Named) (rest : List Token) → group_by g ts rest → EndsGroup rest
    → EndsWhere ts
group_front ts [] rest s ends = subst EndsWhere (sym s) ends.filter
group_front ts (c ∷ cs) rest s ends = ends_at_group ts s.1.0 s.1.1

having_front : (ts : List Token) (c : Option Condition) (rest : List Token) → having_clause c ts rest
    → EndsSelect rest → EndsGroup ts
having_front ts None rest s ends = subst EndsGroup (sym s) ends.grouping
having_front ts (Some c) rest s ends = ends_at_having ts s.0 s.1

-- a select up to the chains of FROM
abbrev select_head : Bool → Items → ChainTree → List ChainTree → Phrase
select_head d is c cs = key (codes "SELECT") ⨟ distinct d ⨟ items is ⨟ key (codes "FROM") ⨟ commas chain c cs

select_end_sound : (d : Bool) (is : Items) (c : ChainTree) (cs : List ChainTree) (ts us : List Token)
    (s : SelectTree) (rest : List Token) → select_head d is c cs ts us → select_end d is c cs us ≡ Read s rest
    → select s ts rest
unfolding select_end
select_end_sound d is c cs ts us s rest head e =
    let w = and_then e in
    let g = and_then w.3 in
    let h = and_then g.3 in
    let made : SelectTree =
    record { distinct = d; items = is; first = c; more = cs; filter = w.0; grouping = g.0; having = h.0 } in
    spelled select {x = made} h.3
    (g.1, (w.1, (us, head, where_sound _ _ _ w.2), group_by_sound _ _ _ g.2), having_sound _ _ _ h.2)

select_end_complete : (s : SelectTree) (ts a b rest : List Token) → where_clause s.filter ts a
    → group_by s.grouping a b → having_clause s.having b rest → EndsSelect rest
    → select_end s.distinct s.items s.first s.more ts ≡ Read s rest
unfolding select_end
select_end_complete s ts a b rest w g h ends =
    let at_having = having_front b s.having rest h ends in
    let at_group = group_front a s.grouping b g at_having in
    rw (
      where_complete ts s.filter a w (from_ends a at_group.from) at_group.word,
      group_by_complete a s.grouping b g (list_ends b at_having.filter.from) at_having.word,
      having_complete b s.having rest h (from_ends rest ends.grouping.filter.from) ends.word,
    ) refl

pub select_sound : (ts us : List Token) (s : SelectTree) (rest : List Token) → ts ≡ Word (codes "SELECT") ∷ us
    → select_at us ≡ Read s rest → select s ts rest
unfolding select_at
select_sound ts us s rest word e =
    let d = and_then e in
    let is = and_then d.3 in
    let from = expected _ is.3 in
    let c = and_then from.2 in
    let cs = and_then c.3 in
    let chains : (commas chain c.0 cs.0) from.0 cs.1 =
    (c.1, chain_sound _ _ _ c.2, more_next_is chain chain_at chain_sound _ _ _ cs.2) in
    let head : select_head d.0 is.0 c.0 cs.0 ts cs.1 =
    (from.0, (is.1, (d.1, (us, word, distinct_sound _ _ _ d.2), items_sound _ _ _ is.2), from.1), chains) in
    select_end_sound d.0 is.0 c.0 cs.0 ts cs.1 s rest head cs.3

-- the tokens after SELECT are read
pub select_complete : (s : SelectTree) (ts rest : List Token) (p : select s ts rest) → EndsSelect rest
    → select_at p.1.1.1.1.1.1.0 ≡ Read s rest
unfolding select_at
select_complete s ts rest p ends =
    let end = p.1.1.0 in
    let head = p.1.1.1 in
    let list = head.0 in
    let from = head.1 in
    let words = from.1 in
    let chains = head.2 in
    let at_group = group_front p.1.0 s.grouping p.0 p.1.2 (having_front p.0 s.having rest p.2 ends) in
    let at_end = where_front end s.filter p.1.0 p.1.1.2 at_group in
    let items_end : EndsList EndsItem from.0 = items_end_from from.0 list from.2 in
    rw (
      distinct_complete words.1.0 s.distinct words.0 words.1.2 (items_front s.items words.0 from.0 words.2),
      items_complete words.0 s.items from.0 words.2 items_end,
      expected_of from.2,
      chain_complete list s.first chains.0 chains.1
          (commas_front chain chain_at EndsChain chain_ends_comma s.more chains.0 end chains.2 at_end.chain.item),
      more_next_of chain chain_at EndsChain chain_ends_comma chain_complete (shortens chain takes_chain) chains.0
          s.more end chains.2 at_end.chain,
      select_end_complete s end p.1.0 p.0 rest p.1.1.2 p.1.2 p.2 ends,
    ) refl

-- ---- ORDER BY

key_name_sound : Sound key_name key_name_at
unfolding key_name_at
key_name_sound (Number ds ∷ ts) k rest e =
    let s = read_is (ByPosition ds) k ts rest e in
    subst (λ (x : KeyName). key_name x (Number ds ∷ ts) rest) s.value (ap (λ (us : List Token). Number ds ∷ us) s.rest)
key_name_sound ts k rest e = into_sound key_name ByHeading name_at name_is ts k rest e

key_name_complete : Complete key_name key_name_at
unfolding key_name_at
key_name_complete ts (ByPosition ds) rest s = rw s refl
key_name_complete ts (ByHeading n) rest s =
    elim s [
      | inl w ↦ rw (w.0, name_of (Word n ∷ rest) n rest (inl (refl, w.1))) refl
      | inr q ↦ rw (q, name_of (QuotedName n ∷ rest) n rest (inr refl)) refl
    ]

-- the condition on the tokens after a key of ORDER BY
record EndsKey (rest : List Token) : Type 0 where
  down : Stops (Word (codes "DESC")) rest
  up : Stops (Word (codes "ASC")) rest

direction_sound : Sound direction direction_at
unfolding direction_at
direction_sound ts d rest e =
    elim (front_is (Word (codes "DESC")) ts e) [
      | inl a ↦ spelled direction a.1 a.0
      | inr a ↦ spelled direction (rw a.0 at a.1) (noise_spelled (codes "ASC") ts)
    ]

direction_complete : CompleteBefore EndsKey direction direction_at
unfolding direction_at
direction_complete ts true rest s ends = rw s refl
direction_complete ts false rest s ends =
    elim s [
      | inl same ↦ rw (
        same,
        ends.down,
        eat_false (Word (codes "DESC")) rest ends.down,
        eat_false
            (Word (codes "ASC")) rest ends.up,
      ) refl
      | inr word ↦ rw word refl
    ]

order_key_sound : Sound order_key order_key_at
unfolding order_key_at
order_key_sound ts k rest e =
    let n = and_then e in
    let d = into_is (λ (b : Bool). let made : OrderTree = record { key = n.0; falls = b } in made) _ k rest n.3 in
    subst (λ (x : OrderTree). order_key x ts rest) d.2 (n.1, key_name_sound _ _ _ n.2, direction_sound _ _ _ d.1)

order_key_complete : CompleteBefore EndsKey order_key order_key_at
unfolding order_key_at
order_key_complete ts k rest s ends =
    rw (key_name_complete ts k.key s.0 s.1, direction_complete s.0 k.falls rest s.2 ends) refl

order_by_sound : Sound order_by order_by_at
unfolding order_by_at
order_by_sound ts ks rest e =
    elim (front_is (Word (codes "ORDER")) ts e) [
      | inl a ↦
          let by = expected _ a.1 in
          let took = separated_is order_key order_key_at order_key_sound by.0 ks rest by.2 in
          subst (λ (x : List OrderTree). order_by x ts rest) (sym took.is) (by.0, (_, a.0, by.1), took.spelled)
      | inr a ↦ spelled order_by (rw a.0 at a.1) refl
    ]

-- the condition on the tokens after [ORDER BY ..]
record EndsOrder (rest : List Token) : Type 0 where
  key : EndsList EndsKey rest
  word : Stops (Word (codes "ORDER")) rest

order_by_complete : CompleteBefore EndsOrder order_by order_by_at
unfolding order_by_at
order_by_complete ts [] rest s ends = rw (s, ends.word, eat_false (Word (codes "ORDER")) rest ends.word) refl
order_by_complete ts (k ∷ ks) rest s ends =
    let comma : (us : List Token) → EndsKey (Sign Comma ∷ us) = λ us. record { down = refl; up = refl } in
    rw (
      s.1.1,
      expected_of s.1.2,
      separated_of order_key order_key_at EndsKey comma order_key_complete (shortens order_key takes_order_key) k ks
          s.0 rest s.2 ends.key,
    ) refl

-- ---- queries

pub query_sound : (ts us : List Token) (s : Statement) (rest : List Token) → ts ≡ Word (codes "SELECT") ∷ us
    → query_at us ≡ Read s rest → statement s ts rest
unfolding query_at
query_sound ts us s rest word e =
    let q = and_then e in
    let keys = into_is (QueryTree q.0) _ s rest q.3 in
    subst (λ (x : Statement). statement x ts rest) keys.2
    (q.1, select_sound ts us q.0 q.1 word q.2, order_by_sound _ _ _ keys.1)

-- READ is in front
pub read_sound : (ts us : List Token) (s : Statement) (rest : List Token) → ts ≡ Word (codes "READ") ∷ us
    → read_at us ≡ Read s rest → statement s ts rest
unfolding read_at
read_sound ts us s rest word e =
    let n = and_then e in
    let front = expected _ n.3 in
    let q = and_then front.2 in
    let keys = into_is (ReadTree n.0 q.0) _ s rest q.3 in
    subst (λ (x : Statement). statement x ts rest) keys.2 (
      q.1,
      (n.1, (us, word, name_is _ _ _ n.2), select_sound _ front.0 q.0 q.1 front.1 q.2),
      order_by_sound _ _ _ keys.1,
    )

-- a select ends before ORDER
select_ends_order : (ts us : List Token) → ts ≡ Word (codes "ORDER") ∷ us → EndsSelect ts
select_ends_order ts us e =
    let chain : EndsList EndsChain ts = record { item = chain_ends ts (rw e refl) (rw e refl); comma = rw e refl } in
    let grouping : EndsGroup ts =
    record { filter = record { from = record { chain = chain }; word = rw e refl }; word = rw e refl } in
    record { grouping = grouping; word = rw e refl }

-- a select ends where no token is left
pub select_ends : EndsSelect []
select_ends =
    let chain : EndsList EndsChain [] = record { item = chain_ends [] refl refl; comma = refl } in
    let grouping : EndsGroup [] = record {
      filter = record { from = record { chain = chain }; word = refl };
      word = refl;
    } in
    record { grouping = grouping; word = refl }

order_front : (ts : List Token) (ks : List OrderTree) → order_by ks ts [] → EndsSelect ts
order_front ts [] s = subst EndsSelect (sym s) select_ends
order_front ts (k ∷ ks) s = select_ends_order ts s.1.0 s.1.1

-- [ORDER BY ..] ends where no token is left
order_ends : EndsOrder []
order_ends = record {
  key = record { item = record { down = refl; up = refl }; comma = refl };
  word = refl;
}

-- the tokens after SELECT are read
pub query_complete : (q : SelectTree) (keys : List OrderTree) (ts : List Token)
    (p : statement (QueryTree q keys) ts []) → query_at p.1.1.1.1.1.1.1.0 ≡ Read (QueryTree q keys) []
unfolding query_at
query_complete q keys ts p =
    rw (select_complete q ts p.0 p.1 (order_front p.0 keys p.2), order_by_complete p.0 keys [] p.2 order_ends) refl

-- the tokens after READ are read
pub read_complete : (n : Name) (q : SelectTree) (keys : List OrderTree) (ts : List Token)
    (p : statement (ReadTree n q keys) ts []) → read_at p.1.1.0 ≡ Read (ReadTree n q keys) []
unfolding read_at
read_complete n q keys ts p =
    let named = p.1.1 in
    let word = p.1.2.1.1.1.1.1.1.1 in
    rw (
      name_of named.0 n p.1.0 named.2,
      expected_of word,
      select_complete q p.1.0 p.0 p.1.2 (order_front p.0 keys p.2),
      order_by_complete p.0 keys [] p.2 order_ends,
    ) refl

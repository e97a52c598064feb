-- Table references, joins and chains: the reading rules are sound and complete.
use Rattle.std.specs.Prelude.{◌≡◌, refl, Bool, false, ◌||◌, List, ◌∷◌, codes, Option, Some, None}
use Rattle.std.proofs.Common.{sym, ◌∙◌, subst, inl, inr}
use Rattle.tql_spec.specs.Definition.{Name}
use Rattle.tql_spec.specs.Token.{Token, Word, Sign, Dot, Star, PlusSign, MinusSign}
use Rattle.tql_spec.specs.Syntax.{Condition, SpanTree, NoSpan, AsOfTree, FromToTree, BetweenTree, RefTree, JoinTree}
use Rattle.tql_spec.specs.Syntax.{InnerJoin, LeftJoin, CrossJoin, ChainTree}
use Rattle.tql_spec.specs.Grammar.{Phrase, key, ◌⨟◌, maybe, optional, name, condition, span, alias, ref, join, chain}
use Rattle.tql_syntax_grammar.specs.Outcome.{Read, begins_name, eat}
use Rattle.tql_syntax_grammar.specs.ReadingStatements.{from_to_at, between_at, span_behind, span_at, name_or_none}
use Rattle.tql_syntax_grammar.specs.ReadingStatements.{alias_at}
use Rattle.tql_syntax_grammar.specs.ReadingStatements.{ref_at, joined_on_at, inner_at, left_at, cross_at, next_join}
use Rattle.tql_syntax_grammar.specs.ReadingStatements.{chain_at}
use Rattle.tql_syntax_grammar.proofs.Ends.{EndsCondition}
use Rattle.tql_syntax_grammar.proofs.ConditionLaws.{condition_sound, condition_complete}
use Rattle.tql_syntax_grammar.proofs.Lengths.{takes_join, shortens}
use Rattle.tql_syntax_grammar.proofs.WordLaws.{noise_spelled, noise_eaten, moment_sound, moment_complete}
use Rattle.tql_syntax_grammar.proofs.Steps.{Sound, CompleteBefore, Stops, and_then, into_is, choose, spelled, eat_false}
use Rattle.tql_syntax_grammar.proofs.Steps.{expected, expected_of, name_is, name_of, name_begins, name_no_word}
use Rattle.tql_syntax_grammar.proofs.Steps.{front_is}
use Rattle.tql_syntax_grammar.proofs.Steps.{option_is, more_is, more_of, each_front, neither}

-- ---- FOR SYSTEM_TIME

from_to_sound : (ts us : List Token) (s : SpanTree) (rest : List Token)
    → (key (codes "FOR") ⨟ key (codes "SYSTEM_TIME") ⨟ key (codes "FROM")) ts us → from_to_at us ≡ Read s rest
    → span s ts rest
unfolding from_to_at
from_to_sound ts us s rest head e =
    let a = and_then e in
    let to = expected _ a.3 in
    let b = into_is (FromToTree a.0) _ s rest to.2 in
    subst (λ (t : SpanTree). span t ts rest) b.2
    (to.0, (a.1, (us, head, moment_sound _ _ _ a.2), to.1), moment_sound _ _ _ b.1)

between_sound : (ts us : List Token) (s : SpanTree) (rest : List Token)
    → (key (codes "FOR") ⨟ key (codes "SYSTEM_TIME") ⨟ key (codes "BETWEEN")) ts us → between_at us ≡ Read s rest
    → span s ts rest
unfolding between_at
between_sound ts us s rest head e =
    let a = and_then e in
    let to = expected _ a.3 in
    let b = into_is (BetweenTree a.0) _ s rest to.2 in
    subst (λ (t : SpanTree). span t ts rest) b.2
    (to.0, (a.1, (us, head, moment_sound _ _ _ a.2), to.1), moment_sound _ _ _ b.1)

span_behind_sound : (ts us : List Token) (s : SpanTree) (rest : List Token) → ts ≡ Word (codes "FOR") ∷ us
    → span_behind us ≡ Read s rest → span s ts rest
unfolding span_behind
span_behind_sound ts us s rest word e =
    let system = expected _ e in
    let head : (key (codes "FOR") ⨟ key (codes "SYSTEM_TIME")) ts system.0 = (us, word, system.1) in
    elim (front_is (Word (codes "AS")) system.0 system.2) [
      | inl a ↦
          let of = expected _ a.1 in
          let m = into_is AsOfTree _ s rest of.2 in
          subst (λ (t : SpanTree). span t ts rest) m.2 (of.0, (_, (system.0, head, a.0), of.1), moment_sound _ _ _ m.1)
      | inr a ↦
          elim (front_is (Word (codes "FROM")) system.0 (rw a.0 at a.1)) [
            | inl b ↦ from_to_sound ts _ s rest (system.0, head, b.0) b.1
            | inr b ↦ let between =
                expected _ (rw b.0 at b.1) in between_sound ts between.0 s rest (system.0, head, between.1) between.2
          ]
    ]

pub span_sound : Sound span span_at
unfolding span_at
span_sound ts s rest e =
    elim (front_is (Word (codes "FOR")) ts e) [
      | inl a ↦ span_behind_sound ts _ s rest a.0 a.1
      | inr a ↦ spelled span (rw a.0 at a.1) refl
    ]

pub span_complete : CompleteBefore (Stops (Word (codes "FOR"))) span span_at
unfolding span_at span_behind from_to_at between_at
span_complete ts NoSpan rest s stops = rw (s, stops, eat_false (Word (codes "FOR")) rest stops) refl
span_complete ts (AsOfTree m) rest s stops =
    let words = s.1.1 in
    rw (words.1.1, expected_of words.1.2, words.2, expected_of s.1.2, moment_complete s.0 m rest s.2) refl
span_complete ts (FromToTree a b) rest s stops =
    let words = s.1.1.1 in
    rw (
      words.1.1,
      expected_of words.1.2,
      words.2,
      moment_complete s.1.1.0 a s.1.0 s.1.1.2,
      expected_of s.1.2,
      moment_complete s.0 b rest s.2,
    ) refl
span_complete ts (BetweenTree a b) rest s stops =
    let words = s.1.1.1 in
    rw (
      words.1.1,
      expected_of words.1.2,
      words.2,
      expected_of refl,
      moment_complete s.1.1.0 a s.1.0 s.1.1.2,
      expected_of s.1.2,
      moment_complete s.0 b rest s.2,
    ) refl

-- ---- aliases

pub alias_sound : Sound (optional alias) alias_at
unfolding alias_at
alias_sound ts n rest e =
    elim (front_is (Word (codes "AS")) ts e) [
      | inl a ↦
          let m = into_is Some _ n rest a.1 in
          subst (λ (o : Option Name). optional alias o ts rest) m.2 (_, inr a.0, name_is _ _ _ m.1)
      | inr a ↦
          let f : name_or_none ts ≡ Read n rest = rw a.0 at a.1 in
          elim (choose (begins_name ts) _ _ n rest f) [
            | inl b ↦
                let m = into_is Some _ n rest b.1 in
                subst (λ (o : Option Name). optional alias o ts rest) m.2 (ts, inl refl, name_is _ _ _ m.1)
            | inr b ↦ spelled (optional alias) b.1 refl
          ]
    ]

-- the condition on the tokens after an optional alias
pub record EndsAlias (rest : List Token) : Type 0 where
  pub word : Stops (Word (codes "AS")) rest
  pub name : begins_name rest ≡ false

pub alias_complete : CompleteBefore EndsAlias (optional alias) alias_at
unfolding alias_at
alias_complete ts None rest s ends = rw (s, ends.word, eat_false (Word (codes "AS")) rest ends.word, ends.name) refl
alias_complete ts (Some n) rest s ends =
    elim s.1 [
      | inl same ↦
          let here : name n ts rest = subst (λ (us : List Token). name n us rest) (sym same) s.2 in
          let other = name_no_word (codes "AS") n ts rest refl here in
          rw (other, eat_false (Word (codes "AS")) ts other, name_begins n ts rest here, name_of ts n rest here) refl
      | inr word ↦ rw (word, name_of s.0 n rest s.2) refl
    ]

-- FOR is not in front of an optional alias, if it is not in front of the rest
alias_no_for : (ts : List Token) (n : Option Name) (rest : List Token) → optional alias n ts rest
    → Stops (Word (codes "FOR")) rest → Stops (Word (codes "FOR")) ts
alias_no_for ts None rest s stops = rw s stops
alias_no_for ts (Some n) rest s stops =
    elim s.1 [
      | inl same ↦ rw same (name_no_word (codes "FOR") n s.0 rest refl s.2)
      | inr word ↦ rw word refl
    ]

-- ---- table references

pub ref_sound : Sound ref ref_at
unfolding ref_at
ref_sound ts r rest e =
    let t = and_then e in
    let s = and_then t.3 in
    let n = into_is (λ (a : Option Name). let made : RefTree = record {
      table = t.0;
      span = s.0;
      alias = a;
    } in made) _ r rest s.3 in
    subst (λ (x : RefTree). ref x ts rest) n.2
    (s.1, (t.1, name_is _ _ _ t.2, span_sound _ _ _ s.2), alias_sound _ _ _ n.1)

-- the condition on the tokens after a table reference
pub record EndsRef (rest : List Token) : Type 0 where
  pub alias : EndsAlias rest
  pub span : Stops (Word (codes "FOR")) rest

pub ref_complete : CompleteBefore EndsRef ref ref_at
unfolding ref_at
ref_complete ts r rest s ends =
    rw (
      name_of ts r.table s.1.0 s.1.1,
      span_complete s.1.0 r.span s.0 s.1.2 (alias_no_for s.0 r.alias rest s.2 ends.span),
      alias_complete s.0 r.alias rest s.2 ends.alias,
    ) refl

-- ---- joins

-- a join with its condition, after its words
record TookJoin (make : RefTree → Condition
    → JoinTree) (head : Phrase) (j : JoinTree) (ts rest : List Token) : Type 0 where
  reference : RefTree
  on : Condition
  is : make reference on ≡ j
  spelled : (head ⨟ ref reference ⨟ key (codes "ON") ⨟ condition on) ts rest

joined_sound : (make : RefTree → Condition
    → JoinTree) (head : Phrase) (ts us : List Token) (j : JoinTree) (rest : List Token) → head ts us
    → joined_on_at make us ≡ Read j rest → TookJoin make head j ts rest
unfolding joined_on_at
joined_sound make head ts us j rest h e =
    let r = and_then e in
    let on = expected _ r.3 in
    let c = into_is (make r.0) _ j rest on.2 in
    record {
      reference = r.0;
      on = c.0;
      is = c.2;
      spelled = (on.0, (r.1, (us, h, ref_sound _ _ _ r.2), on.1), condition_sound _ _ _ c.1);
    }

-- a table reference ends before ON
ref_ends_on : (ts rest : List Token) → ts ≡ Word (codes "ON") ∷ rest → EndsRef ts
ref_ends_on ts rest e = record { alias = record { word = rw e refl; name = rw e refl }; span = rw e refl }

joined_complete : (make : RefTree → Condition
    → JoinTree) (head : Phrase) (r : RefTree) (c : Condition) (ts rest : List Token)
    (s : (head ⨟ ref r ⨟ key (codes "ON") ⨟ condition c) ts rest) → EndsCondition rest
    → joined_on_at make s.1.1.0 ≡ Read (make r c) rest
unfolding joined_on_at
joined_complete make head r c ts rest s ends =
    rw (
      ref_complete s.1.1.0 r s.1.0 s.1.1.2 (ref_ends_on s.1.0 s.0 s.1.2),
      expected_of s.1.2,
      condition_complete s.0 c rest s.2 ends,
    ) refl

inner_sound : (ts us : List Token) (j : JoinTree) (rest : List Token)
    → (maybe (key (codes "INNER")) ⨟ key (codes "JOIN")) ts us → joined_on_at InnerJoin us ≡ Read j rest
    → join j ts rest
inner_sound ts us j rest head e =
    let took = joined_sound InnerJoin (maybe (key (codes "INNER")) ⨟ key (codes "JOIN")) ts us j rest head e in
    subst (λ (x : JoinTree). join x ts rest) took.is took.spelled

left_sound : (ts us : List Token) (j : JoinTree) (rest : List Token) → ts ≡ Word (codes "LEFT") ∷ us
    → left_at us ≡ Read j rest → join j ts rest
unfolding left_at
left_sound ts us j rest word e =
    let head : Phrase = key (codes "LEFT") ⨟ maybe (key (codes "OUTER")) ⨟ key (codes "JOIN") in
    let joined = expected _ e in
    let spelled : head ts joined.0 = (_, (us, word, noise_spelled (codes "OUTER") us), joined.1) in
    let took = joined_sound LeftJoin head ts joined.0 j rest spelled joined.2 in
    subst (λ (x : JoinTree). join x ts rest) took.is took.spelled

cross_sound : (ts us : List Token) (j : JoinTree) (rest : List Token) → ts ≡ Word (codes "CROSS") ∷ us
    → cross_at us ≡ Read j rest → join j ts rest
unfolding cross_at
cross_sound ts us j rest word e =
    let joined = expected _ e in
    let r = into_is CrossJoin _ j rest joined.2 in
    subst (λ (x : JoinTree). join x ts rest) r.2 (joined.0, (us, word, joined.1), ref_sound _ _ _ r.1)

join_sound : Sound (optional join) next_join
unfolding next_join inner_at
join_sound ts j rest e =
    elim (front_is (Word (codes "INNER")) ts e) [
      | inl a ↦
          let o = into_is Some _ j rest a.1 in
          let joined = expected _ o.1 in
          subst (λ (x : Option JoinTree). optional join x ts rest) o.2
          (inner_sound ts joined.0 o.0 rest (_, inr a.0, joined.1) joined.2)
      | inr a ↦
          elim (front_is (Word (codes "JOIN")) ts (rw a.0 at a.1)) [
            | inl b ↦
                let o = into_is Some _ j rest b.1 in
                subst (λ (x : Option JoinTree). optional join x ts rest) o.2
                (inner_sound ts _ o.0 rest (ts, inl refl, b.0) o.1)
            | inr b ↦
                elim (front_is (Word (codes "LEFT")) ts (rw b.0 at b.1)) [
                  | inl c ↦
                      let o = into_is Some _ j rest c.1 in
                      subst (λ (x : Option JoinTree). optional join x ts rest) o.2 (left_sound ts _ o.0 rest c.0 o.1)
                  | inr c ↦
                      elim (option_is (Word (codes "CROSS")) cross_at ts (rw c.0 at c.1)) [
                        | inl d ↦ subst (λ (x : Option JoinTree). optional join x ts rest) (sym d.4)
                            (cross_sound ts d.1 d.0 rest d.2 d.3)
                        | inr d ↦ subst (λ (x : Option JoinTree). optional join x ts rest) (sym d.0) d.1
                      ]
                ]
          ]
    ]

-- the condition on the tokens after a join
pub record EndsJoin (rest : List Token) : Type 0 where
  pub condition : EndsCondition rest
  pub ref : EndsRef rest

left_complete : (r : RefTree) (c : Condition) (ts rest : List Token) (s : join (LeftJoin r c) ts rest)
    → EndsCondition rest → left_at s.1.1.1.1.0 ≡ Read (LeftJoin r c) rest
unfolding left_at
left_complete r c ts rest s ends =
    let head : Phrase = key (codes "LEFT") ⨟ maybe (key (codes "OUTER")) ⨟ key (codes "JOIN") in
    let words = s.1.1.1 in
    let plain : Stops (Word (codes "OUTER")) words.0 = rw words.2 refl in
    rw (
      noise_eaten (codes "OUTER") words.1.0 words.0 words.1.2 plain,
      expected_of words.2,
      joined_complete LeftJoin head r c ts rest s ends,
    ) refl

join_complete : (ts : List Token) (j : JoinTree) (rest : List Token) → join j ts rest → EndsJoin rest
    → next_join ts ≡ Read (Some j) rest
unfolding next_join inner_at cross_at
join_complete ts (InnerJoin r c) rest s ends =
    let words = s.1.1.1 in
    let inner = joined_complete InnerJoin (maybe (key (codes "INNER")) ⨟ key (codes "JOIN")) r c ts rest s
    ends.condition in
    elim words.1 [
      | inl same ↦ let here : ts ≡ Word (codes "JOIN") ∷ s.1.1.0 = same ∙ words.2 in rw (here, inner) refl
      | inr word ↦ rw (word, expected_of words.2, inner) refl
    ]
join_complete ts (LeftJoin r c) rest s ends = rw (s.1.1.1.1.1, left_complete r c ts rest s ends.condition) refl
join_complete ts (CrossJoin r) rest s ends = rw (s.1.1, expected_of s.1.2, ref_complete s.0 r rest s.2 ends.ref) refl

-- ---- chains

-- whether the token in front may continue a join: its condition or its table reference
abbrev goes_on : List Token → Bool
goes_on ts =
    (eat (Sign Dot) ts).0 || ((eat (Sign Star) ts).0 || ((eat (Sign PlusSign) ts).0 || ((eat (Sign MinusSign) ts).0
    || ((eat (Word (codes "AND")) ts).0 || ((eat (Word (codes "OR")) ts).0 || ((eat (Word (codes "AS")) ts).0
    || (begins_name ts || (eat (Word (codes "FOR")) ts).0)))))))

-- a condition ends where no such token is in front
condition_ends : (ts : List Token) → goes_on ts ≡ false → EndsCondition ts
condition_ends ts e =
    let dot = neither (eat (Sign Dot) ts).0 _ e in
    let star = neither (eat (Sign Star) ts).0 _ dot.1 in
    let plus = neither (eat (Sign PlusSign) ts).0 _ star.1 in
    let minus = neither (eat (Sign MinusSign) ts).0 _ plus.1 in
    let also = neither (eat (Word (codes "AND")) ts).0 _ minus.1 in
    let or = neither (eat (Word (codes "OR")) ts).0 _ also.1 in
    record { expr = record { dot = dot.0; star = star.0; plus = plus.0; minus = minus.0 }; also = also.0; or = or.0 }

-- a table reference ends where no such token is in front
ref_ends : (ts : List Token) → goes_on ts ≡ false → EndsRef ts
ref_ends ts e =
    let dot = neither (eat (Sign Dot) ts).0 _ e in
    let star = neither (eat (Sign Star) ts).0 _ dot.1 in
    let plus = neither (eat (Sign PlusSign) ts).0 _ star.1 in
    let minus = neither (eat (Sign MinusSign) ts).0 _ plus.1 in
    let also = neither (eat (Word (codes "AND")) ts).0 _ minus.1 in
    let or = neither (eat (Word (codes "OR")) ts).0 _ also.1 in
    let word = neither (eat (Word (codes "AS")) ts).0 _ or.1 in
    let name = neither (begins_name ts) _ word.1 in
    record { alias = record { word = word.0; name = name.0 }; span = name.1 }

join_ends : (ts : List Token) → goes_on ts ≡ false → EndsJoin ts
join_ends ts e = record { condition = condition_ends ts e; ref = ref_ends ts e }

-- a join ends before another join
join_front : (ts : List Token) (j : JoinTree) (rest : List Token) → join j ts rest → EndsJoin ts
join_front ts (InnerJoin r c) rest s =
    elim s.1.1.1.1 [
      | inl same ↦ let here : ts ≡ Word (codes "JOIN") ∷ s.1.1.0 = same ∙ s.1.1.1.2 in join_ends ts (rw here refl)
      | inr word ↦ join_ends ts (rw word refl)
    ]
join_front ts (LeftJoin r c) rest s = join_ends ts (rw s.1.1.1.1.1 refl)
join_front ts (CrossJoin r) rest s = join_ends ts (rw s.1.1 refl)

-- the condition on the tokens after a chain
pub record EndsChain (rest : List Token) : Type 0 where
  pub join : EndsJoin rest
  pub inner : Stops (Word (codes "INNER")) rest
  pub joined : Stops (Word (codes "JOIN")) rest
  pub left : Stops (Word (codes "LEFT")) rest
  pub cross : Stops (Word (codes "CROSS")) rest

-- whether a word of a join is in front
abbrev pub begins_join : List Token → Bool
begins_join ts =
    (eat (Word (codes "INNER")) ts).0 || ((eat (Word (codes "JOIN")) ts).0
    || ((eat (Word (codes "LEFT")) ts).0 || (eat (Word (codes "CROSS")) ts).0))

-- a chain ends where no token continues its last join and no further join begins
pub chain_ends : (ts : List Token) → goes_on ts ≡ false → begins_join ts ≡ false → EndsChain ts
chain_ends ts e f =
    let inner = neither (eat (Word (codes "INNER")) ts).0 _ f in
    let joined = neither (eat (Word (codes "JOIN")) ts).0 _ inner.1 in
    let left = neither (eat (Word (codes "LEFT")) ts).0 _ joined.1 in
    record { join = join_ends ts e; inner = inner.0; joined = joined.0; left = left.0; cross = left.1 }

no_join : (ts : List Token) → EndsChain ts → next_join ts ≡ Read None ts
unfolding next_join
no_join ts ends =
    rw (
      ends.inner,
      eat_false (Word (codes "INNER")) ts ends.inner,
      ends.joined,
      eat_false (Word (codes "JOIN")) ts ends.joined,
      ends.left,
      eat_false (Word (codes "LEFT")) ts ends.left,
      ends.cross,
      eat_false (Word (codes "CROSS")) ts ends.cross,
    ) refl

pub chain_sound : Sound chain chain_at
unfolding chain_at
chain_sound ts c rest e =
    let r = and_then e in
    let js = into_is (λ (l : List JoinTree). let made : ChainTree = record {
      first = r.0;
      joins = l;
    } in made) _ c rest r.3 in
    subst (λ (x : ChainTree). chain x ts rest) js.2
    (r.1, ref_sound _ _ _ r.2, more_is join next_join join_sound _ _ _ js.1)

pub chain_complete : CompleteBefore EndsChain chain chain_at
unfolding chain_at
chain_complete ts c rest s ends =
    let behind = each_front join EndsJoin join_front c.joins s.0 rest s.2 ends.join in
    let joins =
    more_of join next_join EndsJoin join_complete join_front (shortens join takes_join) s.0 c.joins rest s.2
    ends.join (no_join rest ends) in
    rw (ref_complete ts c.first s.0 s.1 behind.ref, joins) refl

-- Expressions: the reading rules are sound and complete.
use Rattle.std.specs.Prelude.{◌≡◌, refl, ℕ, zero, suc, ◌<◌, ◌≤◌, Bool, true, false, List, [], ◌∷◌, codes, length}
use Rattle.std.specs.Prelude.{Option, Some, None}
use Rattle.std.proofs.Common.{sym, ◌∙◌, ap, subst, arith, inl, inr}
use Rattle.tql_spec.specs.Expression.{Function, Count, Min, Max}
use Rattle.tql_spec.specs.Expression as bound
use Rattle.tql_spec.specs.Definition.{Name}
use Rattle.tql_spec.specs.Token.{Token, Word, QuotedName, Number, Quote, Sign, Open, Close, Dot, PlusSign, MinusSign}
use Rattle.tql_spec.specs.Token.{Star}
use Rattle.tql_spec.specs.Syntax.{Named, Sum, Product, MoreTerms, NoTerm, PlusTerm, MinusTerm, Terms, MoreFactors}
use Rattle.tql_spec.specs.Syntax.{NoFactor, TimesFactor, Factors, Signed, Unsigned, Positive, Negative, Primary}
use Rattle.tql_spec.specs.Syntax.{NumberLiteral, TextLiteral, DateLiteral, TimestampLiteral, ColumnNamed, Enclosed}
use Rattle.tql_spec.specs.Syntax.{CountStar, Over}
use Rattle.tql_spec.specs.Grammar.{Phrase, sign, ◌⨟◌, optional, each, name, named, function_name, date_literal}
use Rattle.tql_spec.specs.Grammar.{moment, expr, more_terms, term, more_factors, signed, primary}
use Rattle.tql_syntax_grammar.specs.Outcome.{Outcome, Read, Parser, found, into, is_token, eat, expect, name_at}
use Rattle.tql_syntax_grammar.specs.Outcome.{quote_at}
use Rattle.tql_syntax_grammar.specs.Outcome.{is_name, if_front, more}
use Rattle.tql_spec.specs.Parts.{AddedTerm, with_term, terms_of, factors_of}
use Rattle.tql_syntax_grammar.specs.ReadingExpressions.{named_at, simple_at, function_at, inside_over, count_over}
use Rattle.tql_syntax_grammar.specs.ReadingExpressions.{aggregate_or_simple, other_primary, primary_over, signed_over}
use Rattle.tql_syntax_grammar.specs.ReadingExpressions.{next_factor, term_behind, term_over, next_term, sum_behind}
use Rattle.tql_syntax_grammar.specs.ReadingExpressions.{sum_over}
use Rattle.tql_syntax_grammar.specs.ReadingExpressions.{sum_from, expr_at, expr_here}
use Rattle.tql_syntax_grammar.proofs.Ends.{EndsExpr}
use Rattle.tql_syntax_grammar.proofs.Steps.{then_is, into_is, into_sound, choose, spelled_as, Sound, CompleteBefore}
use Rattle.tql_syntax_grammar.proofs.Steps.{Shortens, Stops, eat_true, eat_false, expect_is, expect_of, expect_then}
use Rattle.tql_syntax_grammar.proofs.Steps.{name_is}
use Rattle.tql_syntax_grammar.proofs.Steps.{name_of, name_shortens, quote_is, quote_of, if_front_is, behind_is}
use Rattle.tql_syntax_grammar.proofs.Steps.{behind_some}
use Rattle.tql_syntax_grammar.proofs.Steps.{behind_none, more_is, more_of}
use Rattle.tql_syntax_grammar.proofs.FirstTokens.{Begins, eat_not, eat_none, at_token, at_name, starts_primary}
use Rattle.tql_syntax_grammar.proofs.FirstTokens.{starts_expr}
use Rattle.tql_syntax_grammar.proofs.FirstTokens.{name_begins_primary, primary_begins_expr, ends_before}

-- ---- steps

-- a mapped value was mapped from the value that was read
pub made_is : {A B : Type 0} (P : B → Phrase) (make : A
    → B) (o : Outcome A) (before : List Token) (y : B) (rest : List Token)
    → ((x : A) → o ≡ Read x rest → P (make x) before rest) → into make o ≡ Read y rest → P y before rest
made_is P make o before y rest f e =
    let b = into_is make o y rest e in
    subst (λ z. P z before rest) b.2 (f b.0 b.1)

-- a rule after the token, if it is in front; else another rule
pub front_or : {A : Type 0} (P : A → Phrase) (t : Token) (p q : Parser A)
    → ((ts mid : List Token) → ts ≡ t ∷ mid → (y : A) (rest : List Token) → p mid ≡ Read y rest → P y ts rest)
    → Sound P q → Sound P (if_front t p q)
front_or P t p q first second ts y rest e =
    elim (if_front_is t p q ts y rest e) [
      | inl a ↦ first ts a.0 a.1 y rest a.2
      | inr a ↦ second ts y rest a.1
    ]

-- a token that represents one value, if it is in front; else another rule
pub found_or : {A : Type 0} (P : A → Phrase) (t : Token) (x : A) (q : Parser A)
    → ((ts rest : List Token) → ts ≡ t ∷ rest → P x ts rest) → Sound P q → Sound P (if_front t (found x) q)
found_or P t x q spelled sound =
    front_or P t (found x) q (λ ts mid is y rest e. spelled_as P ts x y mid rest e (spelled ts mid is)) sound

pub found_sound : {A : Type 0} (P : A → Phrase) (x : A) → ((ts : List Token) → P x ts ts) → Sound P (found x)
found_sound P x spelled ts y rest e = spelled_as P ts x y ts rest e (spelled ts)

-- ---- names

pub named_sound : Sound named named_at
unfolding named_at
named_sound ts r rest e =
    let a = then_is (name_at ts) _ r rest e in
    let first = name_is ts a.0 a.1 a.2 in
    elim (choose (eat (Sign Dot) a.1).0 _ _ r rest a.3) [
      | inl d ↦
          let us = (eat (Sign Dot) a.1).1 in
          made_is named (λ m. record { qualifier = Some a.0; name = m }) (name_at us) ts r rest
          (λ m o. (us, (a.1, first, eat_true (Sign Dot) a.1 d.0), name_is us m rest o)) d.1
      | inr d ↦
          spelled_as named ts (record { qualifier = None; name = a.0 }) r (eat (Sign Dot) a.1).1 rest d.1
          (ts, refl, subst (λ (us : List Token). name a.0 ts us) (sym (eat_false (Sign Dot) a.1 d.0)) first)
    ]

named_by : (q : Option Name) (n : Name) (ts rest : List Token) → named (record { qualifier = q; name = n }) ts rest
    → Stops (Sign Dot) rest → named_at ts ≡ Read (record { qualifier = q; name = n }) rest
unfolding named_at
named_by None n ts rest s stops = rw (s.1, name_of s.0 n rest s.2, stops, eat_false (Sign Dot) rest stops) refl
named_by (Some q) n ts rest s stops = rw (name_of ts q s.1.0 s.1.1, s.1.2, name_of s.0 n rest s.2) refl

pub named_complete : (ts : List Token) (r : Named) (rest : List Token) → named r ts rest → Stops (Sign Dot) rest
    → named_at ts ≡ Read r rest
named_complete ts r rest s stops = named_by r.qualifier r.name ts rest s stops

pub qualifier_within : (q : Option Name) (ts mid : List Token) → optional (λ m. name m ⨟ sign Dot) q ts mid
    → length mid ≤ length ts
qualifier_within None ts mid s = omega (arith, ap length s)
qualifier_within (Some q) ts mid s = let h = name_shortens ts q s.0 s.1 in omega (arith, ap length s.2)

pub named_shortens : Shortens named
named_shortens ts r rest s =
    let a = qualifier_within r.qualifier ts s.0 s.1 in
    let b = name_shortens s.0 r.name rest s.2 in
    omega arith

qualifier_first : (q : Option Name) (n : Name) (ts mid rest : List Token)
    → optional (λ m. name m ⨟ sign Dot) q ts mid → name n mid rest → Begins is_name ts
qualifier_first None n ts mid rest s name = subst (Begins is_name) (sym s) (at_name n mid rest name)
qualifier_first (Some q) n ts mid rest s name = at_name q ts s.0 s.1

-- a name is in front of a column reference
pub at_named : (r : Named) (ts rest : List Token) → named r ts rest → Begins is_name ts
at_named r ts rest s = qualifier_first r.qualifier r.name ts s.0 rest s.1 s.2

-- ---- every expression takes a token

date_shortens : Shortens date_literal
date_shortens ts t rest s = omega (arith, ap length s.1, ap length s.2)

moment_shortens : Shortens moment
moment_shortens ts t rest s = omega (arith, ap length s.1, ap length s.2)

function_shortens : Shortens function_name
function_shortens ts Count rest s = omega (arith, ap length s)
function_shortens ts bound.Sum rest s = omega (arith, ap length s)
function_shortens ts Min rest s = omega (arith, ap length s)
function_shortens ts Max rest s = omega (arith, ap length s)

mutual
  pub expr_shortens : (ts : List Token) (e : Sum) (rest : List Token) → expr e ts rest → length rest < length ts
  expr_shortens ts (Terms t more) rest s =
      let a = term_shortens ts t s.0 s.1 in
      let b = more_terms_within s.0 more rest s.2 in
      omega arith

  more_terms_within : (ts : List Token) (m : MoreTerms) (rest : List Token) → more_terms m ts rest
      → length rest ≤ length ts
  more_terms_within ts NoTerm rest s = omega (arith, ap length s)
  more_terms_within ts (PlusTerm t more) rest s =
      let a = term_shortens s.1.0 t s.0 s.1.2 in
      let b = more_terms_within s.0 more rest s.2 in
      omega (arith, ap length s.1.1)
  more_terms_within ts (MinusTerm t more) rest s =
      let a = term_shortens s.1.0 t s.0 s.1.2 in
      let b = more_terms_within s.0 more rest s.2 in
      omega (arith, ap length s.1.1)

  pub term_shortens : (ts : List Token) (t : Product) (rest : List Token) → term t ts rest → length rest < length ts
  term_shortens ts (Factors f more) rest s =
      let a = signed_shortens ts f s.0 s.1 in
      let b = more_factors_within s.0 more rest s.2 in
      omega arith

  more_factors_within : (ts : List Token) (m : MoreFactors) (rest : List Token) → more_factors m ts rest
      → length rest ≤ length ts
  more_factors_within ts NoFactor rest s = omega (arith, ap length s)
  more_factors_within ts (TimesFactor f more) rest s =
      let a = signed_shortens s.1.0 f s.0 s.1.2 in
      let b = more_factors_within s.0 more rest s.2 in
      omega (arith, ap length s.1.1)

  pub signed_shortens : (ts : List Token) (f : Signed) (rest : List Token) → signed f ts rest → length rest < length ts
  signed_shortens ts (Unsigned p) rest s = primary_shortens ts p rest s
  signed_shortens ts (Positive p) rest s = let a = primary_shortens s.0 p rest s.2 in omega (arith, ap length s.1)
  signed_shortens ts (Negative p) rest s = let a = primary_shortens s.0 p rest s.2 in omega (arith, ap length s.1)

  pub primary_shortens : (ts : List Token) (p : Primary) (rest : List Token) → primary p ts rest
      → length rest < length ts
  primary_shortens ts (NumberLiteral ds) rest s = omega (arith, ap length s)
  primary_shortens ts (TextLiteral t) rest s = omega (arith, ap length s)
  primary_shortens ts (DateLiteral t) rest s = date_shortens ts t rest s
  primary_shortens ts (TimestampLiteral t) rest s = moment_shortens ts t rest s
  primary_shortens ts (ColumnNamed r) rest s = named_shortens ts r rest s
  primary_shortens ts (Enclosed e) rest s =
      let a = expr_shortens s.1.0 e s.0 s.1.2 in
      omega (arith, ap length s.1.1, ap length s.2)
  primary_shortens ts CountStar rest s =
      omega (arith, ap length s.1, ap length s.2.1.1, ap length s.2.1.2, ap length s.2.2)
  primary_shortens ts (Over f e) rest s =
      let a = function_shortens ts f s.1.1.0 s.1.1.1 in
      let b = expr_shortens s.1.0 e s.0 s.1.2 in
      omega (arith, ap length s.1.1.2, ap length s.2)

-- ---- soundness

function_sound : Sound (optional function_name) function_at
function_sound =
    found_or (optional function_name) (Word (codes "SUM")) (Some bound.Sum) _ (λ ts rest e. e)
    (found_or (optional function_name) (Word (codes "MIN")) (Some Min) _ (λ ts rest e. e)
    (found_or (optional function_name) (Word (codes "MAX")) (Some Max) _ (λ ts rest e. e)
    (found_sound (optional function_name) None (λ ts. refl))))

simple_sound : Sound primary simple_at
unfolding simple_at
simple_sound (Number ds ∷ ts) p rest e = spelled_as primary (Number ds ∷ ts) (NumberLiteral ds) p ts rest e refl
simple_sound (Quote t ∷ ts) p rest e = spelled_as primary (Quote t ∷ ts) (TextLiteral t) p ts rest e refl
simple_sound ts p rest e = made_is primary ColumnNamed (named_at ts) ts p rest (λ r o. named_sound ts r rest o) e

-- the tokens that spell each factor spell the tree of the factors
factors_spelled : (ss : List Signed) (ts rest : List Token) → each (λ s. sign Star ⨟ signed s) ss ts rest
    → more_factors (factors_of ss) ts rest
factors_spelled [] ts rest s = s
factors_spelled (f ∷ ss) ts rest s = (s.0, s.1, factors_spelled ss s.0 rest s.2)

-- a term after the first one, with its sign
abbrev added_by : Bool → Product → Phrase
added_by true t = sign MinusSign ⨟ term t
added_by false t = sign PlusSign ⨟ term t

abbrev added_term : AddedTerm → Phrase
added_term a = added_by a.is_minus a.term

with_spelled : (b : Bool) (t : Product) (m : MoreTerms) (ts rest : List Token)
    → (added_by b t ⨟ more_terms m) ts rest → more_terms (with_term (record { is_minus = b; term = t }) m) ts rest
with_spelled true t m ts rest s = s
with_spelled false t m ts rest s = s

terms_spelled : (as' : List AddedTerm) (ts rest : List Token) → each added_term as' ts rest
    → more_terms (terms_of as') ts rest
terms_spelled [] ts rest s = s
terms_spelled (a ∷ as') ts rest s =
    with_spelled a.is_minus a.term (terms_of as') ts rest (s.0, s.1, terms_spelled as' s.0 rest s.2)

module _ (inner : Parser Sum) (sound : Sound expr inner) where
  pub inside_sound : Sound (λ e. expr e ⨟ sign Close) (inside_over inner)
  unfolding inside_over
  inside_sound ts e rest r =
      let a = then_is (inner ts) _ e rest r in
      let b = expect_then (Sign Close) a.1 _ e rest a.3 in
      spelled_as (λ x. expr x ⨟ sign Close) ts a.0 e b.0 rest b.2 (a.1, sound ts a.0 a.1 a.2, b.1)

  over_sound : (f : Function) (ts mid a : List Token) (p : Primary) (rest : List Token) → function_name f ts mid
      → mid ≡ Sign Open ∷ a → into (Over f) (inside_over inner a) ≡ Read p rest → primary p ts rest
  over_sound f ts mid a p rest named opened e =
      made_is primary (Over f) (inside_over inner a) ts p rest
      (λ x o. let s = inside_sound a x rest o in (s.0, (a, (mid, named, opened), s.1), s.2)) e

  count_sound : (ts a : List Token) → ts ≡ Word (codes "COUNT") ∷ a → (p : Primary) (rest : List Token)
      → count_over inner a ≡ Read p rest → primary p ts rest
  unfolding count_over
  count_sound ts a count p rest e =
      let b = expect_then (Sign Open) a _ p rest e in
      front_or (λ q us vs. us ≡ b.0 → primary q ts vs) (Sign Star) _ _
      (λ us mid star q vs r same.
      made_is primary (λ _. CountStar) (expect (Sign Close) mid) ts q vs
      (λ u o. (a, count, (mid, (b.0, b.1, sym same ∙ star), expect_is (Sign Close) mid vs u o))) r)
      (λ us q vs r same. over_sound Count ts a us q vs count (b.1
      ∙ ap (λ (ws : List Token). Sign Open ∷ ws) (sym same)) r)
      b.0 p rest b.2 refl

  aggregate_sound : (o : Option Function) (ts mid : List Token) (p : Primary) (rest : List Token)
      → optional function_name o ts mid → aggregate_or_simple inner o mid ≡ Read p rest → primary p ts rest
  aggregate_sound None ts mid p rest f e = subst (λ us. primary p us rest) (sym f) (simple_sound mid p rest e)
  aggregate_sound (Some f) ts mid p rest named e =
      let b = expect_then (Sign Open) mid _ p rest e in
      over_sound f ts mid b.0 p rest named b.1 b.2

  other_sound : Sound primary (other_primary inner)
  other_sound ts p rest e =
      let f = then_is (function_at ts) _ p rest e in
      aggregate_sound f.0 ts f.1 p rest (function_sound ts f.0 f.1 f.2) f.3

  pub primary_sound : Sound primary (primary_over inner)
  unfolding primary_over
  primary_sound =
      front_or primary (Sign Open) _ _
      (λ ts mid is p rest e.
      made_is primary Enclosed (inside_over inner mid) ts p rest
      (λ x o. let s = inside_sound mid x rest o in (s.0, (mid, is, s.1), s.2)) e)
      (front_or primary (Word (codes "DATE")) _ _
      (λ ts mid is p rest e. made_is primary DateLiteral (quote_at mid) ts p rest
      (λ t o. (mid, is, quote_is mid t rest o)) e)
      (front_or primary (Word (codes "TIMESTAMP")) _ _
      (λ ts mid is p rest e. made_is primary TimestampLiteral (quote_at mid) ts p rest
      (λ t o. (mid, is, quote_is mid t rest o)) e)
      (front_or primary (Word (codes "COUNT")) _ _ count_sound other_sound)))

  pub signed_sound : Sound signed (signed_over inner)
  unfolding signed_over
  signed_sound =
      front_or signed (Sign PlusSign) _ _
      (λ ts mid is f rest e. made_is signed Positive (primary_over inner mid) ts f rest
      (λ p o. (mid, is, primary_sound mid p rest o)) e)
      (front_or signed (Sign MinusSign) _ _
      (λ ts mid is f rest e. made_is signed Negative (primary_over inner mid) ts f rest
      (λ p o. (mid, is, primary_sound mid p rest o)) e)
      (into_sound signed Unsigned (primary_over inner) primary_sound))

  next_factor_sound : Sound (optional (λ s. sign Star ⨟ signed s)) (next_factor inner)
  unfolding next_factor
  next_factor_sound = behind_is (Sign Star) signed (signed_over inner) signed_sound

  -- the rest of the term that begins with this factor
  term_behind_sound : (f : Signed) (before ts : List Token) (t : Product) (rest : List Token) → signed f before ts
      → term_behind inner f ts ≡ Read t rest → term t before rest
  unfolding term_behind
  term_behind_sound f before ts t rest first e =
      made_is term (λ ss. Factors f (factors_of ss)) (more (next_factor inner) [] ts) before t rest
      (λ ss o. (
        ts,
        first,
        factors_spelled ss ts rest
            (more_is (λ s. sign Star ⨟ signed s) (next_factor inner) next_factor_sound ts ss rest o),
      )) e

  term_sound : Sound term (term_over inner)
  unfolding term_over
  term_sound ts t rest e =
      let a = then_is (signed_over inner ts) _ t rest e in
      term_behind_sound a.0 ts a.1 t rest (signed_sound ts a.0 a.1 a.2) a.3

  next_term_sound : Sound (optional added_term) (next_term inner)
  unfolding next_term
  next_term_sound =
      front_or (optional added_term) (Sign PlusSign) _ _
      (λ ts mid is o rest e.
      made_is (optional added_term) (λ t. Some (record { is_minus = false; term = t })) (term_over inner mid) ts o rest
      (λ t r. (mid, is, term_sound mid t rest r)) e)
      (front_or (optional added_term) (Sign MinusSign) _ _
      (λ ts mid is o rest e.
      made_is (optional added_term) (λ t. Some (record { is_minus = true; term = t })) (term_over inner mid) ts o rest
      (λ t r. (mid, is, term_sound mid t rest r)) e)
      (found_sound (optional added_term) None (λ ts. refl)))

  -- the rest of the expression that begins with this term
  sum_behind_sound : (t : Product) (before ts : List Token) (e : Sum) (rest : List Token) → term t before ts
      → sum_behind inner t ts ≡ Read e rest → expr e before rest
  unfolding sum_behind
  sum_behind_sound t before ts e rest first r =
      made_is expr (λ added. Terms t (terms_of added)) (more (next_term inner) [] ts) before e rest
      (λ added o. (
        ts,
        first,
        terms_spelled added ts rest
            (more_is added_term (next_term inner) next_term_sound ts added rest o),
      )) r

  pub sum_sound : Sound expr (sum_over inner)
  unfolding sum_over
  sum_sound ts e rest r =
      let a = then_is (term_over inner ts) _ e rest r in
      sum_behind_sound a.0 ts a.1 e rest (term_sound ts a.0 a.1 a.2) a.3

  -- the rest of the expression that begins with this primary
  pub sum_from_sound : (p : Primary) (before ts : List Token) (e : Sum) (rest : List Token) → primary p before ts
      → sum_from inner p ts ≡ Read e rest → expr e before rest
  unfolding sum_from
  sum_from_sound p before ts e rest first r =
      let a = then_is (term_behind inner (Unsigned p) ts) _ e rest r in
      sum_behind_sound a.0 before a.1 e rest (term_behind_sound (Unsigned p) before ts a.0 a.1 first a.2) a.3

pub expr_at_sound : (n : ℕ) → Sound expr (expr_at n)
unfolding expr_at
expr_at_sound zero ts e rest r = absurd cc
expr_at_sound (suc n) ts e rest r = sum_sound (expr_at n) (expr_at_sound n) ts e rest r

pub expr_sound : (ts : List Token) (e : Sum) (rest : List Token) → expr_here ts ≡ Read e rest → expr e ts rest
expr_sound ts e rest r = expr_at_sound (length ts) ts e rest r

-- ---- the first token

-- whether a primary is an expression in parentheses
abbrev pub is_enclosed : Primary → Bool
is_enclosed (Enclosed e) = true
is_enclosed _ = false

abbrev pub opens_factor : Signed → Bool
opens_factor (Unsigned p) = is_enclosed p
opens_factor _ = false

abbrev pub opens_term : Product → Bool
opens_term (Factors f more) = opens_factor f

-- whether an expression begins with one in parentheses
abbrev pub opens : Sum → Bool
opens (Terms t more) = opens_term t

at_function : (f : Function) (ts rest : List Token) → function_name f ts rest → Begins (starts_primary false) ts
at_function Count ts rest s = at_token (starts_primary false) (Word (codes "COUNT")) ts rest refl s
at_function bound.Sum ts rest s = at_token (starts_primary false) (Word (codes "SUM")) ts rest refl s
at_function Min ts rest s = at_token (starts_primary false) (Word (codes "MIN")) ts rest refl s
at_function Max ts rest s = at_token (starts_primary false) (Word (codes "MAX")) ts rest refl s

at_primary : (p : Primary) (ts rest : List Token) → primary p ts rest → Begins (starts_primary (is_enclosed p)) ts
at_primary (NumberLiteral ds) ts rest s = at_token (starts_primary false) (Number ds) ts rest refl s
at_primary (TextLiteral t) ts rest s = at_token (starts_primary false) (Quote t) ts rest refl s
at_primary (DateLiteral t) ts rest s = at_token (starts_primary false) (Word (codes "DATE")) ts s.0 refl s.1
at_primary (TimestampLiteral t) ts rest s = at_token (starts_primary false) (Word (codes "TIMESTAMP")) ts s.0 refl s.1
at_primary (ColumnNamed r) ts rest s = name_begins_primary false ts (at_named r ts rest s)
at_primary (Enclosed e) ts rest s = at_token (starts_primary true) (Sign Open) ts s.1.0 refl s.1.1
at_primary CountStar ts rest s = at_token (starts_primary false) (Word (codes "COUNT")) ts s.0 refl s.1
at_primary (Over f e) ts rest s = at_function f ts s.1.1.0 s.1.1.1

at_signed : (f : Signed) (ts rest : List Token) → signed f ts rest → Begins (starts_expr (opens_factor f)) ts
at_signed (Unsigned p) ts rest s = primary_begins_expr (is_enclosed p) ts (at_primary p ts rest s)
at_signed (Positive p) ts rest s = at_token (starts_expr false) (Sign PlusSign) ts s.0 refl s.1
at_signed (Negative p) ts rest s = at_token (starts_expr false) (Sign MinusSign) ts s.0 refl s.1

at_term : (t : Product) (ts rest : List Token) → term t ts rest → Begins (starts_expr (opens_term t)) ts
at_term (Factors f more) ts rest s = at_signed f ts s.0 s.1

pub at_expr : (e : Sum) (ts rest : List Token) → expr e ts rest → Begins (starts_expr (opens e)) ts
at_expr (Terms t more) ts rest s = at_term t ts s.0 s.1

-- ---- completeness

-- the rule reads whatever at most n tokens spell before a rest that meets `Ends`
abbrev pub ReadsWithin : {A : Type 0} → ℕ → (List Token → Type 0) → (A → Phrase) → Parser A → Type 0
ReadsWithin {A} n Ends P p = (ts : List Token) (x : A) (rest : List Token) → length ts ≤ n → P x ts rest → Ends rest
    → p ts ≡ Read x rest

-- a phrase of at most n tokens
abbrev pub within : {A : Type 0} → ℕ → (A → Phrase) → A → Phrase
within n P x ts rest = (length ts ≤ n) × P x ts rest

pub each_within : {A : Type 0} (n : ℕ) (P : A → Phrase) → Shortens P → (xs : List A) (ts rest : List Token)
    → length ts ≤ n → each P xs ts rest → each (within n P) xs ts rest
each_within n P shortens [] ts rest fuel s = s
each_within n P shortens (x ∷ xs) ts rest fuel s =
    let h = shortens ts x s.0 s.1 in
    (s.0, (fuel, s.1), each_within n P shortens xs s.0 rest (omega arith) s.2)

-- all elements are read, if every element of at most n tokens is
pub more_within : {A : Type 0} (n : ℕ) (P : A → Phrase) (step : Parser (Option A)) (Mid : List Token → Type 0)
    → ((ts : List Token) (y : A) (rest : List Token) → length ts ≤ n → P y ts rest → Mid rest
    → step ts ≡ Read (Some y) rest)
    → ((ts : List Token) (y : A) (rest : List Token) → P y ts rest → Mid ts)
    → Shortens P → (ts : List Token) (ys : List A) (rest : List Token) → length ts ≤ n → each P ys ts rest → Mid rest
    → step rest ≡ Read None rest
    → more step [] ts ≡ Read ys rest
more_within n P step Mid one front shortens ts ys rest fuel s ends stops =
    more_of (within n P) step Mid (λ us y vs w known. one us y vs w.0 w.1 known) (λ us y vs w. front us y vs w.1)
    (λ us y vs w. shortens us y vs w.1) ts ys rest (each_within n P shortens ys ts rest fuel s) ends stops

-- the condition on the tokens after a term
pub record EndsTerm (rest : List Token) : Type 0 where
  pub dot : Stops (Sign Dot) rest
  pub star : Stops (Sign Star) rest

-- a term ends before a token that is neither a dot nor a star
ends_term : (u : Token) (ts rest : List Token) → is_token (Sign Dot) u ≡ false → is_token (Sign Star) u ≡ false
    → ts ≡ u ∷ rest → EndsTerm ts
ends_term u ts rest dot star is = rw is (record { dot = rw dot refl; star = rw star refl })

stops_dot : (u : Token) (ts rest : List Token) → is_token (Sign Dot) u ≡ false → ts ≡ u ∷ rest → Stops (Sign Dot) ts
stops_dot u ts rest dot is = rw (is, dot) refl

-- the list of a tree's factors
abbrev factor_list : MoreFactors → List Signed
factor_list NoFactor = []
factor_list (TimesFactor f more) = f ∷ factor_list more

factors_back : (m : MoreFactors) → factors_of (factor_list m) ≡ m
factors_back NoFactor = refl
factors_back (TimesFactor f more) = ap (TimesFactor f) (factors_back more)

factors_each : (m : MoreFactors) (ts rest : List Token) → more_factors m ts rest
    → each (λ s. sign Star ⨟ signed s) (factor_list m) ts rest
factors_each NoFactor ts rest s = s
factors_each (TimesFactor f more) ts rest s = (s.0, s.1, factors_each more s.0 rest s.2)

-- the list of a tree's terms after the first one
abbrev term_list : MoreTerms → List AddedTerm
term_list NoTerm = []
term_list (PlusTerm t more) = record { is_minus = false; term = t } ∷ term_list more
term_list (MinusTerm t more) = record { is_minus = true; term = t } ∷ term_list more

terms_back : (m : MoreTerms) → terms_of (term_list m) ≡ m
terms_back NoTerm = refl
terms_back (PlusTerm t more) = ap (PlusTerm t) (terms_back more)
terms_back (MinusTerm t more) = ap (MinusTerm t) (terms_back more)

terms_each : (m : MoreTerms) (ts rest : List Token) → more_terms m ts rest → each added_term (term_list m) ts rest
terms_each NoTerm ts rest s = s
terms_each (PlusTerm t more) ts rest s = (s.0, s.1, terms_each more s.0 rest s.2)
terms_each (MinusTerm t more) ts rest s = (s.0, s.1, terms_each more s.0 rest s.2)

factor_shortens : Shortens (λ s. sign Star ⨟ signed s)
factor_shortens ts f rest s = let h = signed_shortens s.0 f rest s.2 in omega (arith, ap length s.1)

added_shortens_by : (b : Bool) (t : Product) (ts rest : List Token) → added_by b t ts rest → length rest < length ts
added_shortens_by true t ts rest s = let h = term_shortens s.0 t rest s.2 in omega (arith, ap length s.1)
added_shortens_by false t ts rest s = let h = term_shortens s.0 t rest s.2 in omega (arith, ap length s.1)

added_shortens : Shortens added_term
added_shortens ts a rest s = added_shortens_by a.is_minus a.term ts rest s

-- a term ends before a further term
added_front : (b : Bool) (t : Product) (ts rest : List Token) → added_by b t ts rest → EndsTerm ts
added_front true t ts rest s = ends_term (Sign MinusSign) ts s.0 refl refl s.1
added_front false t ts rest s = ends_term (Sign PlusSign) ts s.0 refl refl s.1

pub term_end : (m : MoreTerms) (ts rest : List Token) → more_terms m ts rest → EndsExpr rest → EndsTerm ts
term_end NoTerm ts rest s ends = subst EndsTerm (sym s) (record { dot = ends.dot; star = ends.star })
term_end (PlusTerm t more) ts rest s ends = ends_term (Sign PlusSign) ts s.1.0 refl refl s.1.1
term_end (MinusTerm t more) ts rest s ends = ends_term (Sign MinusSign) ts s.1.0 refl refl s.1.1

-- no dot is in front of the further factors
pub factor_end : (m : MoreFactors) (ts rest : List Token) → more_factors m ts rest → Stops (Sign Dot) rest
    → Stops (Sign Dot) ts
factor_end NoFactor ts rest s stops = subst (Stops (Sign Dot)) (sym s) stops
factor_end (TimesFactor f more) ts rest s stops = stops_dot (Sign Star) ts s.1.0 refl s.1.1

-- where a name is in front, `simple_at` reads a column
name_at_front : (ts : List Token) → Begins is_name ts → simple_at ts ≡ into ColumnNamed (named_at ts)
unfolding simple_at
name_at_front ts b = rw b.is (simple_of b.first b.others b.passes)
  where
    simple_of : (u : Token) (us : List Token) → is_name u ≡ true
        → simple_at (u ∷ us) ≡ into ColumnNamed (named_at (u ∷ us))
    simple_of (Word w) us e = refl
    simple_of (QuotedName n) us e = refl
    simple_of _ us e = absurd cc

no_function : (ts : List Token) → Begins is_name ts → function_at ts ≡ Read None ts
no_function ts b =
    rw (
      eat_none is_name (Word (codes "SUM")) ts refl b,
      eat_none is_name (Word (codes "MIN")) ts refl b,
      eat_none is_name (Word (codes "MAX")) ts refl b,
    ) refl

-- at most n tokens follow the first one
behind_token : (n : ℕ) (u : Token) (ts mid : List Token) → length ts ≤ suc n → ts ≡ u ∷ mid → length mid ≤ n
behind_token n u ts mid fuel is = omega (arith, ap length is)

module _ (n : ℕ) (inner : Parser Sum) (reads : ReadsWithin n EndsExpr expr inner) where
  pub inside_of : (ts : List Token) (e : Sum) (mid rest : List Token) → length ts ≤ n → expr e ts mid
      → mid ≡ Sign Close ∷ rest → inside_over inner ts ≡ Read e rest
  unfolding inside_over
  inside_of ts e mid rest fuel s close =
      rw (
        reads ts e mid fuel s (ends_before (Sign Close) mid rest refl close),
        expect_of (Sign Close) mid rest
            close,
      ) refl

  named_primary_of : (ts : List Token) (r : Named) (rest : List Token) → named r ts rest → Stops (Sign Dot) rest
      → primary_over inner ts ≡ Read (ColumnNamed r) rest
  unfolding primary_over
  named_primary_of ts r rest s stops =
      let b = at_named r ts rest s in
      rw (
        eat_none is_name (Sign Open) ts refl b,
        eat_none is_name (Word (codes "DATE")) ts refl b,
        eat_none is_name (Word (codes "TIMESTAMP")) ts refl b,
        eat_none is_name (Word (codes "COUNT")) ts refl b,
        no_function ts b,
        name_at_front ts b,
        named_complete ts r rest s stops,
      ) refl

  -- after COUNT: an expression in parentheses
  count_of : (a b : List Token) (e : Sum) (mid rest : List Token) → length b ≤ n → a ≡ Sign Open ∷ b → expr e b mid
      → mid ≡ Sign Close ∷ rest → count_over inner a ≡ Read (Over Count e) rest
  unfolding count_over
  count_of a b e mid rest fuel opened s close =
      rw (
        expect_of (Sign Open) a b opened,
        eat_none (starts_expr (opens e)) (Sign Star) b refl (at_expr e b mid s),
        inside_of b e mid rest fuel s close,
      ) refl

  over_of : (f : Function) (ts a b : List Token) (e : Sum) (mid rest : List Token) → length b ≤ n
      → function_name f ts a → a ≡ Sign Open ∷ b → expr e b mid → mid ≡ Sign Close ∷ rest
      → primary_over inner ts ≡ Read (Over f e) rest
  unfolding primary_over
  over_of Count ts a b e mid rest fuel named opened s close =
      rw (named, count_of a b e mid rest fuel opened s close) refl
  over_of bound.Sum ts a b e mid rest fuel named opened s close =
      rw (named, expect_of (Sign Open) a b opened, inside_of b e mid rest fuel s close) refl
  over_of Min ts a b e mid rest fuel named opened s close =
      rw (named, expect_of (Sign Open) a b opened, inside_of b e mid rest fuel s close) refl
  over_of Max ts a b e mid rest fuel named opened s close =
      rw (named, expect_of (Sign Open) a b opened, inside_of b e mid rest fuel s close) refl

  pub primary_of : ReadsWithin (suc n) (Stops (Sign Dot)) primary (primary_over inner)
  unfolding primary_over simple_at count_over
  primary_of ts (NumberLiteral ds) rest fuel s stops = rw s refl
  primary_of ts (TextLiteral t) rest fuel s stops = rw s refl
  primary_of ts (DateLiteral t) rest fuel s stops = rw (s.1, quote_of s.0 t rest s.2) refl
  primary_of ts (TimestampLiteral t) rest fuel s stops = rw (s.1, quote_of s.0 t rest s.2) refl
  primary_of ts (ColumnNamed r) rest fuel s stops = named_primary_of ts r rest s stops
  primary_of ts (Enclosed e) rest fuel s stops =
      rw (s.1.1, inside_of s.1.0 e s.0 rest (behind_token n (Sign Open) ts s.1.0 fuel s.1.1) s.1.2 s.2) refl
  primary_of ts CountStar rest fuel s stops =
      rw (s.1, expect_of (Sign Open) s.0 s.2.1.0 s.2.1.1, s.2.1.2, expect_of (Sign Close) s.2.0 rest s.2.2) refl
  primary_of ts (Over f e) rest fuel s stops =
      let h = function_shortens ts f s.1.1.0 s.1.1.1 in
      over_of f ts s.1.1.0 s.1.0 e s.0 rest (omega (arith, ap length s.1.1.2)) s.1.1.1 s.1.1.2 s.1.2 s.2

  unsigned_of : (ts : List Token) (p : Primary) (rest : List Token) → length ts ≤ suc n → primary p ts rest
      → Stops (Sign Dot) rest → signed_over inner ts ≡ Read (Unsigned p) rest
  unfolding signed_over
  unsigned_of ts p rest fuel s stops =
      let b = at_primary p ts rest s in
      rw (
        eat_none (starts_primary (is_enclosed p)) (Sign PlusSign) ts refl b,
        eat_none (starts_primary (is_enclosed p)) (Sign MinusSign) ts refl b,
        primary_of ts p rest fuel s stops,
      ) refl

  pub signed_of : ReadsWithin (suc n) (Stops (Sign Dot)) signed (signed_over inner)
  unfolding signed_over
  signed_of ts (Unsigned p) rest fuel s stops = unsigned_of ts p rest fuel s stops
  signed_of ts (Positive p) rest fuel s stops =
      let h : length s.0 ≤ suc n = omega (arith, ap length s.1) in
      rw (s.1, primary_of s.0 p rest h s.2 stops) refl
  signed_of ts (Negative p) rest fuel s stops =
      let h : length s.0 ≤ suc n = omega (arith, ap length s.1) in
      rw (s.1, primary_of s.0 p rest h s.2 stops) refl

  next_factor_of : (ts : List Token) (f : Signed) (rest : List Token) → length ts ≤ suc n
      → (sign Star ⨟ signed f) ts rest → Stops (Sign Dot) rest → next_factor inner ts ≡ Read (Some f) rest
  unfolding next_factor
  next_factor_of ts f rest fuel s stops =
      let h : length s.0 ≤ suc n = omega (arith, ap length s.1) in
      behind_some (Sign Star) (signed_over inner) ts s.0 f rest s.1 (signed_of s.0 f rest h s.2 stops)

  no_factor : (ts : List Token) → Stops (Sign Star) ts → next_factor inner ts ≡ Read None ts
  unfolding next_factor
  no_factor ts stops = behind_none (Sign Star) (signed_over inner) ts stops

  more_factors_of : (ts : List Token) (m : MoreFactors) (rest : List Token) → length ts ≤ suc n
      → more_factors m ts rest → EndsTerm rest → more (next_factor inner) [] ts ≡ Read (factor_list m) rest
  more_factors_of ts m rest fuel s ends =
      more_within (suc n) (λ f. sign Star ⨟ signed f) (next_factor inner) (Stops (Sign Dot)) next_factor_of
      (λ us f vs w. stops_dot (Sign Star) us w.0 refl w.1) factor_shortens ts (factor_list m) rest fuel
      (factors_each m ts rest s) ends.dot (no_factor rest ends.star)

  term_behind_of : (f : Signed) (ts : List Token) (m : MoreFactors) (rest : List Token) → length ts ≤ suc n
      → more_factors m ts rest → EndsTerm rest → term_behind inner f ts ≡ Read (Factors f m) rest
  unfolding term_behind
  term_behind_of f ts m rest fuel s ends =
      rw (more_factors_of ts m rest fuel s ends) (ap (λ (l : MoreFactors). Read (Factors f l) rest) (factors_back m))

  pub term_of : ReadsWithin (suc n) EndsTerm term (term_over inner)
  unfolding term_over
  term_of ts (Factors f m) rest fuel s ends =
      let h = signed_shortens ts f s.0 s.1 in
      rw (signed_of ts f s.0 fuel s.1 (factor_end m s.0 rest s.2 ends.dot))
      (term_behind_of f s.0 m rest (omega arith) s.2 ends)

  added_of : (b : Bool) (t : Product) (ts rest : List Token) → length ts ≤ suc n → added_by b t ts rest
      → EndsTerm rest → next_term inner ts ≡ Read (Some (record { is_minus = b; term = t })) rest
  unfolding next_term
  added_of true t ts rest fuel s ends =
      let h : length s.0 ≤ suc n = omega (arith, ap length s.1) in
      rw (s.1, term_of s.0 t rest h s.2 ends) refl
  added_of false t ts rest fuel s ends =
      let h : length s.0 ≤ suc n = omega (arith, ap length s.1) in
      rw (s.1, term_of s.0 t rest h s.2 ends) refl

  no_term : (ts : List Token) → EndsExpr ts → next_term inner ts ≡ Read None ts
  unfolding next_term
  no_term ts ends = rw (eat_not (Sign PlusSign) ts ends.plus, eat_not (Sign MinusSign) ts ends.minus) refl

  more_terms_of : (ts : List Token) (m : MoreTerms) (rest : List Token) → length ts ≤ suc n → more_terms m ts rest
      → EndsExpr rest → more (next_term inner) [] ts ≡ Read (term_list m) rest
  more_terms_of ts m rest fuel s ends =
      more_within (suc n) added_term (next_term inner) EndsTerm
      (λ us a vs h w known. added_of a.is_minus a.term us vs h w known)
      (λ us a vs w. added_front a.is_minus a.term us vs w) added_shortens ts (term_list m) rest fuel
      (terms_each m ts rest s)
      (record { dot = ends.dot; star = ends.star }) (no_term rest ends)

  sum_behind_of : (t : Product) (ts : List Token) (m : MoreTerms) (rest : List Token) → length ts ≤ suc n
      → more_terms m ts rest → EndsExpr rest → sum_behind inner t ts ≡ Read (Terms t m) rest
  unfolding sum_behind
  sum_behind_of t ts m rest fuel s ends =
      rw (more_terms_of ts m rest fuel s ends) (ap (λ (l : MoreTerms). Read (Terms t l) rest) (terms_back m))

  pub sum_of : ReadsWithin (suc n) EndsExpr expr (sum_over inner)
  unfolding sum_over
  sum_of ts (Terms t m) rest fuel s ends =
      let h = term_shortens ts t s.0 s.1 in
      rw (term_of ts t s.0 fuel s.1 (term_end m s.0 rest s.2 ends)) (sum_behind_of t s.0 m rest (omega arith) s.2 ends)

  -- the rest of the expression that begins with this primary
  pub sum_from_of : (p : Primary) (fs : MoreFactors) (m : MoreTerms) (ts mid rest : List Token) → length ts ≤ suc n
      → more_factors fs ts mid → more_terms m mid rest → EndsExpr rest
      → sum_from inner p ts ≡ Read (Terms (Factors (Unsigned p) fs) m) rest
  unfolding sum_from
  sum_from_of p fs m ts mid rest fuel s t ends =
      let h = more_factors_within ts fs mid s in
      rw (term_behind_of (Unsigned p) ts fs mid fuel s (term_end m mid rest t ends))
      (sum_behind_of (Factors (Unsigned p) fs) mid m rest (omega arith) t ends)

pub expr_at_of : (n : ℕ) → ReadsWithin n EndsExpr expr (expr_at n)
unfolding expr_at
expr_at_of zero ts e rest fuel s ends = let h = expr_shortens ts e rest s in absurd (omega arith)
expr_at_of (suc n) ts e rest fuel s ends = sum_of n (expr_at n) (expr_at_of n) ts e rest fuel s ends

pub expr_complete : CompleteBefore EndsExpr expr expr_here
expr_complete ts e rest s ends = expr_at_of (length ts) ts e rest (omega arith) s ends

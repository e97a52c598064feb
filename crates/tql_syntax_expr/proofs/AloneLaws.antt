-- An operand that nothing goes on behind is an expression.
use Rattle.std.specs.Prelude.{◌≡◌, refl, ℕ, zero, suc, Bool, true, false, not, if◌then◌else◌, List, [], ◌∷◌}
use Rattle.std.specs.Prelude.{codes, length, Option, Some, None}
use Rattle.std.proofs.Common.{sym, ap, subst, ◌∙◌}
use Rattle.tql_spec.specs.Definition.{Name}
use Rattle.tql_spec.specs.Token.{Token, Word, QuotedName, Number, Quote, Sign, Open, Dot, Star, PlusSign, MinusSign}
use Rattle.tql_spec.specs.Token.{is_reserved}
use Rattle.tql_spec.specs.Syntax.{Sum, Primary, Unsigned, NumberLiteral, TextLiteral, ColumnNamed}
use Rattle.tql_syntax_grammar.specs.Outcome.{Parser, Failed, Read, ◌>>=◌, eat_number, eat_quote, name_at, is_name}
use Rattle.tql_syntax_grammar.specs.Outcome.{repeated}
use Rattle.tql_syntax_grammar.specs.ReadingExpressions.{named_at, simple_at, primary_over, signed_over}
use Rattle.tql_syntax_grammar.specs.ReadingExpressions.{next_factor, term_behind, term_over, next_term, sum_behind}
use Rattle.tql_syntax_grammar.specs.ReadingExpressions.{sum_over}
use Rattle.tql_syntax_grammar.proofs.Ends.{EndsExpr}
use Rattle.tql_syntax_grammar.proofs.FirstTokens.{stops_at, at_token, eat_none, eat_not}
use Rattle.tql_syntax_grammar.proofs.Steps.{Stops, read_is}
use Rattle.tql_syntax_expr.specs.Parsing.{Takes}
use Rattle.tql_syntax_expr.specs.Alone.{alone, goes_on, goes_on_second}

-- ---- behind the operand

-- nothing goes on behind the first token
pub ends_behind : (t : Token) (ts : List Token) → goes_on_second (t ∷ ts) ≡ false → EndsExpr ts
ends_behind t [] e = record { dot = refl; star = refl; plus = refl; minus = refl }
ends_behind t (u ∷ us) e = record {
  dot = stop (Sign Dot) refl;
  star = stop (Sign Star) refl;
  plus = stop (Sign PlusSign) refl;
  minus = stop (Sign MinusSign) refl;
}
  where
    stays : Token → Bool
    stays v = if goes_on v then false else true

    passes : stays u ≡ true
    passes = ap (λ b. if b then false else true) e

    stop : (v : Token) → stays v ≡ false → Stops v (u ∷ us)
    stop v fails = stops_at stays v (u ∷ us) fails (at_token stays u (u ∷ us) us passes refl)

-- a step that reads no element ends the list
no_turn : {A : Type 0} (step : Parser (Option A)) (ts : List Token) → step ts ≡ Read None ts → (n : ℕ)
    → repeated step n [] ts ≡ Read [] ts
unfolding repeated
no_turn step ts none zero = refl
no_turn step ts none (suc n) = rw none refl

module _ (inner : Parser Sum) where
  no_factor : (ts : List Token) → EndsExpr ts → next_factor inner ts ≡ Read None ts
  unfolding next_factor
  no_factor ts ends = rw (eat_not (Sign Star) ts ends.star) refl

  no_term : (ts : List Token) → EndsExpr ts → next_term inner ts ≡ Read None ts
  unfolding next_term
  no_term ts ends = rw (eat_not (Sign PlusSign) ts ends.plus, eat_not (Sign MinusSign) ts ends.minus) refl

  -- an operand without a sign, before tokens that end an expression
  pub sum_is : (p : Primary) (ts rest : List Token) → Stops (Sign PlusSign) ts → Stops (Sign MinusSign) ts
      → primary_over inner ts ≡ Read p rest → EndsExpr rest → sum_over inner ts ≡ Read (alone (Unsigned p)) rest
  unfolding sum_over term_over signed_over term_behind sum_behind
  sum_is p ts rest plus minus read ends =
      rw (
        eat_not (Sign PlusSign) ts plus,
        eat_not (Sign MinusSign) ts minus,
        read,
        no_turn (next_factor inner) rest (no_factor rest ends) (length rest),
        no_turn (next_term inner) rest (no_term rest ends) (length rest),
      ) refl

  -- ---- the operands

  number_is : (ds : List ℕ) (ts : List Token) → EndsExpr ts
      → sum_over inner (Number ds ∷ ts) ≡ Read (alone (Unsigned (NumberLiteral ds))) ts
  unfolding primary_over simple_at
  number_is ds ts ends = sum_is (NumberLiteral ds) (Number ds ∷ ts) ts refl refl refl ends

  text_is : (x : List ℕ) (ts : List Token) → EndsExpr ts
      → sum_over inner (Quote x ∷ ts) ≡ Read (alone (Unsigned (TextLiteral x))) ts
  unfolding primary_over simple_at
  text_is x ts ends = sum_is (TextLiteral x) (Quote x ∷ ts) ts refl refl refl ends

  simple_is : (t : Token) (ts : List Token) → is_name t ≡ true
      → simple_at (t ∷ ts) ≡ named_at (t ∷ ts) >>= λ r rest. Read (ColumnNamed r) rest
  unfolding simple_at
  simple_is (Word w) ts e = refl
  simple_is (QuotedName n) ts e = refl
  simple_is _ ts e = absurd cc

  column_is : (n : Name) (t : Token) (ts rest : List Token) → is_name t ≡ true → name_at (t ∷ ts) ≡ Read n rest
      → EndsExpr rest
      → sum_over inner (t ∷ ts) ≡ Read (alone (Unsigned (ColumnNamed (record { qualifier = None; name = n })))) rest
  unfolding primary_over named_at
  column_is n t ts rest is read ends =
      let b = at_token is_name t (t ∷ ts) ts is refl in
      let stops = λ (u : Token) (no : is_name u ≡ false). eat_none is_name u (t ∷ ts) no b in
      sum_is (ColumnNamed (record { qualifier = None; name = n })) (t ∷ ts) rest
      (stops_at is_name (Sign PlusSign) (t ∷ ts) refl b) (stops_at is_name (Sign MinusSign) (t ∷ ts) refl b)
      (rw (
        stops (Sign Open) refl,
        stops (Word (codes "DATE")) refl,
        stops (Word (codes "TIMESTAMP")) refl,
        stops (Word (codes "COUNT")) refl,
        stops (Word (codes "SUM")) refl,
        stops (Word (codes "MIN")) refl,
        stops (Word (codes "MAX")) refl,
        simple_is t ts is,
        read,
        eat_not (Sign Dot) rest ends.dot,
      ) refl) ends

-- ---- what was taken

-- the parts of a pair
same_read : {A : Type 0} (make : List ℕ → A) (x y : List ℕ) (ts us : List Token) → Some x ≡ Some y → ts ≡ us
    → Read (make x) ts ≡ Read (make y) us
same_read {A} make x y ts us e is =
    let same : x ≡ y = cc in
    ap (λ z. Read (make z) ts) same ∙ ap (Read (make y)) is

abbrev Taken : Type 0
Taken = Option (List ℕ) × List Token

found_in : (p q : Taken) → p ≡ q → p.0 ≡ q.0
found_in p q e = ap (λ (r : Taken). r.0) e

left_in : (p q : Taken) → p ≡ q → p.1 ≡ q.1
left_in p q e = ap (λ (r : Taken). r.1) e

not_some : (x : List ℕ) → None ≡ Some x → ⊥
not_some x e = absurd cc

pub takes_number : (inner : Parser Sum) (ts us : List Token) (ds : List ℕ) → goes_on_second ts ≡ false
    → eat_number ts ≡ (Some ds, us) → sum_over inner ts ≡ Read (alone (Unsigned (NumberLiteral ds))) us
takes_number inner (Number x ∷ ts) us ds e n =
    number_is inner x ts (ends_behind (Number x) ts e)
    ∙ same_read (λ z. alone (Unsigned (NumberLiteral z))) x ds ts us (found_in _ _ n) (left_in _ _ n)
takes_number inner [] us ds e n = absurd (not_some ds (found_in _ _ n))
takes_number inner (_ ∷ ts) us ds e n = absurd (not_some ds (found_in _ _ n))

pub takes_text : (inner : Parser Sum) (ts us : List Token) (x : List ℕ) → goes_on_second ts ≡ false
    → eat_quote ts ≡ (Some x, us) → sum_over inner ts ≡ Read (alone (Unsigned (TextLiteral x))) us
takes_text inner (Quote y ∷ ts) us x e n =
    text_is inner y ts (ends_behind (Quote y) ts e)
    ∙ same_read (λ z. alone (Unsigned (TextLiteral z))) y x ts us (found_in _ _ n) (left_in _ _ n)
takes_text inner [] us x e n = absurd (not_some x (found_in _ _ n))
takes_text inner (_ ∷ ts) us x e n = absurd (not_some x (found_in _ _ n))

-- a name is one token
one_token : (t : Token) (ts us : List Token) (n : Name) → name_at (t ∷ ts) ≡ Read n us → (is_name t ≡ true) × (us ≡ ts)
unfolding name_at
one_token (Word w) ts us n e = by (is_reserved w) e
  where
    by : (b : Bool) → (if b then Failed else Read w ts) ≡ Read n us → (not b ≡ true) × (us ≡ ts)
    by true r = absurd cc
    by false r = (refl, sym (read_is w n ts us r).rest)
one_token (QuotedName m) ts us n e = (refl, sym (read_is m n ts us e).rest)
one_token _ ts us n e = absurd cc

pub takes_name : (inner : Parser Sum) (ts us : List Token) (n : Name) → goes_on_second ts ≡ false
    → name_at ts ≡ Read n us
    → sum_over inner ts ≡ Read (alone (Unsigned (ColumnNamed (record { qualifier = None; name = n })))) us
unfolding name_at
takes_name inner [] us n e r = absurd cc
takes_name inner (t ∷ ts) us n e r =
    let front = one_token t ts us n r in
    column_is inner n t ts us front.0 r (subst EndsExpr (sym front.1) (ends_behind t ts e))

-- without a number or a text in front all tokens are left
no_number : (ts us : List Token) → eat_number ts ≡ (None, us) → us ≡ ts
no_number (Number x ∷ ts) us n = absurd (not_some x (sym (found_in _ _ n)))
no_number [] us n = sym (left_in _ _ n)
no_number (_ ∷ ts) us n = sym (left_in _ _ n)

no_text : (ts us : List Token) → eat_quote ts ≡ (None, us) → us ≡ ts
no_text (Quote x ∷ ts) us n = absurd (not_some x (sym (found_in _ _ n)))
no_text [] us n = sym (left_in _ _ n)
no_text (_ ∷ ts) us n = sym (left_in _ _ n)

-- a text where a number was asked for first
pub text_behind : (ts us vs : List Token) (x : List ℕ) → eat_number ts ≡ (None, us) → eat_quote us ≡ (Some x, vs)
    → eat_quote ts ≡ (Some x, vs)
text_behind ts us vs x n q = subst (λ ws. eat_quote ws ≡ (Some x, vs)) (no_number ts us n) q

-- neither a number nor a text
pub neither : (ts us vs : List Token) → eat_number ts ≡ (None, us) → eat_quote us ≡ (None, vs) → vs ≡ ts
neither ts us vs n q = no_text us vs q ∙ no_number ts us n

-- nothing was taken
pub not_taken : {A B : Type 0} (view : A → B) (rule : Parser B) (old : List Token) (r : Option A) (new : List Token)
    → r ≡ None → Takes view rule old r new → new ≡ old
not_taken view rule old None new is t = t
not_taken view rule old (Some a) new is t = absurd cc

-- Single tokens, choices and lists: the reading rules are sound and complete.
use Rattle.std.specs.Prelude.{◌≡◌, ◌⊎◌, refl, ℕ, zero, suc, ◌<◌, ◌≤◌, Bool, true, false, cond, ◌||◌, List, [], ◌∷◌}
use Rattle.std.specs.Prelude.{◌++◌, length, Option, Some, None}
use Rattle.std.proofs.Common.{sym, ◌∙◌, ap, subst, append_assoc, append-nil, arith, inl, inr}
use Rattle.tql_spec.specs.Definition.{Name}
use Rattle.tql_spec.specs.Token.{Token, Word, QuotedName, Number, Quote, Sign, Comma, is_reserved}
use Rattle.tql_lex.proofs.WordLemmas.{same_bytes, is_word_tells, is_sign_tells}
use Rattle.std.proofs.lemmas.Slice.Eq.{bytes_eq-Decides}
use Rattle.tql_spec.specs.Words.{same_text}
use Rattle.tql_spec.specs.Grammar.{Phrase, token, sign, ◌⨟◌, optional, each, commas, name}
use Rattle.tql_syntax_grammar.specs.Outcome.{Outcome, Failed, Read, Parser, ◌>>=◌, found, into, is_token, eat, expect}
use Rattle.tql_syntax_grammar.specs.Outcome.{name_at, number_at, quote_at, begins_name, begins, if_front, behind}
use Rattle.tql_syntax_grammar.specs.Outcome.{repeated}
use Rattle.tql_syntax_grammar.specs.Outcome.{more, next, separated, whole}

-- ---- what was read

-- the same value and the same rest
pub record Same {A : Type 0} (x y : A) (ts us : List Token) : Type 0 where
  pub value : x ≡ y
  pub rest : ts ≡ us

abbrev value_in : {A : Type 0} → A → Outcome A → A
value_in d Failed = d
value_in d (Read x ts) = x

abbrev rest_in : {A : Type 0} → Outcome A → List Token
rest_in Failed = []
rest_in (Read x ts) = ts

pub read_is : {A : Type 0} (x y : A) (ts us : List Token) → Read x ts ≡ Read y us → Same x y ts us
read_is x y ts us e = record { value = ap (value_in x) e; rest = ap rest_in e }

pub then_is : {A B : Type 0} (o : Outcome A) (f : A → Parser B) (y : B) (rest : List Token) → o >>= f ≡ Read y rest
    → (x : A) × (mid : List Token) × (o ≡ Read x mid) × (f x mid ≡ Read y rest)
then_is Failed f y rest e = absurd cc
then_is (Read x mid) f y rest e = (x, mid, refl, e)

pub into_is : {A B : Type 0} (make : A → B) (o : Outcome A) (y : B) (rest : List Token) → into make o ≡ Read y rest
    → (x : A) × (o ≡ Read x rest) × (make x ≡ y)
into_is make Failed y rest e = absurd cc
into_is make (Read x mid) y rest e = let s =
    read_is (make x) y mid rest e in (x, ap (λ (us : List Token). Read x us) s.rest, s.value)

pub choose : {A : Type 0} (b : Bool) (p q : Outcome A) (y : A) (rest : List Token) → cond b p q ≡ Read y rest
    → ((b ≡ true) × (p ≡ Read y rest)) ⊎ ((b ≡ false) × (q ≡ Read y rest))
choose true p q y rest e = inl (refl, e)
choose false p q y rest e = inr (refl, e)

-- a phrase also spells a value and a rest that are equal to its own
pub spelled_as : {A : Type 0} (P : A → Phrase) (ts : List Token) (x y : A) (mid rest : List Token)
    → Read x mid ≡ Read y rest → P x ts mid → P y ts rest
spelled_as {A} P ts x y mid rest e s =
    let same = read_is x y mid rest e in
    subst (λ (z : A). P z ts rest) same.value (subst (λ (us : List Token). P x ts us) same.rest s)

-- the same, with the value and the rest inferred from the equation
pub spelled : {A : Type 0} (P : A → Phrase) {ts : List Token} {x y : A} {mid rest : List Token}
    → Read x mid ≡ Read y rest → P x ts mid → P y ts rest
spelled P {ts} {x} {y} {mid} {rest} e s = spelled_as P ts x y mid rest e s

pub and_then : {A B : Type 0} {o : Outcome A} {f : A → Parser B} {y : B} {rest : List Token} → o >>= f ≡ Read y rest
    → (x : A) × (mid : List Token) × (o ≡ Read x mid) × (f x mid ≡ Read y rest)
and_then {A} {B} {o} {f} {y} {rest} e = then_is o f y rest e

-- ---- properties of a rule

-- whatever the rule reads is spelled by the phrase
abbrev pub Sound : {A : Type 0} → (A → Phrase) → Parser A → Type 0
Sound {A} P p = (ts : List Token) (x : A) (rest : List Token) → p ts ≡ Read x rest → P x ts rest

-- whatever the phrase spells is read by the rule
abbrev pub Complete : {A : Type 0} → (A → Phrase) → Parser A → Type 0
Complete {A} P p = (ts : List Token) (x : A) (rest : List Token) → P x ts rest → p ts ≡ Read x rest

-- whatever the phrase spells, before a rest that meets `Ends`, is read by the rule
abbrev pub CompleteBefore : {A : Type 0} → (List Token → Type 0) → (A → Phrase) → Parser A → Type 0
CompleteBefore {A} Ends P p = (ts : List Token) (x : A) (rest : List Token) → P x ts rest → Ends rest
    → p ts ≡ Read x rest

-- the phrase takes at least one token
abbrev pub Shortens : {A : Type 0} → (A → Phrase) → Type 0
Shortens {A} P = (ts : List Token) (x : A) (rest : List Token) → P x ts rest → length rest < length ts

-- the token is not in front
abbrev pub Stops : Token → List Token → Type 0
Stops t ts = (eat t ts).0 ≡ false

pub into_sound : {A B : Type 0} (P : B → Phrase) (make : A → B) (p : Parser A) → Sound (λ (x : A). P (make x)) p
    → Sound P (λ ts. into make (p ts))
into_sound {A} {B} P make p sound ts y rest e =
    let b = into_is make (p ts) y rest e in
    subst (λ (z : B). P z ts rest) b.2 (sound ts b.0 rest b.1)

-- ---- the same token

same_text_true : (a b : List ℕ) → same_text a b ≡ true → a ≡ b
same_text_true a b e = (bytes_eq-Decides a b).0 (sym (same_bytes a b) ∙ e)

same_text_self : (a : List ℕ) → same_text a a ≡ true
same_text_self a = same_bytes a a ∙ (bytes_eq-Decides a a).1 refl

pub is_token_true : (t u : Token) → is_token t u ≡ true → t ≡ u
is_token_true (Word a) u e = sym ((is_word_tells a u).0 e)
is_token_true (Sign a) u e = sym ((is_sign_tells a u).0 e)
is_token_true (QuotedName a) (QuotedName b) e = ap QuotedName (same_text_true a b e)
is_token_true (Number a) (Number b) e = ap Number (same_text_true a b e)
is_token_true (Quote a) (Quote b) e = ap Quote (same_text_true a b e)
is_token_true _ _ e = absurd cc

pub is_token_self : (t : Token) → is_token t t ≡ true
is_token_self (Word a) = (is_word_tells a (Word a)).1 refl
is_token_self (Sign a) = (is_sign_tells a (Sign a)).1 refl
is_token_self (QuotedName a) = same_text_self a
is_token_self (Number a) = same_text_self a
is_token_self (Quote a) = same_text_self a

-- ---- one token in front

abbrev eaten : Bool → Token → List Token → Bool × List Token
eaten b u ts = cond b (true, ts) (false, u ∷ ts)

eaten_is : (b : Bool) (u : Token) (ts : List Token) → (eaten b u ts).0 ≡ b
eaten_is true u ts = refl
eaten_is false u ts = refl

eaten_true : (b : Bool) (u : Token) (ts : List Token) → (eaten b u ts).0 ≡ true → (b ≡ true) × (ts ≡ (eaten b u ts).1)
eaten_true true u ts e = (refl, refl)
eaten_true false u ts e = absurd cc

eaten_false : (b : Bool) (u : Token) (ts : List Token) → (eaten b u ts).0 ≡ false → (eaten b u ts).1 ≡ u ∷ ts
eaten_false true u ts e = absurd cc
eaten_false false u ts e = refl

pub eat_true : (t : Token) (ts : List Token) → (eat t ts).0 ≡ true → ts ≡ t ∷ (eat t ts).1
eat_true t [] e = absurd cc
eat_true t (u ∷ us) e =
    let b = eaten_true (is_token t u) u us e in
    ap (λ (v : Token). v ∷ us) (sym (is_token_true t u b.0)) ∙ ap (λ (vs : List Token). t ∷ vs) b.1

pub eat_false : (t : Token) (ts : List Token) → (eat t ts).0 ≡ false → (eat t ts).1 ≡ ts
eat_false t [] e = refl
eat_false t (u ∷ us) e = eaten_false (is_token t u) u us e

pub eat_it : (t : Token) (ts : List Token) → eat t (t ∷ ts) ≡ (true, ts)
eat_it t ts = rw (is_token_self t) refl

pub eat_of : (t : Token) (ts rest : List Token) → ts ≡ t ∷ rest → eat t ts ≡ (true, rest)
eat_of t ts rest e = rw e (eat_it t rest)

-- the two tests whether a token is in front agree
pub begins_eat : (t : Token) (ts : List Token) → begins t ts ≡ (eat t ts).0
begins_eat t [] = refl
begins_eat t (u ∷ us) = sym (eaten_is (is_token t u) u us)

pub begins_of : (t : Token) (ts rest : List Token) → ts ≡ t ∷ rest → begins t ts ≡ true
begins_of t ts rest e = rw e (is_token_self t)

pub expect_is : (t : Token) (ts rest : List Token) (u : Unit {0}) → expect t ts ≡ Read u rest → ts ≡ t ∷ rest
unfolding expect
expect_is t ts rest u e =
    elim (choose (eat t ts).0 _ _ u rest e) [
      | inl y ↦ eat_true t ts y.0 ∙ ap (λ (vs : List Token). t ∷ vs) (read_is tt u _ _ y.1).rest
      | inr y ↦ absurd (cc y.1)
    ]

pub expect_of : (t : Token) (ts rest : List Token) → ts ≡ t ∷ rest → expect t ts ≡ Read tt rest
unfolding expect
expect_of t ts rest e = rw (e, eat_it t rest) refl

-- the token, followed by what `f` reads
pub expect_then : {B : Type 0} (t : Token) (ts : List Token) (f : Unit {0} → Parser B) (y : B) (rest : List Token)
    → expect t ts >>= f ≡ Read y rest → (mid : List Token) × (ts ≡ t ∷ mid) × (f tt mid ≡ Read y rest)
expect_then t ts f y rest e =
    let b = then_is (expect t ts) f y rest e in
    (b.1, expect_is t ts b.1 b.0 b.2, b.3)

-- the same, with the tokens inferred from the equation
pub expected : {B : Type 0} {t : Token} {ts : List Token} (f : Unit {0} → Parser B) {y : B} {rest : List Token}
    → expect t ts >>= f ≡ Read y rest → (mid : List Token) × (ts ≡ t ∷ mid) × (f tt mid ≡ Read y rest)
expected {B} {t} {ts} f {y} {rest} e = expect_then t ts f y rest e

pub expected_of : {t : Token} {ts rest : List Token} → ts ≡ t ∷ rest → expect t ts ≡ Read tt rest
expected_of {t} {ts} {rest} e = expect_of t ts rest e

pub expected_is : {t : Token} {ts rest : List Token} {u : Unit {0}} → expect t ts ≡ Read u rest → ts ≡ t ∷ rest
expected_is {t} {ts} {rest} {u} e = expect_is t ts rest u e

-- ---- names, numbers and texts

unless_reserved : (b : Bool) (n m : Name) (ts rest : List Token) → cond b Failed (Read n ts) ≡ Read m rest
    → (b ≡ false) × Same n m ts rest
unless_reserved true n m ts rest e = absurd cc
unless_reserved false n m ts rest e = (refl, read_is n m ts rest e)

pub name_is : Sound name name_at
unfolding name_at
name_is (Word m ∷ ts) n rest e =
    let r = unless_reserved (is_reserved m) m n ts rest e in
    inl (
      ap (λ (w : Name). Word w ∷ ts) r.1.value
          ∙ ap (λ (us : List Token). Word n ∷ us) r.1.rest,
      ap is_reserved (sym r.1.value) ∙ r.0,
    )
name_is (QuotedName m ∷ ts) n rest e =
    let s = read_is m n ts rest e in
    inr (ap (λ (w : Name). QuotedName w ∷ ts) s.value ∙ ap (λ (us : List Token). QuotedName n ∷ us) s.rest)
name_is _ n rest e = absurd cc

pub name_of : Complete name name_at
unfolding name_at
name_of ts n rest s = elim s [ inl w ↦ rw (w.0, w.1) refl | inr q ↦ rw q refl ]

pub name_shortens : Shortens name
name_shortens ts n rest s = elim s [ inl w ↦ omega (arith, ap length w.0) | inr q ↦ omega (arith, ap length q) ]

-- a name is in front of a name
pub name_begins : (n : Name) (ts rest : List Token) → name n ts rest → begins_name ts ≡ true
name_begins n ts rest s = elim s [ inl w ↦ rw (w.0, w.1) refl | inr q ↦ rw q refl ]

text_false : (b : Bool) → (b ≡ true → ⊥) → b ≡ false
text_false true f = absurd (f refl)
text_false false f = refl

-- no reserved word is in front of a name
pub name_no_word : (w : List ℕ) (n : Name) (ts rest : List Token) → is_reserved w ≡ true → name n ts rest
    → Stops (Word w) ts
name_no_word w n ts rest reserved s =
    elim s [
      | inl v ↦
          let other : same_text n w ≡ false =
          text_false (same_text n w) (λ same. let is = same_text_true n w same in absurd (cc (reserved, v.1, is)))
          in
          rw (v.0, other) refl
      | inr q ↦ rw q refl
    ]

pub number_is : Sound (λ ds. token (Number ds)) number_at
unfolding number_at
number_is (Number cs ∷ ts) ds rest e = let s = read_is cs ds ts rest e in cc
number_is _ ds rest e = absurd cc

pub number_of : Complete (λ ds. token (Number ds)) number_at
unfolding number_at
number_of ts ds rest e = rw e refl

pub quote_is : Sound (λ t. token (Quote t)) quote_at
unfolding quote_at
quote_is (Quote u ∷ ts) t rest e = let s = read_is u t ts rest e in cc
quote_is _ t rest e = absurd cc

pub quote_of : Complete (λ t. token (Quote t)) quote_at
unfolding quote_at
quote_of ts t rest e = rw e refl

-- ---- choices by the token in front

pub if_front_is : {A : Type 0} (t : Token) (p q : Parser A) (ts : List Token) (y : A) (rest : List Token)
    → if_front t p q ts ≡ Read y rest
    → ((mid : List Token) × (ts ≡ t ∷ mid) × (p mid ≡ Read y rest)) ⊎ (Stops t ts × (q ts ≡ Read y rest))
if_front_is t p q ts y rest e =
    elim (choose (eat t ts).0 _ _ y rest e) [
      | inl a ↦ inl ((eat t ts).1, eat_true t ts a.0, a.1)
      | inr b ↦ inr (b.0, ap q (sym (eat_false t ts b.0)) ∙ b.1)
    ]

-- the same for a choice of two outcomes; where the token is not in front, none is consumed
pub front_is : {A : Type 0} (t : Token) (ts : List Token) {p q : Outcome A} {y : A} {rest : List Token}
    → cond (eat t ts).0 p q ≡ Read y rest
    → ((ts ≡ t ∷ (eat t ts).1) × (p ≡ Read y rest)) ⊎ (((eat t ts).1 ≡ ts) × (q ≡ Read y rest))
front_is {A} t ts {p} {q} {y} {rest} e =
    elim (choose (eat t ts).0 p q y rest e) [
      | inl a ↦ inl (eat_true t ts a.0, a.1)
      | inr b ↦ inr (eat_false t ts b.0, b.1)
    ]

pub if_front_of : {A : Type 0} (t : Token) (p q : Parser A) (ts mid : List Token) → ts ≡ t ∷ mid
    → if_front t p q ts ≡ p mid
if_front_of t p q ts mid e = rw (e, eat_it t mid) refl

pub if_front_not : {A : Type 0} (t : Token) (p q : Parser A) (ts : List Token) → Stops t ts → if_front t p q ts ≡ q ts
if_front_not t p q ts e = rw (e, eat_false t ts e) refl

-- a token and what follows it, or nothing
pub behind_is : {A : Type 0} (t : Token) (P : A → Phrase) (p : Parser A) → Sound P p
    → Sound (optional (λ (x : A). token t ⨟ P x)) (behind t p)
behind_is {A} t P p sound ts o rest e =
    elim (if_front_is t (λ us. into Some (p us)) (found None) ts o rest e) [
      | inl a ↦
          let b = into_is Some (p a.0) o rest a.2 in
          subst (λ (m : Option A). optional (λ (x : A). token t ⨟ P x) m ts rest) b.2 (a.0, a.1, sound a.0 b.0 rest b.1)
      | inr a ↦ spelled_as (optional (λ (x : A). token t ⨟ P x)) ts None o ts rest a.1 refl
    ]

-- the same, as two separate cases
pub option_is : {A : Type 0} (t : Token) (p : Parser A) (ts : List Token) {o : Option A} {rest : List Token}
    → behind t p ts ≡ Read o rest
    → ((x : A) × (mid : List Token) × (ts ≡ t ∷ mid) × (p mid ≡ Read x rest) × (o ≡ Some x)) ⊎
    ((o ≡ None) × (ts ≡ rest))
option_is t p ts {o} {rest} e =
    elim (if_front_is t (λ us. into Some (p us)) (found None) ts o rest e) [
      | inl a ↦ let b = into_is Some (p a.0) o rest a.2 in inl (b.0, a.0, a.1, b.1, sym b.2)
      | inr a ↦ let s = read_is None o ts rest a.1 in inr (sym s.value, s.rest)
    ]

pub behind_some : {A : Type 0} (t : Token) (p : Parser A) (ts mid : List Token) (x : A) (rest : List Token)
    → ts ≡ t ∷ mid → p mid ≡ Read x rest → behind t p ts ≡ Read (Some x) rest
behind_some t p ts mid x rest e r = rw (if_front_of t (λ us. into Some (p us)) (found None) ts mid e, r) refl

pub behind_none : {A : Type 0} (t : Token) (p : Parser A) (ts : List Token) → Stops t ts → behind t p ts ≡ Read None ts
behind_none t p ts stops = if_front_not t (λ us. into Some (p us)) (found None) ts stops

-- the optional part is read, before a rest that neither continues it nor begins with the token
pub behind_of : {A : Type 0} (t : Token) (P : A → Phrase) (p : Parser A) (Ends : List Token → Type 0)
    → CompleteBefore Ends P p → (ts : List Token) (o : Option A) (rest : List Token)
    → optional (λ (x : A). token t ⨟ P x) o ts rest → Ends rest → Stops t rest → behind t p ts ≡ Read o rest
behind_of t P p Ends complete ts None rest s ends stops = rw s (behind_none t p rest stops)
behind_of t P p Ends complete ts (Some x) rest s ends stops =
    behind_some t p ts s.0 x rest s.1 (complete s.0 x rest s.2 ends)

-- ---- lists

-- all elements are the ones found before, followed by those that the tokens spell
pub record TookMore {A : Type 0} (Q : A
    → Phrase) (found : List A) (ts : List Token) (all : List A) (rest : List Token) : Type 0 where
  pub others : List A
  pub is : all ≡ found ++ others
  pub spelled : each Q others ts rest

module _ {A : Type 0} (Q : A → Phrase) (step : Parser (Option A)) where
  pub repeated_is : Sound (optional Q) step
      → (n : ℕ) (found : List A) (ts : List Token) (all : List A) (rest : List Token)
      → repeated step n found ts ≡ Read all rest → TookMore Q found ts all rest
  unfolding repeated
  repeated_is sound zero found ts all rest e =
      let s = read_is found all ts rest e in
      record { others = []; is = sym s.value ∙ sym (append-nil found); spelled = s.rest }
  repeated_is sound (suc n) found ts all rest e =
      let b = then_is (step ts) _ all rest e in
      let mid = b.1 in
      elim b.0 as (λ o. step ts ≡ Read o mid
      → (elim o [ None ↦ Read found mid | Some x ↦ repeated step n (found ++ x ∷ []) mid ]) ≡ Read all rest
      → TookMore Q found ts all rest) [
        | None ↦ λ one end.
            let s = read_is found all mid rest end in
            record { others = []; is = sym s.value ∙ sym (append-nil found); spelled = sound ts None mid one ∙ s.rest }
        | Some x ↦ λ one others.
            let more = repeated_is sound n (found ++ x ∷ []) mid all rest others in
            record {
              others = x ∷ more.others;
              is = more.is ∙ append_assoc found (x ∷ []) more.others;
              spelled = (mid, sound ts (Some x) mid one, more.spelled);
            }
      ] b.2 b.3

  -- the same, with no element found before
  pub more_is : Sound (optional Q) step → Sound (each Q) (more step [])
  more_is sound ts all rest e =
      let took = repeated_is sound (length ts) [] ts all rest e in
      subst (λ (l : List A). each Q l ts rest) (sym took.is) took.spelled

  -- `Mid` is the condition on the tokens after an element
  pub repeated_of : (Mid : List Token → Type 0)
      → ((ts : List Token) (y : A) (rest : List Token) → Q y ts rest → Mid rest → step ts ≡ Read (Some y) rest)
      → ((ts : List Token) (y : A) (rest : List Token) → Q y ts rest → Mid ts)
      → Shortens Q → (n : ℕ) (found : List A) (ys : List A) (ts rest : List Token) → length ts ≤ n
      → each Q ys ts rest → Mid rest → step rest ≡ Read None rest
      → repeated step n found ts ≡ Read (found ++ ys) rest
  unfolding repeated
  repeated_of Mid one front shortens zero found [] ts rest fuel s ends stops = rw (s, append-nil found) refl
  repeated_of Mid one front shortens (suc n) found [] ts rest fuel s ends stops = rw (s, stops, append-nil found) refl
  repeated_of Mid one front shortens zero found (y ∷ ys) ts rest fuel s ends stops = let h =
      shortens ts y s.0 s.1 in absurd (omega arith)
  repeated_of Mid one front shortens (suc n) found (y ∷ ys) ts rest fuel s ends stops =
      let mid = s.0 in
      let h = shortens ts y mid s.1 in
      let next = each_front ys mid s.2 in
      let shorter : length mid ≤ n = omega arith in
      let more = repeated_of Mid one front shortens n (found ++ y ∷ []) ys mid rest shorter s.2 ends stops in
      rw (one ts y mid s.1 next) (more ∙ ap (λ (l : List A). Read l rest) (append_assoc found (y ∷ []) ys))
    where
      each_front : (zs : List A) (us : List Token) → each Q zs us rest → Mid us
      each_front [] us e = subst Mid (sym e) ends
      each_front (z ∷ zs) us e = front us z e.0 e.1

  pub more_of : (Mid : List Token → Type 0)
      → ((ts : List Token) (y : A) (rest : List Token) → Q y ts rest → Mid rest → step ts ≡ Read (Some y) rest)
      → ((ts : List Token) (y : A) (rest : List Token) → Q y ts rest → Mid ts)
      → Shortens Q → (ts : List Token) (ys : List A) (rest : List Token) → each Q ys ts rest → Mid rest
      → step rest ≡ Read None rest
      → more step [] ts ≡ Read ys rest
  more_of Mid one front shortens ts ys rest s ends stops =
      repeated_of Mid one front shortens (length ts) [] ys ts rest (omega arith) s ends stops

-- no more tokens are after the elements than before them
pub each_shortens : {A : Type 0} (Q : A → Phrase) → Shortens Q → (xs : List A) (ts rest : List Token)
    → each Q xs ts rest → length rest ≤ length ts
each_shortens Q h [] ts rest s = omega (arith, ap length s)
each_shortens Q h (x ∷ xs) ts rest s =
    let one = h ts x s.0 s.1 in
    let others = each_shortens Q h xs s.0 rest s.2 in
    omega arith

-- a condition that holds for the rest, and in front of each element, holds in front of all elements
pub each_front : {A : Type 0} (Q : A → Phrase) (Mid : List Token → Type 0)
    → ((ts : List Token) (y : A) (rest : List Token) → Q y ts rest → Mid ts) → (ys : List A) (ts rest : List Token)
    → each Q ys ts rest → Mid rest → Mid ts
each_front Q Mid front [] ts rest s ends = subst Mid (sym s) ends
each_front Q Mid front (y ∷ ys) ts rest s ends = front ts y s.0 s.1

-- ---- lists with commas

-- a comma and an element
abbrev pub behind_comma : {A : Type 0} → (A → Phrase) → A → Phrase
behind_comma P x = sign Comma ⨟ P x

-- all elements, as the first one and the others
pub record TookList {A : Type 0} (P : A → Phrase) (ts : List Token) (all : List A) (rest : List Token) : Type 0 where
  pub first : A
  pub others : List A
  pub is : all ≡ first ∷ others
  pub spelled : commas P first others ts rest

-- the condition on the tokens after a list: no comma, and the condition of its elements
pub record EndsList (Ends : List Token → Type 0) (rest : List Token) : Type 0 where
  pub item : Ends rest
  pub comma : Stops (Sign Comma) rest

module _ {A : Type 0} (P : A → Phrase) (item : Parser A) where
  pub next_is : Sound P item → Sound (optional (behind_comma P)) (next item)
  next_is sound = behind_is (Sign Comma) P item sound

  -- the elements after the first one
  pub more_next_is : Sound P item → Sound (each (behind_comma P)) (more (next item) [])
  more_next_is sound = more_is (behind_comma P) (next item) (next_is sound)

  pub separated_is : Sound P item → (ts : List Token) (all : List A) (rest : List Token)
      → separated item ts ≡ Read all rest → TookList P ts all rest
  separated_is sound ts all rest e =
      let a = then_is (item ts) _ all rest e in
      let took = repeated_is (behind_comma P) (next item) (next_is sound) (length a.1) (a.0 ∷ []) a.1 all rest a.3 in
      record { first = a.0; others = took.others; is = took.is; spelled = (a.1, sound ts a.0 a.1 a.2, took.spelled) }

  comma_shortens : Shortens P → Shortens (behind_comma P)
  comma_shortens shortens ts x rest s = let h = shortens s.0 x rest s.2 in omega (arith, ap length s.1)

  pub commas_shortens : Shortens P → (x : A) (xs : List A) (ts rest : List Token) → commas P x xs ts rest
      → length rest < length ts
  commas_shortens shortens x xs ts rest s =
      let one = shortens ts x s.0 s.1 in
      let others = each_shortens (behind_comma P) (comma_shortens shortens) xs s.0 rest s.2 in
      omega arith

  -- `At` is the condition on the tokens after an element; a comma meets it
  module _ (At : List Token → Type 0) (at_comma : (us : List Token) → At (Sign Comma ∷ us)) where
    -- the tokens after the first element meet `At` too
    pub commas_front : (ys : List A) (ts rest : List Token) → each (behind_comma P) ys ts rest → At rest → At ts
    commas_front ys ts rest s ends =
        each_front (behind_comma P) At (λ us y vs c. subst At (sym c.1) (at_comma c.0)) ys ts rest s ends

    repeated_next_of : CompleteBefore At P item → Shortens P → (n : ℕ) (found ys : List A) (ts rest : List Token)
        → length ts ≤ n → each (behind_comma P) ys ts rest → EndsList At rest
        → repeated (next item) n found ts ≡ Read (found ++ ys) rest
    repeated_next_of complete shortens n found ys ts rest fuel s ends =
        repeated_of (behind_comma P) (next item) At
        (λ us y vs c known. behind_some (Sign Comma) item us c.0 y vs c.1 (complete c.0 y vs c.2 known))
        (λ us y vs c. subst At (sym c.1) (at_comma c.0))
        (comma_shortens shortens) n found ys ts rest fuel s ends.item (behind_none (Sign Comma) item rest ends.comma)

    pub more_next_of : CompleteBefore At P item → Shortens P → (ts : List Token) (ys : List A) (rest : List Token)
        → each (behind_comma P) ys ts rest → EndsList At rest → more (next item) [] ts ≡ Read ys rest
    more_next_of complete shortens ts ys rest s ends =
        repeated_next_of complete shortens (length ts) [] ys ts rest (omega arith) s ends

    pub separated_of : CompleteBefore At P item → Shortens P → (x : A) (xs : List A) (ts rest : List Token)
        → commas P x xs ts rest → EndsList At rest → separated item ts ≡ Read (x ∷ xs) rest
    separated_of complete shortens x xs ts rest s ends =
        let one = complete ts x s.0 s.1 (commas_front xs s.0 rest s.2 ends.item) in
        rw one (repeated_next_of complete shortens (length s.0) (x ∷ []) xs s.0 rest (omega arith) s.2 ends)

pub neither : (a b : Bool) → a || b ≡ false → (a ≡ false) × (b ≡ false)
neither true b e = absurd cc
neither false b e = (refl, e)

-- no condition on the rest
abbrev pub Always : List Token → Type 0
Always ts = Unit {0}

-- ---- all tokens

pub whole_is : {A : Type 0} (o : Outcome A) (x : A) → whole o ≡ Some x → o ≡ Read x []
whole_is Failed x e = absurd cc
whole_is (Read y []) x e = cc
whole_is (Read y (t ∷ ts)) x e = absurd cc

-- The loops over the terms of a sum and the factors of a product, and the signs of primaries.
use Rattle.std.specs.Prelude.{◌≡◌, refl, ℕ, ◌+◌, ◌<◌, ◌≤◌, true, false, List, [], ◌∷◌, length, map, Option}
use Rattle.std.specs.Prelude.{None, Bool, Result, Ok, Err, IfOk}
use Rattle.std.specs.declared.alloc.AllocError.{AllocError}
use Rattle.std.proofs.Common.{drop, get_or, arith, sym, ap, subst, ◌∙◌}
use Rattle.tql_spec.specs.Datum.{Operation, Times, Ints}
use Rattle.tql_spec.specs.Refusal.{Refusal, TypesDoNotFit}
use Rattle.tql_spec.specs.Names.{Checked, ◌>>=◌, sound, Known, Typed, arithmetic, negation, unless, refuse_if}
use Rattle.tql_spec.specs.Names.{is_other_kind, negative, expr, more_terms, product, more_factors, signed, primary}
use Rattle.tql_spec.specs.Parts.{AddedTerm, with_term, terms_of, factors_of}
use Rattle.tql_spec.specs.Syntax as tree
use Rattle.tql_spec.specs.Syntax.{Terms, Factors, NumberLiteral, TextLiteral, DateLiteral, TimestampLiteral}
use Rattle.tql_spec.specs.Syntax.{ColumnNamed, Enclosed, CountStar, Over}
use Rattle.tql_syntax_tree.specs.Expressions.{signed_by, expr_of, term_of, signed_of, added_of, primary_of}
use Rattle.tql_syntax_tree.specs.declared.expression.ExprIn.{ExprIn}
use Rattle.tql_syntax_tree.specs.declared.expression.AddedTermIn.{AddedTermIn}
use Rattle.tql_syntax_tree.specs.declared.expression.TermIn.{TermIn}
use Rattle.tql_syntax_tree.specs.declared.expression.SignedIn.{SignedIn}
use Rattle.tql_syntax_tree.specs.declared.expression.PrimaryIn.TheViews.{out-ExprIn, out-AddedTermIn, out-TermIn}
use Rattle.tql_syntax_tree.specs.declared.expression.PrimaryIn.TheViews.{out-SignedIn}
use Rattle.tql_syntax_tree.specs.declared.expression.Sign.{Sign}
use Rattle.tql_syntax_tree.specs.declared.expression.Sign.TheVariants as sign
use Rattle.tql_expr.specs.Meaning.{HasExpr, Stays}
use Rattle.tql_expr.specs.declared.terms.Terms as arena
use Rattle.tql_bind_expr.specs.Gathered.{Gathers}
use Rattle.tql_bind_expr.specs.Bounds.{typed_of, sign_of, digits_in}
use Rattle.tql_bind_expr.specs.Chains.{chain_of, HoldsChain}
use Rattle.tql_bind_expr.specs.declared.chain.Chain.{Chain}
use Rattle.tql_bind_expr.specs.declared.scope.Typed as code
use Rattle.tql_bind_expr.proofs.Arena.{stays_along}
use Rattle.tql_bind_expr.proofs.ChainLaws.{chain_kept, chain_there}
use Rattle.tql_bind_expr.proofs.Gathering.{Leads, alone, begun, gone_on, bound, bound_ok, ended, unless_asked}
use Rattle.tql_bind_expr.proofs.Gathering.{next_item, no_item}
use Rattle.tql_bind_expr.proofs.Views.{expr_out, added_out, term_out, signed_out}

-- ---- the operations bound so far

-- the rest, applied to the operations so far, gives the whole, and all earlier nodes stay
pub record ChainLeads (whole : Checked Typed) (start : arena.Terms) (old : Option Refusal) (t : arena.Terms)
    (c : Chain) (rest : Typed → Checked Typed) (now : Option Refusal) : Type 0 where
  pub stays : Stays start t
  pub held : HoldsChain t c
  pub leads : Leads whole old (rest (chain_of t c)) now

-- the first operand
pub chain_begun : (first : Checked Typed) (rest : Typed
    → Checked Typed) (start t : arena.Terms) (old now : Option Refusal) (b : code.Typed) (c : Chain)
    → Stays start t → Gathers first old now (typed_of t b) → HasExpr t b.expr → chain_of t c ≡ typed_of t b
    → (HasExpr t b.expr → HoldsChain t c)
    → ChainLeads (first >>= rest) start old t c rest now
chain_begun first rest start t old now b c s g h is held =
    record {
      stays = s;
      held = held h;
      leads = begun first rest old now (chain_of t c) (subst (λ (x : Typed). Gathers first old now x) (sym is) g);
    }

-- one more operand
pub chain_step : (whole : Checked Typed) (start : arena.Terms) (old : Option Refusal) (t u : arena.Terms)
    (c d : Chain) (mid m now : Option Refusal)
    (op : Operation) (right : Checked Typed) (rest : Typed → Checked Typed) (b : code.Typed)
    → ChainLeads whole start old t c (λ a. right >>= arithmetic op a >>= rest) mid
    → Stays t u → Gathers right mid m (typed_of u b) → HasExpr u b.expr
    → Gathers (arithmetic op (chain_of u c) (typed_of u b)) m now (chain_of u d)
    → (HoldsChain u c → HasExpr u b.expr → HoldsChain u d)
    → ChainLeads whole start old u d rest now
chain_step whole start old t u c d mid m now op right rest b l s g h added held =
    let kept = chain_kept s c l.held in
    record {
      stays = stays_along l.stays s;
      held = held (chain_there s c l.held) h;
      leads =
          gone_on whole old (right >>= arithmetic op (chain_of t c)) rest mid now (chain_of u d) l.leads
          (bound right (arithmetic op (chain_of t c)) mid m now (typed_of u b) (chain_of u d) g
          (subst (λ (a : Typed). Gathers (arithmetic op a (typed_of u b)) m now (chain_of u d)) kept added));
    }

-- no operand remains
pub chain_ended : (whole : Checked Typed) (start : arena.Terms) (old : Option Refusal) (t u : arena.Terms)
    (c : Chain) (now : Option Refusal) (r : Result code.Typed AllocError)
    → ChainLeads whole start old t c sound now → IfOk r (λ y. typed_of u y ≡ chain_of t c)
    → IfOk r (λ y. Gathers whole old now (typed_of u y))
chain_ended whole start old t u c now (Ok y) l is =
    subst (λ (x : Typed). Gathers whole old now x) (sym is) (ended whole old now (chain_of t c) l.leads)
chain_ended whole start old t u c now (Err e) l is = tt

-- ---- elements by index

-- the rest of a list from an index: its element and the elements after it
next_chain : {X : Type 0} (G : List X → Typed
    → Checked Typed) (whole : Checked Typed) (start : arena.Terms) (old : Option Refusal) (t : arena.Terms)
    (c : Chain) (mid : Option Refusal) (xs : List X) (i : ℕ) (x : X)
    → i < length xs → x ≡ get_or xs i x → ChainLeads whole start old t c (G (drop i xs)) mid
    → ChainLeads whole start old t c (G (x ∷ drop (i + 1) xs)) mid
next_chain G whole start old t c mid xs i x within is l =
    record {
      stays = l.stays;
      held = l.held;
      leads = next_item (λ ys. G ys (chain_of t c)) whole old mid xs i x within is l.leads;
    }

-- no element remains
last_chain : {X : Type 0} (G : List X → Typed
    → Checked Typed) (whole : Checked Typed) (start : arena.Terms) (old : Option Refusal) (t : arena.Terms)
    (c : Chain) (now : Option Refusal) (xs : List X) (i : ℕ)
    → length xs ≤ i → ChainLeads whole start old t c (G (drop i xs)) now → ChainLeads whole start old t c (G []) now
last_chain G whole start old t c now xs i past l =
    record {
      stays = l.stays;
      held = l.held;
      leads = no_item (λ ys. G ys (chain_of t c)) whole old now xs i past l.leads;
    }

-- ---- sums

-- the remaining terms, applied to the sum so far
abbrev pub terms_left : {A : Type 0} → List Known → List (AddedTermIn A) → Typed → Checked Typed
terms_left s xs a = more_terms s (terms_of (map added_of xs)) a

-- the meaning of one more term, with either sign
term_step : (s : List Known) (b : Bool) (p : tree.Product) (rest : tree.MoreTerms) (a : Typed)
    → more_terms s (with_term (record { is_minus = b; term = p }) rest) a ≡
    (product s p >>= arithmetic (sign_of b) a >>= more_terms s rest)
term_step s true p rest a = refl
term_step s false p rest a = refl

-- a list without elements
no_elements : {X : Type 0} (xs : List X) → length xs ≡ 0 → xs ≡ []
no_elements [] e = refl
no_elements (x ∷ xs) e = absurd (omega arith)

-- a sum of one term
pub sum_alone : {A : Type 0} (s : List Known) (e : ExprIn A) (old now : Option Refusal) (x : Typed)
    → length (out-ExprIn A e).more.items ≡ 0
    → Gathers (product s (term_of (out-ExprIn A e).first)) old now x → Gathers (expr s (expr_of e)) old now x
sum_alone {A} s e old now x none g =
    let t = term_of (out-ExprIn A e).first in
    subst (λ (y : tree.Sum). Gathers (expr s y) old now x)
    (sym (expr_out e ∙ ap (λ (xs : List (AddedTermIn A)). Terms t (terms_of (map added_of xs)))
    (no_elements _ none)))
    (alone (product s t) old now x g)

pub sum_begun : {A : Type 0} (s : List Known) (e : ExprIn A) (xs : List (AddedTermIn A)) (start t : arena.Terms)
    (old now : Option Refusal) (b : code.Typed) (c : Chain)
    → xs ≡ (out-ExprIn A e).more.items → Stays start t
    → Gathers (product s (term_of (out-ExprIn A e).first)) old now (typed_of t b) → HasExpr t b.expr
    → chain_of t c ≡ typed_of t b → (HasExpr t b.expr → HoldsChain t c)
    → ChainLeads (expr s (expr_of e)) start old t c (terms_left s xs) now
sum_begun {A} s e xs start t old now b c more stays g h is held =
    let first = term_of (out-ExprIn A e).first in
    let whole = expr_out e ∙ ap (λ (ys : List (AddedTermIn A)). Terms first (terms_of (map added_of ys))) (sym more) in
    subst (λ (w : tree.Sum). ChainLeads (expr s w) start old t c (terms_left s xs) now) (sym whole)
    (chain_begun (product s first) (terms_left s xs) start t old now b c stays g h is held)

pub sum_step : {A : Type 0} (s : List Known) (whole : Checked Typed) (start : arena.Terms) (old : Option Refusal)
    (t u : arena.Terms) (c d : Chain) (mid m now : Option Refusal)
    (xs : List (AddedTermIn A)) (i : ℕ) (x : AddedTermIn A) (op : Operation) (b : code.Typed)
    → i < length xs → x ≡ get_or xs i x → op ≡ sign_of (out-AddedTermIn A x).is_minus
    → ChainLeads whole start old t c (terms_left s (drop i xs)) mid
    → Stays t u → Gathers (product s (term_of (out-AddedTermIn A x).term)) mid m (typed_of u b) → HasExpr u b.expr
    → Gathers (arithmetic op (chain_of u c) (typed_of u b)) m now (chain_of u d)
    → (HoldsChain u c → HasExpr u b.expr → HoldsChain u d)
    → ChainLeads whole start old u d (terms_left s (drop (i + 1) xs)) now
sum_step {A} s whole start old t u c d mid m now xs i x op b within is by_sign l stays g h added held =
    let rest = terms_of (map added_of (drop (i + 1) xs)) in
    let minus = (out-AddedTermIn A x).is_minus in
    let p = term_of (out-AddedTermIn A x).term in
    let here = next_chain (λ (ys : List (AddedTermIn A)). terms_left s ys) whole start old t c mid xs i x within is l in
    let step : more_terms s (with_term (added_of x) rest) (chain_of t c) ≡
    (product s p >>= arithmetic (sign_of minus) (chain_of t c) >>= more_terms s rest) =
    ap (λ (v : AddedTerm). more_terms s (with_term v rest) (chain_of t c)) (added_out x)
    ∙ term_step s minus p rest (chain_of t c) in
    let next : ChainLeads whole start old t c
    (λ a. product s p >>= arithmetic (sign_of minus) a >>= more_terms s rest) mid =
    record {
      stays = here.stays;
      held = here.held;
      leads = subst (λ (v : Checked Typed). Leads whole old v mid) step here.leads;
    } in
    chain_step whole start old t u c d mid m now (sign_of minus) (product s p) (more_terms s rest) b next stays g h
    (subst (λ (o : Operation). Gathers (arithmetic o (chain_of u c) (typed_of u b)) m now (chain_of u d)) by_sign
    added) held

pub sum_done : {A : Type 0} (s : List Known) (whole : Checked Typed) (start : arena.Terms) (old : Option Refusal)
    (t u : arena.Terms) (c : Chain) (now : Option Refusal) (xs : List (AddedTermIn A)) (i : ℕ)
    (r : Result code.Typed AllocError)
    → length xs ≤ i → ChainLeads whole start old t c (terms_left s (drop i xs)) now
    → IfOk r (λ y. typed_of u y ≡ chain_of t c) → IfOk r (λ y. Gathers whole old now (typed_of u y))
sum_done {A} s whole start old t u c now xs i r past l is =
    chain_ended whole start old t u c now r
    (last_chain (λ (ys : List (AddedTermIn A)). terms_left s ys) whole start old t c now xs i past l) is

-- ---- products

-- the remaining factors, applied to the product so far
abbrev pub factors_left : {A : Type 0} → List Known → List (SignedIn A) → Typed → Checked Typed
factors_left s xs a = more_factors s (factors_of (map signed_of xs)) a

-- a product of one factor
pub product_alone : {A : Type 0} (s : List Known) (t : TermIn A) (old now : Option Refusal) (x : Typed)
    → length (out-TermIn A t).more.items ≡ 0
    → Gathers (signed s (signed_of (out-TermIn A t).first)) old now x → Gathers (product s (term_of t)) old now x
product_alone {A} s t old now x none g =
    let f = signed_of (out-TermIn A t).first in
    subst (λ (y : tree.Product). Gathers (product s y) old now x)
    (sym (term_out t ∙ ap (λ (xs : List (SignedIn A)). Factors f (factors_of (map signed_of xs)))
    (no_elements _ none)))
    (alone (signed s f) old now x g)

pub product_begun : {A : Type 0} (s : List Known) (e : TermIn A) (xs : List (SignedIn A)) (start t : arena.Terms)
    (old now : Option Refusal) (b : code.Typed) (c : Chain)
    → xs ≡ (out-TermIn A e).more.items → Stays start t
    → Gathers (signed s (signed_of (out-TermIn A e).first)) old now (typed_of t b) → HasExpr t b.expr
    → chain_of t c ≡ typed_of t b → (HasExpr t b.expr → HoldsChain t c)
    → ChainLeads (product s (term_of e)) start old t c (factors_left s xs) now
product_begun {A} s e xs start t old now b c more stays g h is held =
    let first = signed_of (out-TermIn A e).first in
    let whole = term_out e
    ∙ ap (λ (ys : List (SignedIn A)). Factors first (factors_of (map signed_of ys))) (sym more) in
    subst (λ (w : tree.Product). ChainLeads (product s w) start old t c (factors_left s xs) now) (sym whole)
    (chain_begun (signed s first) (factors_left s xs) start t old now b c stays g h is held)

pub product_step : {A : Type 0} (s : List Known) (whole : Checked Typed) (start : arena.Terms) (old : Option Refusal)
    (t u : arena.Terms) (c d : Chain) (mid m now : Option Refusal)
    (xs : List (SignedIn A)) (i : ℕ) (x : SignedIn A) (b : code.Typed)
    → i < length xs → x ≡ get_or xs i x
    → ChainLeads whole start old t c (factors_left s (drop i xs)) mid
    → Stays t u → Gathers (signed s (signed_of x)) mid m (typed_of u b) → HasExpr u b.expr
    → Gathers (arithmetic Times (chain_of u c) (typed_of u b)) m now (chain_of u d)
    → (HoldsChain u c → HasExpr u b.expr → HoldsChain u d)
    → ChainLeads whole start old u d (factors_left s (drop (i + 1) xs)) now
product_step {A} s whole start old t u c d mid m now xs i x b within is l stays g h added held =
    let here = next_chain (λ (ys : List (SignedIn A)). factors_left s ys) whole start old t c mid xs i x within is l in
    chain_step whole start old t u c d mid m now Times (signed s (signed_of x))
    (more_factors s (factors_of (map signed_of (drop (i + 1) xs)))) b here stays g h added held

pub product_done : {A : Type 0} (s : List Known) (whole : Checked Typed) (start : arena.Terms) (old : Option Refusal)
    (t u : arena.Terms) (c : Chain) (now : Option Refusal) (xs : List (SignedIn A)) (i : ℕ)
    (r : Result code.Typed AllocError)
    → length xs ≤ i → ChainLeads whole start old t c (factors_left s (drop i xs)) now
    → IfOk r (λ y. typed_of u y ≡ chain_of t c) → IfOk r (λ y. Gathers whole old now (typed_of u y))
product_done {A} s whole start old t u c now xs i r past l is =
    chain_ended whole start old t u c now r
    (last_chain (λ (ys : List (SignedIn A)). factors_left s ys) whole start old t c now xs i past l) is

-- ---- signs

-- a primary with this sign
pub signed_is : {A : Type 0} (s : List Known) (x : SignedIn A) (g : Sign) → (out-SignedIn A x).sign ≡ g
    → signed s (signed_of x) ≡ signed s (signed_by g (primary_of (out-SignedIn A x).primary))
signed_is {A} s x g by_sign = ap (signed s) (signed_out x
    ∙ ap (λ (h : Sign). signed_by h (primary_of (out-SignedIn A x).primary)) by_sign)

-- `-` before anything but a number literal
pub negative_other : (p : tree.Primary) (c : Checked Typed) → digits_in p ≡ None → negative p c ≡ (c >>= negation)
negative_other (NumberLiteral es) c is = absurd (cc)
negative_other (TextLiteral t) c is = refl
negative_other (DateLiteral t) c is = refl
negative_other (TimestampLiteral t) c is = refl
negative_other (ColumnNamed r) c is = refl
negative_other (Enclosed e) c is = refl
negative_other CountStar c is = refl
negative_other (Over f e) c is = refl

-- `+` before a primary
pub positive_bound : {A : Type 0} (s : List Known) (x : SignedIn A) (old mid now : Option Refusal) (a : Typed)
    (b : Bool)
    → (out-SignedIn A x).sign ≡ sign.Plus → b ≡ is_other_kind Ints a.kind
    → Gathers (primary s (primary_of (out-SignedIn A x).primary)) old mid a
    → Gathers (refuse_if b TypesDoNotFit) mid now tt
    → Gathers (signed s (signed_of x)) old now a
positive_bound {A} s x old mid now a b plus asked g h =
    subst (λ c. Gathers c old now a) (sym (signed_is s x sign.Plus plus))
    (bound (primary s (primary_of (out-SignedIn A x).primary))
    (λ y. unless (is_other_kind Ints y.kind) TypesDoNotFit y) old mid now a a g
    (unless_asked b _ TypesDoNotFit a mid now asked h))

-- `-` before a primary that is not a number literal
pub negative_bound : {A Y : Type 0} (s : List Known) (x : SignedIn A) (view : Y
    → Typed) (old mid now : Option Refusal) (a : Typed) (r : Result Y AllocError)
    → (out-SignedIn A x).sign ≡ sign.Minus → digits_in (primary_of (out-SignedIn A x).primary) ≡ None
    → Gathers (primary s (primary_of (out-SignedIn A x).primary)) old mid a
    → IfOk r (λ y. Gathers (negation a) mid now (view y))
    → IfOk r (λ y. Gathers (signed s (signed_of x)) old now (view y))
negative_bound {A} s x view old mid now a r minus other g h =
    let p = primary_of (out-SignedIn A x).primary in
    let c = primary s p in
    subst (λ d. IfOk r (λ y. Gathers d old now (view y))) (sym (signed_is s x sign.Minus minus
    ∙ negative_other p c other))
    (bound_ok c negation view old mid now a r g h)

-- ---- names

-- a list of one element
pub only : {X : Type 0} (xs : List X) (x : X) → 1 ≤ length xs → length xs < 2 → x ≡ get_or xs 0 x → xs ≡ x ∷ []
only [] x some few is = absurd (omega arith)
only (y ∷ []) x some few is = ap (λ z. z ∷ []) (sym is)
only (y ∷ z ∷ zs) x some few is = absurd (omega arith)

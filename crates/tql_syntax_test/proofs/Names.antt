-- Which expressions are one column reference.
use Rattle.std.proofs.Common.{sym, ap, ◌∙◌}
use Rattle.std.proofs.Math.Dec.{eqb-suc-zero}
use Rattle.std.specs.Prelude.{◌≡◌, refl, ℕ, suc, Bool, true, false, ◌&&◌, ◌==◌, List, [], ◌∷◌, map, length, None}
use Rattle.tql_spec.specs.Syntax.{Sum, Terms, NoTerm, PlusTerm, MinusTerm, MoreTerms, Factors, NoFactor, TimesFactor}
use Rattle.tql_spec.specs.Syntax.{MoreFactors, Product, Signed, Unsigned, Positive, Negative, Primary, NumberLiteral}
use Rattle.tql_spec.specs.Syntax.{TextLiteral, DateLiteral, TimestampLiteral, ColumnNamed, Enclosed, CountStar, Over}
use Rattle.tql_spec.specs.Parts.{AddedTerm, with_term, terms_of, factors_of}
use Rattle.tql_syntax_grammar.specs.ReadingExpressions.{as_named}
use Rattle.tql_syntax_tree.specs.Expressions.{signed_by, expr_of, term_of, signed_of, added_of, primary_of}
use Rattle.tql_syntax_tree.specs.Expressions.{primary_step}
use Rattle.tql_syntax_tree.specs.Expressions.{added_step, expr_step, signed_step, term_step}
use Rattle.tql_syntax_tree.specs.declared.expression.ExprIn.{ExprIn}
use Rattle.tql_syntax_tree.specs.declared.expression.TermIn.{TermIn}
use Rattle.tql_syntax_tree.specs.declared.expression.SignedIn.{SignedIn}
use Rattle.tql_syntax_tree.specs.declared.expression.PrimaryIn.TheFolds.{fold_out-ExprIn, fold_out-TermIn}
use Rattle.tql_syntax_tree.specs.declared.expression.PrimaryIn.TheFolds.{fold_out-SignedIn}
use Rattle.tql_syntax_tree.specs.declared.expression.PrimaryIn.TheViews.{out-ExprIn, out-TermIn, out-SignedIn}
use Rattle.tql_syntax_tree.specs.declared.expression.Sign.{Sign}
use Rattle.tql_syntax_tree.specs.declared.expression.Sign.TheVariants as sign
use Rattle.tql_syntax_test.specs.Predicates.{is_lone, is_unsigned, has_no_term, has_no_factor, column_in}

-- ---- one primary without a sign

not_zero : (n : ℕ) → (suc n == 0) ≡ false
not_zero n = eqb-suc-zero n

no_factor_is : {A : Type 0} (f : A → Signed) (fs : List A) → has_no_factor (factors_of (map f fs)) ≡ (length fs == 0)
no_factor_is f [] = refl
no_factor_is f (x ∷ fs) = sym (not_zero (length fs))

with_term_some : (b : Bool) (t : Product) (more : MoreTerms)
    → has_no_term (with_term (record { is_minus = b; term = t }) more) ≡ false
with_term_some true t more = refl
with_term_some false t more = refl

no_term_is : {B : Type 0} (g : B → AddedTerm) (ts : List B) → has_no_term (terms_of (map g ts)) ≡ (length ts == 0)
no_term_is g [] = refl
no_term_is g (x ∷ ts) = with_term_some (g x).is_minus (g x).term (terms_of (map g ts)) ∙ sym (not_zero (length ts))

pub lone_is : {A B : Type 0} (f : A → Signed) (g : B → AddedTerm) (s : Signed) (fs : List A) (ts : List B)
    → is_lone (Terms (Factors s (factors_of (map f fs))) (terms_of (map g ts))) ≡
    ((length ts == 0) && ((length fs == 0) && is_unsigned s))
lone_is f g s fs ts = λ i. no_term_is g ts i && (no_factor_is f fs i && is_unsigned s)

-- ---- the same, by the code's tree

expr_is : {A : Type 0} (v : ExprIn A)
    → expr_of v ≡ Terms (term_of (out-ExprIn A v).first) (terms_of (map added_of (out-ExprIn A v).more.items))
expr_is {A} v = fold_out-ExprIn A Primary AddedTerm Sum Signed Product primary_step added_step expr_step signed_step
    term_step v

term_is : {A : Type 0} (v : TermIn A)
    → term_of v ≡ Factors (signed_of (out-TermIn A v).first) (factors_of (map signed_of (out-TermIn A v).more.items))
term_is {A} v = fold_out-TermIn A Primary AddedTerm Sum Signed Product primary_step added_step expr_step signed_step
    term_step v

signed_is : {A : Type 0} (v : SignedIn A)
    → signed_of v ≡ signed_by (out-SignedIn A v).sign (primary_of (out-SignedIn A v).primary)
signed_is {A} v = fold_out-SignedIn A Primary AddedTerm Sum Signed Product primary_step added_step expr_step
    signed_step term_step v

abbrev no_sign : Sign → Bool
no_sign sign.None = true
no_sign sign.Plus = false
no_sign sign.Minus = false

unsigned_is : (s : Sign) (p : Primary) → is_unsigned (signed_by s p) ≡ no_sign s
unsigned_is sign.None p = refl
unsigned_is sign.Plus p = refl
unsigned_is sign.Minus p = refl

pub lone_expr : {A : Type 0} (v : ExprIn A)
    → is_lone (expr_of v) ≡ ((length (out-ExprIn A v).more.items == 0)
    && ((length (out-TermIn A (out-ExprIn A v).first).more.items == 0) && no_sign
    (out-SignedIn A (out-TermIn A (out-ExprIn A v).first).first).sign))
lone_expr {A} v =
    let t = (out-ExprIn A v).first in
    let s = (out-TermIn A t).first in
    ap is_lone (expr_is v)
    ∙ ap (λ (p : Product). is_lone (Terms p (terms_of (map added_of (out-ExprIn A v).more.items)))) (term_is t)
    ∙ lone_is signed_of added_of (signed_of s) (out-TermIn A t).more.items (out-ExprIn A v).more.items
    ∙ ap (λ (b : Bool). (length (out-ExprIn A v).more.items == 0) &&
    ((length (out-TermIn A t).more.items == 0) && b)) (ap is_unsigned (signed_is s)
    ∙ unsigned_is (out-SignedIn A s).sign (primary_of (out-SignedIn A s).primary))

-- ---- its name

alone : (p : Primary) → as_named (Terms (Factors (Unsigned p) NoFactor) NoTerm) ≡ column_in p
alone (NumberLiteral ds) = refl
alone (TextLiteral t) = refl
alone (DateLiteral t) = refl
alone (TimestampLiteral t) = refl
alone (ColumnNamed r) = refl
alone (Enclosed e) = refl
alone CountStar = refl
alone (Over f e) = refl

pub lone_name : (s : Sign) (p : Primary) (fs : MoreFactors) (ts : MoreTerms)
    → is_lone (Terms (Factors (signed_by s p) fs) ts) ≡ true
    → as_named (Terms (Factors (signed_by s p) fs) ts) ≡ column_in p
lone_name sign.None p NoFactor NoTerm e = alone p
lone_name sign.None p NoFactor (PlusTerm t ts) e = absurd cc
lone_name sign.None p NoFactor (MinusTerm t ts) e = absurd cc
lone_name sign.None p (TimesFactor s fs) NoTerm e = absurd cc
lone_name sign.None p (TimesFactor s fs) (PlusTerm t ts) e = absurd cc
lone_name sign.None p (TimesFactor s fs) (MinusTerm t ts) e = absurd cc
lone_name sign.Plus p NoFactor NoTerm e = absurd cc
lone_name sign.Plus p (TimesFactor s fs) NoTerm e = absurd cc
lone_name sign.Plus p fs (PlusTerm t ts) e = absurd cc
lone_name sign.Plus p fs (MinusTerm t ts) e = absurd cc
lone_name sign.Minus p NoFactor NoTerm e = absurd cc
lone_name sign.Minus p (TimesFactor s fs) NoTerm e = absurd cc
lone_name sign.Minus p fs (PlusTerm t ts) e = absurd cc
lone_name sign.Minus p fs (MinusTerm t ts) e = absurd cc

unnamed_primary : (p : Primary) (s : Signed) (fs : MoreFactors) (ts : MoreTerms)
    → as_named (Terms (Factors (Unsigned p) (TimesFactor s fs)) ts) ≡ None
unnamed_primary (NumberLiteral ds) s fs ts = refl
unnamed_primary (TextLiteral t) s fs ts = refl
unnamed_primary (DateLiteral t) s fs ts = refl
unnamed_primary (TimestampLiteral t) s fs ts = refl
unnamed_primary (ColumnNamed r) s fs ts = refl
unnamed_primary (Enclosed e) s fs ts = refl
unnamed_primary CountStar s fs ts = refl
unnamed_primary (Over f e) s fs ts = refl

unnamed_plus : (p : Primary) (t : Product) (ts : MoreTerms)
    → as_named (Terms (Factors (Unsigned p) NoFactor) (PlusTerm t ts)) ≡ None
unnamed_plus (NumberLiteral ds) t ts = refl
unnamed_plus (TextLiteral u) t ts = refl
unnamed_plus (DateLiteral u) t ts = refl
unnamed_plus (TimestampLiteral u) t ts = refl
unnamed_plus (ColumnNamed r) t ts = refl
unnamed_plus (Enclosed e) t ts = refl
unnamed_plus CountStar t ts = refl
unnamed_plus (Over f e) t ts = refl

unnamed_minus : (p : Primary) (t : Product) (ts : MoreTerms)
    → as_named (Terms (Factors (Unsigned p) NoFactor) (MinusTerm t ts)) ≡ None
unnamed_minus (NumberLiteral ds) t ts = refl
unnamed_minus (TextLiteral u) t ts = refl
unnamed_minus (DateLiteral u) t ts = refl
unnamed_minus (TimestampLiteral u) t ts = refl
unnamed_minus (ColumnNamed r) t ts = refl
unnamed_minus (Enclosed e) t ts = refl
unnamed_minus CountStar t ts = refl
unnamed_minus (Over f e) t ts = refl

pub not_lone : (e : Sum) → is_lone e ≡ false → as_named e ≡ None
not_lone (Terms (Factors (Positive p) fs) ts) e = refl
not_lone (Terms (Factors (Negative p) fs) ts) e = refl
not_lone (Terms (Factors (Unsigned p) (TimesFactor s fs)) ts) e = unnamed_primary p s fs ts
not_lone (Terms (Factors (Unsigned p) NoFactor) (PlusTerm t ts)) e = unnamed_plus p t ts
not_lone (Terms (Factors (Unsigned p) NoFactor) (MinusTerm t ts)) e = unnamed_minus p t ts
not_lone (Terms (Factors (Unsigned p) NoFactor) NoTerm) e = absurd cc

-- The name that an expression is, if it is one and nothing else.
use Rattle.std.proofs.Common.{◌≡◌, refl, Bool, true, false, List, [], ◌∷◌, map, length, arith, None, ap, ◌∙◌}
use Rattle.std.specs.Prelude.{Vec, vec_len, ◌==◌}
use Rattle.std.proofs.Common.{eqb-true}
use Rattle.std.proofs.lemmas.Bool.{eqb-false}
use Rattle.tql_spec.specs.Names.{sole_name}
use Rattle.tql_spec.specs.Parts.{with_term, terms_of, factors_of}
use Rattle.tql_spec.specs.Syntax.{Terms, Factors, NoTerm, PlusTerm, MinusTerm, MoreTerms, NoFactor, TimesFactor}
use Rattle.tql_spec.specs.Syntax.{Signed, Unsigned, Positive, Negative, Product, NumberLiteral, TextLiteral}
use Rattle.tql_spec.specs.Syntax.{DateLiteral, TimestampLiteral, ColumnNamed, Enclosed, CountStar, Over}
use Rattle.tql_syntax_tree.specs.Expressions.{expr_of, term_of, signed_of, added_of}
use Rattle.tql_syntax_tree.specs.declared.expression.ExprIn.{ExprIn}
use Rattle.tql_syntax_tree.specs.declared.expression.AddedTermIn.{AddedTermIn}
use Rattle.tql_syntax_tree.specs.declared.expression.TermIn.{TermIn}
use Rattle.tql_syntax_tree.specs.declared.expression.SignedIn.{SignedIn}
use Rattle.tql_syntax_tree.specs.declared.expression.PrimaryIn.TheViews.{out-ExprIn, out-TermIn}
use Rattle.tql_bind_expr.proofs.Views.{expr_out, term_out}
use Rattle.tql_bind_cond.specs.SoleNames.{name_in, sole_factor}

-- an expression of one product
pub alone : (p : Product) → sole_name (Terms p NoTerm) ≡ sole_factor p
alone (Factors (Unsigned (NumberLiteral ds)) NoFactor) = refl
alone (Factors (Unsigned (TextLiteral t)) NoFactor) = refl
alone (Factors (Unsigned (DateLiteral t)) NoFactor) = refl
alone (Factors (Unsigned (TimestampLiteral t)) NoFactor) = refl
alone (Factors (Unsigned (ColumnNamed r)) NoFactor) = refl
alone (Factors (Unsigned (Enclosed e)) NoFactor) = refl
alone (Factors (Unsigned CountStar) NoFactor) = refl
alone (Factors (Unsigned (Over f e)) NoFactor) = refl
alone (Factors (Unsigned (NumberLiteral ds)) (TimesFactor s m)) = refl
alone (Factors (Unsigned (TextLiteral t)) (TimesFactor s m)) = refl
alone (Factors (Unsigned (DateLiteral t)) (TimesFactor s m)) = refl
alone (Factors (Unsigned (TimestampLiteral t)) (TimesFactor s m)) = refl
alone (Factors (Unsigned (ColumnNamed r)) (TimesFactor s m)) = refl
alone (Factors (Unsigned (Enclosed e)) (TimesFactor s m)) = refl
alone (Factors (Unsigned CountStar) (TimesFactor s m)) = refl
alone (Factors (Unsigned (Over f e)) (TimesFactor s m)) = refl
alone (Factors (Positive p) NoFactor) = refl
alone (Factors (Positive p) (TimesFactor s m)) = refl
alone (Factors (Negative p) NoFactor) = refl
alone (Factors (Negative p) (TimesFactor s m)) = refl

-- an expression of two or more products
pub added : (p q : Product) (m : MoreTerms) → sole_name (Terms p (PlusTerm q m)) ≡ None
added (Factors (Unsigned (NumberLiteral ds)) f) q m = refl
added (Factors (Unsigned (TextLiteral t)) f) q m = refl
added (Factors (Unsigned (DateLiteral t)) f) q m = refl
added (Factors (Unsigned (TimestampLiteral t)) f) q m = refl
added (Factors (Unsigned (ColumnNamed r)) NoFactor) q m = refl
added (Factors (Unsigned (ColumnNamed r)) (TimesFactor s f)) q m = refl
added (Factors (Unsigned (Enclosed e)) f) q m = refl
added (Factors (Unsigned CountStar) f) q m = refl
added (Factors (Unsigned (Over g e)) f) q m = refl
added (Factors (Positive p) f) q m = refl
added (Factors (Negative p) f) q m = refl

pub subtracted : (p q : Product) (m : MoreTerms) → sole_name (Terms p (MinusTerm q m)) ≡ None
subtracted (Factors (Unsigned (NumberLiteral ds)) f) q m = refl
subtracted (Factors (Unsigned (TextLiteral t)) f) q m = refl
subtracted (Factors (Unsigned (DateLiteral t)) f) q m = refl
subtracted (Factors (Unsigned (TimestampLiteral t)) f) q m = refl
subtracted (Factors (Unsigned (ColumnNamed r)) NoFactor) q m = refl
subtracted (Factors (Unsigned (ColumnNamed r)) (TimesFactor s f)) q m = refl
subtracted (Factors (Unsigned (Enclosed e)) f) q m = refl
subtracted (Factors (Unsigned CountStar) f) q m = refl
subtracted (Factors (Unsigned (Over g e)) f) q m = refl
subtracted (Factors (Positive p) f) q m = refl
subtracted (Factors (Negative p) f) q m = refl

behind : (p q : Product) (b : Bool) (m : MoreTerms)
    → sole_name (Terms p (with_term (record { is_minus = b; term = q }) m)) ≡ None
behind p q true m = subtracted p q m
behind p q false m = added p q m

no_terms : {A : Type 0} (xs : List (AddedTermIn A)) (p : Product) → length xs ≡ 0
    → sole_name (Terms p (terms_of (map added_of xs))) ≡ sole_factor p
no_terms [] p none = alone p
no_terms (x ∷ xs) p none = absurd (omega arith)

some_terms : {A : Type 0} (xs : List (AddedTermIn A)) (p : Product) → (length xs ≡ 0 → ⊥)
    → sole_name (Terms p (terms_of (map added_of xs))) ≡ None
some_terms [] p some = absurd (some refl)
some_terms (x ∷ xs) p some = behind p (added_of x).term (added_of x).is_minus (terms_of (map added_of xs))

no_factors : {A : Type 0} (xs : List (SignedIn A)) (g : Signed) → length xs ≡ 0
    → sole_factor (Factors g (factors_of (map signed_of xs))) ≡ name_in g
no_factors [] g none = refl
no_factors (x ∷ xs) g none = absurd (omega arith)

some_factors : {A : Type 0} (xs : List (SignedIn A)) (g : Signed) → (length xs ≡ 0 → ⊥)
    → sole_factor (Factors g (factors_of (map signed_of xs))) ≡ None
some_factors [] g some = absurd (some refl)
some_factors (x ∷ xs) g some = refl

-- a vector that is empty, and one that is not
pub empty_items : {X Y : Type 0} (v : Vec X Y) → (vec_len v == 0) ≡ true → length v.items ≡ 0
empty_items v h = let none : vec_len v ≡ 0 = eqb-true (vec_len v) 0 h in omega (arith, v.ok.0)

pub some_items : {X Y : Type 0} (v : Vec X Y) → (vec_len v == 0) ≡ false → length v.items ≡ 0 → ⊥
some_items v h is = let some : vec_len v ≡ 0 → ⊥ = eqb-false (vec_len v) 0 h in omega (arith, v.ok.0)

-- no term after the first
pub sole_alone : {A : Type 0} (e : ExprIn A) → (vec_len (out-ExprIn A e).more == 0) ≡ true
    → sole_name (expr_of e) ≡ sole_factor (term_of (out-ExprIn A e).first)
sole_alone {A} e none = ap sole_name (expr_out e)
    ∙ no_terms (out-ExprIn A e).more.items (term_of (out-ExprIn A e).first) (empty_items (out-ExprIn A e).more none)

-- at least one term after the first
pub sole_behind : {A : Type 0} (e : ExprIn A) → (vec_len (out-ExprIn A e).more == 0) ≡ false
    → sole_name (expr_of e) ≡ None
sole_behind {A} e some = ap sole_name (expr_out e)
    ∙ some_terms (out-ExprIn A e).more.items (term_of (out-ExprIn A e).first) (some_items (out-ExprIn A e).more some)

-- no factor after the first
pub factor_alone : {A : Type 0} (e : TermIn A) → (vec_len (out-TermIn A e).more == 0) ≡ true
    → sole_factor (term_of e) ≡ name_in (signed_of (out-TermIn A e).first)
factor_alone {A} e none = ap sole_factor (term_out e)
    ∙ no_factors (out-TermIn A e).more.items (signed_of (out-TermIn A e).first) (empty_items (out-TermIn A e).more none)

-- at least one factor after the first
pub factor_behind : {A : Type 0} (e : TermIn A) → (vec_len (out-TermIn A e).more == 0) ≡ false
    → sole_factor (term_of e) ≡ None
factor_behind {A} e some = ap sole_factor (term_out e)
    ∙ some_factors (out-TermIn A e).more.items (signed_of (out-TermIn A e).first)
    (some_items (out-TermIn A e).more some)

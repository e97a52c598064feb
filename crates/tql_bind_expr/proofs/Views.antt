-- The specification's trees of the code's trees, one layer at a time.
use Rattle.std.specs.Prelude.{◌≡◌, ℕ, List, map, Box}
use Rattle.std.proofs.Common.{ap, sym, ◌∙◌}
use denote.Ref.{Bor}
use Rattle.tql_spec.specs.Syntax as tree
use Rattle.tql_spec.specs.Syntax.{Sum, Terms, Product, Factors, Signed, Primary}
use Rattle.tql_spec.specs.Parts.{AddedTerm, terms_of, factors_of}
use Rattle.tql_syntax_tree.specs.Expressions.{content_of, function_of, signed_by, expr_of, term_of, signed_of, added_of}
use Rattle.tql_syntax_tree.specs.Expressions.{primary_of, primary_step, added_step, expr_step, signed_step, term_step}
use Rattle.tql_syntax_tree.specs.declared.expression.ExprIn.{ExprIn}
use Rattle.tql_syntax_tree.specs.declared.expression.AddedTermIn.{AddedTermIn}
use Rattle.tql_syntax_tree.specs.declared.expression.TermIn.{TermIn}
use Rattle.tql_syntax_tree.specs.declared.expression.SignedIn.{SignedIn}
use Rattle.tql_syntax_tree.specs.declared.expression.Function.{Function}
use Rattle.tql_syntax_tree.specs.declared.expression.PrimaryIn.{PrimaryIn}
use Rattle.tql_syntax_tree.specs.declared.expression.PrimaryIn.TheFolds.{fold_out-ExprIn, fold_out-AddedTermIn}
use Rattle.tql_syntax_tree.specs.declared.expression.PrimaryIn.TheFolds.{fold_out-TermIn, fold_out-SignedIn}
use Rattle.tql_syntax_tree.specs.declared.expression.PrimaryIn.TheFolds.{fold-roll-PrimaryIn}
use Rattle.tql_syntax_tree.specs.declared.expression.PrimaryIn.TheOpen as layer
use Rattle.tql_syntax_tree.specs.declared.expression.PrimaryIn.TheVariants.{Text, CountStar, Over, rolls-Text}
use Rattle.tql_syntax_tree.specs.declared.expression.PrimaryIn.TheVariants.{rolls-CountStar, rolls-Over}
use Rattle.tql_syntax_tree.specs.declared.expression.PrimaryIn.TheViews.{out-ExprIn, out-AddedTermIn, out-TermIn}
use Rattle.tql_syntax_tree.specs.declared.expression.PrimaryIn.TheViews.{out-SignedIn}

pub expr_out : {A : Type 0} (e : ExprIn A)
    → expr_of e ≡ Terms (term_of (out-ExprIn A e).first) (terms_of (map added_of (out-ExprIn A e).more.items))
expr_out {A} e = fold_out-ExprIn A Primary AddedTerm Sum Signed Product primary_step added_step expr_step signed_step
    term_step e

pub added_out : {A : Type 0} (t : AddedTermIn A)
    → added_of t ≡ record { is_minus = (out-AddedTermIn A t).is_minus; term = term_of (out-AddedTermIn A t).term }
added_out {A} t = fold_out-AddedTermIn A Primary AddedTerm Sum Signed Product primary_step added_step expr_step
    signed_step term_step t

pub term_out : {A : Type 0} (t : TermIn A)
    → term_of t ≡ Factors (signed_of (out-TermIn A t).first) (factors_of (map signed_of (out-TermIn A t).more.items))
term_out {A} t = fold_out-TermIn A Primary AddedTerm Sum Signed Product primary_step added_step expr_step signed_step
    term_step t

pub signed_out : {A : Type 0} (s : SignedIn A)
    → signed_of s ≡ signed_by (out-SignedIn A s).sign (primary_of (out-SignedIn A s).primary)
signed_out {A} s = fold_out-SignedIn A Primary AddedTerm Sum Signed Product primary_step added_step expr_step
    signed_step term_step s

-- ---- variants of a primary

pub text_is : {A : Type 0} (p : PrimaryIn A) (t : Bor (List ℕ)) → p ≡ Text t
    → primary_of p ≡ tree.TextLiteral (content_of t)
text_is {A} p t is =
    ap (λ (q : PrimaryIn A). primary_of q) (is ∙ sym (rolls-Text t))
    ∙ fold-roll-PrimaryIn A Primary AddedTerm Sum Signed Product primary_step added_step expr_step signed_step
    term_step (layer.Text t)

pub count_is : {A : Type 0} (p : PrimaryIn A) → p ≡ CountStar → primary_of p ≡ tree.CountStar
count_is {A} p is =
    ap (λ (q : PrimaryIn A). primary_of q) (is ∙ sym rolls-CountStar)
    ∙ fold-roll-PrimaryIn A Primary AddedTerm Sum Signed Product primary_step added_step expr_step signed_step
    term_step layer.CountStar

pub over_is : {A : Type 0} (p : PrimaryIn A) (f : Function) (e : Box (ExprIn A) A) → p ≡ Over f e
    → primary_of p ≡ tree.Over (function_of f) (expr_of e.value)
over_is {A} p f e is =
    ap (λ (q : PrimaryIn A). primary_of q) (is ∙ sym (rolls-Over f e))
    ∙ fold-roll-PrimaryIn A Primary AddedTerm Sum Signed Product primary_step added_step expr_step signed_step
    term_step (layer.Over f e)

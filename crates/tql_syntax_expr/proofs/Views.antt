-- The specification's trees of operands that are one token.
use Rattle.std.specs.Prelude.{◌≡◌, ℕ, List, None}
use Rattle.std.proofs.Common.{ap, sym, ◌∙◌}
use denote.Ref.{Bor}
use Rattle.tql_spec.specs.Syntax as tree
use Rattle.tql_spec.specs.Syntax.{Sum, Product, Signed, Primary}
use Rattle.tql_spec.specs.Parts.{AddedTerm}
use Rattle.tql_syntax_tree.specs.Expressions.{digits_of, content_of, name_of, primary_of, primary_step, added_step}
use Rattle.tql_syntax_tree.specs.Expressions.{expr_step, signed_step, term_step}
use Rattle.tql_syntax_tree.specs.declared.expression.Name.{Name}
use Rattle.tql_syntax_tree.specs.declared.expression.PrimaryIn.TheFolds.{fold-roll-PrimaryIn}
use Rattle.tql_syntax_tree.specs.declared.expression.PrimaryIn.TheOpen as layer
use Rattle.tql_syntax_tree.specs.declared.expression.PrimaryIn.TheVariants.{Number, Text, Column, rolls-Number}
use Rattle.tql_syntax_tree.specs.declared.expression.PrimaryIn.TheVariants.{rolls-Text, rolls-Column}

pub number_view : (A : Type 0) (ds : Bor (List ℕ)) → primary_of {A = A} (Number ds) ≡ tree.NumberLiteral (digits_of ds)
number_view A ds =
    ap (primary_of {A = A}) (sym (rolls-Number ds))
    ∙ fold-roll-PrimaryIn A Primary AddedTerm Sum Signed Product primary_step added_step expr_step signed_step
    term_step (layer.Number ds)

pub text_view : (A : Type 0) (t : Bor (List ℕ)) → primary_of {A = A} (Text t) ≡ tree.TextLiteral (content_of t)
text_view A t =
    ap (primary_of {A = A}) (sym (rolls-Text t))
    ∙ fold-roll-PrimaryIn A Primary AddedTerm Sum Signed Product primary_step added_step expr_step signed_step
    term_step (layer.Text t)

pub column_view : (A : Type 0) (n : Name)
    → primary_of {A = A} (Column (record { qualifier = None; name = n }))
    ≡ tree.ColumnNamed (record { qualifier = None; name = name_of n })
column_view A n =
    ap (primary_of {A = A}) (sym (rolls-Column (record { qualifier = None; name = n })))
    ∙ fold-roll-PrimaryIn A Primary AddedTerm Sum Signed Product primary_step added_step expr_step signed_step
    term_step (layer.Column (record { qualifier = None; name = n }))

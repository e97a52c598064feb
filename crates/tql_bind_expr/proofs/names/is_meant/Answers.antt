use Rattle.std.proofs.Common.{◌∙◌, ap, sym, option_map}
use Rattle.std.proofs.lemmas.Map.Text.{is_eq-slice_cmp}
use Rattle.tql_spec.specs.Names.{is_meant}
use Rattle.tql_bind_expr.specs.Scopes.{text_of, known_of}
use Rattle.tql_bind_expr.proofs.names.is_meant.Goals as goal

pub returns-in-Some : goal.returns-in-Some
returns-in-Some c =
    c.eq.ensures ∙ sym (is_eq-slice_cmp c.in-Some.name.now c.args.known.now.name.now)
    ∙ ap (λ q. is_meant (option_map text_of q) (known_of c.args.known.now)) (sym c.in-Some.is)

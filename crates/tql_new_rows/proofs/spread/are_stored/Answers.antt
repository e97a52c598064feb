use Rattle.std.proofs.Common.{◌≡◌, ◌∙◌, Bool, true, false, not, refl, sym}
use Rattle.std.proofs.lemmas.Slice.Eq.{bytes_eq-Decides}
use Rattle.tql_dml.proofs.Filling.{given_as_stored}
use Rattle.tql_new_rows.proofs.spread.are_stored.Goals as goal

is_not : (b : Bool) → false ≡ not b → b ≡ true
is_not true h = refl
is_not false h = absurd cc

pub returns : goal.returns
returns c = λ t.
    let same : c.args.columns.now ≡ c.assignable.result.now =
    (bytes_eq-Decides c.args.columns.now c.assignable.result.now).0 (is_not _ c.if-ne.ensures) in
    given_as_stored c.args.definition.now c.args.columns.now c.assignable.ensures.right (same
    ∙ c.assignable.ensures.assignable) (sym c.are_assignable.ensures ∙ t)

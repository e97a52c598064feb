use Rattle.std.proofs.Common.{ap, sym, ◌∙◌, rules, w64}
use Rattle.std.specs.Prelude.{ℤ}
use mir.Val.{SFits, to_z, of_z}
use Rattle.std.proofs.Math.Facts.{to_z-of_z}
use Rattle.tql_spec.specs.Calendar.{read_date}
use Rattle.tql_spec.specs.Datum.{Days, Day}
use Rattle.tql_bind_expr.specs.Bounds.{typed_of}
use Rattle.tql_bind_expr.proofs.Gathering.{sound_ok}
use Rattle.tql_bind_expr.proofs.LiteralLaws.{literal_at}
use Rattle.tql_bind_expr.proofs.literals.date.Goals as goal

pub returns-in-Some-clause-bound : goal.returns-in-Some-clause-bound
returns-in-Some-clause-bound c =
    let x : ℤ = c.in-Some.day in
    let fits : SFits w64 x = search rules in
    let is = ap read_date (sym (c.deref.ensures ∙ c.in_ok-text.ensures)) ∙ sym c.in-Some.ensures.value in
    sound_ok _ _ (typed_of c.literal.new.terms) _ _
    (literal_at Days Day _ x (to_z w64 (of_z w64 x)) is (to_z-of_z fits)) c.literal.ensures.bound

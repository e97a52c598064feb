use Rattle.std.proofs.Common.{◌++◌, ◌≡◌, IfOk, rules, subst, sym, w64}
use Rattle.std.proofs.Math.Facts.{to_z-of_z}
use Rattle.std.specs.Prelude.{string_bytes, ℤ}
use mir.Val.{SFits}
use Rattle.tql_spec.specs.Datum.{Moment}
use Rattle.tql_value.specs.Views.{datum_of_view}
use Rattle.tql_value.specs.declared.value.View.{View}
use Rattle.tql_literal.specs.Literals.{literal_text}
use Rattle.tql_literal.proofs.literal.push_literal.Goals as goal

pub returns-in-Moment : goal.returns-in-Moment
returns-in-Moment c =
    let fits : SFits w64 c.in-Moment.moment = search rules in
    let told = subst (λ (z : ℤ). IfOk c.push_timestamp.result (λ _. string_bytes c.push_timestamp.new.literal
    ≡ string_bytes c.args.literal.now ++ literal_text (Moment z))) (to_z-of_z fits) c.push_timestamp.ensures in
    subst (λ (v : View). IfOk c.push_timestamp.result (λ _. string_bytes c.push_timestamp.new.literal
    ≡ string_bytes c.args.literal.now ++ literal_text (datum_of_view v))) (sym c.in-Moment.is) told

use Rattle.std.proofs.Common.{[], ◌∷◌, ◌++◌, ◌≡◌, subst}
use Rattle.std.proofs.Math.Facts.{to_z-of_z}
use Rattle.std.specs.Prelude.{codes, string_bytes, ℤ}
use Rattle.tql_spec.specs.Datum.{Day}
use Rattle.tql_spec.specs.Text.{cell_text}
use Rattle.tql_literal.proofs.Joined.{three}
use Rattle.tql_literal.proofs.literal.push_date.Goals as goal

pub returns : goal.returns
returns c =
    let text = subst
    (λ (z : ℤ). string_bytes c.push_day.new.text ≡ string_bytes c.push_str.new.self ++ cell_text (Day z))
    (to_z-of_z c.ranges.day) c.in_ok-push_day.ensures in
    three (string_bytes c.args.literal.now) (string_bytes c.push_str.new.self) (string_bytes c.push_day.new.text)
    (string_bytes c.push_str-2.new.self) (codes "DATE '") (cell_text (Day c.args.day)) (39 ∷ [])
    c.in_ok-push_str.ensures.bytes text
    c.in_ok-push_str-2.ensures.bytes

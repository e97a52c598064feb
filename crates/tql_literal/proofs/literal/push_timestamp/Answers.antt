use Rattle.std.proofs.Common.{[], ◌∷◌, ◌++◌, ◌≡◌, subst}
use Rattle.std.proofs.Math.Facts.{to_z-of_z}
use Rattle.std.specs.Prelude.{codes, string_bytes, ℤ}
use Rattle.tql_spec.specs.Datum.{Moment}
use Rattle.tql_spec.specs.Text.{cell_text}
use Rattle.tql_literal.proofs.Joined.{three}
use Rattle.tql_literal.proofs.literal.push_timestamp.Goals as goal

pub returns : goal.returns
returns c =
    let text = subst
    (λ (z : ℤ). string_bytes c.push_moment.new.text ≡ string_bytes c.push_str.new.self ++ cell_text (Moment z))
    (to_z-of_z c.ranges.moment) c.in_ok-push_moment.ensures in
    three (string_bytes c.args.literal.now) (string_bytes c.push_str.new.self) (string_bytes c.push_moment.new.text)
    (string_bytes c.push_str-2.new.self) (codes "TIMESTAMP '") (cell_text (Moment c.args.moment)) (39 ∷ [])
    c.in_ok-push_str.ensures.bytes text
    c.in_ok-push_str-2.ensures.bytes

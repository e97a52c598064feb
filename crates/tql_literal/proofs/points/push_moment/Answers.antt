use Rattle.std.proofs.Common.{arith, ◌<◌, ◌++◌, ◌∙◌, ap, List, ℕ}
use Rattle.std.specs.Prelude.{string_bytes}
use Rattle.std.proofs.Math.Facts.{to_z-of_z}
use Rattle.tql_result.proofs.Clock.{moment_text}
use Rattle.tql_result_laws.proofs.Dates.{micros_short}
use Rattle.tql_literal.proofs.Ascii.{clock_ascii, valid_ascii}
use Rattle.tql_literal.proofs.Joined.{three_are}
use Rattle.tql_literal.proofs.points.push_moment.Goals as goal

pub push_ascii-requires : goal.push_ascii-requires
push_ascii-requires c = valid_ascii _ _ _ _ c.moment_parts-parts.ensures.valid c.date_bytes.ensures

pub push_ascii-requires-2 : goal.push_ascii-requires-2
push_ascii-requires-2 c =
    let parts = c.moment_parts-parts.ensures in
    let few = micros_short c.args.moment in
    let hour : c.moment_parts-parts.result.hour < 100 = omega (arith, parts.hour, few) in
    let minute : c.moment_parts-parts.result.minute < 100 = omega (arith, parts.minute) in
    let second : c.moment_parts-parts.result.second < 100 = omega (arith, parts.second) in
    clock_ascii _ _ _ _ hour minute second c.clock_bytes.ensures

pub returns : goal.returns
returns c =
    let parts = c.moment_parts-parts.ensures in
    three_are _ _ _ _ _ _ _ _
    (c.in_ok-push_ascii.ensures ∙ ap (λ (l : List ℕ). string_bytes c.args.text.now ++ l) c.date_bytes.ensures)
    (c.in_ok-push_ascii-2.ensures ∙ ap (λ (l : List ℕ). string_bytes c.push_ascii.new.text ++ l) c.clock_bytes.ensures)
    c.in_ok-push_fraction.ensures
    (moment_text 32 (to_z-of_z c.ranges.moment) parts.date parts.hour parts.minute parts.second parts.microsecond)

use Rattle.std.proofs.Common.{◌≤ℤ◌, ◌<ℤ◌, arith, inl, inr}
use Rattle.std.specs.Prelude.{◌⊎◌}
use Rattle.std.proofs.Math.Facts.{to_z-of_z}
use Rattle.std.proofs.lemmas.Int.{ints}
use Rattle.tql_spec.specs.Calendar.{high}
use Rattle.tql_pinned.proofs.Questions.{range-cut, range-none, range-stays}
use Rattle.tql_pinned.proofs.asking.range_at.Goals as goal
use Rattle.tql_pinned.proofs.asking.range_at.Goals.{else-start-end-via-then-start-end+else-start-lt-HIGH}
use Rattle.tql_pinned.proofs.asking.range_at.Goals.{else-start-end-via-else-start-end}

pub returns-else-start-end : goal.returns-else-start-end
returns-else-start-end c =
    let p = to_z-of_z c.ranges.pin in
    let a = to_z-of_z c.ranges.start in
    let b = to_z-of_z c.ranges.end in
    let t = c.if-pin-start.true in
    let later : c.args.pin <ℤ c.args.start = grind (arith, ints, p, a, t) in
    let empty : (c.args.end ≤ℤ c.args.start) ⊎ (high ≤ℤ c.args.start) = elim c.else-start-end.branch [
      | else-start-end-via-then-start-end+else-start-lt-HIGH w ↦
          inr (let u = w.if-start-lt-HIGH.false in grind (arith, ints, a, u))
      | else-start-end-via-else-start-end w ↦ inl (let u = w.if-start-end.false in grind (arith, ints, a, b, u))
    ] in
    rw (a, b) (range-none c.args.pin c.args.start c.args.end later empty)

pub returns-then-pin-end : goal.returns-then-pin-end
returns-then-pin-end c =
    let p = to_z-of_z c.ranges.pin in
    let a = to_z-of_z c.ranges.start in
    let b = to_z-of_z c.ranges.end in
    let t = c.if-pin-start.false in
    let u = c.if-pin-end.true in
    let from : c.args.start ≤ℤ c.args.pin = grind (arith, ints, p, a, t) in
    let to : c.args.pin <ℤ c.args.end = grind (arith, ints, p, b, u) in
    rw (p, a) (range-cut c.args.pin c.args.start c.args.end from to)

pub returns-else-pin-end : goal.returns-else-pin-end
returns-else-pin-end c =
    let p = to_z-of_z c.ranges.pin in
    let a = to_z-of_z c.ranges.start in
    let b = to_z-of_z c.ranges.end in
    let t = c.if-pin-start.false in
    let u = c.if-pin-end.false in
    let from : c.args.start ≤ℤ c.args.pin = grind (arith, ints, p, a, t) in
    let to : c.args.end ≤ℤ c.args.pin = grind (arith, ints, p, b, u) in
    rw (a, b) (range-stays c.args.pin c.args.start c.args.end from to)

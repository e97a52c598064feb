use Rattle.std.proofs.Common.{◌≡◌, pos, to_z, w64, arith}
use Rattle.std.proofs.lemmas.Int.{to_z_pos}
use Rattle.tql_value.proofs.JiffDays.{first_plus-IsEpochDay, first_plus-HasParts}
use Rattle.tql_value.proofs.calendar.date_after.Goals as goal

pub unwrap-found-requires : goal.unwrap-found-requires
unwrap-found-requires c =
    let ymd = rw (← c.to_plain-first.ensures) at c.date.ensures in
    let same : to_z w64 c.args.days ≡ pos c.args.days = to_z_pos w64 c.args.days (omega arith) in
    c.checked_add.ensures.succeeds.1
    (rw same (first_plus-IsEpochDay c.to_plain-first.result c.args.days c.requires ymd))

pub returns : goal.returns
returns c =
    let ymd = rw (← c.to_plain-first.ensures) at c.date.ensures in
    let same : to_z w64 c.args.days ≡ pos c.args.days = to_z_pos w64 c.args.days (omega arith) in
    let value = rw c.unwrap-found.ensures at c.checked_add.ensures.value in
    rw c.from_plain.ensures
    (first_plus-HasParts c.to_plain-first.result c.unwrap-found.result c.args.days c.requires ymd
    (rw same at value))

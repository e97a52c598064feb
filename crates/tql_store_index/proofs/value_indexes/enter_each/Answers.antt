use Rattle.std.proofs.Common.{◌≡◌, ◌<◌, ◌≤◌, length, rules, arith, sym, subst}
use Rattle.std.specs.Prelude.{None, slice_index_or}
use Rattle.std.proofs.lemmas.Grind.{common_steps}
use Rattle.tql_period.specs.Points.{points_of}
use Rattle.tql_store_index.specs.Basis.{filed}
use Rattle.tql_store_index.specs.Standing.{stands}
use Rattle.tql_store_index.specs.ValueIndexes.{ValueIndex, index_at}
use Rattle.tql_store_index.proofs.Linking.{Entered, entered_at, entered_turned, refused_turned, unturned}
use Rattle.tql_store_index.proofs.value_indexes.enter_each.Given as given
use Rattle.tql_store_index.proofs.value_indexes.enter_each.Goals as goal

-- the next index has not changed
next : (g : given.Over) (c : goal.After-index-indexes-i g)
    → slice_index_or c.loop-i.indexes c.loop-i.i c.index-indexes-i.result ≡ index_at c.args.indexes.now c.loop-i.i
next g c =
    unturned
    (Entered c.args.place (filed c.args.row.now (points_of c.args.during)) c.args.seats.now)
    c.loop-i.i c.args.indexes.now c.loop-i.indexes c.index-indexes-i.result
    (first_of (search rules, grind (arith, common_steps))) c.loop-i.invariant

pub enter-requires-clause-there : goal.enter-requires-clause-there
enter-requires-clause-there g c =
    let w = c.requires.wide c.loop-i.i (first_of (search rules, grind (arith, common_steps))) in
    let s = c.seat-seat.ensures.within in
    subst (λ (k : ValueIndex). c.seat-seat.result < length k.standing) (sym (next g c)) (omega (arith, w, s))

pub enter-requires-clause-loose : goal.enter-requires-clause-loose
enter-requires-clause-loose g c =
    let l = c.requires.loose c.loop-i.i (first_of (search rules, grind (arith, common_steps))) in
    subst (λ (k : ValueIndex). stands k.standing c.seat-seat.result ≡ None) (sym (next g c))
    (subst (λ i. stands (index_at c.args.indexes.now c.loop-i.i).standing i ≡ None) (sym c.seat-seat.ensures.seat) l)

pub loop-i-preserved : goal.loop-i-preserved
loop-i-preserved g c =
    entered_at c.args.place c.seat-seat.result c.loop-i.i
    (filed c.args.row.now (points_of c.args.during)) c.args.seats.now c.args.indexes.now
    c.loop-i.indexes c.index-indexes-i.result c.enter.new.self c.seat-seat.ensures.seated
    c.requires.there c.seat-seat.ensures.seat (first_of (search rules, grind (arith, common_steps))) c.requires.wide
    c.in_ok-enter.ensures.ok c.loop-i.invariant

pub returns-in_err-enter-clause-each : goal.returns-in_err-enter-clause-each
returns-in_err-enter-clause-each g c =
    refused_turned c.args.place c.loop-i.i
    (filed c.args.row.now (points_of c.args.during)) c.args.seats.now c.args.indexes.now
    c.loop-i.indexes c.index-indexes-i.result c.enter.new.self (first_of (search rules, grind (arith, common_steps)))
    c.in_err-enter.ensures.err c.loop-i.invariant

pub returns-clause-each : goal.returns-clause-each
returns-clause-each g c =
    entered_turned c.args.place c.loop-i.i
    (filed c.args.row.now (points_of c.args.during)) c.args.seats.now c.args.indexes.now
    c.loop-i.indexes c.loop-i.invariant

pub returns-clause-came : goal.returns-clause-came
returns-clause-came g c = λ i l.
    let e : length c.args.indexes.now ≤ c.loop-i.i = first_of (search rules, grind (arith, common_steps)) in
    (c.loop-i.invariant.turned i (omega (arith, e, l))).1

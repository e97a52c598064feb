use Rattle.std.proofs.Common.{sym, subst, ◌∙◌, ℕ, List, length, arith}
use Rattle.std.specs.Prelude.{◌≤◌, IsFalse}
use Rattle.tql_journal.specs.Reading.{IsReadOf, IsHeadless, IsRestOf, is_damaged}
use Rattle.tql_journal.proofs.ReadLemmas.{reads_first, reads_next, read_all, read_headless, loop_ends, room_first}
use Rattle.tql_journal.proofs.reader.read_journal.Goals as goal
use Rattle.tql_journal.proofs.reader.read_journal.Goals.{then-loop-may_go_on-test+else-not-is_ended}
use Rattle.tql_journal.proofs.reader.read_journal.Goals.{else-loop-may_go_on-test}
use Rattle.tql_journal.proofs.reader.read_journal.Goals.{then-may_go_on, else-may_go_on}

pub returns-in_default : goal.returns-in_default
returns-in_default g c =
    read_headless c.args.sought.now (g.R.Read.remaining c.args.reader.now) (g.R.Read.remaining c.fill.new.reader) _
    c.fill.new.self c.without_head.result c.in_ok-is_ended.is_ended c.in_ok-is_ended.ensures
    c.in_ok-window.ensures.bytes c.in_ok-window.ensures.total (c.without_head.ensures.size ∙ c.total.ensures)
    (subst (λ (z : List ℕ). IsHeadless c.args.sought.now z c.without_head.result) c.view-in_default.ensures
    (c.without_head.ensures.found c.args.sought.now))
    (subst (λ (z : List ℕ). IsFalse (is_damaged c.without_head.result.rest) → length z ≤ 17)
    c.view-in_default.ensures c.without_head.ensures.short)

pub take_entries-may_go_on-requires-clause-end : goal.take_entries-may_go_on-requires-clause-end
take_entries-may_go_on-requires-clause-end g c =
    room_first (g.R.Read.remaining c.args.reader.now) (g.R.Read.remaining c.fill.new.reader) _ c.fill.new.self
    c.skip.new.self c.in_ok-is_ended.is_ended c.after_head-found.result.end c.in_ok-is_ended.ensures
    c.in_ok-window.ensures.bytes c.in_ok-window.ensures.total c.skip.ensures.bytes c.after_head-found.ensures.end

pub take_entries-may_go_on-requires-clause-statements : goal.take_entries-may_go_on-requires-clause-statements
take_entries-may_go_on-requires-clause-statements g c =
    let s = c.after_head-found.ensures.statements in omega (arith, s)

pub take_entries-may_go_on-requires-clause-lines : goal.take_entries-may_go_on-requires-clause-lines
take_entries-may_go_on-requires-clause-lines g c =
    let s = c.after_head-found.ensures.lines in
    let e = c.after_head-found.ensures.end in
    omega (arith, s, e)

pub loop-may_go_on-init : goal.loop-may_go_on-init
loop-may_go_on-init g c = record {
  reads = reads_first c.args.sought.now (g.R.Read.remaining c.args.reader.now) (g.R.Read.remaining c.fill.new.reader) _
      c.fill.new.self c.skip.new.self c.take_entries-may_go_on.new.window c.after_head-found.result
      c.take_entries-may_go_on.new.found c.in_ok-is_ended.is_ended c.take_entries-may_go_on.result
      c.in-Some.field-0.now c.in_ok-is_ended.ensures c.in_ok-window.ensures.bytes c.in_ok-window.ensures.total
      (sym c.view.ensures ∙ c.in-Some.ensures) c.skip.ensures.bytes c.skip.ensures.total
      (c.after_head-found.ensures.is c.args.sought.now) c.take_entries-may_go_on.ensures;
}

pub loop-may_go_on-smaller : goal.loop-may_go_on-smaller
loop-may_go_on-smaller g c =
    loop_ends c.args.sought.now (g.R.Read.remaining c.args.reader.now) (g.R.Read.remaining c.loop-may_go_on.reader)
    (g.R.Read.remaining c.fill-in-loop-may_go_on.new.reader) c.loop-may_go_on.window c.fill-in-loop-may_go_on.new.self
    c.loop-may_go_on.found c.loop-may_go_on.is_ended c.loop-may_go_on.may_go_on c.in_ok-is_ended-2.is_ended
    c.take_entries-may_go_on-in-loop-may_go_on.new.window.total c.loop-may_go_on.invariant.reads
    c.loop-may_go_on-test.true c.if-not-is_ended.true c.in_ok-is_ended-2.ensures
    c.take_entries-may_go_on-in-loop-may_go_on.ensures.total

pub loop-may_go_on-preserved : goal.loop-may_go_on-preserved
loop-may_go_on-preserved g c = record {
  reads = reads_next c.args.sought.now (g.R.Read.remaining c.args.reader.now)
      (g.R.Read.remaining c.loop-may_go_on.reader) (g.R.Read.remaining c.fill-in-loop-may_go_on.new.reader)
      c.loop-may_go_on.window c.fill-in-loop-may_go_on.new.self
      c.take_entries-may_go_on-in-loop-may_go_on.new.window c.loop-may_go_on.found
      c.take_entries-may_go_on-in-loop-may_go_on.new.found c.loop-may_go_on.is_ended c.loop-may_go_on.may_go_on
      c.in_ok-is_ended-2.is_ended c.take_entries-may_go_on-in-loop-may_go_on.result c.loop-may_go_on.invariant.reads
      c.in_ok-is_ended-2.ensures c.take_entries-may_go_on-in-loop-may_go_on.ensures;
}

pub returns : goal.returns
returns g c =
    let bytes : List ℕ = c.loop-may_go_on.window.bytes in
    subst (λ n. IsReadOf (g.R.Read.remaining c.args.reader.now) (g.R.Read.remaining c.loop-may_go_on.reader)
    c.args.sought.now (record c.loop-may_go_on.found { rest = c.if-may_go_on.found; size = n })) (sym c.total-2.ensures)
    (read_all c.args.sought.now (g.R.Read.remaining c.args.reader.now) (g.R.Read.remaining c.loop-may_go_on.reader)
    c.loop-may_go_on.window c.loop-may_go_on.found c.loop-may_go_on.is_ended c.loop-may_go_on.may_go_on
    c.if-may_go_on.found c.loop-may_go_on.invariant.reads
    (λ e. (
      elim c.loop-may_go_on-test.branch [
        | then-loop-may_go_on-test+else-not-is_ended w ↦ w.if-not-is_ended.false
        | else-loop-may_go_on-test w ↦ absurd (let q = sym e ∙ w.loop-may_go_on-test.false in cc)
      ],
      elim c.if-may_go_on.branch [
        | then-may_go_on w ↦ subst (λ k. IsRestOf bytes k) (sym w.found-is)
            (subst (λ (z : List ℕ). IsRestOf z w.rest_of-found.result) w.view-then-may_go_on.ensures
            w.rest_of-found.ensures)
        | else-may_go_on w ↦ absurd (let q = sym e ∙ w.if-may_go_on.false in cc)
      ],
    ))
    (λ e. elim c.if-may_go_on.branch [
      | then-may_go_on w ↦ absurd (let q = sym e ∙ w.if-may_go_on.true in cc)
      | else-may_go_on w ↦ w.found-is
    ]))

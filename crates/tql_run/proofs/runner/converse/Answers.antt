use Rattle.std.proofs.Common.{refl, sym, subst, [], ◌∙◌, ◌≡◌, ◌≤◌, ◌++◌, ℕ, inl, inr, arith, take, length, length-take}
use Rattle.tql_result.specs.Devices.{HasFailed}
use Rattle.tql_run.specs.Runs.{most_pulls}
use Rattle.tql_run.proofs.Kept.{kept_first, kept_fed, kept_through, keeps_none}
use Rattle.tql_run.proofs.Writing.{wrote_fed, goes_on, at_going}
use Rattle.tql_run.proofs.Conversing.{converse_first, script_short, failed_writing, failed_reading, gives_kept}
use Rattle.tql_run.proofs.Conversing.{met_end, none_taken, reads_more, ended_run, stopped_run, all_counted}
use Rattle.tql_run.proofs.runner.converse.Goals as goal

pub loop-pull-init : goal.loop-pull-init
loop-pull-init g c = record {
  run = converse_first _ _ _ _ (record {
    statements = 0;
    refused = 0;
  }) _ _ _ _ c.in_ok-script.ensures.holds c.in_ok-script.ensures.ready c.in_ok-script.ensures.open refl refl;
  kept = kept_first _ _ _ _ (record { passed = []; left = []; holds = c.in_ok-script.ensures.holds });
}

pub returns-in_err-script-clause-kept : goal.returns-in_err-script-clause-kept
returns-in_err-script-clause-kept g c s st = keeps_none _ s _ _ _ st refl

pub returns-in-Err-clause-runs : goal.returns-in-Err-clause-runs
returns-in-Err-clause-runs g c before fresh s st =
    let i = c.loop-pull.invariant.run in
    let few : c.loop-pull._pull ≤ most_pulls = omega arith in
    failed_writing _ s i.script _ _ _ _ _ _ (c.in-Err.ensures.tallies.ended ∙ i.unended) i.reads
    (c.in-Err.ensures.answers before s i.script _ (script_short _ i.script _ few i.reads) (i.wrote before fresh s st))

pub returns-then-is_stopped-clause-runs : goal.returns-then-is_stopped-clause-runs
returns-then-is_stopped-clause-runs g c before fresh s st =
    let i = c.loop-pull.invariant.run in
    let few : c.loop-pull._pull ≤ most_pulls = omega arith in
    stopped_run _ before s _ _ _ _ _ _ _ _ _ _ _ _ _ _ _ i fresh st refl c.in-Ok.ensures.tallies.ended
    c.in-Ok.ensures.tallies.grown (sym c.is_stopped.ensures ∙ c.if-is_stopped.true) c.in-Ok.ensures.flushed
    (c.in-Ok.ensures.answers before s i.script _ (script_short _ i.script _ few i.reads) (i.wrote before fresh s st))

pub returns-in-Err-pull_flushed-clause-runs : goal.returns-in-Err-pull_flushed-clause-runs
returns-in-Err-pull_flushed-clause-runs g c before fresh s st =
    let i = c.loop-pull.invariant.run in
    let few : c.loop-pull._pull ≤ most_pulls = omega arith in
    let p = c.in-Err-pull_flushed.ensures.pulls in
    failed_reading _ s i.script _ _ _ _ _ _ _ (c.in-Ok.ensures.tallies.ended ∙ i.unended)
    (sym c.is_stopped.ensures ∙ c.if-is_stopped.false)
    (gives_kept _ _ _ i.script _ refl i.reads.given p.given)
    (record {
      unmet = p.told;
      cause = inl (subst (λ (n : ℕ). HasFailed n
          (g.I.Input.failures c.pull_flushed.new.source)) i.reads.steady p.counted);
    })
    c.in-Ok.ensures.flushed
    (at_going _ _ _ (sym c.is_stopped.ensures ∙ c.if-is_stopped.false)
    (c.in-Ok.ensures.answers before s i.script _ (script_short _ i.script _ few i.reads) (i.wrote before fresh s
    st)).is)

pub returns-then-count-eq0-clause-runs : goal.returns-then-count-eq0-clause-runs
returns-then-count-eq0-clause-runs g c before fresh s st =
    let i = c.loop-pull.invariant.run in
    let few : c.loop-pull._pull ≤ most_pulls = omega arith in
    let p = c.in-Ok-pull_flushed.ensures.pulls in
    let w = at_going _ _ _ (sym c.is_stopped.ensures ∙ c.if-is_stopped.false)
    (c.in-Ok.ensures.answers before s i.script _ (script_short _ i.script _ few i.reads) (i.wrote before fresh s
    st)).is in
    let unended = c.in-Ok.ensures.tallies.ended ∙ i.unended in
    ended_run _ s i.script _ _ _ c.answer_rest.result _ _ _ (all_counted _ s i.script _ _ _ _ _ _ unended w)
    (goes_on c.args.bail c.answer_flushed.new.summary (sym c.is_stopped.ensures ∙ c.if-is_stopped.false))
    c.answer_rest.ensures.grown
    (gives_kept _ _ _ i.script _ (none_taken _ _ c.if-count-eq0.true) i.reads.given p.given)
    (met_end _ _ _ i.script _ _ _ _ _ i.reads p c.if-count-eq0.true
    (omega (arith, c.requires.room, c.loop-pull.auto.buffer)))
    (c.answer_rest.ensures.ends before s i.script _ (script_short _ i.script _ few i.reads) w.to)

pub loop-pull-preserved : goal.loop-pull-preserved
loop-pull-preserved g c =
    let i = c.loop-pull.invariant.run in
    let few : c.loop-pull._pull ≤ most_pulls = omega arith in
    let p = c.in-Ok-pull_flushed.ensures.pulls in
    let count = c.in-Ok-pull_flushed.count in
    let within = c.in-Ok-pull_flushed.ensures.within in
    let bytes = take count c.pull_flushed.new.buffer in
    let small : length c.pull_flushed.new.buffer ≤ 65_536 =
    omega (arith, c.requires.small, c.loop-pull.auto.buffer, c.pull_flushed.auto.buffer) in
    let fits : count ≤ length c.pull_flushed.new.buffer = omega (arith, within, c.pull_flushed.auto.buffer) in
    let size : length bytes ≡ count = omega (arith, length-take count c.pull_flushed.new.buffer, fits) in
    let unended = c.in-Ok.ensures.tallies.ended ∙ i.unended in
    record {
      run = record {
        script = i.script ++ bytes;
        reads = reads_more _ _ count i.script c.pull_flushed.new.buffer bytes _ _ _ _ i.reads p c.if-count-eq0.false
            fits small refl;
        wrote = λ before fresh s st. wrote_fed _ s i.script bytes _ _ _ _ _ _ _ unended
            (at_going _ _ _ (sym c.is_stopped.ensures ∙ c.if-is_stopped.false)
            (c.in-Ok.ensures.answers before s i.script _ (script_short _ i.script _ few i.reads) (i.wrote before fresh s
            st)).is).to
            c.feed.ensures;
        unended = c.feed.ensures.ended ∙ unended;
        room = omega (arith, i.room, c.in-Ok.ensures.tallies.room, c.feed.ensures.more, size, fits, small);
        fewer = let grown = c.in-Ok.ensures.tallies.grown in omega (arith, grown, i.fewer);
        going = goes_on c.args.bail c.answer_flushed.new.summary (sym c.is_stopped.ensures ∙ c.if-is_stopped.false);
        before = i.script;
        last = bytes;
        parts = refl;
        small = omega (arith, size, fits, small);
        asked = λ before fresh s st.
            let all = all_counted _ s i.script _ _ _ _ _ _ unended
            (at_going _ _ _ (sym c.is_stopped.ensures ∙ c.if-is_stopped.false)
            (c.in-Ok.ensures.answers before s i.script _ (script_short _ i.script _ few i.reads) (i.wrote before fresh s
            st)).is) in
            omega (arith, all);
      };
      kept = kept_fed _ _ _ _ _ _ _ _ (kept_through _ _ _ _ _ _ _ _ _ c.loop-pull.invariant.kept c.in-Ok.ensures.kept)
          c.feed.ensures;
    }

pub returns-in-Ok-answer_flushed-clause-runs : goal.returns-in-Ok-answer_flushed-clause-runs
returns-in-Ok-answer_flushed-clause-runs g c before fresh s st =
    let i = c.loop-pull.invariant.run in
    let few : c.loop-pull._pull ≤ most_pulls = omega arith in
    stopped_run _ before s _ _ _ _ _ _ _ _ _ _ _ _ _ _ _ i fresh st refl c.in-Ok-answer_flushed.ensures.tallies.ended
    c.in-Ok-answer_flushed.ensures.tallies.grown (sym c.if-is_stopped-2.ensures)
    c.in-Ok-answer_flushed.ensures.flushed
    (c.in-Ok-answer_flushed.ensures.answers before s i.script _ (script_short _ i.script _ few i.reads) (i.wrote
    before fresh s st))

pub returns-in-Ok-2-clause-runs : goal.returns-in-Ok-2-clause-runs
returns-in-Ok-2-clause-runs g c before fresh s st =
    let i = c.loop-pull.invariant.run in
    let few : c.loop-pull._pull ≤ most_pulls = omega arith in
    let all : most_pulls ≤ length i.script = omega (arith, i.reads.grown, c.loop-pull-test.false) in
    let going = sym c.if-is_stopped-2.ensures in
    failed_reading _ s i.script _ _ _ _ _ _ _ (c.in-Ok-2.ensures.tallies.ended ∙ i.unended)
    going i.reads.given
    (record { unmet = i.reads.unmet (omega (arith, c.loop-pull-test.false)); cause = inr all })
    c.in-Ok-2.ensures.flushed
    (at_going _ _ _ going
    (c.in-Ok-2.ensures.answers before s i.script _ (script_short _ i.script _ few i.reads) (i.wrote before fresh s
    st)).is)

pub returns-clause-runs : goal.returns-clause-runs
returns-clause-runs g c before fresh s st =
    let i = c.loop-pull.invariant.run in
    let few : c.loop-pull._pull ≤ most_pulls = omega arith in
    failed_writing _ s i.script _ _ _ _ _ _ (c.in-Err-answer_flushed.ensures.tallies.ended ∙ i.unended) i.reads
    (c.in-Err-answer_flushed.ensures.answers before s i.script _ (script_short _ i.script _ few i.reads)
    (i.wrote before fresh s st))

pub returns-in-Err-clause-kept : goal.returns-in-Err-clause-kept
returns-in-Err-clause-kept g c s st =
    (kept_through _ _ _ _ _ _ _ _ _ c.loop-pull.invariant.kept c.in-Err.ensures.kept).keeps s st

pub returns-then-is_stopped-clause-kept : goal.returns-then-is_stopped-clause-kept
returns-then-is_stopped-clause-kept g c s st =
    (kept_through _ _ _ _ _ _ _ _ _ c.loop-pull.invariant.kept c.in-Ok.ensures.kept).keeps s st

pub returns-in-Err-pull_flushed-clause-kept : goal.returns-in-Err-pull_flushed-clause-kept
returns-in-Err-pull_flushed-clause-kept g c s st =
    (kept_through _ _ _ _ _ _ _ _ _ c.loop-pull.invariant.kept c.in-Ok.ensures.kept).keeps s st

pub returns-then-count-eq0-clause-kept : goal.returns-then-count-eq0-clause-kept
returns-then-count-eq0-clause-kept g c s st =
    (kept_through _ _ _ _ _ _ _ _ _ (kept_through _ _ _ _ _ _ _ _ _ c.loop-pull.invariant.kept c.in-Ok.ensures.kept)
    c.answer_rest.ensures.kept).keeps s st

pub returns-in-Ok-answer_flushed-clause-kept : goal.returns-in-Ok-answer_flushed-clause-kept
returns-in-Ok-answer_flushed-clause-kept g c s st =
    (kept_through _ _ _ _ _ _ _ _ _ c.loop-pull.invariant.kept c.in-Ok-answer_flushed.ensures.kept).keeps s st

pub returns-in-Ok-2-clause-kept : goal.returns-in-Ok-2-clause-kept
returns-in-Ok-2-clause-kept g c s st =
    (kept_through _ _ _ _ _ _ _ _ _ c.loop-pull.invariant.kept c.in-Ok-2.ensures.kept).keeps s st

pub returns-clause-kept : goal.returns-clause-kept
returns-clause-kept g c s st =
    (kept_through _ _ _ _ _ _ _ _ _ c.loop-pull.invariant.kept c.in-Err-answer_flushed.ensures.kept).keeps s st

-- From a run over a source and a sink to one over bytes in memory.
use Rattle.std.proofs.Common.{◌≡◌, refl, sym, ◌∙◌, ap, subst, ℕ, arith, Bool, true, false, List, [], ◌∷◌, ◌++◌}
use Rattle.std.proofs.Common.{length, map, Some, Ok, Err, inl, inr, append-nil, length-append, ◌<◌, ◌≤◌}
use Rattle.std.specs.Prelude.{◌⊎◌, ◌^◌, ◌-◌, Result, MatchBool, IsFalse, IsTrue}
use Rattle.tql_spec.specs.Machine.{State, Reply}
use Rattle.tql_spec.specs.Answer.{Answer, Replied, Accepted}
use Rattle.tql_spec.specs.Script.{Piece, statements}
use Rattle.tql_spec.specs.Text.{reply_text, replies_text, answers_text}
use Rattle.tql_spec.specs.Run.{Run, RunBy}
use Rattle.tql_result.specs.Devices.{Appends, HasFailed}
use Rattle.tql_run.specs.Hearing.{HearingChange}
use Rattle.tql_run.specs.Responding.{Standing}
use Rattle.tql_run.specs.Runs.{Runs, RunsWhole, StopsReading, NothingRun, SourceChange, SinkChange, Gives, MeetsEnd}
use Rattle.tql_run.specs.Runs.{MissesEnd, Counts, CutsLast, answered, most_pulls}
use Rattle.tql_run.specs.Runs as run
use Rattle.tql_run.specs.declared.runner.Summary.{Summary}
use Rattle.tql_run.specs.declared.runner.Fault.{Fault}
use Rattle.tql_run.specs.declared.runner.Fault.TheVariants.{Read, Write, Memory}
use Rattle.tql_engine.specs.Bytes.{WritesWhole, StopsWriting, RunsBytes}
use Rattle.tql_run.specs.Ending.{AllEndSurely, Responds}

-- ---- replies

-- answers that are the replies of the reference model
pub record Replying (old : State) (pieces : List Piece) (answers : List Answer) (new : State) : Type 0 where
  pub replies : List Reply
  pub all : answers ≡ map Replied replies
  pub ran : Run old pieces replies new
  pub ends : AllEndSurely pieces replies

pub replying : (old : State) (pieces : List Piece) (answers : List Answer) (new : State)
    → RunBy Responds old pieces answers new → Replying old pieces answers new
replying old [] [] new r = record { replies = []; all = refl; ran = r; ends = tt }
replying old (p ∷ ps) (Replied x ∷ xs) new (mid, a, r) =
    let later = replying mid ps xs new r in
    record {
      replies = x ∷ later.replies;
      all = ap (λ (l : List Answer). Replied x ∷ l) later.all;
      ran = (mid, a.0, later.ran);
      ends = (a.1, later.ends);
    }
replying old (p ∷ ps) (Accepted ∷ xs) new (mid, a, r) = absurd a
replying old [] (x ∷ xs) new r = absurd r
replying old (p ∷ ps) [] new r = absurd r

-- the texts of the answers are those of the replies
texts_are : (replies : List Reply) → answers_text (map Replied replies) ≡ replies_text replies
texts_are [] = refl
texts_are (r ∷ rs) = ap (λ (l : List ℕ). reply_text r ++ l) (texts_are rs)

-- ---- a source and a sink over memory

-- the source had these bytes, and cannot fail
pub record InMemory (script : List ℕ) (source : SourceChange) : Type 0 where
  pub had : source.left_old ≡ Some script
  pub before : source.failures_old ≡ 0
  pub now : source.failures_new ≡ 0
  pub short : length script < most_pulls

some_inj : {X : Type 0} (x y : X) → Some x ≡ Some y → x ≡ y
some_inj x y e = cc

-- if the source reached its end, the script is all that was read
whole_read : (script read : List ℕ) (source : SourceChange) → InMemory script source
    → Gives source.left_old read source.left_new → MeetsEnd source → read ≡ script
whole_read script read source m g e =
    let told = g.told script m.had in
    let none = e.at_end.nothing told.0 told.2 in
    sym (told.1 ∙ ap (λ (l : List ℕ). read ++ l) none ∙ append-nil read)

-- the source always reaches its end
ended : (script read : List ℕ) (source : SourceChange) → InMemory script source
    → Gives source.left_old read source.left_new → MissesEnd source read → ⊥
ended script read source m g e = by_cause e.cause
  where
    by_cause : HasFailed source.failures_old source.failures_new ⊎ (most_pulls ≤ length read) → ⊥
    by_cause (inl f) = by_count f.counted
      where
        by_count : (source.failures_old < source.failures_new) ⊎ (source.failures_old ≡ 2 ^ 64 - 1) → ⊥
        by_count (inl less) = let a = m.now in omega (arith, less, a)
        by_count (inr most) = let a = m.before in omega (arith, most, a)
    by_cause (inr long) =
        let told = g.told script m.had in
        let parts = ap length told.1 ∙ length-append read told.0 in
        let s = m.short in
        omega (arith, long, parts, s)

-- a flush that never fails has not failed
no_flush_fails : (b : Bool) → IsFalse b → IsTrue b → ⊥
no_flush_fails true never fails = cc
no_flush_fails false never fails = cc

-- the output is the content of the sink
grown : (old new text : List ℕ) (sink : SinkChange) → sink.held_old ≡ Some old → sink.held_new ≡ Some new
    → Appends sink.held_old text sink.held_new → new ≡ old ++ text
grown old new text sink before now a = some_inj new (old ++ text) (sym now ∙ a.holds old before)

-- ---- by the result

module _ (s : State) (after : Standing) (script old new : List ℕ) (source : SourceChange) (sink : SinkChange)
    (hearing : HearingChange)
    (m : InMemory script source) (never : IsFalse sink.flushes_fail)
    (before : sink.held_old ≡ Some old) (now : sink.held_new ≡ Some new) where
  whole : (summary : Summary) → RunsWhole Responds s after source sink hearing summary
      → WritesWhole s after script old new summary
  whole summary r =
      let is = whole_read script r.script source m r.given r.ended in
      let p = replying s (statements r.script) r.answers r.state r.ran in
      record {
        state = r.state;
        stands = r.stands;
        pushed = answers_text r.answers;
        writes = (
          p.replies,
          subst (λ (x : List ℕ). Run s (statements x) p.replies r.state) is p.ran,
          ap answers_text
              p.all ∙ texts_are p.replies,
        );
        ends = subst (λ (x : List ℕ). AllEndSurely (statements x) p.replies) is p.ends;
        behind = grown old new (answers_text r.answers) sink before now r.written;
        counts = subst (λ (x : List Answer). Counts summary x) p.all r.counts;
      }

  -- the run stopped at an answer that the sink did not take whole
  stopped : (r : run.StopsWriting Responds s after source sink hearing) → StopsWriting s after script old new
  stopped r =
      let told = r.given.told script m.had in
      let follows : IsTrue r.met → told.0 ≡ [] = λ e.
      let meets = subst (λ (b : Bool). MatchBool b (MeetsEnd source) (source.failures_new ≡ source.failures_old)) e
      r.read in
      meets.at_end.nothing told.0 told.2 in
      let first = r.first told.0 follows in
      let p = replying s r.done r.answers r.state r.ran in
      record {
        done = r.done;
        rest = first.others;
        parts = ap statements told.1 ∙ first.parts;
        replies = p.replies;
        state = r.state;
        ran = p.ran;
        ends = p.ends;
        stands = r.stands;
        pushed = r.text;
        cut = cut p.replies p.all r.reached;
        behind = grown old new r.text sink before now r.written;
      }
    where
      cut : (replies : List Reply) → r.answers ≡ map Replied replies
          → CutsLast r.answers r.text ⊎ ((r.rest ≡ []) × (r.text ≡ answers_text r.answers) × IsTrue sink.flushes_fail)
          → CutsLast (map Replied replies) r.text
      cut replies all (inl c) = subst (λ (x : List Answer). CutsLast x r.text) all c
      cut replies all (inr (none, is, fails)) = absurd (no_flush_fails sink.flushes_fail never fails)

  -- the result of a run over memory
  pub runs_bytes : (result : Result Summary Fault) → Runs Responds s after source sink hearing result
      → RunsBytes s after script old new result
  runs_bytes (Ok summary) r = whole summary r
  runs_bytes (Err Write) r = stopped r
  runs_bytes (Err Memory) r = (m.short, r.stands, grown old new [] sink before now r.written ∙ append-nil old)
  runs_bytes (Err Read) r = absurd (ended script r.script source m r.given r.cut)

-- From one pull to the next, and the outcome of a whole run.
use Rattle.std.proofs.Common.{◌≡◌, refl, sym, ◌∙◌, ap, subst, ℕ, zero, suc, Bool, true, false, List, []}
use Rattle.std.proofs.Common.{◌∷◌, ◌++◌, Option}
use Rattle.std.proofs.Common.{arith, ◌+◌, ◌*◌, ◌<◌, ◌≤◌, append_assoc, append-nil, length-append, length-take}
use Rattle.std.proofs.lemmas.Bool.{eqb-true}
use Rattle.std.specs.Prelude.{length, take, IsTrue, Result, Ok, Err, not, ◌==◌, ◌&&◌, IfOk, MatchBool}
use Rattle.tql_spec.specs.Machine.{State}
use Rattle.tql_spec.specs.Answer.{Answer}
use Rattle.tql_spec.specs.Script.{Piece, statements}
use Rattle.tql_spec.specs.Run.{Answering, RunBy}
use Rattle.tql_splitter.specs.Stream.{Stream, is_begun, kept_now, one_if, to_do}
use Rattle.tql_splitter.specs.Holding.{Holds}
use Rattle.tql_run.specs.Hearing.{HearingChange}
use Rattle.tql_run.specs.Responding.{Standing}
use Rattle.tql_run.specs.Reads.{ReadsSoFar, Pulls}
use Rattle.tql_run.specs.Texts.{Written, written_after}
use Rattle.tql_run.specs.Runs.{SourceChange, SinkChange, Gives, MeetsEnd, MissesEnd, answered, most_pulls}
use Rattle.tql_run.specs.RunsIn.{Manner}
use Rattle.tql_run.specs.Runs.{most_bytes}
use Rattle.tql_run.specs.RunsIn.{stops, RunsWholeIn, RunsToRefusal, StopsReadingIn, StopsWritingIn, RunsIn}
use Rattle.tql_run.specs.Writing.{Shown, WroteTo, WroteAll, WroteReady, WroteScript, RefusedAt}
use Rattle.tql_run.specs.Writing.{WroteScriptOrFailed}
use Rattle.tql_run.specs.Writing.{SinkFailed}
use Rattle.tql_run.specs.declared.runner.Summary.{Summary}
use Rattle.tql_run.specs.declared.runner.Fault.{Fault}
use Rattle.tql_run.specs.declared.runner.Fault.TheVariants.{Read, Write, Memory}
use Rattle.tql_run.proofs.Writing.{wrote_first, all_asked, to_told, to_texts, refused_at, goes_on, at_stop, as_stop}

-- ---- the run so far

-- the contents of the sink and the record of the listener before the run
abbrev pub before_run : SinkChange → HearingChange → Shown
before_run sink hearing =
    record { held = sink.held_old; writes = sink.failures_old; heard = hearing.heard_old }

abbrev pub after_run : SinkChange → HearingChange → Shown
after_run sink hearing = record { held = sink.held_new; writes = sink.failures_new; heard = hearing.heard_new }

-- `pulls` pulls were made, and the whole statements in the bytes from all but the last pull were answered
pub record Converses (M : List Answer → Manner) (start : Standing) (had : Written) (pulls : ℕ) (stream : Stream)
    (after : Standing) (form : Written) (summary : Summary) (source : SourceChange) (from now : Shown) : Type 0 where
  pub script : List ℕ
  pub reads : ReadsSoFar pulls script source
  pub wrote : (before : List Answer) → had before → (s : State) → start s
      → WroteTo (M before) s script stream after (written_after before form) summary from now
  pub unended : stream.ended ≡ false
  pub room : summary.statements + to_do stream ≤ pulls * 65_536 + 1
  pub fewer : summary.refused ≤ summary.statements
  pub going : IsTrue (M []).bail → summary.refused ≡ 0
  pub before : List ℕ
  pub last : List ℕ
  pub parts : script ≡ before ++ last
  pub small : length last ≤ 65_536
  pub asked : (earlier : List Answer) → had earlier → (s : State) → start s
      → length (answered false before) ≤ summary.statements

pub gives_none : (left : Option (List ℕ)) → Gives left [] left
gives_none left = record { told = λ xs e. (xs, refl, e) }

pub gives_on : (a b c : Option (List ℕ)) (xs ys : List ℕ) → Gives a xs b → Gives b ys c → Gives a (xs ++ ys) c
gives_on a b c xs ys p q = record {
  told = λ all e. let v = p.told all e in let w = q.told v.0 v.2 in (
    w.0,
    v.1 ∙ ap (λ (z : List ℕ). xs ++ z) w.1 ∙ sym (append_assoc xs ys w.0),
    w.2,
  );
}

pub converse_first : (M : List Answer → Manner) (start : Standing) (had : Written) (stream : Stream) (summary : Summary)
    (left : Option (List ℕ)) (failures : ℕ) (ended : Bool) (from : Shown)
    → Holds stream [] [] → stream.ready ≡ [] → stream.ended ≡ false → summary.statements ≡ 0 → summary.refused ≡ 0
    → Converses M start had 0 stream start had summary (record {
      left_old = left;
      left_new = left;
      failures_old = failures;
      failures_new = failures;
      ended = ended;
    }) from from
converse_first M start had stream summary left failures ended from holds ready unended a b = record {
  script = [];
  reads = record {
    given = gives_none left;
    steady = refl;
    unmet = λ some. absurd (omega (arith, some));
    grown = omega arith;
    short = omega arith;
  };
  wrote = λ before written s st. wrote_first (M before) s stream start (written_after before had) summary from holds st
      (subst had (sym (append-nil before)) written) a b;
  unended = unended;
  room = let few = one_at_most (is_begun (kept_now stream.given stream.kept)) in omega (arith, a, few, ap length ready);
  fewer = omega (arith, a, b);
  going = λ _. b;
  before = [];
  last = [];
  parts = refl;
  small = omega arith;
  asked = λ earlier written s st. let none : length (answered false []) ≡ 0 = refl in omega (arith, none);
}
  where
    one_at_most : (t : Bool) → one_if t ≤ 1
    one_at_most true = omega arith
    one_at_most false = omega arith

-- there are as many answers as answered statements
as_many : (A : Answering) (s new : State) (done : List Piece) (answers : List Answer) → RunBy A s done answers new
    → length done ≡ length answers
as_many A s new [] [] ran = refl
as_many A s new [] (x ∷ xs) ran = absurd ran
as_many A s new (p ∷ ps) [] ran = absurd ran
as_many A s new (p ∷ ps) (x ∷ xs) ran = ap suc (as_many A ran.0 new ps xs ran.2)

-- if no statement is left, all whole statements were counted
pub all_counted : (M : Manner) (s : State) (script : List ℕ) (stream : Stream) (h : Standing) (form : Written)
    (summary : Summary) (from to : Shown) → stream.ended ≡ false
    → WroteAll M s script stream h form summary from to → length (answered false script) ≡ summary.statements
all_counted M s script stream h form summary from to unended t =
    let w = t.to.wrote in
    ap (λ (b : Bool). length (answered b script)) (sym unended)
    ∙ ap length (all_asked M s script stream h form summary from to t)
    ∙ as_many M.answering s w.state w.done w.answers w.ran ∙ sym w.counts.statements

pub script_short : (pulls : ℕ) (script : List ℕ) (source : SourceChange) → pulls ≤ most_pulls
    → ReadsSoFar pulls script source → length script < most_bytes
script_short pulls script source few r = omega (arith, few, r.short)

pub count_fits : (pulls n : ℕ) → pulls ≤ most_pulls → n ≤ pulls * 65_536 + 1 → n ≤ most_bytes
count_fits pulls n few le = omega (arith, few, le)

-- the sink failed before the end of the input
pub failed_writing : (M : Manner) (s : State) (script : List ℕ) (ended : Bool) (after : Standing) (pulls : ℕ)
    (source : SourceChange) (sink : SinkChange) (hearing : HearingChange) → ended ≡ false
    → ReadsSoFar pulls script source
    → SinkFailed M s script ended after sink.flushes_fail (before_run sink hearing) (after_run sink hearing)
    → StopsWritingIn M s after source sink hearing
failed_writing M s script ended after pulls source sink hearing unended r f = record {
  script = script;
  given = r.given;
  met = false;
  read = r.steady;
  done = f.done;
  rest = f.rest;
  parts = ap (λ (b : Bool). answered b script) (sym unended) ∙ f.parts;
  first = λ more m. f.first more (λ e. let no : true ≡ false = sym e ∙ unended in absurd cc);
  answers = f.answers;
  state = f.state;
  ran = f.ran;
  stands = f.stands;
  heard = f.heard;
  text = f.text;
  reached = f.reached;
  written = f.written;
  cause = f.cause;
}

-- the source failed, or never ended
pub failed_reading : (M : Manner) (s : State) (script : List ℕ) (stream : Stream) (after : Standing) (form : Written)
    (summary : Summary) (source : SourceChange) (sink : SinkChange) (hearing : HearingChange) → stream.ended ≡ false
    → stops M.bail summary ≡ false
    → Gives source.left_old script source.left_new → MissesEnd source script → IsTrue sink.flushed
    → WroteAll M s script stream after form summary (before_run sink hearing) (after_run sink hearing)
    → StopsReadingIn M s after form source sink hearing
failed_reading M s script stream after form summary source sink hearing unended going given misses passed_on t =
    let w = t.to.wrote in
    let from = before_run sink hearing in
    let to = after_run sink hearing in
    let all : answered false script ≡ w.done = ap (λ (b : Bool). answered b script) (sym unended)
    ∙ all_asked M s script stream after form summary from to t in
    record {
      script = script;
      given = given;
      cut = misses;
      answers = w.answers;
      goes_on = λ b. sym w.counts.refused ∙ goes_on M.bail summary going b;
      state = w.state;
      ran = subst (λ (ps : List Piece). RunBy M.answering s ps w.answers w.state) (sym all) w.ran;
      stands = w.stands;
      heard = to_told M s script stream after form summary from to t.to;
      wrote = w.wrote;
      text = w.text;
      texts = to_texts M s script stream after form summary from to t.to;
      written = w.written;
      writes = w.steady;
      flushed = passed_on;
    }

-- a refusal stopped the run
refused_run : (M : Manner) (s : State) (script : List ℕ) (met : Bool) (after : Standing) (form : Written)
    (summary : Summary) (source : SourceChange) (sink : SinkChange) (hearing : HearingChange) (before last : List ℕ)
    → script ≡ before ++ last → length last ≤ 65_536 → length (answered false before) < summary.statements
    → Gives source.left_old script source.left_new
    → MatchBool met (MeetsEnd source) (source.failures_new ≡ source.failures_old)
    → RefusedAt M s script met after form summary sink.flushed (before_run sink hearing) (after_run sink hearing)
    → RunsToRefusal M s after form source sink hearing summary
refused_run M s script met after form summary source sink hearing before last parts small fewer given read f = record {
  script = script;
  given = given;
  met = met;
  read = read;
  done = f.done;
  rest = f.rest;
  parts = f.parts;
  first = f.first;
  answers = f.answers;
  refused = f.refused;
  state = f.state;
  ran = f.ran;
  stands = f.stands;
  heard = f.heard;
  wrote = f.wrote;
  text = f.text;
  texts = f.texts;
  written = f.written;
  counts = f.counts;
  writes = f.steady;
  flushed = f.flushed;
  pulled = record {
    before = before;
    last = last;
    parts = parts;
    small = small;
    fewer = let all = f.counts.statements in omega (arith, fewer, all);
  };
}

-- a refusal that stops the run was counted as a new answer
one_counted : (bail : Bool) (had counted : Summary) → stops bail counted ≡ true
    → (IsTrue bail → had.refused ≡ 0) → counted.refused + had.statements ≤ counted.statements + had.refused
    → had.statements < counted.statements
one_counted false had counted stopped going grown = let bad : false ≡ true = stopped in absurd cc
one_counted true had counted stopped going grown =
    let none = going refl in
    let some = at_least counted.refused stopped in
    omega (arith, none, some, grown)
  where
    at_least : (n : ℕ) → not (n == 0) ≡ true → 0 < n
    at_least zero e = let bad : false ≡ true = e in absurd cc
    at_least (suc n) e = omega arith

-- a refusal stopped the run before the end of the input
pub stopped_run : (M : List Answer → Manner) (earlier : List Answer) (s : State) (start : Standing) (had : Written)
    (pulls : ℕ) (stream later : Stream) (h after : Standing) (form all : Written) (summary counted : Summary)
    (source : SourceChange) (sink : SinkChange) (hearing : HearingChange) (now : Shown)
    → (i : Converses M start had pulls stream h form summary source (before_run sink hearing) now) → had earlier
    → start s → (M earlier).bail ≡ (M []).bail
    → later.ended ≡ stream.ended → counted.refused + summary.statements ≤ counted.statements + summary.refused
    → stops (M earlier).bail counted ≡ true → IsTrue sink.flushed
    → WroteReady (M earlier) s i.script later after all counted (before_run sink hearing)
    (after_run sink hearing)
    → RunsIn (M earlier) s after all source sink hearing (Ok counted)
stopped_run M earlier s start had pulls stream later h after form all summary counted source sink hearing now i written
    st bails same grown stopped passed_on t =
    let from = before_run sink hearing in
    let to = after_run sink hearing in
    let more = one_counted (M earlier).bail summary counted stopped (λ b. i.going (sym bails ∙ b)) grown in
    as_stop (RunsToRefusal (M earlier) s after all source sink hearing counted)
    (RunsWholeIn (M earlier) s after all source sink hearing counted) (stops (M earlier).bail counted) stopped
    (refused_run (M earlier) s i.script false after all counted source sink hearing i.before i.last i.parts i.small
    (let few = i.asked earlier written s st in omega (arith, few, more)) i.reads.given i.reads.steady
    (refused_at (M earlier) s i.script later false after all counted sink.flushed from to (same ∙ i.unended) passed_on
    (at_stop _ _ (stops (M earlier).bail counted) stopped t.is)))

-- a pull that gave no bytes
pub gives_kept : (a b c : Option (List ℕ)) (xs bytes : List ℕ) → bytes ≡ [] → Gives a xs b → Gives b bytes c
    → Gives a xs c
gives_kept a b c xs bytes none p q =
    subst (λ (z : List ℕ). Gives a z c) (ap (λ (z : List ℕ). xs ++ z) none ∙ append-nil xs)
    (gives_on a b c xs bytes p q)

-- a pull that gave no bytes although there was room
pub met_end : {E : Type 0} (pulls room n : ℕ) (script bytes : List ℕ) (before : SourceChange) (left : Option (List ℕ))
    (failures : ℕ) (ended : Bool) → ReadsSoFar pulls script before
    → Pulls {E = E} (Ok n) room bytes (record {
      left_old = before.left_new;
      left_new = left;
      failures_old = before.failures_new;
      failures_new = failures;
      ended = ended;
    })
    → n ≡ 0 → 0 < room → MeetsEnd (record {
      left_old = before.left_old;
      left_new = left;
      failures_old = before.failures_old;
      failures_new = failures;
      ended = ended;
    })
met_end pulls room n script bytes before left failures ended r p none some =
    let met : ended ≡ true = p.told ∙ ap (λ (x : ℕ). (x == 0) && not (room == 0)) none ∙ by (room == 0) refl in
    record { met = met; at_end = p.at_end met; steady = p.counted ∙ r.steady }
  where
    by : (t : Bool) → (room == 0) ≡ t → not (room == 0) ≡ true
    by true q = absurd (let empty = eqb-true room 0 q in omega (arith, some, empty))
    by false q = ap not q

pub none_taken : (n : ℕ) (buffer : List ℕ) → n ≡ 0 → take n buffer ≡ []
none_taken n buffer e = ap (λ (k : ℕ). take k buffer) e

-- a pull that gave some bytes
pub reads_more : {E : Type 0} (pulls room n : ℕ) (script buffer bytes : List ℕ) (before : SourceChange)
    (left : Option (List ℕ)) (failures : ℕ) (ended : Bool) → ReadsSoFar pulls script before
    → Pulls {E = E} (Ok n) room (take n buffer) (record {
      left_old = before.left_new;
      left_new = left;
      failures_old = before.failures_new;
      failures_new = failures;
      ended = ended;
    })
    → (n ≡ 0 → ⊥) → n ≤ length buffer → length buffer ≤ 65_536 → bytes ≡ take n buffer
    → ReadsSoFar (pulls + 1) (script ++ bytes) (record {
      left_old = before.left_old;
      left_new = left;
      failures_old = before.failures_old;
      failures_new = failures;
      ended = ended;
    })
reads_more pulls room n script buffer bytes before left failures ended r p some within small is =
    let size : length bytes ≡ n = omega (arith, ap length is, length-take n buffer, within) in
    record {
      given = subst (λ (z : List ℕ). Gives before.left_old (script ++ z) left) (sym is)
          (gives_on before.left_old before.left_new left script (take n buffer) r.given p.given);
      steady = p.counted ∙ r.steady;
      unmet = λ _. p.told ∙ ap (λ (t : Bool). t && not (room == 0)) (by (n == 0) refl);
      grown = omega (arith, length-append script bytes, size, r.grown, some);
      short = omega (arith, length-append script bytes, size, r.short, within, small);
    }
  where
    by : (t : Bool) → (n == 0) ≡ t → (n == 0) ≡ false
    by true q = absurd (some (eqb-true n 0 q))
    by false q = q

-- room for the bytes of one more pull
pub room_more : (pulls n statements counted before after : ℕ) → statements + before ≤ pulls * 65_536 + 1
    → counted ≤ statements + before → n ≤ 65_536 → after ≡ counted + n → after ≤ (pulls + 1) * 65_536 + 1
room_more pulls n statements counted before after had less few is = omega (arith, had, less, few, is)

-- the end of the input was reached, and the rest was answered
pub ended_run : (M : Manner) (s : State) (script : List ℕ) (after : Standing) (form : Written) (had : Summary)
    (result : Result Summary Fault) (source : SourceChange) (sink : SinkChange) (hearing : HearingChange)
    → length (answered false script) ≡ had.statements → (IsTrue M.bail → had.refused ≡ 0)
    → IfOk result (λ all. all.refused + had.statements ≤ all.statements + had.refused)
    → Gives source.left_old script source.left_new → MeetsEnd source
    → WroteScriptOrFailed M result s script after form sink.flushes_fail sink.flushed (before_run sink hearing)
    (after_run sink hearing)
    → RunsIn M s after form source sink hearing result
ended_run M s script after form had (Ok summary) source sink hearing asked going grown given meets w =
    by_case (stops M.bail summary) refl w
  where
    whole : stops M.bail summary ≡ false
        → WroteScript M s script after form summary sink.flushed (before_run sink hearing) (after_run sink hearing)
        → RunsWholeIn M s after form source sink hearing summary
    whole e w = record {
      script = script;
      given = given;
      ended = meets;
      answers = w.answers;
      goes_on = λ b. sym w.counts.refused ∙ goes_on M.bail summary e b;
      state = w.state;
      ran = w.ran;
      stands = w.stands;
      heard = w.heard;
      wrote = w.wrote;
      text = w.text;
      texts = w.texts;
      written = w.written;
      counts = w.counts;
      writes = w.steady;
      flushed = w.flushed;
    }

    by_case : (b : Bool) → stops M.bail summary ≡ b
        → MatchBool b
        (RefusedAt M s script true after form summary sink.flushed (before_run sink hearing) (after_run sink hearing))
        (WroteScript M s script after form summary sink.flushed (before_run sink hearing) (after_run sink hearing))
        → MatchBool b (RunsToRefusal M s after form source sink hearing summary)
        (RunsWholeIn M s after form source sink hearing summary)
    by_case true e w =
        let more = one_counted M.bail had summary e going grown in
        refused_run M s script true after form summary source sink hearing script [] (sym (append-nil script)) (omega
        arith)
        (omega (arith, asked, more)) given meets w
    by_case false e w = whole e w
ended_run M s script after form had (Err Write) source sink hearing asked going grown given meets f = record {
  script = script;
  given = given;
  met = true;
  read = meets;
  done = f.done;
  rest = f.rest;
  parts = f.parts;
  first = f.first;
  answers = f.answers;
  state = f.state;
  ran = f.ran;
  stands = f.stands;
  heard = f.heard;
  text = f.text;
  reached = f.reached;
  written = f.written;
  cause = f.cause;
}
ended_run M s script after form had (Err Read) source sink hearing asked going grown given meets f = absurd f
ended_run M s script after form had (Err Memory) source sink hearing asked going grown given meets f = absurd f

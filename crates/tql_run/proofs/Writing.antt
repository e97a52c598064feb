-- From one answer to the next: what was written so far.
use Rattle.std.proofs.Common.{◌≡◌, refl, sym, ◌∙◌, ap, subst, ℕ, suc, Bool, true, false, List, [], ◌∷◌, Option}
use Rattle.std.proofs.Common.{Some, None, inl, inr, arith, ◌+◌, ◌<◌, ◌≤◌, ◌==◌, append_assoc, append-nil}
use Rattle.std.proofs.lemmas.Bool.{eqb-true}
use Rattle.std.specs.Prelude.{◌++◌, length, count_by, if◌then◌else◌, not, IsFalse, IsTrue}
use Rattle.std.specs.Prelude.{MatchBool, Ok, Err, ◌⊎◌, ◌&&◌}
use Rattle.tql_spec.specs.Machine.{State}
use Rattle.tql_spec.specs.Answer.{Answer, Replied, Accepted}
use Rattle.tql_spec.specs.Script.{Piece, statements}
use Rattle.tql_spec.specs.Machine as machine
use Rattle.tql_spec.specs.Run.{Answering, RunBy}
use Rattle.tql_spec.specs.Lines.{Placed, placed_from, placed_statements, line_of}
use Rattle.tql_splitter.specs.Stream.{Stream}
use Rattle.tql_splitter.specs.Holding.{Holds}
use Rattle.tql_splitter.specs.Pieces.{MayFollow, HasNone}
use Rattle.tql_splitter.specs.Feeding.{Feeds, Finishes}
use Rattle.tql_result.specs.Devices.{Appends, AppendsBeginning, HasFailed}
use Rattle.tql_result.specs.Replies.{answer_of}
use Rattle.tql_result.specs.declared.answer.Answer as code
use Rattle.tql_run.specs.Hearing.{Heard, Hears, note_of, notes_of}
use Rattle.tql_run.specs.Responding.{Standing}
use Rattle.tql_run.specs.Runs.{answered, count_of, is_refused, most_bytes}
use Rattle.tql_run.specs.RunsIn.{Manner, stops, CutsLastIn, FailsFlush, GoesOn, EndsRefused, EndsReported}
use Rattle.tql_run.specs.RunsIn.{NoneRefused}
use Rattle.tql_run.specs.Texts.{Written, AreTexts, Passes, PassesOn, line_after}
use Rattle.tql_run.specs.Writing.{AnswersNext, AnswersOne, AnswersNone, Shown, Wrote, WroteTo, WroteAll}
use Rattle.tql_run.specs.Writing.{WroteRefusal, SinkFailed, WroteScript, RefusedAt, WroteReady}
use Rattle.tql_run.specs.declared.runner.Summary.{Summary}
use Rattle.tql_run.proofs.OneMore.{run_on, length_on, count_on, texts_on, line_next, hears_none, appends_none}
use Rattle.tql_run.proofs.OneMore.{appends_on, are_finished, finished_on, asked_none, asked_of, now_is, placed_now}
use Rattle.tql_run.proofs.OneMore.{even_more, told_all, texts_all, told_more, text_at, line_is}

-- ---- answers and texts written so far

pub wrote_first : (M : Manner) (s : State) (stream : Stream) (h : Standing) (form : Written) (summary : Summary)
    (from : Shown) → Holds stream [] [] → h s → form [] → summary.statements ≡ 0 → summary.refused ≡ 0
    → WroteTo M s [] stream h form summary from from
wrote_first M s stream h form summary from holds st fresh a b = record {
  passed = [];
  left = [];
  holds = holds;
  wrote = record {
    parts = refl;
    done = [];
    first = λ more m. refl;
    finished = λ e. refl;
    places = [];
    placed = λ more m. refl;
    answers = [];
    state = s;
    ran = refl;
    stands = st;
    wrote = fresh;
    text = [];
    texts = refl;
    written = record { holds = λ xs e. e ∙ ap Some (sym (append-nil xs)) };
    even = refl;
    heard = hears_none from.heard;
    counts = record { statements = a; refused = b };
    steady = refl;
  };
}

-- one more answer, before its notes and its text are considered
record Further (A : Answering) (s : State) (script : List ℕ) (stream : Stream) (after : Standing) (answer : Answer)
    (was : List Answer) (places : List Placed) : Type 0 where
  passed : List ℕ
  left : List ℕ
  holds : Holds stream passed left
  parts : script ≡ passed ++ left
  done : List Piece
  first : (more : List ℕ) → MayFollow stream.ended more → statements (script ++ more) ≡ done ++ statements
      (left ++ more)
  finished : IsFalse stream.ended → IsTrue (are_finished done)
  place : Placed
  placed : (more : List ℕ) → MayFollow stream.ended more
      → placed_statements (script ++ more) ≡ (places ++ place ∷ []) ++ placed_from passed (left ++ more)
  line : stream.line ≡ line_of place
  state : State
  ran : RunBy A s done (was ++ answer ∷ []) state
  stands : after state

further : (M : Manner) (s : State) (script : List ℕ) (now after : Stream) (h new : Standing) (form : Written)
    (summary : Summary) (answer : code.Answer) (from to : Shown) → length script < most_bytes
    → (t : WroteTo M s script now h form summary from to) → AnswersOne M.answering now after answer h new
    → Further M.answering s script after new (answer_of answer) t.wrote.answers t.wrote.places
further M s script now after h new form summary answer from to short t takes =
    let w = t.wrote in
    let g = takes.one.takes t.passed t.left t.holds in
    let f = g.first in
    let a = g.is w.state w.stands in
    let place : Placed = record { before = f.before; piece = g.piece } in
    let parts : script ≡ (t.passed ++ g.used) ++ g.rest =
    w.parts ∙ ap (λ (xs : List ℕ). t.passed ++ xs) f.parts ∙ sym (append_assoc t.passed g.used g.rest) in
    record {
      passed = t.passed ++ g.used;
      left = g.rest;
      holds = g.holds;
      parts = parts;
      done = w.done ++ g.piece ∷ [];
      first = λ more m. w.first more (λ e. m (takes.one.ended ∙ e))
          ∙ ap (λ (ps : List Piece). w.done ++ ps) (f.given more m)
          ∙ sym (append_assoc w.done (g.piece ∷ []) (statements (g.rest ++ more)));
      finished = λ e. finished_on w.done g.piece (w.finished (sym takes.one.ended ∙ e))
          (must_be g.piece.finished after.ended e f.unfinished);
      place = place;
      placed = λ more m. w.placed more (λ e. m (takes.one.ended ∙ e))
          ∙ ap (λ (ps : List Placed). w.places ++ ps) (f.placed more m)
          ∙ sym (append_assoc w.places (place ∷ []) (placed_from (t.passed ++ g.used) (g.rest ++ more)));
      line = line_is script t.passed g.used place after.line f.line f.within g.rest parts short;
      state = a.state;
      ran = run_on M.answering s w.state a.state w.done w.answers g.piece (answer_of answer) w.ran a.answers;
      stands = a.stands;
    }
  where
    must_be : (b ended : Bool) → IsFalse ended → (IsFalse b → IsTrue ended) → b ≡ true
    must_be true ended e f = refl
    must_be false ended e f = let no : true ≡ false = sym (f refl) ∙ e in absurd cc

-- one more answer, completely written
wrote_one : {X E : Type 0} (fails : Bool) (M : Manner) (s : State) (script : List ℕ) (now after : Stream) (h new :
    Standing)
    (had form : Written) (summary : Summary) (answer : code.Answer) (from to later : Shown) (line : ℕ)
    (t0 : X) → length script < most_bytes
    → (t : WroteTo M s script now h had summary from to) → AnswersOne M.answering now after answer h new
    → line ≡ after.line → Hears to.heard (note_of (summary.statements + 1) line (answer_of answer)) later.heard
    → PassesOn {T = X} {E = E} M.style fails had form (summary.statements + 1) line (answer_of answer) (Ok t0) to.held
    later.held to.writes later.writes
    → (u : WroteTo M s script after new form (count_of summary (answer_of answer)) from later)
    × (u.wrote.answers ≡ t.wrote.answers ++ answer_of answer ∷ [])
wrote_one fails M s script now after h new had form summary answer from to later line t0 short t takes on told
    prints =
    let w = t.wrote in
    let r = answer_of answer in
    let f = further M s script now after h new had summary answer from to short t takes in
    let p = prints w.answers w.wrote in (
      record {
        passed = f.passed;
        left = f.left;
        holds = f.holds;
        wrote = record {
          parts = f.parts;
          done = f.done;
          first = f.first;
          finished = f.finished;
          places = w.places ++ f.place ∷ [];
          placed = f.placed;
          answers = w.answers ++ r ∷ [];
          state = f.state;
          ran = f.ran;
          stands = f.stands;
          wrote = p.wrote;
          text = w.text ++ p.text;
          texts = texts_on M.style.texts [] 1 w.places w.answers f.place r w.text p.text w.even w.texts
              (text_at M.style.texts w.answers f.place r summary.statements line p.text w.counts.statements (on ∙
              f.line)
              p.is_text);
          written = appends_on from.held to.held later.held w.text p.text w.written p.whole;
          even = even_more w.places w.answers f.place r w.even;
          heard = told_more w.places w.answers f.place r summary.statements line from.heard to.heard later.heard w.even
              w.counts.statements
              (on ∙ f.line) w.heard told;
          counts = record {
            statements = ap suc w.counts.statements ∙ sym (length_on w.answers r);
            refused = ap (λ n. if is_refused r then suc n else n) w.counts.refused ∙ sym (count_on w.answers r);
          };
          steady = p.no_failure ∙ w.steady;
        };
      },
      refl,
    )

pub wrote_more : {X E : Type 0} (fails : Bool) (M : Manner) (s : State) (script : List ℕ) (now after : Stream) (h new
    : Standing)
    (had form : Written) (summary counted : Summary) (answer : code.Answer) (from to later : Shown) (line : ℕ)
    (t0 : X) → length script < most_bytes
    → WroteTo M s script now h had summary from to → AnswersOne M.answering now after answer h new
    → line ≡ after.line → Hears to.heard (note_of (summary.statements + 1) line (answer_of answer)) later.heard
    → counted ≡ count_of summary (answer_of answer)
    → PassesOn {T = X} {E = E} M.style fails had form (summary.statements + 1) line (answer_of answer) (Ok t0) to.held
    later.held to.writes later.writes
    → WroteTo M s script after new form counted from later
wrote_more fails M s script now after h new had form summary counted answer from to later line t0 short t takes on told
    c prints =
    subst (λ (x : Summary). WroteTo M s script after new form x from later) (sym c)
    (wrote_one fails M s script now after h new had form summary answer from to later line t0 short t takes on told
    prints).0

-- one more answer, at which the sink failed
pub wrote_cut : {X E : Type 0} (fails : Bool) (M : Manner) (s : State) (script : List ℕ) (now after : Stream)
    (h new : Standing) (had form : Written) (summary : Summary) (answer : code.Answer) (from to later : Shown)
    (line : ℕ) (e : E) → length script < most_bytes → (IsTrue M.bail → summary.refused ≡ 0)
    → WroteTo M s script now h had summary from to → AnswersOne M.answering now after answer h new
    → line ≡ after.line → Hears to.heard (note_of (summary.statements + 1) line (answer_of answer)) later.heard
    → PassesOn {T = X} {E = E} M.style fails had form (summary.statements + 1) line (answer_of answer) (Err e) to.held
    later.held to.writes later.writes
    → SinkFailed M s script after.ended new fails from later
wrote_cut {X = X} {E = E} fails M s script now after h new had form summary answer from to later line e short going t
    takes on told prints = by_case p.cut
  where
    w : Wrote M s script t.passed t.left now.ended h had summary from to
    w = t.wrote

    r : Answer
    r = answer_of answer

    f : Further M.answering s script after new r w.answers w.places
    f = further M s script now after h new had summary answer from to short t takes

    p : Passes {T = X} {E = E} M.style.texts w.answers (summary.statements + 1) line r (Err e) form
        (IsTrue (M.style.reported r) × IsTrue fails) to.held later.held to.writes later.writes
    p = prints w.answers w.wrote

    places : placed_statements script ≡ (w.places ++ f.place ∷ []) ++ placed_from f.passed f.left
    places = placed_now after.ended script f.passed f.left (w.places ++ f.place ∷ []) f.placed

    follow : placed_statements script ≡ w.places ++ f.place ∷ placed_from f.passed f.left
    follow = places ∙ append_assoc w.places (f.place ∷ []) (placed_from f.passed f.left)

    here : M.style.texts w.answers (1 + length w.answers) (line_of f.place) r p.text
    here = text_at M.style.texts w.answers f.place r summary.statements line p.text w.counts.statements (on ∙ f.line)
        p.is_text

    line_there : line_after (length w.answers) (placed_statements script) ≡ line_of f.place
    line_there =
        ap (λ (n : ℕ). line_after n (placed_statements script)) (sym w.even)
        ∙ ap (λ (ps : List Placed). line_after (length w.places) ps) follow
        ∙ line_next w.places f.place (placed_from f.passed f.left)

    failed : (text front : List ℕ) → text ≡ w.text ++ front → Appends to.held front later.held
        → CutsLastIn M (placed_statements script) (w.answers ++ r ∷ []) text
        ⊎ FailsFlush M fails (answered after.ended f.left) (placed_statements script) (w.answers ++ r ∷ []) text
        → SinkFailed M s script after.ended new fails from later
    failed text front is appends reached = record {
      done = f.done;
      rest = answered after.ended f.left;
      parts = asked_of after.ended script f.left f.done f.finished (now_is after.ended script f.left f.done f.first);
      first = λ more m. record { others = statements (f.left ++ more); parts = f.first more m };
      answers = w.answers ++ r ∷ [];
      state = f.state;
      ran = f.ran;
      stands = f.stands;
      heard = told_all script (w.places ++ f.place ∷ []) (placed_from f.passed f.left) (w.answers ++ r ∷ []) from.heard
          later.heard places (even_more w.places w.answers f.place r w.even)
          (told_more w.places w.answers f.place r summary.statements line from.heard to.heard later.heard w.even
          w.counts.statements (on ∙ f.line) w.heard told);
      text = text;
      reached = reached;
      written = subst (λ (xs : List ℕ). Appends from.held xs later.held) (sym is)
          (appends_on from.held to.held later.held w.text front w.written appends);
      cause = subst (λ n. HasFailed n later.writes) w.steady p.failure;
    }

    cut : AppendsBeginning to.held p.text later.held → SinkFailed M s script after.ended new fails from later
    cut a = failed (w.text ++ a.front) a.front refl a.appends (inl (record {
      earlier = w.answers;
      last = r;
      all = refl;
      goes_on = λ b. sym w.counts.refused ∙ going b;
      before = w.text;
      texts = texts_all M.style.texts script w.places (f.place ∷ placed_from f.passed f.left) w.answers w.text follow
          w.texts;
      front = a.front;
      back = a.back;
      is_text = subst (λ (text : List ℕ). M.style.texts w.answers (1 + length w.answers)
          (line_after (length w.answers) (placed_statements script)) r text) a.parts
          (subst (λ (l : ℕ). M.style.texts w.answers (1 + length w.answers) l r p.text) (sym line_there) here);
      lacks = a.lacks;
      is = refl;
    }))

    by_case : AppendsBeginning to.held p.text later.held
        ⊎ ((IsTrue (M.style.reported r) × IsTrue fails) × Appends to.held p.text later.held)
        → SinkFailed M s script after.ended new fails from later
    by_case (inl a) = cut a
    by_case (inr ((reported, may), a)) = failed (w.text ++ p.text) p.text refl a (inr (record {
      allowed = may;
      texts = texts_all M.style.texts script (w.places ++ f.place ∷ []) (placed_from f.passed f.left)
          (w.answers ++ r ∷ []) (w.text ++ p.text) places
          (texts_on M.style.texts [] 1 w.places w.answers f.place r w.text p.text w.even w.texts here);
      all = inr (inr (record {
        earlier = w.answers;
        last = r;
        all = refl;
        goes_on = λ b. sym w.counts.refused ∙ going b;
        is_reported = reported;
      }));
    }))

-- the same for another splitter in the same position, and a responder that represents the same states
pub wrote_as : (M : Manner) (s : State) (script : List ℕ) (now after : Stream) (h new : Standing) (form : Written)
    (summary : Summary) (from to later : Shown) → (t : WroteTo M s script now h form summary from to)
    → Holds after t.passed t.left → (IsTrue now.ended → IsTrue after.ended) → ((s : State) → h s → new s)
    → Appends to.held [] later.held → later.writes ≡ to.writes → later.heard ≡ to.heard
    → (u : WroteTo M s script after new form summary from later) × (u.left ≡ t.left) ×
    (u.wrote.answers ≡ t.wrote.answers)
wrote_as M s script now after h new form summary from to later t holds ends stands a e same =
    let w = t.wrote in (
      record {
        passed = t.passed;
        left = t.left;
        holds = holds;
        wrote = record {
          parts = w.parts;
          done = w.done;
          first = λ more m. w.first more (λ x. m (ends x));
          finished = λ x. w.finished (still_false now.ended after.ended x ends);
          places = w.places;
          placed = λ more m. w.placed more (λ x. m (ends x));
          answers = w.answers;
          state = w.state;
          ran = w.ran;
          stands = stands w.state w.stands;
          wrote = w.wrote;
          text = w.text;
          texts = w.texts;
          written = subst (λ x. Appends from.held x later.held) (append-nil w.text)
              (appends_on from.held to.held later.held w.text [] w.written a);
          even = w.even;
          heard = subst (λ (x : Option (List Heard)). Hears from.heard (notes_of w.places w.answers) x) (sym same)
              w.heard;
          counts = w.counts;
          steady = e ∙ w.steady;
        };
      },
      refl,
      refl,
    )
  where
    still_false : (b c : Bool) → IsFalse c → (IsTrue b → IsTrue c) → IsFalse b
    still_false false c e f = refl
    still_false true c e f = let bad : true ≡ false = sym (f refl) ∙ e in absurd cc

-- ---- no statement is left

pub wrote_all : (M : Manner) (s : State) (script : List ℕ) (now after : Stream) (h new : Standing) (form : Written)
    (summary : Summary) (from to : Shown) → WroteTo M s script now h form summary from to → AnswersNone now after h new
    → WroteAll M s script after new form summary from to
wrote_all M s script now after h new form summary from to t n =
    let none = n.none.takes t.passed t.left t.holds in
    let u = wrote_as M s script now after h new form summary from to to t none.holds
    (λ e. n.none.ended ∙ e) n.stands (appends_none to.held) refl refl in
    record { to = u.0; none = subst (HasNone after.ended) (sym u.1) none.none }

-- the answered statements are all statements of the script
pub all_asked : (M : Manner) (s : State) (script : List ℕ) (stream : Stream) (h : Standing) (form : Written)
    (summary : Summary) (from to : Shown) → (t : WroteAll M s script stream h form summary from to)
    → answered stream.ended script ≡ t.to.wrote.done
all_asked M s script stream h form summary from to t =
    let w = t.to.wrote in
    asked_of stream.ended script t.to.left w.done w.finished (now_is stream.ended script t.to.left w.done w.first)
    ∙ ap (λ (ps : List Piece). w.done ++ ps) (asked_none stream.ended t.to.left t.none) ∙ append-nil w.done

-- the places of the statements in the script
to_places : (M : Manner) (s : State) (script : List ℕ) (stream : Stream) (h : Standing) (form : Written)
    (summary : Summary) (from to : Shown) → (t : WroteTo M s script stream h form summary from to)
    → placed_statements script ≡ t.wrote.places ++ placed_from t.passed t.left
to_places M s script stream h form summary from to t =
    placed_now stream.ended script t.passed t.left t.wrote.places t.wrote.placed

-- the notes for the answers, in terms of the script
pub to_told : (M : Manner) (s : State) (script : List ℕ) (stream : Stream) (h : Standing) (form : Written)
    (summary : Summary) (from to : Shown) → (t : WroteTo M s script stream h form summary from to)
    → Hears from.heard (notes_of (placed_statements script) t.wrote.answers) to.heard
to_told M s script stream h form summary from to t =
    let w = t.wrote in
    told_all script w.places (placed_from t.passed t.left) w.answers from.heard to.heard
    (to_places M s script stream h form summary from to t) w.even w.heard

-- the texts of the answers, in terms of the script
pub to_texts : (M : Manner) (s : State) (script : List ℕ) (stream : Stream) (h : Standing) (form : Written)
    (summary : Summary) (from to : Shown) → (t : WroteTo M s script stream h form summary from to)
    → AreTexts M.style.texts (placed_statements script) t.wrote.answers t.wrote.text
to_texts M s script stream h form summary from to t =
    let w = t.wrote in
    texts_all M.style.texts script w.places (placed_from t.passed t.left) w.answers w.text
    (to_places M s script stream h form summary from to t) w.texts

-- after a successful flush
all_flushed : (M : Manner) (s : State) (script : List ℕ) (stream : Stream) (h : Standing) (form : Written)
    (summary : Summary) (from to later : Shown) → WroteAll M s script stream h form summary from to
    → Appends to.held [] later.held → later.writes ≡ to.writes → later.heard ≡ to.heard
    → WroteAll M s script stream h form summary from later
all_flushed M s script stream h form summary from to later t a e same =
    let u = wrote_as M s script stream stream h h form summary from to later t.to t.to.holds
    (λ x. x) (λ x st. st) a e same in
    record { to = u.0; none = subst (HasNone stream.ended) (sym u.1) t.none }

refusal_flushed : (M : Manner) (s : State) (script : List ℕ) (stream : Stream) (h : Standing) (form : Written)
    (summary : Summary) (from to later : Shown) → WroteRefusal M s script stream h form summary from to
    → Appends to.held [] later.held → later.writes ≡ to.writes → later.heard ≡ to.heard
    → WroteRefusal M s script stream h form summary from later
refusal_flushed M s script stream h form summary from to later t a e same =
    let u = wrote_as M s script stream stream h h form summary from to later t.to t.to.holds
    (λ x. x) (λ x st. st) a e same in
    record { to = u.0; refused = subst EndsRefused (sym u.2) t.refused }

pub ready_flushed : (M : Manner) (s : State) (script : List ℕ) (stream : Stream) (h : Standing)
    (form : Written) (summary : Summary) (from to later : Shown)
    → WroteReady M s script stream h form summary from to
    → Appends to.held [] later.held → later.writes ≡ to.writes → later.heard ≡ to.heard
    → WroteReady M s script stream h form summary from later
ready_flushed M s script stream h form summary from to later t a e same =
    record { is = by_case (stops M.bail summary) t.is }
  where
    by_case : (b : Bool)
        → MatchBool b (WroteRefusal M s script stream h form summary from to)
        (WroteAll M s script stream h form summary from to)
        → MatchBool b (WroteRefusal M s script stream h form summary from later)
        (WroteAll M s script stream h form summary from later)
    by_case true t = refusal_flushed M s script stream h form summary from to later t a e same
    by_case false t = all_flushed M s script stream h form summary from to later t a e same

-- the sink was pushed nothing more
pub ready_same : (M : Manner) (s : State) (script : List ℕ) (stream : Stream) (h : Standing)
    (form : Written) (summary : Summary) (from to later : Shown)
    → WroteReady M s script stream h form summary from to
    → later.held ≡ to.held → later.writes ≡ to.writes → later.heard ≡ to.heard
    → WroteReady M s script stream h form summary from later
ready_same M s script stream h form summary from to later t e steady same =
    ready_flushed M s script stream h form summary from to later t
    (subst (λ (x : Option (List ℕ)). Appends to.held [] x) (sym e) (appends_none to.held)) steady same

-- if the run is not stopped, no answer is a refusal that stops it
pub goes_on : (bail : Bool) (summary : Summary) → stops bail summary ≡ false → IsTrue bail → summary.refused ≡ 0
goes_on true summary e b = by_test (summary.refused == 0) refl e
  where
    by_test : (t : Bool) → (summary.refused == 0) ≡ t → not t ≡ false → summary.refused ≡ 0
    by_test true q f = eqb-true summary.refused 0 q
    by_test false q f = let bad : true ≡ false = f in absurd cc
goes_on false summary e b = let bad : false ≡ true = b in absurd cc

-- if no answer is a refusal that stops the run, it is not stopped
pub not_stopped : (bail : Bool) (summary : Summary) → (IsTrue bail → summary.refused ≡ 0) → stops bail summary ≡ false
not_stopped true summary going = ap (λ (n : ℕ). not (n == 0)) (going refl)
not_stopped false summary going = refl

-- if the run is stopped, `bail` is set
must_bail : (bail : Bool) (summary : Summary) → stops bail summary ≡ true → IsTrue bail
must_bail true summary e = refl
must_bail false summary e = let bad : false ≡ true = e in absurd cc

-- a failed flush
pub ready_unflushed : (fails : Bool) → IsTrue fails → (M : Manner) (s : State)
    (script : List ℕ) (stream : Stream) (h : Standing) (form : Written) (summary : Summary) (from to later : Shown)
    → WroteReady M s script stream h form summary from to
    → Appends to.held [] later.held → HasFailed to.writes later.writes → later.heard ≡ to.heard
    → SinkFailed M s script stream.ended h fails from later
ready_unflushed fails may M s script stream h form summary from to later t a f same =
    by_case (stops M.bail summary) refl t.is
  where
    failed : (t : WroteTo M s script stream h form summary from to) (rest : List Piece)
        → answered stream.ended script ≡ t.wrote.done ++ rest
        → ((rest ≡ []) × GoesOn M.bail t.wrote.answers)
        ⊎ ((IsTrue M.bail × EndsRefused t.wrote.answers) ⊎ EndsReported M t.wrote.answers)
        → SinkFailed M s script stream.ended h fails from later
    failed t rest parts all =
        let w = t.wrote in
        record {
          done = w.done;
          rest = rest;
          parts = parts;
          first = λ more m. record { others = statements (t.left ++ more); parts = w.first more m };
          answers = w.answers;
          state = w.state;
          ran = w.ran;
          stands = w.stands;
          heard = subst
              (λ (x : Option (List Heard)). Hears from.heard (notes_of (placed_statements script) w.answers) x)
              (sym same) (to_told M s script stream h form summary from to t);
          text = w.text;
          reached = inr (record {
            allowed = may;
            texts = to_texts M s script stream h form summary from to t;
            all = all;
          });
          written = subst (λ x. Appends from.held x later.held) (append-nil w.text)
              (appends_on from.held to.held later.held w.text [] w.written a);
          cause = subst (λ n. HasFailed n later.writes) w.steady f;
        }

    by_case : (b : Bool) → stops M.bail summary ≡ b
        → MatchBool b (WroteRefusal M s script stream h form summary from to)
        (WroteAll M s script stream h form summary from to)
        → SinkFailed M s script stream.ended h fails from later
    by_case true e t =
        let w = t.to.wrote in
        failed t.to (answered stream.ended t.to.left)
        (asked_of stream.ended script t.to.left w.done w.finished
        (now_is stream.ended script t.to.left w.done w.first))
        (inr (inl (must_bail M.bail summary e, t.refused)))
    by_case false e t =
        let w = t.to.wrote in
        failed t.to []
        (all_asked M s script stream h form summary from to t ∙ sym (append-nil w.done))
        (inl (refl, λ b. sym w.counts.refused ∙ goes_on M.bail summary e b))

-- ---- a refusal that stops the run

-- if the counts stop the run, the last answer is a refusal
wrote_refusal : (M : Manner) (s : State) (script : List ℕ) (stream : Stream) (h : Standing) (form : Written)
    (summary : Summary) (from to : Shown) (earlier : List Answer) (last : Answer)
    → (t : WroteTo M s script stream h form summary from to) → t.wrote.answers ≡ earlier ++ last ∷ []
    → NoneRefused earlier → stops M.bail summary ≡ true
    → WroteRefusal M s script stream h form summary from to
wrote_refusal M s script stream h form summary from to earlier last t all none stopped = record {
  to = t;
  refused = refused_last last all;
}
  where
    by_bail : (b : Bool) → (b && false) ≡ true → ⊥
    by_bail true f = let bad : false ≡ true = f in absurd cc
    by_bail false f = let bad : false ≡ true = f in absurd cc

    some : (n : ℕ) → n ≡ 0 → (M.bail && not (n == 0)) ≡ true → ⊥
    some n e f = by_bail M.bail (subst (λ (k : ℕ). (M.bail && not (k == 0)) ≡ true) e f)

    refused_last : (r : Answer) → t.wrote.answers ≡ earlier ++ r ∷ [] → EndsRefused t.wrote.answers
    refused_last (Replied (machine.Refused e)) all = record { earlier = earlier; refusal = e; all = all; others = none }
    refused_last (Replied (machine.Done v n)) all = absurd (some summary.refused (t.wrote.counts.refused
        ∙ ap (λ (xs : List Answer). count_by is_refused xs) all ∙ count_on earlier (Replied (machine.Done v n)) ∙ none)
        stopped)
    refused_last (Replied (machine.Table hs rows)) all = absurd (some summary.refused (t.wrote.counts.refused
        ∙ ap (λ (xs : List Answer). count_by is_refused xs) all ∙ count_on earlier (Replied (machine.Table hs rows))
        ∙ none) stopped)
    refused_last Accepted all = absurd (some summary.refused (t.wrote.counts.refused
        ∙ ap (λ (xs : List Answer). count_by is_refused xs) all ∙ count_on earlier Accepted ∙ none) stopped)

-- one more answer, completely written: the refusal that stops the run
pub wrote_stop : {X E : Type 0} (fails : Bool) (M : Manner) (s : State) (script : List ℕ) (now after : Stream) (h new
    : Standing)
    (had form : Written) (summary counted : Summary) (answer : code.Answer) (from to later : Shown) (line : ℕ)
    (t0 : X) → length script < most_bytes → (IsTrue M.bail → summary.refused ≡ 0)
    → WroteTo M s script now h had summary from to → AnswersOne M.answering now after answer h new
    → line ≡ after.line → Hears to.heard (note_of (summary.statements + 1) line (answer_of answer)) later.heard
    → counted ≡ count_of summary (answer_of answer)
    → PassesOn {T = X} {E = E} M.style fails had form (summary.statements + 1) line (answer_of answer) (Ok t0) to.held
    later.held to.writes later.writes
    → stops M.bail counted ≡ true → WroteRefusal M s script after new form counted from later
wrote_stop fails M s script now after h new had form summary counted answer from to later line t0 short going t takes on
    told c prints stopped =
    let one = wrote_one fails M s script now after h new had form summary answer from to later line t0 short t takes
    on told
    prints in
    subst (λ (x : Summary). stops M.bail x ≡ true → WroteRefusal M s script after new form x from later) (sym c)
    (wrote_refusal M s script after new form (count_of summary (answer_of answer)) from later t.wrote.answers
    (answer_of answer) one.0 one.1 (sym t.wrote.counts.refused ∙ going (must_bail M.bail counted stopped))) stopped

-- ---- more bytes, and the end

-- more bytes were fed
pub wrote_fed : (M : Manner) (s : State) (script bytes : List ℕ) (now after : Stream) (h : Standing) (form : Written)
    (summary : Summary) (from to : Shown)
    → now.ended ≡ false → WroteTo M s script now h form summary from to → Feeds now after bytes
    → WroteTo M s (script ++ bytes) after h form summary from to
wrote_fed M s script bytes now after h form summary from to unended t fed =
    let w = t.wrote in
    let never : (more : List ℕ) → MayFollow now.ended more = λ more e.
    let bad : true ≡ false = sym e ∙ unended in absurd cc in
    record {
      passed = t.passed;
      left = t.left ++ bytes;
      holds = fed.holds t.passed t.left t.holds;
      wrote = record {
        parts = ap (λ (xs : List ℕ). xs ++ bytes) w.parts ∙ append_assoc t.passed t.left bytes;
        done = w.done;
        first = λ more m. ap statements (append_assoc script bytes more)
            ∙ w.first (bytes ++ more) (never (bytes ++ more))
            ∙ ap (λ (xs : List ℕ). w.done ++ statements xs) (sym (append_assoc t.left bytes more));
        finished = λ _. w.finished unended;
        places = w.places;
        placed = λ more m. ap placed_statements (append_assoc script bytes more)
            ∙ w.placed (bytes ++ more) (never (bytes ++ more))
            ∙ ap (λ (xs : List ℕ). w.places ++ placed_from t.passed xs) (sym (append_assoc t.left bytes more));
        answers = w.answers;
        state = w.state;
        ran = w.ran;
        stands = w.stands;
        wrote = w.wrote;
        text = w.text;
        texts = w.texts;
        written = w.written;
        even = w.even;
        heard = w.heard;
        counts = w.counts;
        steady = w.steady;
      };
    }

-- the end of the script was reported
pub wrote_ended : (M : Manner) (s : State) (script : List ℕ) (now after : Stream) (h : Standing) (form : Written)
    (summary : Summary) (from to : Shown) → WroteTo M s script now h form summary from to → Finishes now after
    → WroteTo M s script after h form summary from to
wrote_ended M s script now after h form summary from to t f =
    (wrote_as M s script now after h h form summary from to to t
    (f.holds t.passed t.left t.holds) (λ _. f.ended) (λ x st. st) (appends_none to.held) refl refl).0

-- every statement of the script was answered
wrote_script : (M : Manner) (s : State) (script : List ℕ) (stream : Stream) (h : Standing) (form : Written)
    (summary : Summary) (is_flushed : Bool) (from to : Shown) → stream.ended ≡ true → IsTrue is_flushed
    → WroteAll M s script stream h form summary from to → WroteScript M s script h form summary is_flushed from to
wrote_script M s script stream h form summary is_flushed from to ended passed_on t =
    let w = t.to.wrote in
    let all : statements script ≡ w.done = ap (λ (b : Bool). answered b script) (sym ended)
    ∙ all_asked M s script stream h form summary from to t in
    record {
      answers = w.answers;
      state = w.state;
      ran = subst (λ (ps : List Piece). RunBy M.answering s ps w.answers w.state) (sym all) w.ran;
      stands = w.stands;
      heard = to_told M s script stream h form summary from to t.to;
      wrote = w.wrote;
      text = w.text;
      texts = to_texts M s script stream h form summary from to t.to;
      written = w.written;
      counts = w.counts;
      steady = w.steady;
      flushed = passed_on;
    }

-- the first statements were answered, up to a refusal
pub refused_at : (M : Manner) (s : State) (script : List ℕ) (stream : Stream) (ended : Bool) (h : Standing)
    (form : Written) (summary : Summary) (is_flushed : Bool) (from to : Shown) → stream.ended ≡ ended
    → IsTrue is_flushed → WroteRefusal M s script stream h form summary from to
    → RefusedAt M s script ended h form summary is_flushed from to
refused_at M s script stream ended h form summary is_flushed from to same passed_on t =
    let w = t.to.wrote in
    record {
      done = w.done;
      rest = answered ended t.to.left;
      parts = subst (λ (b : Bool). answered b script ≡ w.done ++ answered b t.to.left) same
          (asked_of stream.ended script t.to.left w.done w.finished
          (now_is stream.ended script t.to.left w.done w.first));
      first = λ more m. record {
        others = statements (t.to.left ++ more);
        parts = w.first more (λ e. m (sym same ∙ e));
      };
      answers = w.answers;
      refused = t.refused;
      state = w.state;
      ran = w.ran;
      stands = w.stands;
      heard = to_told M s script stream h form summary from to t.to;
      wrote = w.wrote;
      text = w.text;
      texts = to_texts M s script stream h form summary from to t.to;
      written = w.written;
      counts = w.counts;
      steady = w.steady;
      flushed = passed_on;
    }

-- the outcome, depending on whether the run is stopped
pub wrote_rest : (M : Manner) (s : State) (script : List ℕ) (stream : Stream) (h : Standing)
    (form : Written) (summary : Summary) (is_flushed : Bool) (from to : Shown) → stream.ended ≡ true
    → IsTrue is_flushed → WroteReady M s script stream h form summary from to
    → MatchBool (stops M.bail summary) (RefusedAt M s script true h form summary is_flushed from to)
    (WroteScript M s script h form summary is_flushed from to)
wrote_rest M s script stream h form summary is_flushed from to ended passed_on t =
    by_case (stops M.bail summary) t.is
  where
    by_case : (b : Bool)
        → MatchBool b (WroteRefusal M s script stream h form summary from to)
        (WroteAll M s script stream h form summary from to)
        → MatchBool b (RefusedAt M s script true h form summary is_flushed from to)
        (WroteScript M s script h form summary is_flushed from to)
    by_case true t = refused_at M s script stream true h form summary is_flushed from to ended passed_on t
    by_case false t = wrote_script M s script stream h form summary is_flushed from to ended passed_on t

-- the first case of a test that is true
pub at_stop : (P Q : Type 0) (b : Bool) → b ≡ true → MatchBool b P Q → P
at_stop P Q true e p = p
at_stop P Q false e p = let bad : false ≡ true = e in absurd cc

pub at_going : (P Q : Type 0) (b : Bool) → b ≡ false → MatchBool b P Q → Q
at_going P Q true e p = let bad : true ≡ false = e in absurd cc
at_going P Q false e p = p

pub as_stop : (P Q : Type 0) (b : Bool) → b ≡ true → P → MatchBool b P Q
as_stop P Q true e p = p
as_stop P Q false e p = let bad : false ≡ true = e in absurd cc

pub as_going : (P Q : Type 0) (b : Bool) → b ≡ false → Q → MatchBool b P Q
as_going P Q true e q = let bad : true ≡ false = e in absurd cc
as_going P Q false e q = q

-- ---- counting

pub still_fewer : (summary : Summary) (answer : Answer) → summary.refused ≤ summary.statements
    → (count_of summary answer).refused ≤ (count_of summary answer).statements
still_fewer summary answer e = by_case (is_refused answer)
  where
    by_case : (b : Bool) → (if b then suc summary.refused else summary.refused) ≤ suc summary.statements
    by_case true = omega (arith, e)
    by_case false = omega (arith, e)

-- each counted refusal is also a counted answer
pub still_grown : (old summary counted : Summary) (answer : Answer) → counted ≡ count_of summary answer
    → summary.refused + old.statements ≤ summary.statements + old.refused
    → counted.refused + old.statements ≤ counted.statements + old.refused
still_grown old summary counted answer c e =
    subst (λ (x : Summary). x.refused + old.statements ≤ x.statements + old.refused) (sym c)
    (by_case (is_refused answer))
  where
    by_case : (b : Bool)
        → (if b then suc summary.refused else summary.refused) + old.statements ≤ suc summary.statements + old.refused
    by_case true = omega (arith, e)
    by_case false = omega (arith, e)

-- without a next answer, no statement is left
pub none_answered : (A : Answering) (o : Option code.Answer) (old new : Stream) (h after : Standing)
    → AnswersNext A o old new h after → ((x : code.Answer) → o ≡ Some x → ⊥) → AnswersNone old new h after
none_answered A None old new h after t n = t
none_answered A (Some r) old new h after t n = absurd (n r refl)

-- equal end states can be replaced
pub failed_as : (M : Manner) (s : State) (script : List ℕ) (was is : Bool) (after : Standing) (fails : Bool)
    (from to : Shown) → was ≡ is → SinkFailed M s script was after fails from to
    → SinkFailed M s script is after fails from to
failed_as M s script was is after fails from to e f =
    subst (λ (b : Bool). SinkFailed M s script b after fails from to) e f

-- In the plain style, the text written is the text of the answers.
use Rattle.std.proofs.Common.{◌≡◌, sym, ◌∙◌, ap, subst, ℕ, suc, true, false, inl, inr, List, [], ◌∷◌, Ok, Err}
use Rattle.std.specs.Prelude.{◌++◌, ◌⊎◌, IsTrue, Result, ⊤}
use Rattle.tql_spec.specs.Answer.{Answer}
use Rattle.tql_spec.specs.Lines.{Placed, placed_statements}
use Rattle.tql_spec.specs.Machine.{State}
use Rattle.tql_spec.specs.Text.{answer_text, answers_text}
use Rattle.tql_spec.specs.Run.{Answering}
use Rattle.tql_result.specs.Devices.{Appends}
use Rattle.tql_run.specs.Hearing.{HearingChange}
use Rattle.tql_run.specs.Responding.{Standing}
use Rattle.tql_run.specs.Runs.{CutsLast, SourceChange, SinkChange, Runs}
use Rattle.tql_run.specs.RunsIn.{CutsLastIn, FailsFlush, GoesOn, EndsRefused, EndsReported, RunsIn, plainly}
use Rattle.tql_run.specs.Texts.{AreTexts, AreTextsFrom, plain_texts}
use Rattle.tql_run.specs.declared.runner.Summary.{Summary}
use Rattle.tql_run.specs.declared.runner.Fault.{Fault}
use Rattle.tql_run.specs.declared.runner.Fault.TheVariants.{Read, Write, Memory}

-- the texts of several answers
plain_from : (earlier : List Answer) (n : ℕ) (places : List Placed) (answers : List Answer) (bytes : List ℕ)
    → AreTextsFrom plain_texts earlier n places answers bytes → bytes ≡ answers_text answers
plain_from earlier n [] [] bytes are = are
plain_from earlier n (p ∷ ps) [] bytes are = are
plain_from earlier n [] (y ∷ ys) bytes are = absurd are
plain_from earlier n (x ∷ xs) (y ∷ ys) bytes (here, (rest, parts, one, are)) = parts
    ∙ ap (λ (l : List ℕ). l ++ rest) one
    ∙ ap (λ (l : List ℕ). answer_text y ++ l) (plain_from (earlier ++ y ∷ []) (suc n) xs ys rest are)

pub texts_plain : (places : List Placed) (answers : List Answer) (bytes : List ℕ)
    → AreTexts plain_texts places answers bytes → bytes ≡ answers_text answers
texts_plain places answers bytes are = plain_from [] 1 places answers bytes are

-- a proper prefix of the last text
pub cuts_plain : (A : Answering) (places : List Placed) (answers : List Answer) (text : List ℕ)
    → CutsLastIn (plainly A) places answers text → CutsLast answers text
cuts_plain A places answers text c = record {
  earlier = c.earlier;
  last = c.last;
  all = c.all;
  front = c.front;
  back = c.back;
  parts = sym c.is_text;
  lacks = c.lacks;
  is = c.is ∙ ap (λ (l : List ℕ). l ++ c.front) (texts_plain places c.earlier c.before c.texts);
}

-- a run in the plain style
pub runs_plain : (A : Answering) (s : State) (after : Standing) (source : SourceChange) (sink : SinkChange)
    (hearing : HearingChange) (result : Result Summary Fault)
    → RunsIn (plainly A) s after (λ _. ⊤) source sink hearing result
    → Runs A s after source sink hearing result
runs_plain A s after source sink hearing (Ok summary) r = record {
  script = r.script;
  given = r.given;
  ended = r.ended;
  answers = r.answers;
  state = r.state;
  ran = r.ran;
  stands = r.stands;
  heard = r.heard;
  written = subst (λ (text : List ℕ). Appends sink.held_old text sink.held_new)
      (texts_plain (placed_statements r.script) r.answers r.text r.texts) r.written;
  counts = r.counts;
  writes = r.writes;
  flushed = r.flushed;
}
runs_plain A s after source sink hearing (Err Read) r = record {
  script = r.script;
  given = r.given;
  cut = r.cut;
  answers = r.answers;
  state = r.state;
  ran = r.ran;
  stands = r.stands;
  heard = r.heard;
  written = subst (λ (text : List ℕ). Appends sink.held_old text sink.held_new)
      (texts_plain (placed_statements r.script) r.answers r.text r.texts) r.written;
  writes = r.writes;
  flushed = r.flushed;
}
runs_plain A s after source sink hearing (Err Write) r = record {
  script = r.script;
  given = r.given;
  met = r.met;
  read = r.read;
  done = r.done;
  rest = r.rest;
  parts = r.parts;
  first = r.first;
  answers = r.answers;
  state = r.state;
  ran = r.ran;
  stands = r.stands;
  heard = r.heard;
  text = r.text;
  reached = by_case r.reached;
  written = r.written;
  cause = r.cause;
}
  where
    flushing : FailsFlush (plainly A) sink.flushes_fail r.rest (placed_statements r.script) r.answers r.text
        → ((r.rest ≡ []) × GoesOn false r.answers)
        ⊎ ((IsTrue false × EndsRefused r.answers) ⊎ EndsReported (plainly A) r.answers)
        → (r.rest ≡ []) × (r.text ≡ answers_text r.answers) × IsTrue sink.flushes_fail
    flushing f (inl (none, going)) =
        (none, texts_plain (placed_statements r.script) r.answers r.text f.texts, f.allowed)
    flushing f (inr (inl (bail, last))) = let bad : false ≡ true = bail in absurd cc
    flushing f (inr (inr left)) = let bad : false ≡ true = left.is_reported in absurd cc

    by_case : CutsLastIn (plainly A) (placed_statements r.script) r.answers r.text
        ⊎ FailsFlush (plainly A) sink.flushes_fail r.rest (placed_statements r.script) r.answers r.text
        → CutsLast r.answers r.text
        ⊎ ((r.rest ≡ []) × (r.text ≡ answers_text r.answers) × IsTrue sink.flushes_fail)
    by_case (inl c) = inl (cuts_plain A (placed_statements r.script) r.answers r.text c)
    by_case (inr f) = inr (flushing f f.all)
runs_plain A s after source sink hearing (Err Memory) r = r

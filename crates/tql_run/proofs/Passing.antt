-- The push of an answer in a form that has written earlier answers, and the flush after it.
use Rattle.std.proofs.Common.{◌∙◌, subst, ℕ, Bool, List, [], ◌∷◌, ◌++◌, Option, inl, inr, Ok, Err}
use Rattle.std.proofs.Common.{append_assoc, append-nil}
use Rattle.std.specs.Prelude.{Result, IsTrue, OnErr, is_err}
use Rattle.tql_spec.specs.Answer.{Answer}
use Rattle.tql_result.specs.Devices.{Appends, Counts, HasFailed, Held}
use Rattle.tql_run.specs.Texts.{Texts, Written, Writes, PassesOn, style_after, written_after}
use Rattle.tql_run.proofs.OneMore.{appends_on}

-- the answers written since the earlier ones, with one more
wrote_on : (form : Written) (before earlier : List Answer) (answer : Answer) → form ((before ++ earlier) ++ answer ∷ [])
    → written_after before form (earlier ++ answer ∷ [])
wrote_on form before earlier answer w = subst form (append_assoc before earlier (answer ∷ [])) w

-- the answer was completely written, and the sink flushed if requested
pub pushed_whole : {X E : Type 0} (T : Texts) (reported : Answer → Bool) (before : List Answer) (fails : Bool)
    (had form : Written) (number line : ℕ) (answer : Answer) (u : X) (result : Result X E) (o m : Held)
    (n : Option (List ℕ))
    (b k j : ℕ) → Writes {T = X} {E = E} T had form number line answer (Ok u) o m b k
    → Appends m.bytes [] n → Counts (is_err result) k j → OnErr result (IsTrue (reported answer) × IsTrue fails)
    → PassesOn (style_after before T reported) fails (written_after before had) (written_after before form) number line
    answer result o.bytes n b j
pushed_whole T reported before fails had form number line answer u (Ok v) o m n b k j writes kept counted allowed
    earlier w =
    let p = writes.prints (before ++ earlier) w in
    record {
      text = p.text;
      is_text = p.is_text;
      whole = subst (λ (xs : List ℕ). Appends o.bytes xs n) (append-nil p.text)
          (appends_on o.bytes m.bytes n p.text [] p.pushes.whole kept);
      no_failure = counted ∙ p.pushes.no_failure;
      wrote = wrote_on form before earlier answer p.wrote;
      cut = tt;
      failure = tt;
    }
pushed_whole T reported before fails had form number line answer u (Err e) o m n b k j writes kept counted allowed
    earlier w =
    let p = writes.prints (before ++ earlier) w in
    record {
      text = p.text;
      is_text = p.is_text;
      whole = tt;
      no_failure = tt;
      wrote = tt;
      cut = inr (
        allowed,
        subst (λ (xs : List ℕ). Appends o.bytes xs n) (append-nil p.text)
            (appends_on o.bytes m.bytes n p.text [] p.pushes.whole kept),
      );
      failure = subst (λ (x : ℕ). HasFailed x j) p.pushes.no_failure counted;
    }

-- a proper prefix of the answer was written
pub pushed_cut : {X E : Type 0} (T : Texts) (reported : Answer → Bool) (before : List Answer) (fails : Bool)
    (had form : Written) (number line : ℕ) (answer : Answer) (e : E) (o n : Held) (b k : ℕ)
    → Writes {T = X} {E = E} T had form number line answer (Err e) o n b k
    → PassesOn {T = X} {E = E} (style_after before T reported) fails (written_after before had)
    (written_after before form) number line answer (Err e) o.bytes n.bytes b k
pushed_cut T reported before fails had form number line answer e o n b k writes earlier w =
    let p = writes.prints (before ++ earlier) w in
    record {
      text = p.text;
      is_text = p.is_text;
      whole = tt;
      no_failure = tt;
      wrote = tt;
      cut = inl p.pushes.cut;
      failure = p.pushes.failure;
    }

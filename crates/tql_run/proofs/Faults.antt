-- The reference model, the engine and the check refuse a piece for the faults that are visible without parsing.
use Rattle.std.proofs.Common.{◌≡◌, refl, sym, subst, inl, inr, ◌<◌, ◌≤◌, ℕ, Bool, true, false, arith, List, length}
use Rattle.std.proofs.Common.{IsTrue, IsFalse}
use Rattle.tql_spec.specs.Refusal.{Refusal}
use Rattle.tql_spec.specs.Machine.{State, Refused}
use Rattle.tql_spec.specs.Answer.{Answer, Replied}
use Rattle.tql_spec.specs.Script.{Piece}
use Rattle.tql_spec.specs.Run.{Answering, Replies, Checks, Faulty, HasSense, IsWhole, finished}
use Rattle.tql_splitter.specs.Pending.{room}
use Rattle.tql_value.specs.Refusals.{refusal_of}
use Rattle.tql_value.specs.declared.refusal.Refusal.TheVariants.{StatementTooLong, OutOfMemory}
use Rattle.tql_run.specs.Ending.{EndsTransaction, Responds}
use Rattle.tql_run.specs.Pieces.{HasFault, IsCutFault, RefusesFaults}
use Rattle.tql_run.specs.Responding.{Answered, Standing}

-- a visible fault is the sense of the piece
fault_sense : (p : Piece) (e : Refusal) → HasFault p e → HasSense p (Faulty e)
fault_sense p e (inl (is, long)) = subst (λ (x : Refusal). HasSense p (Faulty x)) (sym is) long
fault_sense p e (inr (short, cut, inl (is, none))) =
    subst (λ (x : Refusal). HasSense p (Faulty x)) (sym is) (short, none)
fault_sense p e (inr (short, cut, inr (is, utf8))) =
    subst (λ (x : Refusal). HasSense p (Faulty x)) (sym is) (short, utf8, cut)

pub replies_refuse : RefusesFaults Replies
replies_refuse = record {
  at_once = λ s p e f. inl (Faulty e, fault_sense p e f, refl);
  for_memory = λ s p long. inr (refl, refl);
}

pub checks_refuse : RefusesFaults Checks
checks_refuse = record {
  at_once = λ s p e f. (inl (Faulty e, fault_sense p e f, refl), refl);
  for_memory = λ s p long. (inr refl, refl);
}

-- ---- the ends of transactions

-- the text of a COMMIT or a ROLLBACK has no fault in its bytes
ends_whole : (text : List ℕ) → EndsTransaction text → IsWhole (finished text)
ends_whole text (inl c) = c.0
ends_whole text (inr r) = r.0

true_or_false : (b : Bool) → IsTrue b → IsFalse b → ⊥
true_or_false true t f = cc
true_or_false false t f = cc

-- no piece with a visible fault is a COMMIT or a ROLLBACK
not_at_once : (p : Piece) (e : Refusal) → HasFault p e → IsTrue p.finished → EndsTransaction p.text → ⊥
not_at_once p e (inl (is, long)) f ends = let w = (ends_whole p.text ends).short in omega (arith, long, w)
not_at_once p e (inr (short, cut, why)) f ends = true_or_false p.finished f cut

-- the engine refuses pieces for visible faults as the model does, and pieces over the size limit possibly for lack of
-- memory
pub responds_refuse : RefusesFaults Responds
responds_refuse = record {
  at_once = λ s p e f. (replies_refuse.at_once s p e f, λ whole short ends. absurd (not_at_once p e f whole ends));
  for_memory = λ s p long.
      (replies_refuse.for_memory s p long, λ whole short ends. absurd (omega (arith, long, short)));
}

-- ---- pieces

-- a piece with a finished text
pub text_answered : (A : Answering) (s : State) (p : Piece) (text : List ℕ) (answer : Answer) (after : Standing)
    → p.text ≡ text → IsTrue p.finished
    → Answered A s (finished text) answer after → Answered A s p answer after
text_answered A s p text answer after e f a = let whole : finished text ≡ p = λ i. record {
  text = (sym e) i;
  finished = (sym f) i;
} in subst (λ q. Answered A s q answer after) whole a

-- a piece that is too long
pub long_answered : (A : Answering) → RefusesFaults A → (s : State) (p : Piece) (after : Standing) → after s
    → 1_048_576 < length p.text
    → Answered A s p (Replied (Refused (refusal_of StatementTooLong))) after
long_answered A law s p after st long = record {
  state = s;
  answers = law.at_once s p (refusal_of StatementTooLong) (inl (refl, long));
  stands = st;
}

-- a piece without a closing `;`
pub cut_answered : (A : Answering) → RefusesFaults A
    → (s : State) (p : Piece) (text : List ℕ) (after : Standing) (e : Refusal) → after s → p.text ≡ text
    → IsFalse p.finished
    → length text ≤ 1_048_576 → IsCutFault text e → Answered A s p (Replied (Refused e)) after
cut_answered A law s p text after e st is cut short fault = record {
  state = s;
  answers = law.at_once s p e (inr
      (subst (λ t. length t ≤ 1_048_576) (sym is) short, cut, subst (λ t. IsCutFault t e) (sym is) fault));
  stands = st;
}

-- a piece for which memory was refused
pub memory_answered : (A : Answering) → RefusesFaults A → (s : State) (p : Piece) (after : Standing) → after s
    → room < length p.text → Answered A s p (Replied (Refused (refusal_of OutOfMemory))) after
memory_answered A law s p after st long =
    record { state = s; answers = law.for_memory s p long; stands = st }

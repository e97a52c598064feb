-- From one answer to the next: the texts that the sink was given to keep.
use Rattle.std.proofs.Common.{◌≡◌, refl, sym, ◌∙◌, ap, subst, ℕ, Bool, true, false, List, [], ◌∷◌, Option, Some, None}
use Rattle.std.proofs.Common.{inl, inr, append_assoc, append-nil}
use Rattle.std.specs.Prelude.{◌++◌, ◌⊎◌, IsTrue, if◌then◌else◌}
use Rattle.tql_spec.specs.Answer.{Answer}
use Rattle.tql_spec.specs.Bag.{In}
use Rattle.tql_spec.specs.Machine.{State}
use Rattle.tql_spec.specs.Run.{Answering, RunBy}
use Rattle.tql_spec.specs.Script as script
use Rattle.tql_spec.specs.Script.{statements}
use Rattle.tql_spec.proofs.MemberLists.{in_either}
use Rattle.tql_journal_laws.specs.Recovery.{ArePiecesOfScripts}
use Rattle.tql_journal_laws.proofs.ScriptBytes.{statements_have_texts}
use Rattle.tql_splitter.specs.Feeding.{Feeds, Finishes}
use Rattle.tql_splitter.specs.Holding.{Holds}
use Rattle.tql_splitter.specs.Pieces.{GivesOne, StandsFor}
use Rattle.tql_splitter.specs.Stream.{Stream}
use Rattle.tql_splitter.specs.declared.piece.Piece.{Piece}
use Rattle.tql_splitter.specs.declared.piece.Piece.TheVariants.{Text, TooLong, NoMemory, Unfinished}
use Rattle.tql_result.specs.Devices.{with_text, with_texts}
use Rattle.tql_run.specs.Kept.{HoldsSome, KeepsFrom, KeepsIn, KeepsOn, is_kept_answer, is_text, kept_after, kept_text}
use Rattle.tql_run.specs.Kept.{kept_texts}
use Rattle.tql_run.specs.Responding.{Answered, Standing}
use Rattle.tql_run.specs.Writing.{AnswersNone}

-- ---- lists of texts

with_none : (had : Option (List (List ℕ))) → had ≡ with_texts [] had
with_none None = refl
with_none (Some texts) = ap Some (sym (append-nil texts))

with_more : (first more : List (List ℕ)) (had : Option (List (List ℕ)))
    → with_texts more (with_texts first had) ≡ with_texts (first ++ more) had
with_more first more None = refl
with_more first more (Some texts) = ap Some (append_assoc texts first more)

-- ---- two runs, one after the other

pub run_both : (A : Answering) (s mid new : State) (ps qs : List script.Piece) (rs ts : List Answer)
    → RunBy A s ps rs mid → RunBy A mid qs ts new → RunBy A s (ps ++ qs) (rs ++ ts) new
run_both A s mid new [] qs [] ts ran more = subst (λ (x : State). RunBy A x qs ts new) ran more
run_both A s mid new [] qs (r ∷ rs) ts ran more = absurd ran
run_both A s mid new (p ∷ ps) qs [] ts ran more = absurd ran
run_both A s mid new (p ∷ ps) qs (r ∷ rs) ts ran more =
    (ran.0, ran.1, run_both A ran.0 mid new ps qs rs ts ran.2 more)

texts_both : (A : Answering) (s mid : State) (ps qs : List script.Piece) (rs ts : List Answer) → RunBy A s ps rs mid
    → kept_texts (ps ++ qs) (rs ++ ts) ≡ kept_texts ps rs ++ kept_texts qs ts
texts_both A s mid [] qs [] ts ran = refl
texts_both A s mid [] qs (r ∷ rs) ts ran = absurd ran
texts_both A s mid (p ∷ ps) qs [] ts ran = absurd ran
texts_both A s mid (p ∷ ps) qs (r ∷ rs) ts ran =
    ap (λ (texts : List (List ℕ)). kept_text p r ++ texts) (texts_both A ran.0 mid ps qs rs ts ran.2)
    ∙ sym (append_assoc (kept_text p r) (kept_texts ps rs) (kept_texts qs ts))

are_both : (ps qs : List script.Piece) → ArePiecesOfScripts ps → ArePiecesOfScripts qs → ArePiecesOfScripts (ps ++ qs)
are_both ps qs a b p i = elim (in_either p ps qs i) [ inl m ↦ a p m | inr m ↦ b p m ]

keeps_both : (A : Answering) (s : State) (mid after : Standing) (had kept later : Option (List (List ℕ)))
    → (k : KeepsIn A s mid had kept) → KeepsIn A k.state after kept later → KeepsIn A s after had later
keeps_both A s mid after had kept later k l = record {
  pieces = k.pieces ++ l.pieces;
  answers = k.answers ++ l.answers;
  state = l.state;
  are = are_both k.pieces l.pieces k.are l.are;
  ran = run_both A s k.state l.state k.pieces l.pieces k.answers l.answers k.ran l.ran;
  stands = l.stands;
  is = l.is
      ∙ ap (λ (x : Option (List (List ℕ))). with_texts (kept_texts l.pieces l.answers) x) k.is
      ∙ with_more (kept_texts k.pieces k.answers) (kept_texts l.pieces l.answers) had
      ∙ ap (λ (texts : List (List ℕ)). with_texts texts had)
      (sym (texts_both A s k.state k.pieces l.pieces k.answers l.answers k.ran));
}

-- ---- no statement, and one

pub keeps_none : (A : Answering) (s : State) (after : Standing) (had kept : Option (List (List ℕ))) → after s
    → kept ≡ had → KeepsIn A s after had kept
keeps_none A s after had kept st same = record {
  pieces = [];
  answers = [];
  state = s;
  are = λ p i. absurd i;
  ran = refl;
  stands = st;
  is = same ∙ with_none had;
}

keeps_one : (A : Answering) (s : State) (after : Standing) (had kept : Option (List (List ℕ))) (p : script.Piece)
    (answer : Answer) → ArePiecesOfScripts (p ∷ []) → Answered A s p answer after
    → kept ≡ with_texts (kept_text p answer) had → KeepsIn A s after had kept
keeps_one A s after had kept p answer are a same = record {
  pieces = p ∷ [];
  answers = answer ∷ [];
  state = a.state;
  are = are;
  ran = (a.state, a.answers, refl);
  stands = a.stands;
  is = same ∙ ap (λ (texts : List (List ℕ)). with_texts texts had) (sym (append-nil (kept_text p answer)));
}

-- the first statement of a script is a piece of it
is_of_script : (bytes rest : List ℕ) (p : script.Piece) → statements bytes ≡ p ∷ statements rest
    → ArePiecesOfScripts (p ∷ [])
is_of_script bytes rest p e q (inl is) =
    statements_have_texts bytes q (subst (λ (ps : List script.Piece). In q ps) (sym e) (inl is))
is_of_script bytes rest p e q (inr none) = absurd none

-- the sink was given the text of the piece, if a journal keeps its statement
kept_as : (piece : Piece) (p : script.Piece) (answer : Answer) (had kept : Option (List (List ℕ)))
    → (IsTrue (is_kept_answer answer) → IsTrue (is_text piece)) → StandsFor piece p
    → kept ≡ kept_after piece answer had → kept ≡ with_texts (kept_text p answer) had
kept_as piece p answer had kept only says e = e ∙ by piece only says
  where
    one : (b : Bool) (text : List ℕ)
        → (if b then with_text text had else had) ≡ with_texts (if b then text ∷ [] else []) had
    one true text = refl
    one false text = with_none had

    none : (b : Bool) → (b ≡ true → false ≡ true) → had ≡ with_texts (if b then p.text ∷ [] else []) had
    none true f = let bad : false ≡ true = f refl in absurd cc
    none false f = with_none had

    by : (piece : Piece) → (IsTrue (is_kept_answer answer) → IsTrue (is_text piece)) → StandsFor piece p
        → kept_after piece answer had ≡ with_texts (kept_text p answer) had
    by (Text t) only says =
        one (is_kept_answer answer) t.now
        ∙ ap (λ (text : List ℕ). with_texts (if is_kept_answer answer then text ∷ [] else []) had) (sym says.0)
    by TooLong only says = none (is_kept_answer answer) only
    by NoMemory only says = none (is_kept_answer answer) only
    by (Unfinished t) only says = none (is_kept_answer answer) only

-- ---- the statements of a splitter

-- the next statement was answered
pub kept_one : (A : Answering) (piece : Piece) (old new : Stream) (before after : Standing) (answer : Answer)
    (had kept : Option (List (List ℕ))) → GivesOne (StandsFor piece) old new
    → ((s : State) (p : script.Piece) → before s → StandsFor piece p → Answered A s p answer after)
    → (IsTrue (is_kept_answer answer) → IsTrue (is_text piece)) → kept ≡ kept_after piece answer had
    → KeepsOn A old new before after had kept
kept_one A piece old new before after answer had kept gives answers only same has =
    let t = gives.takes has.passed has.left has.holds in
    record {
      holds = record { passed = has.passed ++ t.used; left = t.rest; holds = t.holds };
      keeps = λ s st. keeps_one A s after had kept t.piece answer
          (is_of_script (has.left ++ []) (t.rest ++ []) t.piece (t.first.given [] (λ _. refl)))
          (answers s t.piece st t.is) (kept_as piece t.piece answer had kept only t.is same);
    }

-- there was none
pub kept_none : (A : Answering) (old new : Stream) (before after : Standing) (had kept : Option (List (List ℕ)))
    → AnswersNone old new before after → kept ≡ had → KeepsOn A old new before after had kept
kept_none A old new before after had kept n same has =
    let t = n.none.takes has.passed has.left has.holds in
    record {
      holds = record { passed = has.passed; left = has.left; holds = t.holds };
      keeps = λ s st. keeps_none A s after had kept (n.stands s st) same;
    }

-- before any statement
pub kept_first : (A : Answering) (stream : Stream) (before : Standing) (had : Option (List (List ℕ)))
    → KeepsOn A stream stream before before had had
kept_first A stream before had has = record {
  holds = has;
  keeps = λ s st. keeps_none A s before had had st refl;
}

-- more statements
pub kept_more : (A : Answering) (old mid new : Stream) (before between after : Standing)
    (had kept later : Option (List (List ℕ))) → KeepsOn A old mid before between had kept
    → KeepsOn A mid new between after kept later → KeepsOn A old new before after had later
kept_more A old mid new before between after had kept later k l has =
    let f = k has in
    let g = l f.holds in
    record {
      holds = g.holds;
      keeps = λ s st. let x = f.keeps s st in keeps_both A s between after had kept later x (g.keeps x.state x.stands);
    }

-- the sink was given no more
pub kept_same : (A : Answering) (old new : Stream) (before after : Standing) (had kept later : Option (List (List ℕ)))
    → KeepsOn A old new before after had kept → later ≡ kept → KeepsOn A old new before after had later
kept_same A old new before after had kept later k same =
    subst (λ (x : Option (List (List ℕ))). KeepsOn A old new before after had x) (sym same) k

-- more statements, after some that are known to be kept
pub kept_through : (A : Answering) (mid new : Stream) (before between after : Standing)
    (had kept later : Option (List (List ℕ))) → KeepsFrom A mid before between had kept
    → KeepsOn A mid new between after kept later → KeepsFrom A new before after had later
kept_through A mid new before between after had kept later f l =
    kept_more A mid mid new before between after had kept later (λ has. f) l f.holds

-- more bytes were fed
pub kept_fed : (A : Answering) (old new : Stream) (bytes : List ℕ) (before after : Standing)
    (had kept : Option (List (List ℕ))) → KeepsFrom A old before after had kept → Feeds old new bytes
    → KeepsFrom A new before after had kept
kept_fed A old new bytes before after had kept k f = record {
  holds = record {
    passed = k.holds.passed;
    left = k.holds.left ++ bytes;
    holds = f.holds k.holds.passed k.holds.left k.holds.holds;
  };
  keeps = k.keeps;
}

-- the end of the input was marked
pub holds_finished : (old new : Stream) → Finishes old new → HoldsSome old → HoldsSome new
holds_finished old new f has = record {
  passed = has.passed;
  left = has.left;
  holds = f.holds has.passed has.left has.holds;
}

pub kept_ended : (A : Answering) (old new : Stream) (before after : Standing) (had kept : Option (List (List ℕ)))
    → KeepsFrom A old before after had kept → Finishes old new → KeepsFrom A new before after had kept
kept_ended A old new before after had kept k f = record {
  holds = holds_finished old new f k.holds;
  keeps = k.keeps;
}

-- The premises of the merge can be met: two sessions, whose statements come in parts that cross, and a step between.
use Rattle.std.proofs.Common.{◌≡◌, refl, sym, ap, subst, ◌∙◌, true, false, ℕ, List, [], ◌∷◌, ◌++◌, Some, None, inr}
use Rattle.std.specs.Prelude.{IsTrue}
use Rattle.tql_spec.specs.Machine.{Reply, Refused, new_state}
use Rattle.tql_spec.specs.Refusal.{OutOfMemory}
use Rattle.tql_spec.specs.Script.{Piece, statements}
use Rattle.tql_turns.specs.Merge.{Feed, Finish, Next, Event, Turn, Apart, Interleaved, Input, model, put}
use Rattle.tql_turns.specs.Merge.{Feeds, AnswersOne, SessionsRan, told}
use Rattle.tql_turns.specs.Merge.{fed, calls_of, of}
use Rattle.tql_turns.proofs.Merge.{sessions_merge}

abbrev full : Reply
full = Refused OutOfMemory

-- a piece of one letter
abbrev letter : ℕ → Piece
letter b = record { text = b ∷ []; finished = true }

-- session 0 is fed `a`, session 1 `b;`; a step answers `c`; session 0 is fed `;` and ends, and both take their answers
abbrev events : List (Event Reply)
events =
    Turn 0 (Feed (97 ∷ [])) ∷ Turn 1 (Feed (98 ∷ 59 ∷ [])) ∷ Apart (record { piece = letter 99; reply = full } ∷ [])
    ∷ Turn 0 (Feed (59 ∷ [])) ∷ Turn 0 Finish ∷ Turn 1 (Next (Some full)) ∷ Turn 0 (Next (Some full))
    ∷ Turn 0 (Next None) ∷ []

abbrev start : ℕ → Input
start n = record { passed = []; left = []; ended = false }

-- the streams after each event
abbrev a1 : Input
a1 = record { passed = []; left = 97 ∷ []; ended = false }

abbrev b1 : Input
b1 = record { passed = []; left = 98 ∷ 59 ∷ []; ended = false }

abbrev a2 : Input
a2 = record { passed = []; left = 97 ∷ 59 ∷ []; ended = false }

abbrev a3 : Input
a3 = record { passed = []; left = 97 ∷ 59 ∷ []; ended = true }

abbrev b2 : Input
b2 = record { passed = 98 ∷ 59 ∷ []; left = []; ended = false }

abbrev a4 : Input
a4 = record { passed = 97 ∷ 59 ∷ []; left = []; ended = true }

abbrev final : ℕ → Input
final = put 0 a4 (put 0 a4 (put 1 b2 (put 0 a3 (put 0 a2 (put 1 b1 (put 0 a1 start))))))

-- bytes that are fed to an input that has not ended
feeds : (old new : Input) (bytes : List ℕ) → old.ended ≡ false → new.ended ≡ old.ended → new.passed ≡ old.passed
    → new.left ≡ old.left ++ bytes → Feeds model old new bytes
feeds old new bytes open_then e p l = record {
  ended = e;
  allowed = λ t. let never : false ≡ true = subst IsTrue open_then t in absurd (cc);
  holds = λ q m h. (p ∙ h.0, l ∙ ap (λ xs. xs ++ bytes) h.1);
}

-- a statement that is refused for memory
answers : (b : ℕ) (old new : Input) → new.ended ≡ old.ended → old.passed ≡ [] → old.left ≡ b ∷ 59 ∷ []
    → new.passed ≡ b ∷ 59 ∷ [] → new.left ≡ []
    → ((more : List ℕ) → statements (b ∷ 59 ∷ more) ≡ letter b ∷ statements more)
    → AnswersOne model full old new new_state new_state
answers b old new e p l p' l' is = record {
  ended = e;
  takes = λ q m h s st. record {
    piece = letter b;
    used = b ∷ 59 ∷ [];
    rest = [];
    given = λ more k. ap (λ xs. statements (xs ++ more)) (sym h.1 ∙ l) ∙ is more;
    holds = (p' ∙ ap (λ xs. xs ++ b ∷ 59 ∷ []) (sym p ∙ h.0), l');
    state = s;
    answers = inr (refl, refl);
    stands = st;
  };
}

met : Interleaved model events start new_state final new_state
met = (
  a1,
  (
    new_state,
    (
      (feeds (start 0) a1 (97 ∷ []) refl refl refl refl, refl),
      (
        b1,
        (
          new_state,
          (
            (feeds (start 1) b1 (98 ∷ 59 ∷ []) refl refl refl refl, refl),
            (
              new_state,
              (
                (λ s st. record { state = s; ran = (s, inr (refl, refl), refl); stands = st }),
                (
                  a2,
                  (
                    new_state,
                    (
                      (feeds a1 a2 (59 ∷ []) refl refl refl refl, refl),
                      (
                        a3,
                        (
                          new_state,
                          (
                            (record { ended = refl; holds = λ q m h. h }, refl),
                            (
                              b2,
                              (
                                new_state,
                                (
                                  answers 98 b1 b2 refl refl refl refl refl (λ more. refl),
                                  (
                                    a4,
                                    (
                                      new_state,
                                      (
                                        answers 97 a3 a4 refl refl refl refl refl (λ more. refl),
                                        (
                                          a4,
                                          (
                                            new_state,
                                            (
                                              record { ended = refl; holds = λ q m h. h; stands = λ s st. st },
                                              ((λ n. refl), refl),
                                            ),
                                          ),
                                        ),
                                      ),
                                    ),
                                  ),
                                ),
                              ),
                            ),
                          ),
                        ),
                      ),
                    ),
                  ),
                ),
              ),
            ),
          ),
        ),
      ),
    ),
  ),
)

-- so they merge: the step first, then session 1, then session 0
merged : SessionsRan model new_state events final new_state
merged = sessions_merge model events start final new_state new_state (λ n. (refl, refl)) met new_state refl

order : told events
    ≡ record { by = None; is = full } ∷ record { by = Some 1; is = full } ∷ record { by = Some 0; is = full } ∷ []
order = refl

-- each session has its own bytes, and its own answers
own_bytes : (fed (calls_of 0 events) ≡ 97 ∷ 59 ∷ []) × (fed (calls_of 1 events) ≡ 98 ∷ 59 ∷ [])
own_bytes = (refl, refl)

own_answers : (of 0 (told events) ≡ full ∷ []) × (of 1 (told events) ≡ full ∷ []) × (of 2 (told events) ≡ [])
own_answers = (refl, refl, refl)

-- a call of one session leaves the streams of the others
own_stream : (put 0 a1 start 0 ≡ a1) × (put 0 a1 start 1 ≡ start 1)
own_stream = (refl, refl)

-- Sessions that take turns on one engine are one run over a merge of their statements.
use Rattle.std.proofs.Common.{◌≡◌, refl, sym, ap, subst, ◌∙◌, arith, ℕ, true, List, [], ◌∷◌, ◌++◌, Some, None}
use Rattle.std.proofs.lemmas.List.{append_assoc, append-nil}
use Rattle.std.proofs.lemmas.Bool.Decides.{nat_tests}
use Rattle.std.specs.Prelude.{◌==◌, Bool, IsTrue, if◌then◌else◌}
use Rattle.tql_spec.specs.Machine.{State}
use Rattle.tql_spec.specs.Run.{RunBy, RunsKeepConstraints}
use Rattle.tql_spec.specs.HorizonLaws.{PrunesAreUnseen}
use Rattle.tql_spec.specs.Script.{Piece, statements}
use Rattle.tql_spec.proofs.Members.{by_bool}
use Rattle.tql_turns.specs.Merge.{Tagged, is_session, of, all, put, Setting, MayFollow, Call, Feed, Finish}
use Rattle.tql_turns.specs.Merge.{Next, fed, given, Step, pieces, replies, Event, Turn, Apart, if_own, calls_of}
use Rattle.tql_turns.specs.Merge.{told_by, told_apart, told, Turns, Interleaved, replies_by, SessionsMerge}
use Rattle.tql_turns.specs.Merge.{SessionsMergeOn}
use Rattle.tql_turns.specs.Merge.{MergesShowOwn}
use Rattle.tql_turns.specs.Promises.{MergesKeepPromises}
use Rattle.tql_points.proofs.PointRuns.{runs_agree_behind}

-- ---- one session among others

-- numbers that the test takes for equal are
same_number : (k n : ℕ) → k == n ≡ true → k ≡ n
same_number k n e = grind (arith, nat_tests, e)

-- ---- each session's own answers

-- a call that gives no answer adds none
own_answers : {R : Type 0} (n k : ℕ) (call : Call R) (rest : List (Tagged R)) (mine : List (Call R))
    → given mine ≡ of n rest → given (if_own n k call mine) ≡ of n (told_by k call rest)
own_answers n k (Feed bytes) rest mine e = by_bool (k == n)
    (λ f. ap (λ b. given (if b then Feed bytes ∷ mine else mine)) f ∙ e)
    (λ f. ap (λ b. given (if b then Feed bytes ∷ mine else mine)) f ∙ e)
own_answers n k Finish rest mine e = by_bool (k == n)
    (λ f. ap (λ b. given (if b then Finish ∷ mine else mine)) f ∙ e)
    (λ f. ap (λ b. given (if b then Finish ∷ mine else mine)) f ∙ e)
own_answers n k (Next None) rest mine e = by_bool (k == n)
    (λ f. ap (λ b. given (if b then Next None ∷ mine else mine)) f ∙ e)
    (λ f. ap (λ b. given (if b then Next None ∷ mine else mine)) f ∙ e)
own_answers n k (Next (Some r)) rest mine e = by_bool (k == n)
    (λ f. subst (λ b. given (if b then Next (Some r) ∷ mine else mine) ≡ (if b then r ∷ of n rest else of n rest))
    (sym f) (ap (λ rs. r ∷ rs) e))
    (λ f. subst (λ b. given (if b then Next (Some r) ∷ mine else mine) ≡ (if b then r ∷ of n rest else of n rest))
    (sym f) e)

-- the answers of a run by itself are of no session
none_apart : {R : Type 0} (n : ℕ) (steps : List (Step R)) (rest : List (Tagged R))
    → of n (told_apart steps rest) ≡ of n rest
none_apart n [] rest = refl
none_apart n (x ∷ xs) rest = none_apart n xs rest

-- the answers that a session was given are its part of all answers
own_told : {R : Type 0} (n : ℕ) (events : List (Event R)) → given (calls_of n events) ≡ of n (told events)
own_told n [] = refl
own_told n (Turn k call ∷ es) = own_answers n k call (told es) (calls_of n es) (own_told n es)
own_told n (Apart steps ∷ es) = own_told n es ∙ sym (none_apart n steps (told es))

-- the replies of a session are its part of all replies
own_replies : {R : Type 0} (n : ℕ) (done : List (Tagged (Step R))) → of n (replies_by done) ≡ replies (of n done)
own_replies n [] = refl
own_replies n (x ∷ xs) = by_bool (is_session n x.by)
    (λ f. subst (λ b. (if b then x.is.reply ∷ of n (replies_by xs) else of n (replies_by xs))
    ≡ replies (if b then x.is ∷ of n xs else of n xs)) (sym f) (ap (λ rs. x.is.reply ∷ rs) (own_replies n xs)))
    (λ f. subst (λ b. (if b then x.is.reply ∷ of n (replies_by xs) else of n (replies_by xs))
    ≡ replies (if b then x.is ∷ of n xs else of n xs)) (sym f) (own_replies n xs))

all_replies : {R : Type 0} (done : List (Tagged (Step R))) → all (replies_by done) ≡ replies (all done)
all_replies [] = refl
all_replies (x ∷ xs) = ap (λ rs. x.is.reply ∷ rs) (all_replies xs)

pub merges_show_own : {R : Type 0} → MergesShowOwn R
merges_show_own events done e = record {
  own = λ n. own_told n events ∙ ap (of n) e ∙ own_replies n done;
  together = ap all e ∙ all_replies done;
}

-- ---- the merge

module _ (K : Setting) where
  -- after the end is reported, no bytes come
  turn_over : (call : Call K.reply) (old new : K.stream) (before after : K.engine) → Turns K call old before new after
      → IsTrue (K.ended old) → (rest : List (Call K.reply)) → (fed (call ∷ rest) ≡ fed rest) × IsTrue (K.ended new)
  turn_over (Feed bytes) old new before after turn t rest =
      (ap (λ bs. bs ++ fed rest) (turn.0.allowed t), subst IsTrue (sym turn.0.ended) t)
  turn_over Finish old new before after turn t rest = (refl, turn.0.ended)
  turn_over (Next None) old new before after turn t rest = (refl, subst IsTrue (sym turn.ended) t)
  turn_over (Next (Some r)) old new before after turn t rest = (refl, subst IsTrue (sym turn.ended) t)

  record IsOver (mine : List (Call K.reply)) (new : K.stream) : Type 0 where
    none : fed mine ≡ []
    ended : IsTrue (K.ended new)

  over : (n : ℕ) (events : List (Event K.reply)) (old new : ℕ → K.stream) (before after : K.engine)
      → Interleaved K events old before new after → IsTrue (K.ended (old n)) → IsOver (calls_of n events) (new n)
  over n [] old new before after (e, _) t =
      record { none = refl; ended = subst (λ (x : K.stream). IsTrue (K.ended x)) (sym (e n)) t }
  over n (Turn j call ∷ es) old new before after (mid, (between, (turn, rest))) t =
      by_case (over n es (put j mid old) new between after rest)
    where
      by_case : (IsTrue (K.ended (put j mid old n)) → IsOver (calls_of n es) (new n))
          → IsOver (if_own n j call (calls_of n es)) (new n)
      by_case more = by_bool (j == n)
          (λ e. let o = turn_over call (old j) mid before between turn
          (subst (λ m. IsTrue (K.ended (old m))) (sym (same_number j n e)) t) (calls_of n es) in
          let k = more (subst (λ b. IsTrue (K.ended (if b then mid else old n))) (sym e) o.1) in
          record {
            none = ap (λ b. fed (if b then call ∷ calls_of n es else calls_of n es)) e ∙ o.0 ∙ k.none;
            ended = k.ended;
          })
          (λ e. let k = more (subst (λ b. IsTrue (K.ended (if b then mid else old n))) (sym e) t) in
          record {
            none = ap (λ b. fed (if b then call ∷ calls_of n es else calls_of n es)) e ∙ k.none;
            ended = k.ended;
          })
  over n (Apart steps ∷ es) old new before after (between, (apart, rest)) t = over n es old new between after rest t

  -- bytes that may follow all calls may follow the bytes that they feed
  may_follow : (n : ℕ) (events : List (Event K.reply)) (old new : ℕ → K.stream) (before after : K.engine)
      → Interleaved K events old before new after → (more : List ℕ) → MayFollow (K.ended (new n)) more
      → MayFollow (K.ended (old n)) (fed (calls_of n events) ++ more)
  may_follow n events old new before after turns more m t =
      let o = over n events old new before after turns t in ap (λ bs. bs ++ more) o.none ∙ m o.ended

  -- calls from any point on: the answers are those of the first statements of what each session has left and is fed
  record RanOn (s : State) (ahead : ℕ → List ℕ) (gives : List (Tagged K.reply)) (mine : ℕ → List (Call K.reply))
      (streams : ℕ → K.stream) (after : K.engine) : Type 0 where
    done : List (Tagged (Step K.reply))
    gave : gives ≡ replies_by done
    left : ℕ → List ℕ
    first : (n : ℕ) (more : List ℕ) → MayFollow (K.ended (streams n)) more
        → statements (ahead n ++ fed (mine n) ++ more) ≡ pieces (of n done) ++ statements (left n ++ more)
    passed : ℕ → List ℕ
    holds : (n : ℕ) → K.holds (streams n) (passed n) (left n)
    state : State
    ran : RunBy K.answering s (pieces (all done)) (replies (all done)) state
    stands : K.stands after state

  -- one more call in front, which takes no statement
  quiet : (s : State) (ahead : ℕ → List ℕ) (k : ℕ) (call : Call K.reply) (next : List ℕ)
      (gives : List (Tagged K.reply)) (mine : ℕ → List (Call K.reply)) (streams : ℕ → K.stream) (after : K.engine)
      → ((rest : List (Call K.reply)) (more : List ℕ)
      → statements (ahead k ++ fed (call ∷ rest) ++ more) ≡ statements (next ++ fed rest ++ more))
      → RanOn s (put k next ahead) gives mine streams after
      → RanOn s ahead gives (λ n. if_own n k call (mine n)) streams after
  quiet s ahead k call next gives mine streams after own q = record {
    done = q.done;
    gave = q.gave;
    left = q.left;
    first = λ n more m. to n more ∙ q.first n more m;
    passed = q.passed;
    holds = q.holds;
    state = q.state;
    ran = q.ran;
    stands = q.stands;
  }
    where
      to : (n : ℕ) (more : List ℕ) → statements (ahead n ++ fed (if k == n then call ∷ mine n else mine n) ++ more)
          ≡ statements (put k next ahead n ++ fed (mine n) ++ more)
      to n more = by_bool (k == n)
          (λ e. subst (λ b. statements (ahead n ++ fed (if b then call ∷ mine n else mine n) ++ more)
          ≡ statements ((if b then next else ahead n) ++ fed (mine n) ++ more)) (sym e)
          (subst (λ j. statements (ahead j ++ fed (call ∷ mine n) ++ more) ≡ statements (next ++ fed (mine n) ++ more))
          (same_number k n e) (own (mine n) more)))
          (λ e. subst (λ b. statements (ahead n ++ fed (if b then call ∷ mine n else mine n) ++ more)
          ≡ statements ((if b then next else ahead n) ++ fed (mine n) ++ more)) (sym e) refl)

  -- one more call in front, which takes a statement and gives its answer
  answered : (s : State) (ahead : ℕ → List ℕ) (k : ℕ) (r : K.reply) (piece : Piece) (mid : State) (ended : Bool)
      (next : List ℕ) (gives : List (Tagged K.reply)) (mine : ℕ → List (Call K.reply)) (streams : ℕ → K.stream)
      (after : K.engine) → K.answering s piece r mid
      → ((rest : List (Call K.reply)) (more : List ℕ) → MayFollow ended (fed rest ++ more)
      → statements (ahead k ++ fed rest ++ more) ≡ piece ∷ statements (next ++ fed rest ++ more))
      → ((n : ℕ) → k == n ≡ true → (more : List ℕ) → MayFollow (K.ended (streams n)) more
      → MayFollow ended (fed (mine n) ++ more))
      → RanOn mid (put k next ahead) gives mine streams after
      → RanOn s ahead (record { by = Some k; is = r } ∷ gives) (λ n. if_own n k (Next (Some r)) (mine n)) streams after
  answered s ahead k r piece mid ended next gives mine streams after a own may q = record {
    done = record { by = Some k; is = step } ∷ q.done;
    gave = ap (λ xs. record { by = Some k; is = r } ∷ xs) q.gave;
    left = q.left;
    first = to;
    passed = q.passed;
    holds = q.holds;
    state = q.state;
    ran = (mid, a, q.ran);
    stands = q.stands;
  }
    where
      step : Step K.reply
      step = record { piece = piece; reply = r }

      to : (n : ℕ) (more : List ℕ) → MayFollow (K.ended (streams n)) more
          → statements (ahead n ++ fed (if k == n then Next (Some r) ∷ mine n else mine n) ++ more)
          ≡ pieces (if k == n then step ∷ of n q.done else of n q.done) ++ statements (q.left n ++ more)
      to n more m = by_bool (k == n)
          (λ e. subst (λ b. statements (ahead n ++ fed (if b then Next (Some r) ∷ mine n else mine n) ++ more)
          ≡ pieces (if b then step ∷ of n q.done else of n q.done) ++ statements (q.left n ++ more)) (sym e)
          (subst (λ j. statements (ahead j ++ fed (mine n) ++ more) ≡ piece ∷ statements (next ++ fed (mine n) ++ more))
          (same_number k n e) (own (mine n) more (may n e more m))
          ∙ ap (λ ps. piece ∷ ps) (subst (λ b. statements ((if b then next else ahead n) ++ fed (mine n) ++ more)
          ≡ pieces (of n q.done) ++ statements (q.left n ++ more)) e (q.first n more m))))
          (λ e. subst (λ b. statements (ahead n ++ fed (if b then Next (Some r) ∷ mine n else mine n) ++ more)
          ≡ pieces (if b then step ∷ of n q.done else of n q.done) ++ statements (q.left n ++ more)) (sym e)
          (subst (λ b. statements ((if b then next else ahead n) ++ fed (mine n) ++ more)
          ≡ pieces (of n q.done) ++ statements (q.left n ++ more)) e (q.first n more m)))

  -- each stream holds what was processed and is left, if the replaced one does
  put_holds : (k : ℕ) (mid : K.stream) (p l : List ℕ) (old : ℕ → K.stream) (passed left : ℕ → List ℕ)
      → K.holds mid p l → ((n : ℕ) → K.holds (old n) (passed n) (left n))
      → (n : ℕ) → K.holds (put k mid old n) (put k p passed n) (put k l left n)
  put_holds k mid p l old passed left here others n = by_bool (k == n)
      (λ e. subst (λ b. K.holds (if b then mid else old n) (if b then p else passed n) (if b then l else left n))
      (sym e) here)
      (λ e. subst (λ b. K.holds (if b then mid else old n) (if b then p else passed n) (if b then l else left n))
      (sym e) (others n))

  -- a run by itself in front
  apart : (steps : List (Step K.reply)) (s mid : State) (ahead : ℕ → List ℕ) (gives : List (Tagged K.reply))
      (mine : ℕ → List (Call K.reply)) (streams : ℕ → K.stream) (after : K.engine)
      → RunBy K.answering s (pieces steps) (replies steps) mid → RanOn mid ahead gives mine streams after
      → RanOn s ahead (told_apart steps gives) mine streams after
  apart [] s mid ahead gives mine streams after ran q =
      subst (λ z. RanOn z ahead gives mine streams after) ran q
  apart (x ∷ xs) s mid ahead gives mine streams after (next, a, ran) q =
      let k = apart xs next mid ahead gives mine streams after ran q in
      record {
        done = record { by = None; is = x } ∷ k.done;
        gave = ap (λ rs. record { by = None; is = x.reply } ∷ rs) k.gave;
        left = k.left;
        first = k.first;
        passed = k.passed;
        holds = k.holds;
        state = k.state;
        ran = (next, a, k.ran);
        stands = k.stands;
      }

  -- the events that follow another
  abbrev Following : List (Event K.reply) → (ℕ → K.stream) → (ℕ → K.stream) → K.engine → K.engine → Type 0
  Following es old new before after =
      (passed left : ℕ → List ℕ) → ((n : ℕ) → K.holds (old n) (passed n) (left n)) → (s : State) → K.stands before s
      → RanOn s left (told es) (λ n. calls_of n es) new after

  by_call : (k : ℕ) (call : Call K.reply) (cs : List (Event K.reply)) (old new : ℕ → K.stream) (mid : K.stream)
      (before between after : K.engine) (passed left : ℕ → List ℕ) → ((n : ℕ) → K.holds (old n) (passed n) (left n))
      → Turns K call (old k) before mid between → Interleaved K cs (put k mid old) between new after → (s : State)
      → K.stands before s → Following cs (put k mid old) new between after
      → RanOn s left (told_by k call (told cs)) (λ n. if_own n k call (calls_of n cs)) new after
  by_call k (Feed bytes) cs old new mid before between after passed left holds turn rest s h follow =
      quiet s left k (Feed bytes) (left k ++ bytes) (told cs) (λ n. calls_of n cs) new after
      (λ r more. ap (λ xs. statements (xs ++ more)) (sym (append_assoc (left k) bytes (fed r))))
      (follow (put k (passed k) passed) (put k (left k ++ bytes) left)
      (put_holds k mid (passed k) (left k ++ bytes) old passed left
      (turn.0.holds (passed k) (left k) (holds k)) holds) s (subst (λ x. K.stands x s) (sym turn.1) h))
  by_call k Finish cs old new mid before between after passed left holds turn rest s h follow =
      quiet s left k Finish (left k) (told cs) (λ n. calls_of n cs) new after (λ r more. refl)
      (follow (put k (passed k) passed) (put k (left k) left)
      (put_holds k mid (passed k) (left k) old passed left
      (turn.0.holds (passed k) (left k) (holds k)) holds) s (subst (λ x. K.stands x s) (sym turn.1) h))
  by_call k (Next None) cs old new mid before between after passed left holds turn rest s h follow =
      quiet s left k (Next None) (left k) (told cs) (λ n. calls_of n cs) new after (λ r more. refl)
      (follow (put k (passed k) passed) (put k (left k) left)
      (put_holds k mid (passed k) (left k) old passed left
      (turn.holds (passed k) (left k) (holds k)) holds) s (turn.stands s h))
  by_call k (Next (Some r)) cs old new mid before between after passed left holds turn rest s h follow =
      let t = turn.takes (passed k) (left k) (holds k) s h in
      answered s left k r t.piece t.state (K.ended mid) t.rest (told cs) (λ n. calls_of n cs) new after t.answers
      (λ q more m. ap statements (append_assoc (left k) (fed q) more) ∙ t.given (fed q ++ more) m
      ∙ ap (λ xs. t.piece ∷ statements xs) (sym (append_assoc t.rest (fed q) more)))
      (λ n e more m. subst (λ b. MayFollow (K.ended (if b then mid else old n)) (fed (calls_of n cs) ++ more)) e
      (may_follow n cs (put k mid old) new between after rest more m))
      (follow (put k (passed k ++ t.used) passed) (put k t.rest left)
      (put_holds k mid (passed k ++ t.used) t.rest old passed left t.holds holds) t.state t.stands)

  ran_on : (events : List (Event K.reply)) (old new : ℕ → K.stream) (before after : K.engine)
      → Interleaved K events old before new after → Following events old new before after
  ran_on [] old new before after (e, same) passed left holds s h = record {
    done = [];
    gave = refl;
    left = left;
    first = λ n more m. ap (λ xs. statements (xs ++ more)) (append-nil (left n));
    passed = passed;
    holds = λ n. subst (λ x. K.holds x (passed n) (left n)) (sym (e n)) (holds n);
    state = s;
    ran = refl;
    stands = subst (λ x. K.stands x s) (sym same) h;
  }
  ran_on (Turn k call ∷ es) old new before after (mid, (between, (turn, rest))) passed left holds s h =
      by_call k call es old new mid before between after passed left holds turn rest s h
      (ran_on es (put k mid old) new between after rest)
  ran_on (Apart steps ∷ es) old new before after (between, (runs, rest)) passed left holds s h =
      let r = runs s h in
      apart steps s r.state left (told es) (λ n. calls_of n es) new after r.ran
      (ran_on es old new between after rest passed left holds r.state r.stands)

  pub sessions_merge_on : SessionsMergeOn K
  sessions_merge_on events old new before after passed left holds turns s h =
      let k = ran_on events old new before after turns passed left holds s h in
      record {
        done = k.done;
        gave = k.gave;
        left = k.left;
        first = k.first;
        passed = k.passed;
        holds = k.holds;
        state = k.state;
        ran = k.ran;
        stands = k.stands;
      }

  pub sessions_merge : SessionsMerge K
  sessions_merge events old new before after holds turns s h =
      sessions_merge_on events old new before after (λ n. []) (λ n. []) holds turns s h

-- ---- promises

pub merges_keep_promises : RunsKeepConstraints → PrunesAreUnseen → MergesKeepPromises
merges_keep_promises keeps prunes s new done run = record {
  points = runs_agree_behind s (pieces (all done)) (replies (all done)) new run;
  constraints = λ c. keeps s new (pieces (all done)) (replies (all done)) c run;
  unseen = λ ordered. prunes s new (pieces (all done)) (replies (all done)) ordered run;
}

-- A session over an engine is a run, and keys and references hold after each of its calls.
use Rattle.std.proofs.Common.{◌≡◌, refl, sym, ap, subst, ◌∙◌, ℕ, List, [], ◌∷◌, ◌++◌, map, Some, None}
use Rattle.std.proofs.lemmas.List.{append_assoc, append-nil}
use Rattle.std.specs.Prelude.{IsTrue}
use Rattle.tql_spec.specs.Answer.{Answer, Replied, Accepted}
use Rattle.tql_spec.specs.HorizonLaws.{PrunesAreUnseen}
use Rattle.tql_spec.specs.Machine.{State, Reply}
use Rattle.tql_spec.specs.Run.{Answers, Run}
use Rattle.tql_spec.specs.Script.{Piece, statements}
use Rattle.tql_points.proofs.PointRuns.{runs_agree_behind}
use Rattle.tql_turns.specs.Merge.{Call, Feed, Finish, Next, fed}
use Rattle.tql_splitter.specs.Holding.{Holds}
use Rattle.tql_splitter.specs.Pieces.{MayFollow}
use Rattle.tql_splitter.specs.Stream.{Stream}
use Rattle.tql_result.specs.Replies.{answer_of}
use Rattle.tql_result.specs.declared.answer.Answer as code
use Rattle.tql_run.specs.Responding.{Answered}
use Rattle.tql_engine_step.proofs.HoldPoints.{step_holds}
use Rattle.tql_run.specs.Ending.{AllEndSurely, EndsSurely, Responds}
use Rattle.tql_engine_step.specs.HoldPoints.{HoldsFor}
use Rattle.tql_engine.specs.ReaderRuns.{RunsReadStably}
use Rattle.tql_engine.specs.Sessions.{Calls, given, SessionsHold}
use Rattle.tql_engine_state.specs.Stands.{EngineModel, StandsFor}

-- after the end is reported, no bytes come
record IsOver (calls : List (Call code.Answer)) (new : Stream) : Type 0 where
  none : fed calls ≡ []
  ended : IsTrue new.ended

over : (calls : List (Call code.Answer)) (old new : Stream) (before after : EngineModel)
    → Calls calls old before new after → IsTrue old.ended → IsOver calls new
over [] old new before after (e, _) t = record { none = refl; ended = subst (λ (x : Stream). IsTrue x.ended) (sym e) t }
over (Feed bytes ∷ cs) old new before after (mid, (between, (turn, rest))) t =
    let o = over cs mid new between after rest (subst IsTrue (sym turn.0.ended) t) in
    record { none = ap (λ bs. bs ++ fed cs) (turn.1 t) ∙ o.none; ended = o.ended }
over (Finish ∷ cs) old new before after (mid, (between, (turn, rest))) t =
    let o = over cs mid new between after rest turn.0.ended in record { none = o.none; ended = o.ended }
over (Next None ∷ cs) old new before after (mid, (between, (turn, rest))) t =
    let o = over cs mid new between after rest (subst IsTrue (sym turn.none.ended) t) in
    record { none = o.none; ended = o.ended }
over (Next (Some answer) ∷ cs) old new before after (mid, (between, (turn, rest))) t =
    let o = over cs mid new between after rest (subst IsTrue (sym turn.one.ended) t) in
    record { none = o.none; ended = o.ended }

-- bytes that may follow all calls may follow the bytes that they feed
may_follow : (calls : List (Call code.Answer)) (old new : Stream) (before after : EngineModel)
    → Calls calls old before new after → (more : List ℕ) → MayFollow new.ended more
    → MayFollow old.ended (fed calls ++ more)
may_follow calls old new before after turns more m t =
    let o = over calls old new before after turns t in
    ap (λ bs. bs ++ more) o.none ∙ m o.ended

-- calls from any point of a session on: the answers are those of the first statements of what is left and is fed
record RanOn (s : State) (ahead : List ℕ) (calls : List (Call code.Answer)) (stream : Stream) (after : EngineModel)
    : Type 0 where
  done : List Piece
  left : List ℕ
  first : (more : List ℕ) → MayFollow stream.ended more
      → statements (ahead ++ fed calls ++ more) ≡ done ++ statements (left ++ more)
  replies : List Reply
  gave : given calls ≡ map Replied replies
  state : State
  ran : Run s done replies state
  ends : AllEndSurely done replies
  holds : HoldsFor after state

-- an answer is a reply
record IsReplied (s : State) (p : Piece) (answer : Answer) (after : EngineModel) : Type 0 where
  reply : Reply
  is : answer ≡ Replied reply
  state : State
  answers : Answers s p reply state
  ends : EndsSurely p reply
  holds : HoldsFor after state

replied : (s : State) (p : Piece) (answer : Answer) (before after : EngineModel) → HoldsFor before s
    → Answered Responds s p answer (StandsFor after) → IsReplied s p answer after
replied s p (Replied r) before after h a =
    let w = step_holds before after s p r h (record { state = a.state; answers = a.answers.0; stands = a.stands }) in
    record { reply = r; is = refl; state = w.state; answers = w.answers; ends = a.answers.1; holds = w.stands }
replied s p Accepted before after h a = absurd a.answers

three : (as' bs cs ds : List ℕ) → as' ++ (bs ++ cs) ++ ds ≡ (as' ++ bs) ++ cs ++ ds
three as' bs cs ds =
    ap (λ xs. xs ++ ds) (sym (append_assoc as' bs cs))

ran_on : (calls : List (Call code.Answer)) (old new : Stream) (before after : EngineModel) (passed left : List ℕ)
    → Holds old passed left → Calls calls old before new after → (s : State) → HoldsFor before s
    → RanOn s left calls new after
ran_on [] old new before after passed left holds (e, same) s h = record {
  done = [];
  left = left;
  first = λ more m. ap (λ xs. statements (xs ++ more)) (append-nil left);
  replies = [];
  gave = refl;
  state = s;
  ran = refl;
  ends = tt;
  holds = subst (λ (x : EngineModel). HoldsFor x s) (sym same) h;
}
ran_on (Feed bytes ∷ cs) old new before after passed left holds (mid, (between, (turn, rest))) s h =
    let k = ran_on cs mid new between after passed (left ++ bytes) (turn.0.holds passed left holds) rest s
    (subst (λ (x : EngineModel). HoldsFor x s) (sym turn.2) h) in
    record {
      done = k.done;
      left = k.left;
      first = λ more m. ap statements (three left bytes (fed cs) more) ∙ k.first more m;
      replies = k.replies;
      gave = k.gave;
      state = k.state;
      ran = k.ran;
      ends = k.ends;
      holds = k.holds;
    }
ran_on (Finish ∷ cs) old new before after passed left holds (mid, (between, (turn, rest))) s h =
    let k = ran_on cs mid new between after passed left (turn.0.holds passed left holds) rest s
    (subst (λ (x : EngineModel). HoldsFor x s) (sym turn.1) h) in
    record {
      done = k.done;
      left = k.left;
      first = k.first;
      replies = k.replies;
      gave = k.gave;
      state = k.state;
      ran = k.ran;
      ends = k.ends;
      holds = k.holds;
    }
ran_on (Next None ∷ cs) old new before after passed left holds (mid, (between, (turn, rest))) s h =
    let t = turn.none.takes passed left holds in
    let k = ran_on cs mid new between after passed left t.holds rest s
    (record { stands = turn.stands s h.stands; holds = h.holds }) in
    record {
      done = k.done;
      left = k.left;
      first = k.first;
      replies = k.replies;
      gave = k.gave;
      state = k.state;
      ran = k.ran;
      ends = k.ends;
      holds = k.holds;
    }
ran_on (Next (Some answer) ∷ cs) old new before after passed left holds (mid, (between, (turn, rest))) s h =
    let t = turn.one.takes passed left holds in
    let r = replied s t.piece (answer_of answer) before between h (t.is s h.stands) in
    let k = ran_on cs mid new between after (passed ++ t.used) t.rest t.holds rest r.state r.holds in
    record {
      done = t.piece ∷ k.done;
      left = k.left;
      first = λ more m.
          ap statements (append_assoc left (fed cs) more)
          ∙ t.first.given (fed cs ++ more) (may_follow cs mid new between after rest more m)
          ∙ ap (λ ps. t.piece ∷ ps) (ap statements (sym (append_assoc t.rest (fed cs) more)) ∙ k.first more m);
      replies = r.reply ∷ k.replies;
      gave = ap (λ (x : Answer). x ∷ given cs) r.is ∙ ap (λ (xs : List Answer). Replied r.reply ∷ xs) k.gave;
      state = k.state;
      ran = (r.state, r.answers, k.ran);
      ends = (r.ends, k.ends);
      holds = k.holds;
    }

pub sessions_hold : PrunesAreUnseen → RunsReadStably → SessionsHold
sessions_hold prunes reads old new before after calls holds turns s h =
    let k = ran_on calls old new before after [] [] holds turns s h in
    record {
      done = k.done;
      left = k.left;
      first = k.first;
      replies = k.replies;
      gave = k.gave;
      state = k.state;
      ran = k.ran;
      ends = k.ends;
      holds = k.holds;
      agrees = runs_agree_behind s k.done k.replies k.state k.ran;
      readers = reads s k.state k.done k.replies k.ran;
      unseen = λ ordered. prunes s k.state k.done k.replies ordered k.ran;
    }

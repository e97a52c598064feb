-- What is promised of runs holds for sessions that take turns on one engine.
use Rattle.std.proofs.Common.{refl, ℕ, List, [], ◌∷◌, map, Some, None}
use Rattle.tql_spec.specs.Answer.{Answer, Replied, Accepted}
use Rattle.tql_spec.specs.HorizonLaws.{PrunesAreUnseen}
use Rattle.tql_spec.specs.Machine.{State}
use Rattle.tql_spec.specs.Run.{RunBy}
use Rattle.tql_spec.specs.Script.{Piece}
use Rattle.tql_spec.proofs.AtPoints.{runs_keep_points}
use Rattle.tql_points.proofs.PointRuns.{runs_agree_behind}
use Rattle.tql_turns.specs.Merge as setting
use Rattle.tql_turns.specs.Merge.{Call, Feed, Finish, Next, Event, Turn, Apart, all, pieces, replies, put, Interleaved}
use Rattle.tql_turns.proofs.Merge.{sessions_merge}
use Rattle.tql_splitter.specs.Stream.{Stream}
use Rattle.tql_result.specs.Replies.{answer_of}
use Rattle.tql_result.specs.declared.answer.Answer as code
use Rattle.tql_run.specs.Ending.{Responds}
use Rattle.tql_run.specs.Responding.{Answered}
use Rattle.tql_engine_step.proofs.HoldPoints.{keeps_one}
use Rattle.tql_engine_step.specs.HoldPoints.{HoldsFor}
use Rattle.tql_engine.specs.ReaderRuns.{RunsReadStably}
use Rattle.tql_engine.specs.Sessions.{Turns}
use Rattle.tql_engine.specs.Together.{RespondsBy, engine_sessions, Events, SessionsHoldTogether, StepsAreApart}
use Rattle.tql_engine.proofs.Bytes.{replying}
use Rattle.tql_engine_state.specs.Stands.{EngineModel, StandsFor}

-- keys and references hold after an answer
holds_on : (before after : EngineModel) (s : State) (p : Piece) (answer : Answer) → HoldsFor before s
    → Answered Responds s p answer (StandsFor after) → Answered Responds s p answer (HoldsFor after)
holds_on before after s p (Replied r) h a = record {
  state = a.state;
  answers = a.answers;
  stands = record { stands = a.stands; holds = keeps_one s a.state p r h.holds a.answers.0 };
}
holds_on before after s p Accepted h a = absurd a.answers

-- a call of a session is one of the setting
turns_are_turns : (call : Call code.Answer) (old new : Stream) (before after : EngineModel)
    → Turns call old before new after → setting.Turns engine_sessions call old before new after
turns_are_turns (Feed bytes) old new before after (f, may, e) =
    (record { ended = f.ended; allowed = may; holds = f.holds }, e)
turns_are_turns Finish old new before after (f, e) = (record { ended = f.ended; holds = f.holds }, e)
turns_are_turns (Next None) old new before after t = record {
  ended = t.none.ended;
  holds = λ p l h. (t.none.takes p l h).holds;
  stands = λ s h. record { stands = t.stands s h.stands; holds = h.holds };
}
turns_are_turns (Next (Some answer)) old new before after t = record {
  ended = t.one.ended;
  takes = λ p l h s st.
      let k = t.one.takes p l h in
      let a = holds_on before after s k.piece (answer_of answer) st (k.is s st.stands) in
      record {
        piece = k.piece;
        used = k.used;
        rest = k.rest;
        given = k.first.given;
        holds = k.holds;
        state = a.state;
        answers = a.answers;
        stands = a.stands;
      };
}

-- a run by answers of the code is one by their meaning
meant : (s : State) (ps : List Piece) (answers : List code.Answer) (new : State) → RunBy RespondsBy s ps answers new
    → RunBy Responds s ps (map answer_of answers) new
meant s [] [] new r = r
meant s (p ∷ ps) (a ∷ as') new (mid, x, r) = (mid, x, meant mid ps as' new r)
meant s [] (a ∷ as') new r = absurd r
meant s (p ∷ ps) [] new r = absurd r

-- the events are those of the setting
interleaved : (events : List (Event code.Answer)) (old new : ℕ → Stream) (before after : EngineModel)
    → Events events old before new after → Interleaved engine_sessions events old before new after
interleaved [] old new before after e = e
interleaved (Turn k call ∷ es) old new before after (mid, (between, (turn, rest))) = (
  mid,
  (
    between,
    (
      turns_are_turns call (old k) mid before between turn,
      interleaved es (put k mid old) new between after rest,
    ),
  ),
)
interleaved (Apart steps ∷ es) old new before after (between, (ran, rest)) = (
  between,
  (
    λ s h.
        let r = ran s h.stands in
        let k = replying s (pieces steps) (map answer_of (replies steps)) r.state
        (meant s (pieces steps) (replies steps) r.state r.ran) in
        record {
          state = r.state;
          ran = r.ran;
          stands = record {
            stands = r.stands;
            holds = runs_keep_points s r.state (pieces steps) k.replies h.holds k.ran;
          };
        },
    interleaved es old new between after rest,
  ),
)

pub sessions_hold_together : PrunesAreUnseen → RunsReadStably → SessionsHoldTogether
sessions_hold_together prunes reads events old new before after holds turns s h =
    let m = sessions_merge engine_sessions events old new before after holds
    (interleaved events old new before after turns) s h in
    let k = replying s (pieces (all m.done)) (map answer_of (replies (all m.done))) m.state
    (meant s (pieces (all m.done)) (replies (all m.done)) m.state m.ran) in
    record {
      merge = m;
      told = k.replies;
      are = k.all;
      ran = k.ran;
      ends = k.ends;
      agrees = runs_agree_behind s (pieces (all m.done)) k.replies m.state k.ran;
      readers = reads s m.state (pieces (all m.done)) k.replies k.ran;
      unseen = λ ordered. prunes s m.state (pieces (all m.done)) k.replies ordered k.ran;
    }

pub steps_are_apart : StepsAreApart
steps_are_apart text reply before after step ends s h =
    let a = step s h in
    record { state = a.state; ran = (a.state, (a.answers, λ finished short. ends), refl); stands = a.stands }

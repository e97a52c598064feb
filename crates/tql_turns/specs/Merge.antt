-- Sessions that take turns on one engine, call by call, and the one run that they are.
use Rattle.std.specs.Prelude.{◌≡◌, ◌==◌, ℕ, Bool, false, List, [], ◌∷◌, ◌++◌, map, IsTrue, Option, Some, None}
use Rattle.std.specs.Prelude.{if◌then◌else◌}
use Rattle.tql_spec.specs.Machine.{State, Reply}
use Rattle.tql_spec.specs.Run.{Answers, RunBy}
use Rattle.tql_spec.specs.Script.{Piece, statements}

-- ---- lists whose members belong to sessions

-- a member, and the number of its session; none if it is of no session
pub record Tagged (X : Type 0) : Type 0 where
  pub by : Option ℕ
  pub is : X

-- whether this is session n
abbrev pub is_session : ℕ → Option ℕ → Bool
is_session n None = false
is_session n (Some k) = k == n

-- the members of one session, in order
abbrev pub of : {X : Type 0} → ℕ → List (Tagged X) → List X
of n [] = []
of n (x ∷ xs) = if is_session n x.by then x.is ∷ of n xs else of n xs

-- the members of all, in order
abbrev pub all : {X : Type 0} → List (Tagged X) → List X
all xs = map (λ x. x.is) xs

-- a value for each session, with that of session k replaced
abbrev pub put : {X : Type 0} → ℕ → X → (ℕ → X) → ℕ → X
put k x f n = if k == n then x else f n

-- ---- sessions and an engine

-- The streams of sessions: whether the input has ended, and which bytes were processed and are left. The engine, and
-- the states that it represents. Its answers, and the relation that they satisfy.
pub record Setting : Type 1 where
  pub stream : Type 0
  pub ended : stream → Bool
  pub holds : stream → (passed left : List ℕ) → Type 0
  pub engine : Type 0
  pub stands : engine → State → Type 0
  pub reply : Type 0
  pub answering : State → Piece → reply → State → Type 0

-- the bytes that may still follow: none after the end of the input
abbrev pub MayFollow : Bool → List ℕ → Type 0
MayFollow ended more = IsTrue ended → more ≡ []

-- a call of a session and its result: these bytes were taken; the end was reported; the next answer, or none
pub data Call (R : Type 0) : Type 0 where
  Feed : List ℕ → Call R
  Finish : Call R
  Next : Option R → Call R

-- the bytes that calls fed
abbrev pub fed : {R : Type 0} → List (Call R) → List ℕ
fed [] = []
fed (Feed bytes ∷ cs) = bytes ++ fed cs
fed (Finish ∷ cs) = fed cs
fed (Next answer ∷ cs) = fed cs

-- the answers that they gave
abbrev pub given : {R : Type 0} → List (Call R) → List R
given [] = []
given (Feed bytes ∷ cs) = given cs
given (Finish ∷ cs) = given cs
given (Next None ∷ cs) = given cs
given (Next (Some r) ∷ cs) = r ∷ given cs

-- a statement and its answer
pub record Step (R : Type 0) : Type 0 where
  pub piece : Piece
  pub reply : R

abbrev pub pieces : {R : Type 0} → List (Step R) → List Piece
pieces xs = map (λ x. x.piece) xs

abbrev pub replies : {R : Type 0} → List (Step R) → List R
replies xs = map (λ x. x.reply) xs

-- what is done to an engine: a call of the session of this number; or, between such calls, a run by itself with these
-- answers, as by a step of the engine
pub data Event (R : Type 0) : Type 0 where
  Turn : ℕ → Call R → Event R
  Apart : List (Step R) → Event R

-- a call of session k, in front of calls of session n
abbrev pub if_own : {R : Type 0} → (n k : ℕ) → Call R → List (Call R) → List (Call R)
if_own n k call rest = if k == n then call ∷ rest else rest

-- the calls of one session, in order
abbrev pub calls_of : {R : Type 0} → ℕ → List (Event R) → List (Call R)
calls_of n [] = []
calls_of n (Turn k call ∷ es) = if_own n k call (calls_of n es)
calls_of n (Apart steps ∷ es) = calls_of n es

-- the answer of a call, in front of others
abbrev pub told_by : {R : Type 0} → ℕ → Call R → List (Tagged R) → List (Tagged R)
told_by n (Feed bytes) rest = rest
told_by n Finish rest = rest
told_by n (Next None) rest = rest
told_by n (Next (Some r)) rest = record { by = Some n; is = r } ∷ rest

-- the answers of a run by itself, in front of others
abbrev pub told_apart : {R : Type 0} → List (Step R) → List (Tagged R) → List (Tagged R)
told_apart [] rest = rest
told_apart (x ∷ xs) rest = record { by = None; is = x.reply } ∷ told_apart xs rest

-- the answers of all events, in order
abbrev pub told : {R : Type 0} → List (Event R) → List (Tagged R)
told [] = []
told (Turn k call ∷ es) = told_by k call (told es)
told (Apart steps ∷ es) = told_apart steps (told es)

-- ---- calls

-- the bytes are appended to those that are left
pub record Feeds (K : Setting) (old new : K.stream) (bytes : List ℕ) : Type 0 where
  pub ended : K.ended new ≡ K.ended old
  pub allowed : MayFollow (K.ended old) bytes
  pub holds : (passed left : List ℕ) → K.holds old passed left → K.holds new passed (left ++ bytes)

-- the end of the input is marked
pub record Finishes (K : Setting) (old new : K.stream) : Type 0 where
  pub ended : IsTrue (K.ended new)
  pub holds : (passed left : List ℕ) → K.holds old passed left → K.holds new passed left

-- there is no further whole statement
pub record AnswersNone (K : Setting) (old new : K.stream) (before after : K.engine) : Type 0 where
  pub ended : K.ended new ≡ K.ended old
  pub holds : (passed left : List ℕ) → K.holds old passed left → K.holds new passed left
  pub stands : (s : State) → K.stands before s → K.stands after s

-- the first statement of what is left was taken, whatever may follow, and has this answer in this state
pub record Takes (K : Setting) (r : K.reply) (passed left : List ℕ) (new : K.stream) (s : State) (after : K.engine)
    : Type 0 where
  pub piece : Piece
  pub used : List ℕ
  pub rest : List ℕ
  pub given : (more : List ℕ) → MayFollow (K.ended new) more
      → statements (left ++ more) ≡ piece ∷ statements (rest ++ more)
  pub holds : K.holds new (passed ++ used) rest
  pub state : State
  pub answers : K.answering s piece r state
  pub stands : K.stands after state

-- the next statement was taken and answered
pub record AnswersOne (K : Setting) (r : K.reply) (old new : K.stream) (before after : K.engine) : Type 0 where
  pub ended : K.ended new ≡ K.ended old
  pub takes : (passed left : List ℕ) → K.holds old passed left → (s : State) → K.stands before s
      → Takes K r passed left new s after

-- one call
abbrev pub Turns : (K : Setting) → Call K.reply → (old : K.stream) → (before : K.engine) → (new : K.stream)
    → (after : K.engine) → Type 0
Turns K (Feed bytes) old before new after = Feeds K old new bytes × (after ≡ before)
Turns K Finish old before new after = Finishes K old new × (after ≡ before)
Turns K (Next None) old before new after = AnswersNone K old new before after
Turns K (Next (Some r)) old before new after = AnswersOne K r old new before after

-- a run by itself: from each state that the engine represented it leads to one that it represents
pub record RunsApart (K : Setting) (steps : List (Step K.reply)) (s : State) (after : K.engine) : Type 0 where
  pub state : State
  pub ran : RunBy K.answering s (pieces steps) (replies steps) state
  pub stands : K.stands after state

-- events in order; each session has a stream of its own, and all have one engine
abbrev pub Interleaved : (K : Setting) → List (Event K.reply) → (old : ℕ → K.stream) → (before : K.engine)
    → (new : ℕ → K.stream) → (after : K.engine) → Type 0
Interleaved K [] old before new after = ((n : ℕ) → new n ≡ old n) × (after ≡ before)
Interleaved K (Turn k call ∷ es) old before new after =
    (mid : K.stream)
    × ((between : K.engine)
    × (Turns K call (old k) before mid between × Interleaved K es (put k mid old) between new after))
Interleaved K (Apart steps ∷ es) old before new after =
    (between : K.engine)
    × (((s : State) → K.stands before s → RunsApart K steps s between) × Interleaved K es old between new after)

-- ---- the one run

-- the answers, each with its session
abbrev pub replies_by : {R : Type 0} → List (Tagged (Step R)) → List (Tagged R)
replies_by xs = map (λ x. record { by = x.by; is = x.is.reply }) xs

-- The answers of the events are those of one run over a merge of statements. In it, the statements of each session are
-- the first ones of what was `ahead` of it and what it was fed, whatever may follow. The engine represents the state
-- after it, and `left` is ahead of each session.
pub record SessionsRanOn (K : Setting) (s : State) (ahead : ℕ → List ℕ) (events : List (Event K.reply))
    (streams : ℕ → K.stream) (after : K.engine) : Type 0 where
  pub done : List (Tagged (Step K.reply))
  pub gave : told events ≡ replies_by done
  pub left : ℕ → List ℕ
  pub first : (n : ℕ) (more : List ℕ) → MayFollow (K.ended (streams n)) more
      → statements (ahead n ++ fed (calls_of n events) ++ more) ≡ pieces (of n done) ++ statements (left n ++ more)
  pub passed : ℕ → List ℕ
  pub holds : (n : ℕ) → K.holds (streams n) (passed n) (left n)
  pub state : State
  pub ran : RunBy K.answering s (pieces (all done)) (replies (all done)) state
  pub stands : K.stands after state

-- the same for new sessions, which have nothing ahead
abbrev pub SessionsRan : (K : Setting) → State → List (Event K.reply) → (streams : ℕ → K.stream) → (after : K.engine)
    → Type 0
SessionsRan K s events streams after = SessionsRanOn K s (λ n. []) events streams after

-- the law, for a setting: this is so after each event, in any order of the events, wherever the sessions stood
abbrev pub SessionsMergeOn : Setting → Type 0
SessionsMergeOn K =
    (events : List (Event K.reply)) (old new : ℕ → K.stream) (before after : K.engine) (passed left : ℕ → List ℕ)
    → ((n : ℕ) → K.holds (old n) (passed n) (left n)) → Interleaved K events old before new after → (s : State)
    → K.stands before s → SessionsRanOn K s left events new after

-- the law for new sessions
abbrev pub SessionsMerge : Setting → Type 0
SessionsMerge K =
    (events : List (Event K.reply)) (old new : ℕ → K.stream) (before after : K.engine)
    → ((n : ℕ) → K.holds (old n) [] []) → Interleaved K events old before new after → (s : State)
    → K.stands before s → SessionsRan K s events new after

-- what each session was told, and what all events told together
pub record ShowsOwn {R : Type 0} (events : List (Event R)) (done : List (Tagged (Step R))) : Type 0 where
  pub own : (n : ℕ) → given (calls_of n events) ≡ replies (of n done)
  pub together : all (told events) ≡ replies (all done)

-- the law, for answers of a type: if the events gave the answers of these statements, each with its session, then each
-- session was given the answers to its own statements, in order
abbrev pub MergesShowOwn : Type 0 → Type 0
MergesShowOwn R =
    (events : List (Event R)) (done : List (Tagged (Step R))) → told events ≡ replies_by done → ShowsOwn events done

-- ---- the reference model itself

-- the bytes of a session: those that were processed, those that are left, and whether they have ended
pub record Input : Type 0 where
  pub passed : List ℕ
  pub left : List ℕ
  pub ended : Bool

-- sessions on the reference model, with its replies
abbrev pub model : Setting
model = record {
  stream = Input;
  ended = λ (i : Input). i.ended;
  holds = λ (i : Input) passed left. (i.passed ≡ passed) × (i.left ≡ left);
  engine = State;
  stands = λ (h : State) s. s ≡ h;
  reply = Reply;
  answering = Answers;
}

-- What the sink of a run was given to keep, with what was kept before, is a journal of the state after the run.
use Rattle.std.proofs.Common.{◌≡◌, refl, sym, ◌∙◌, ap, subst, ℕ, Bool, true, false, List, [], ◌∷◌, ◌++◌, map}
use Rattle.std.proofs.Common.{Option, Some, None}
use Rattle.std.specs.Prelude.{if◌then◌else◌}
use Rattle.std.proofs.lemmas.List.{map-append}
use Rattle.tql_spec.specs.Answer.{Answer, Replied}
use Rattle.tql_spec.specs.Machine.{State, Reply}
use Rattle.tql_spec.specs.Run.{Run, finished}
use Rattle.tql_spec.specs.Script.{Piece}
use Rattle.tql_journal_laws.specs.Bytes.{IsStatementText}
use Rattle.tql_journal_laws.specs.Keeping.{HasState, is_kept, kept_pieces, unread}
use Rattle.tql_journal_laws.proofs.JournalRuns.{all_both, journal_goes_on}
use Rattle.tql_journal_laws.proofs.Recovered.{kept_have_texts}
use Rattle.tql_turns.specs.Merge.{Call, Feed, Finish, Next}
use Rattle.tql_splitter.specs.Stream.{Stream}
use Rattle.tql_result.specs.Devices.{with_texts}
use Rattle.tql_result.specs.declared.answer.Answer as code
use Rattle.tql_run.specs.Ending.{Responds}
use Rattle.tql_run.specs.Kept.{KeepsFrom, KeepsIn, kept_text, kept_texts}
use Rattle.tql_run.specs.Responding.{Standing}
use Rattle.tql_run.proofs.Kept.{kept_fed, kept_first, kept_ended, kept_through}
use Rattle.tql_engine.specs.Kept.{HadKept, KeepsSession, KeepsTurns, SessionsAreKept}
use Rattle.tql_engine.proofs.Bytes.{replying}
use Rattle.tql_engine_state.specs.Stands.{EngineModel, StandsFor}

abbrev text_of : Piece → List ℕ
text_of p = p.text

-- the kept texts are the texts of the kept pieces
texts_of_kept : (s new : State) (ps : List Piece) (rs : List Reply) → Run s ps rs new
    → kept_texts ps (map Replied rs) ≡ map text_of (kept_pieces ps rs)
texts_of_kept s new [] [] ran = refl
texts_of_kept s new [] (r ∷ rs) ran = absurd ran
texts_of_kept s new (p ∷ ps) [] ran = absurd ran
texts_of_kept s new (p ∷ ps) (r ∷ rs) ran =
    ap (λ (l : List (List ℕ)). kept_text p (Replied r) ++ l) (texts_of_kept ran.0 new ps rs ran.2) ∙ by (is_kept r)
  where
    by : (b : Bool)
        → (if b then p.text ∷ [] else []) ++ map text_of (kept_pieces ps rs)
        ≡ map text_of (if b then p ∷ kept_pieces ps rs else kept_pieces ps rs)
    by true = refl
    by false = refl

texts_finished : (texts : List (List ℕ)) → map text_of (map finished texts) ≡ texts
texts_finished [] = refl
texts_finished (t ∷ ts) = ap (λ (l : List (List ℕ)). t ∷ l) (texts_finished ts)

pub keeps_session : (s : State) (after : Standing) (had kept : Option (List (List ℕ))) (earlier : List (List ℕ))
    → KeepsIn Responds s after had kept → HadKept earlier s had → KeepsSession earlier s after kept
keeps_session s after had kept earlier k h =
    let r = replying s k.pieces k.answers k.state k.ran in
    let t = kept_have_texts s k.state k.pieces r.replies k.are r.ran in
    let texts_are : kept_texts k.pieces k.answers ≡ t.texts =
    ap (λ (answers : List Answer). kept_texts k.pieces answers) r.all
    ∙ texts_of_kept s k.state k.pieces r.replies r.ran ∙ ap (map text_of) t.is ∙ texts_finished t.texts in
    let all : map finished earlier ++ kept_pieces k.pieces r.replies ≡ map finished (earlier ++ t.texts) =
    ap (λ (ps : List Piece). map finished earlier ++ ps) t.is ∙ sym (map-append finished earlier t.texts) in
    record {
      pieces = k.pieces;
      replies = r.replies;
      state = k.state;
      texts = t.texts;
      stands = k.stands;
      session = record {
        state = h.has;
        run = r.ran;
        keeps = t.is;
        are = all_both IsStatementText earlier t.texts h.are t.are;
      };
      is = k.is
          ∙ ap (λ (x : Option (List (List ℕ))). with_texts (kept_texts k.pieces k.answers) x) h.is
          ∙ ap (λ (texts : List (List ℕ)). Some (earlier ++ texts)) texts_are;
      has = subst (λ (ps : List Piece). HasState ps (unread k.state)) all
          (journal_goes_on (map finished earlier) s k.state k.pieces r.replies h.has r.ran);
    }

-- ---- a session, call by call

-- equal engines and equal lists of texts can be replaced
kept_at : (first : EngineModel) (from : Option (List (List ℕ))) (stream : Stream) (before after : EngineModel)
    (had kept : Option (List (List ℕ))) → after ≡ before → kept ≡ had
    → KeepsFrom Responds stream (StandsFor first) (StandsFor before) from had
    → KeepsFrom Responds stream (StandsFor first) (StandsFor after) from kept
kept_at first from stream before after had kept same still k =
    subst (λ (x : Option (List (List ℕ))). KeepsFrom Responds stream (StandsFor first) (StandsFor after) from x)
    (sym still)
    (subst (λ (x : EngineModel). KeepsFrom Responds stream (StandsFor first) (StandsFor x) from had) (sym same) k)

turns_kept : (calls : List (Call code.Answer)) (first : EngineModel) (from : Option (List (List ℕ)))
    (old new : Stream) (before after : EngineModel) (had kept : Option (List (List ℕ)))
    → KeepsFrom Responds old (StandsFor first) (StandsFor before) from had
    → KeepsTurns calls old before had new after kept
    → KeepsFrom Responds new (StandsFor first) (StandsFor after) from kept
turns_kept [] first from old new before after had kept k (a, b, c) =
    kept_at first from new before after had kept b c
    (subst (λ (x : Stream). KeepsFrom Responds x (StandsFor first) (StandsFor before) from had) (sym a) k)
turns_kept (Feed bytes ∷ cs) first from old new before after had kept k
    (mid, (between, (has, ((feeds, may, same, still), rest)))) =
    turns_kept cs first from mid new between after has kept
    (kept_at first from mid before between had has same still
    (kept_fed Responds old mid bytes (StandsFor first) (StandsFor before) from had k feeds))
    rest
turns_kept (Finish ∷ cs) first from old new before after had kept k
    (mid, (between, (has, ((finishes, same, still), rest)))) =
    turns_kept cs first from mid new between after has kept
    (kept_at first from mid before between had has same still
    (kept_ended Responds old mid (StandsFor first) (StandsFor before) from had k finishes))
    rest
turns_kept (Next answer ∷ cs) first from old new before after had kept k
    (mid, (between, (has, ((answers, keeps), rest)))) =
    turns_kept cs first from mid new between after has kept
    (kept_through Responds old mid (StandsFor first) (StandsFor before) (StandsFor between) from had has k keeps) rest

pub sessions_are_kept : SessionsAreKept
sessions_are_kept old new before after had kept calls holds turns s earlier st h =
    let k = turns_kept calls before had old new before after had kept
    (kept_first Responds old (StandsFor before) had (record { passed = []; left = []; holds = holds })) turns in
    keeps_session s (StandsFor after) had kept earlier (k.keeps s st) h

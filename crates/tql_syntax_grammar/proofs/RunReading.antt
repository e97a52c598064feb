-- The reading functions compute a run of a script.
use Rattle.std.proofs.Common.{refl, List, [], ◌∷◌, inl}
use Rattle.tql_spec.specs.Machine.{State, Reply}
use Rattle.tql_spec.specs.Script.{Piece, statements}
use Rattle.tql_spec.specs.Run.{Run, respond_to}
use Rattle.tql_syntax_grammar.specs.ReadingTexts.{read_sense}
use Rattle.tql_syntax_grammar.specs.ReadingRuns.{read_replies, read_state, ReadsTheTokens, ReadsTheSense, ReadsTheRun}
use Rattle.tql_syntax_grammar.proofs.TextReading.{tokens_are_read, reads_tokens, sense_is_read}

-- exactly the tokens of a text are read
pub reads_the_tokens : ReadsTheTokens
reads_the_tokens text ts = (tokens_are_read text ts, reads_tokens text ts)

-- a sense of the piece is read
pub reads_the_sense : ReadsTheSense
reads_the_sense p = sense_is_read p

-- the replies and the state that are read are those of a run
answered : (old : State) (pieces : List Piece) → Run old pieces (read_replies old pieces) (read_state old pieces)
answered old [] = refl
answered old (p ∷ ps) =
    let r : Reply × State = respond_to old (read_sense p) in
    (r.1, inl (read_sense p, reads_the_sense p, refl), answered r.1 ps)

-- each script has a run
pub reads_the_run : ReadsTheRun
reads_the_run old script = (_, answered old (statements script), refl)

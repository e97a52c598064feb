-- Reading a text: its tokens, and the sense of a piece of a script.
use Rattle.std.specs.Prelude.{ℕ, zero, suc, false, not, nat_lt, if◌then◌else◌, List, [], ◌∷◌, length, take}
use Rattle.std.specs.Prelude.{drop, Option, Some, None}
use Rattle.std.specs.Str.{is_utf8}
use Rattle.tql_spec.specs.Words.{with_front}
use Rattle.tql_spec.specs.Refusal.{NotAStatement, NotUtf8, UnfinishedStatement, StatementTooLong, NestedTooDeep}
use Rattle.tql_spec.specs.Refusal.{TooManyColumnsOrTables}
use Rattle.tql_spec.specs.Script.{Piece, without_lead}
use Rattle.tql_spec.specs.Token.{Token, depth}
use Rattle.tql_spec.specs.FirstToken.{Reading, token_with, first_token}
use Rattle.tql_spec.specs.Syntax.{Statement, is_too_wide}
use Rattle.tql_spec.specs.Run.{Sense, Says, Faulty}
use Rattle.tql_syntax_grammar.specs.ReadingStatements.{read_statement}

-- ---- tokens

-- the token in front of these bytes, and the tokens after it
abbrev pub with_token : List ℕ → Reading → (List ℕ → Option (List Token)) → Option (List Token)
with_token bytes None more = None
with_token bytes (Some r) more = with_front (Some (token_with r.0 (take r.1 bytes))) (more (drop r.1 bytes))

-- the tokens of bytes that do not begin with a blank or a comment
abbrev pub tokens_here : (List ℕ → Option (List Token)) → List ℕ → Option (List Token)
tokens_here more [] = Some []
tokens_here more (b ∷ bs) = with_token (b ∷ bs) (first_token (b ∷ bs)) more

-- the tokens of some bytes, if there are at most as many as the number
abbrev pub tokens_within : ℕ → List ℕ → Option (List Token)
tokens_within zero bytes = tokens_here (λ left. None) (without_lead false bytes)
tokens_within (suc n) bytes = tokens_here (tokens_within n) (without_lead false bytes)

-- the tokens of a text, if it consists of tokens
abbrev pub read_tokens : List ℕ → Option (List Token)
read_tokens text = tokens_within (length text) text

-- ---- senses

-- the sense of the statement that was read: too wide, or the statement; without one, not a statement
abbrev pub sense_of_tree : Option Statement → Sense
sense_of_tree None = Faulty NotAStatement
sense_of_tree (Some s) = if is_too_wide s then Faulty TooManyColumnsOrTables else Says s

-- the sense of the tokens
abbrev pub sense_of_tokens : Option (List Token) → Sense
sense_of_tokens None = Faulty NotAStatement
sense_of_tokens (Some ts) = if nat_lt 64 (depth ts) then Faulty NestedTooDeep else sense_of_tree (read_statement ts)

-- the sense of a piece of a script: its statement, or the first fault of its text
abbrev pub read_sense : Piece → Sense
read_sense p =
    if nat_lt 1_048_576 (length p.text) then Faulty StatementTooLong
    else (if not (is_utf8 p.text) then Faulty NotUtf8
    else (if not p.finished then Faulty UnfinishedStatement else sense_of_tokens (read_tokens p.text)))

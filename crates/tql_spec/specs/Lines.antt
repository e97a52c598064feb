-- The places of statements in a script.
use Rattle.std.specs.Prelude.{◌≡◌, ℕ, ◌+◌, ◌==◌, ◌||◌, Bool, true, false, not, List, [], ◌∷◌, ◌++◌, map, filter}
use Rattle.std.specs.Prelude.{count_by, if◌then◌else◌}
use Rattle.std.specs.List.{AllByRecursion}
use Rattle.tql_spec.specs.Words.{is_empty}
use Rattle.tql_spec.specs.Script.{Piece, Outside, cut, is_blank, begins_comment, trimmed, statements}

-- a statement, and the script's bytes before its text
pub record Placed : Type 0 where
  pub before : List ℕ
  pub piece : Piece

-- the blanks and comments at the start of the bytes
abbrev pub lead : Bool → List ℕ → List ℕ
lead in_comment [] = []
lead true (b ∷ bs) = b ∷ lead (not (b == 10)) bs
lead false (b ∷ bs) =
    let rest = lead (begins_comment b bs) bs in
    if is_blank b || begins_comment b bs then b ∷ rest else []

-- the pieces after the bytes `before`, each without leading blanks and comments, and with all bytes before its text
abbrev pub placed_behind : List ℕ → List Piece → List Placed
placed_behind before [] = []
placed_behind before (p ∷ ps) =
    record { before = before ++ lead false p.text; piece = trimmed p } ∷ placed_behind (before ++ p.text ++ 59 ∷ []) ps

-- the statements of the bytes after `before`, with their places
abbrev pub placed_from : List ℕ → List ℕ → List Placed
placed_from before bytes =
    filter (λ (p : Placed). not (is_empty p.piece.text)) (placed_behind before (cut Outside bytes))

-- the statements of a script, with their places
abbrev pub placed_statements : List ℕ → List Placed
placed_statements script = placed_from [] script

-- the number of line feeds among the bytes
abbrev pub line_feeds : List ℕ → ℕ
line_feeds bytes = count_by (λ b. b == 10) bytes

-- the line of a statement's first byte; the first line is 1
abbrev pub line_of : Placed → ℕ
line_of p = 1 + line_feeds p.before

-- the script is the bytes before the statement, its text, and a rest
pub record StandsIn (script : List ℕ) (p : Placed) : Type 0 where
  pub rest : List ℕ
  pub parts : script ≡ p.before ++ p.piece.text ++ rest

-- the placed statements are the statements of the script, and each is at its place
pub record StatementsInPlace (script : List ℕ) : Type 0 where
  pub all : map (λ (p : Placed). p.piece) (placed_statements script) ≡ statements script
  pub each : AllByRecursion (StandsIn script) (placed_statements script)

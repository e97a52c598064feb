-- How a script is cut into pieces, and where a piece begins, in terms of bytes.
use Rattle.std.specs.Prelude.{◌≡◌, ◌↔◌, ◌==◌, ◌&&◌, not, ℕ, Bool, true, false, List, [], ◌∷◌, ◌++◌, IsTrue, IsFalse}
use Rattle.std.specs.Prelude.{MatchBool}
use Rattle.std.specs.List.{list_all}
use Rattle.tql_spec.specs.Script.{Piece, Outside, cut, begins_comment, is_blank, without_lead}
use Rattle.tql_spec.specs.Token.{IsOneLine, IsGap, IsEnd}

-- the byte b does not occur in these bytes
abbrev pub Lacks : ℕ → List ℕ → Type 0
Lacks b bytes = IsTrue (list_all (λ c. not (c == b)) bytes)

-- a byte other than `;` and the two quotation marks
abbrev pub is_plain : ℕ → Bool
is_plain b = not (b == 59) && (not (b == 39) && not (b == 34))

-- the bytes of a piece: each `;` is inside a quoted text, a quoted name or a comment. All of these are closed, except
-- the last one of an unfinished piece.
pub data IsPiece : Bool → List ℕ → Type 0 where
  nothing : {finished : Bool} → IsPiece finished []
  plain : {finished : Bool} {b : ℕ} {bs : List ℕ} → IsTrue (is_plain b) → IsFalse (begins_comment b bs)
      → IsPiece finished bs → IsPiece finished (b ∷ bs)
  text : {finished : Bool} (words : List ℕ) {bs bytes : List ℕ} → Lacks 39 words → IsPiece finished bs
      → bytes ≡ 39 ∷ words ++ 39 ∷ bs → IsPiece finished bytes
  name : {finished : Bool} (words : List ℕ) {bs bytes : List ℕ} → Lacks 34 words → IsPiece finished bs
      → bytes ≡ 34 ∷ words ++ 34 ∷ bs → IsPiece finished bytes
  comment : {finished : Bool} (words : List ℕ) {bs bytes : List ℕ} → IsOneLine words → IsPiece finished bs
      → bytes ≡ 45 ∷ 45 ∷ words ++ 10 ∷ bs → IsPiece finished bytes
  open_text : {words : List ℕ} → Lacks 39 words → IsPiece false (39 ∷ words)
  open_name : {words : List ℕ} → Lacks 34 words → IsPiece false (34 ∷ words)
  open_comment : {words : List ℕ} → IsOneLine words → IsPiece false (45 ∷ 45 ∷ words)

-- pieces of which only the last is unfinished
abbrev pub ArePieces : List Piece → Type 0
ArePieces [] = ⊥
ArePieces (p ∷ ps) = IsPiece p.finished p.text × MatchBool p.finished (ArePieces ps) (ps ≡ [])

-- the `;` after a finished piece
abbrev pub ended_by : Bool → List ℕ
ended_by true = 59 ∷ []
ended_by false = []

-- the concatenated pieces, each finished one with its `;`
abbrev pub joined : List Piece → List ℕ
joined [] = []
joined (p ∷ ps) = p.text ++ (ended_by p.finished ++ joined ps)

-- the pieces are those of a script
pub record IsCut (script : List ℕ) (pieces : List Piece) : Type 0 where
  pub are : ArePieces pieces
  pub whole : joined pieces ≡ script

-- the law: `cut` cuts a script into its pieces, and no other list of pieces is a cut of it
abbrev pub ScriptsAreCut : Type 0
ScriptsAreCut = (script : List ℕ)
    → IsCut script (cut Outside script) × ((pieces : List Piece) → IsCut script pieces → pieces ≡ cut Outside script)

-- the bytes begin at b, the first byte that is neither blank nor in a comment
pub record BeginsAt (bytes : List ℕ) (b : ℕ) (rest : List ℕ) : Type 0 where
  pub gap : List ℕ
  pub parts : bytes ≡ gap ++ b ∷ rest
  pub is_gap : IsGap gap
  pub no_blank : IsFalse (is_blank b)
  pub no_comment : IsFalse (begins_comment b rest)

-- the law: nothing is left of a piece with only blanks and comments. Otherwise the rest from its first other byte is
-- left.
abbrev pub PiecesBegin : Type 0
PiecesBegin = (bytes : List ℕ)
    → ((without_lead false bytes ≡ []) ↔ IsEnd bytes)
    × ((b : ℕ) (rest : List ℕ) → (without_lead false bytes ≡ b ∷ rest) ↔ BeginsAt bytes b rest)

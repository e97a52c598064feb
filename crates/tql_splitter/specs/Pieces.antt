-- The pieces that a splitter returns.
use Rattle.std.specs.Prelude.{◌≡◌, ℕ, ◌+◌, ◌<◌, ◌≤◌, ◌++◌, not, Bool, IsTrue, IsFalse, List, [], ◌∷◌, length}
use Rattle.std.specs.Prelude.{Option, Some, None}
use Rattle.std.specs.List.{list_all}
use Rattle.tql_spec.specs.Script as script
use Rattle.tql_spec.specs.Script.{statements}
use Rattle.tql_spec.specs.Lines.{placed_from, line_of}
use Rattle.tql_splitter.specs.Stream.{Kept, Stream, to_do, capped}
use Rattle.tql_splitter.specs.Pending.{longest, room, Keeps}
use Rattle.tql_splitter.specs.Holding.{Holds}
use Rattle.tql_splitter.specs.declared.piece.Piece.{Piece}
use Rattle.tql_splitter.specs.declared.piece.Piece.TheVariants.{Text, TooLong, NoMemory, Unfinished}

-- the piece represents the statement; `NoMemory` represents any statement of more than `room` bytes
abbrev pub StandsFor : Piece → script.Piece → Type 0
StandsFor (Text t) p = (p.text ≡ t.now) × IsTrue p.finished × (length t.now ≤ longest)
StandsFor TooLong p = longest < length p.text
StandsFor NoMemory p = room < length p.text
StandsFor (Unfinished t) p = (p.text ≡ t.now) × IsFalse p.finished × (length t.now ≤ longest)

-- the kept text, which has ended with a `;` or without one, is that of the statement
abbrev pub Says : Bool → Kept → script.Piece → Type 0
Says finished kept p = (p.finished ≡ finished) × Keeps p.text kept

-- the bytes that may still follow: none after the end of the input
abbrev pub MayFollow : Bool → List ℕ → Type 0
MayFollow ended more = IsTrue ended → more ≡ []

-- After the bytes `passed`, `p` is the first statement of `left`, whatever may still follow. The bytes `used` reach to
-- its end, and `rest` remains. The statement begins on the line `on`.
pub record IsFirst (ended : Bool) (passed left used rest : List ℕ) (p : script.Piece) (on : ℕ)
    : Type 0 where
  pub given : (more : List ℕ) → MayFollow ended more → statements (left ++ more) ≡ p ∷ statements (rest ++ more)
  pub unfinished : IsFalse p.finished → IsTrue ended
  pub parts : left ≡ used ++ rest
  pub before : List ℕ
  pub placed : (more : List ℕ) → MayFollow ended more
      → placed_from passed (left ++ more)
      ≡ record { before = before; piece = p } ∷ placed_from (passed ++ used) (rest ++ more)
  pub within : length before + length p.text ≤ length (passed ++ used)
  pub line : on ≡ capped (line_of (record { before = before; piece = p }))

-- no statement is left: none that is whole, and after the end none at all
pub record HasNone (ended : Bool) (left : List ℕ) : Type 0 where
  pub whole : IsTrue (list_all (λ (p : script.Piece). not p.finished) (statements left))
  pub at_end : IsTrue ended → statements left ≡ []

-- the next statement was taken, and it satisfies `Is`
pub record Takes (Is : script.Piece → Type 0) (new : Stream) (passed left : List ℕ) : Type 0 where
  pub piece : script.Piece
  pub is : Is piece
  pub used : List ℕ
  pub rest : List ℕ
  pub first : IsFirst new.ended passed left used rest piece new.line
  pub holds : Holds new (passed ++ used) rest

-- no statement was taken, and the same bytes are passed and left
pub record TakesNone (new : Stream) (passed left : List ℕ) : Type 0 where
  pub none : HasNone new.ended left
  pub holds : Holds new passed left

-- exactly one statement is taken, the next one, whatever the splitter was fed
pub record GivesOne (Is : script.Piece → Type 0) (old new : Stream) : Type 0 where
  pub ended : new.ended ≡ old.ended
  pub fewer : to_do new < to_do old
  pub takes : (passed left : List ℕ) → Holds old passed left → Takes Is new passed left

-- no statement: all bytes that were fed are scanned
pub record GivesNone (old new : Stream) : Type 0 where
  pub ended : new.ended ≡ old.ended
  pub line : new.line ≡ old.line
  pub ready : new.ready ≡ []
  pub no_more : to_do new ≤ to_do old
  pub takes : (passed left : List ℕ) → Holds old passed left → TakesNone new passed left

abbrev pub Gives : Stream → Option Piece → Stream → Type 0
Gives old None new = GivesNone old new
Gives old (Some piece) new = GivesOne (StandsFor piece) old new

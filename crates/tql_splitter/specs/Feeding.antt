-- How each step of a splitter changes its state.
use Rattle.std.specs.Prelude.{◌≡◌, ℕ, ◌+◌, ◌<◌, ◌≤◌, ◌==◌, length, Bool, true, false, List, ◌∷◌, ◌++◌, Option, Some}
use Rattle.std.specs.Prelude.{None, drop, ◌&&◌, IsTrue, IsFalse, MatchBool, if◌then◌else◌}
use Rattle.tql_spec.specs.Script as script
use Rattle.tql_splitter.specs.Stream.{Stream, is_begun, is_text, kept_now, to_do, capped}
use Rattle.tql_splitter.specs.Cutting.{is_comment}
use Rattle.tql_splitter.specs.Plain.{plain_front, is_steady}
use Rattle.tql_splitter.specs.Pending.{PutsAll, Looks, Ends}
use Rattle.tql_splitter.specs.Holding.{Holds}
use Rattle.tql_splitter.specs.Pieces.{GivesOne, GivesNone, Says}

-- feeding: the bytes are appended to those that are left
pub record Feeds (old new : Stream) (bytes : List ℕ) : Type 0 where
  pub ended : new.ended ≡ old.ended
  pub line : new.line ≡ old.line
  pub more : to_do new ≡ to_do old + length bytes
  pub holds : (passed left : List ℕ) → Holds old passed left → Holds new passed (left ++ bytes)

-- the end of the input is marked
pub record Finishes (old new : Stream) : Type 0 where
  pub ended : IsTrue new.ended
  pub line : new.line ≡ old.line
  pub ready : new.ready ≡ old.ready
  pub same : to_do new ≡ to_do old
  pub holds : (passed left : List ℕ) → Holds old passed left → Holds new passed left

-- a byte that ends no statement was taken
pub record Passes (old new : Stream) : Type 0 where
  pub given : IsFalse new.given
  pub ended : new.ended ≡ old.ended
  pub line : new.line ≡ old.line
  pub fewer : length new.ready < length old.ready
  pub no_more : to_do new ≤ to_do old
  pub holds : (passed left : List ℕ) → Holds old passed left → Holds new passed left

-- the splitter after the text that it returned is cleared
abbrev pub forgotten : Stream → Stream
forgotten s = record s { kept = kept_now s.given s.kept; given = false }

-- the splitter with this byte put back
abbrev pub with_byte : ℕ → Stream → Stream
with_byte b s = record s { ready = b ∷ s.ready }

-- one more byte, which ends no piece, was scanned
pub record LooksAt (b : ℕ) (old new : Stream) : Type 0 where
  pub kept : Looks (is_comment old.place) b old.kept new.kept
  pub given : new.given ≡ old.given
  pub place : new.place ≡ script.state_after old.place b
  pub ready : new.ready ≡ old.ready
  pub ended : new.ended ≡ old.ended
  pub feeds : new.feeds ≡ (if b == 10 then capped (old.feeds + 1) else old.feeds)
  pub begun : new.begun ≡ (if is_begun old.kept then old.begun else old.feeds)
  pub line : new.line ≡ old.line

-- the plain bytes at the front were scanned, all of which continue a text
pub record RunsOn (old new : Stream) : Type 0 where
  pub kept : PutsAll (plain_front old.ready) old.kept new.kept
  pub ready : new.ready ≡ drop (length (plain_front old.ready)) old.ready
  pub given : new.given ≡ old.given
  pub place : new.place ≡ old.place
  pub ended : new.ended ≡ old.ended
  pub feeds : new.feeds ≡ old.feeds
  pub begun : new.begun ≡ old.begun
  pub line : new.line ≡ old.line

-- where a text has begun and the state is steady, the plain bytes at the front were scanned; else nothing changed
abbrev pub LooksOn : (old new : Stream) → Type 0
LooksOn old new = MatchBool (is_text old.kept && is_steady old.place) (RunsOn old new) (new ≡ old)

-- the piece ends; if its text has begun, the text is returned
pub record Closes (answer : Bool) (old new : Stream) : Type 0 where
  pub kept : Ends old.kept new.kept
  pub given : new.given ≡ is_begun new.kept
  pub is : answer ≡ is_begun new.kept
  pub place : new.place ≡ script.Outside
  pub ready : new.ready ≡ old.ready
  pub ended : new.ended ≡ old.ended
  pub feeds : new.feeds ≡ old.feeds
  pub line : new.line ≡ (if is_begun new.kept then capped (old.begun + 1) else old.line)

-- the next statement, given by its kept text and whether a `;` ended it; or none
abbrev pub Advances : Stream → Option Bool → Stream → Type 0
Advances old None new = GivesNone old new
Advances old (Some finished) new = GivesOne (Says finished new.kept) old new

-- a byte was taken, and whether it ended a statement
abbrev pub TakesOn : ℕ → (result : Bool) → (old new : Stream) → Type 0
TakesOn b true old new = GivesOne (Says true new.kept) (with_byte b old) new
TakesOn b false old new = Passes (with_byte b old) new

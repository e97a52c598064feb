-- Which bytes a splitter was fed, has returned and has skipped.
use Rattle.std.specs.Prelude.{◌≡◌, ◌≤◌, ◌<◌, ℕ, false, List, [], ◌∷◌, ◌++◌, length, None}
use Rattle.tql_spec.specs.Script.{Outside, without_lead}
use Rattle.tql_spec.specs.Lines.{placed_from, line_feeds}
use Rattle.tql_splitter.specs.Cutting.{state_behind, end_from}
use Rattle.tql_splitter.specs.Stream.{Kept, Nothing, Dash, Whole, Overlong, Lost, Stream, kept_now, capped}
use Rattle.tql_splitter.specs.Pending.{longest, room}

-- a text that has begun: whatever follows, its first byte is neither a blank nor in a comment
pub record HasBegun (text : List ℕ) : Type 0 where
  pub filled : 0 < length text
  pub stays : (more : List ℕ) → without_lead false (text ++ more) ≡ text ++ more

-- how the pending text is kept
abbrev pub Shows : Kept → List ℕ → Type 0
Shows Nothing text = text ≡ []
Shows Dash text = text ≡ 45 ∷ []
Shows (Whole t) text = (t ≡ text) × HasBegun text × (length text ≤ longest)
Shows Overlong text = (longest < length text) × HasBegun text
Shows Lost text = (room < length text) × HasBegun text

-- after the bytes `before`, the bytes `looked` were scanned, and no `;` in them ends a piece
pub record Reads (s : Stream) (before looked : List ℕ) : Type 0 where
  pub place : s.place ≡ state_behind Outside looked
  pub whole : end_from Outside looked ≡ None
  pub ahead : List ℕ
  pub text : List ℕ
  pub parts : looked ≡ ahead ++ text
  pub is_text : without_lead false looked ≡ text
  pub kept : Shows (kept_now s.given s.kept) text
  pub feeds : s.feeds ≡ capped (line_feeds (before ++ looked))
  pub begun : 0 < length text → s.begun ≡ capped (line_feeds (before ++ ahead))

-- The splitter was fed `passed` and then `left`. The bytes `passed` were returned, or contain no statement. `left` is
-- `skipped` (pieces without a statement), `looked` (the scanned bytes of the next piece) and the bytes not yet scanned.
pub record Holds (s : Stream) (passed left : List ℕ) : Type 0 where
  pub skipped : List ℕ
  pub looked : List ℕ
  pub parts : left ≡ skipped ++ looked ++ s.ready
  pub placed : (more : List ℕ)
      → placed_from passed (left ++ more) ≡ placed_from (passed ++ skipped) (looked ++ s.ready ++ more)
  pub reads : Reads s (passed ++ skipped) looked

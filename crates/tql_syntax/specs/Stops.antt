-- Where parsing a text stopped.
use Rattle.std.specs.Prelude.{◌<◌, ◌≤◌, ℕ, List, length, IfSome}
use Rattle.tql_lex.specs.Tokens.{AreInPlace}
use Rattle.tql_syntax.specs.declared.stop.Stopped.{Stopped}

-- the tokens are in place in the text, the stop is among or after them, and the broken byte, if any, is in the text
pub record IsStopIn (text : List ℕ) (stop : Stopped) : Type 0 where
  pub places : AreInPlace 0 stop.front.tokens.items text
  pub read : stop.read ≤ length stop.front.tokens.items
  pub broken : IfSome stop.front.broken (λ n. n < length text)

-- Open parentheses.
use Rattle.std.specs.Prelude.{ℕ, ◌+◌, ◌-◌}
use Rattle.tql_spec.specs.Token.{Token, Sign, Open, Close}

-- the number of open parentheses after the token
abbrev pub open_behind : ℕ → Token → ℕ
open_behind n (Sign Open) = n + 1
open_behind n (Sign Close) = n - 1
open_behind n _ = n

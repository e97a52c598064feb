-- Replies that are held back.
use Rattle.std.specs.Prelude.{◌≡◌, ℕ, List, drop, ◌++◌}

-- the bytes after those that have left
abbrev pub held_of : (sent : ℕ) → (bytes : List ℕ) → List ℕ
held_of sent bytes = drop sent bytes

-- some first bytes of those that were held have left
abbrev pub Leaves : (held held' : List ℕ) → (sent sent' : List ℕ) → Type 0
Leaves held held' sent sent' = sent' ++ held' ≡ sent ++ held

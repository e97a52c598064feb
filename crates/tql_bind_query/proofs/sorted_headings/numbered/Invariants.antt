use Rattle.std.proofs.Common.{◌≡◌, ◌++◌, map, drop}
use Rattle.std.specs.Prelude.{string_bytes}
use Rattle.tql_bind_query.specs.Headed.{headed_from, headed_of}
use Rattle.tql_bind_query.proofs.sorted_headings.numbered.Given as goal

-- the headings so far and the remaining ones
abbrev pub invariant-loop-place : goal.invariant-loop-place
invariant-loop-place l =
    map headed_of l.numbered.items ++ headed_from l.place (map string_bytes (drop l.place l.headings))
    ≡ headed_from 0 (map string_bytes l.headings)

use Rattle.std.proofs.Common.{◌≡◌, map, take}
use Rattle.tql_pinned.specs.Asked.{answer_capped}
use Rattle.tql_pinned.proofs.asking.versions_at.Given as goal

-- the first versions are shown as they were at the pin
abbrev pub invariant-loop-version : goal.invariant-loop-version
invariant-loop-version l = l.shown.items ≡ map (answer_capped l.pin) (take l.version-index l.found)

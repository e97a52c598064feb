use Rattle.std.proofs.Common.{◌≡◌, drop}
use Rattle.std.specs.List.{fold}
use Rattle.tql_digest.specs.Digest.{absorbed}
use Rattle.tql_exec_numbered.specs.Numbered.{seen}
use Rattle.tql_exec_numbered.proofs.cells.absorb_all.Given as goal

-- invariant: with the views left, the hash is that of all
abbrev pub invariant-loop-view : goal.invariant-loop-view
invariant-loop-view l = fold absorbed l.hash (seen (drop l.view-index l.row)) ≡ fold absorbed l.fn.hasher (seen l.row)

-- The versions with values are those that the store finds for them.
use Rattle.tql_exec_read.proofs.ByColumns.{ok_then}
use Rattle.tql_exec_read.proofs.alternatives.versions_at.Goals as goal

pub returns : goal.returns
returns g c =
    ok_then c.look.result (λ found h copies working r. h.copies c.requires.within copies working r) c.look.ensures

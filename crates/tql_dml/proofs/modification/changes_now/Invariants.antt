use Rattle.std.proofs.Common.{◌≡◌, drop}
use Rattle.tql_bound.specs.Works.{work_of}
use Rattle.tql_dml.specs.Alters.{portion_in, conds_in}
use Rattle.tql_dml.specs.Current.{open_from, open_versions}
use Rattle.tql_dml.specs.Parts.{before, parts, parts_in}
use Rattle.tql_dml.proofs.modification.changes_now.Given as goal

-- invariant: the effect so far, and that on the versions left, is the whole effect
abbrev pub invariant-loop-id : goal.invariant-loop-id
invariant-loop-id l =
    before (parts_in l.changed)
    (parts l.definition (portion_in l.modification) (work_of l.modification.terms l.modification.work)
    (conds_in l.modification) (open_from l.id (drop l.id l.current)))
    ≡ parts l.definition (portion_in l.modification) (work_of l.modification.terms l.modification.work)
    (conds_in l.modification) (open_versions l.current)

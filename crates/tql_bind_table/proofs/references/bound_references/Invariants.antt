use Rattle.std.proofs.Common.{drop, map}
use Rattle.std.specs.Prelude.{All}
use Rattle.tql_catalog.specs.Definitions.{application_of, reference_of}
use Rattle.tql_catalog.specs.Tables.{definitions_of}
use Rattle.tql_bind_draft.specs.Drafts.{reference_part, written_of}
use Rattle.tql_bind_table.specs.KeyLists.{IsParent}
use Rattle.tql_bind_table.specs.NewTables.{reference_in}
use Rattle.tql_bind_table.proofs.Sequences.{FlatLeads}
use Rattle.tql_bind_table.proofs.references.bound_references.Given as goal

-- the references so far and the remaining ones; the parents so far
abbrev pub invariant-loop-reference : goal.invariant-loop-reference
invariant-loop-reference l =
    FlatLeads (reference_in (definitions_of l.tables) (written_of l.draft) (map application_of l.applications))
    (map reference_part l.references) l.fn.faults (map reference_of l.bound.items)
    (map reference_part (drop l.reference-index l.references)) l.faults
    × All (IsParent (definitions_of l.tables)) l.parents.items

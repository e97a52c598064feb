use Rattle.std.proofs.Common.{◌≡◌, length}
use Rattle.std.specs.List.{AllWithin}
use Rattle.indexmap.specs.IndexMap.{values}
use Rattle.tql_spec.specs.Definition.{table_at}
use Rattle.tql_catalog.specs.Referring.{noted, HasRoom}
use Rattle.tql_catalog.specs.Sought.{lists_of}
use Rattle.tql_catalog.specs.Tables.{definitions_of}
use Rattle.tql_catalog.proofs.Rests.{rest_noted}
use Rattle.tql_catalog.proofs.referring.note.Given as goal

abbrev pub invariant-loop-parent : goal.invariant-loop-parent
invariant-loop-parent l =
    (rest_noted (table_at (definitions_of (values l.tables)) l.place) l.place l.parent
    (definitions_of (values l.tables)) (lists_of l.lists)
    ≡ noted (table_at (definitions_of (values l.tables)) l.place) l.place (definitions_of (values l.tables))
    (lists_of l.fn.lists))
    × AllWithin HasRoom l.lists l.parent (length l.lists)

use Rattle.std.proofs.Common.{◌≡◌, ◌++◌, drop, map}
use Rattle.tql_spec.specs.Creation.{column}
use Rattle.tql_catalog.specs.Definitions as catalog
use Rattle.tql_bind_draft.specs.Drafts.{column_of, application_part, key_part, implied_in}
use Rattle.tql_bind_table.proofs.create.definitions.Given as goal

abbrev pub invariant-loop-column : goal.invariant-loop-column
invariant-loop-column l =
    map catalog.column_of l.definitions.items
    ++ map (column (implied_in (map application_part l.periods) (map key_part l.keys)))
    (map column_of (drop l.column-index l.columns))
    ≡ map (column (implied_in (map application_part l.periods) (map key_part l.keys))) (map column_of l.columns)

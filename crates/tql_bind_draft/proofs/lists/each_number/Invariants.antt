use Rattle.std.proofs.Common.{drop, map}
use Rattle.tql_bind_expr.specs.Scopes.{word_of}
use Rattle.tql_spec.specs.Creation.{column_number}
use Rattle.tql_bind_expr.proofs.Gathering.{EachLeads}
use Rattle.tql_bind_draft.specs.Drafts.{column_of, names_in}
use Rattle.tql_bind_draft.proofs.lists.each_number.Given as goal

-- the numbers so far and those of the remaining names
abbrev pub invariant-loop-name : goal.invariant-loop-name
invariant-loop-name l =
    EachLeads (column_number (names_in (map column_of l.columns))) (map word_of l.names) l.fn.faults
    l.numbers.items (map word_of (drop l.name-index l.names)) l.faults

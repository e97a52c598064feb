use Rattle.std.proofs.Common.{drop, map}
use Rattle.tql_catalog.specs.Definitions.{application_of, key_of}
use Rattle.tql_bind_expr.proofs.Gathering.{EachLeads}
use Rattle.tql_bind_draft.specs.Drafts.{key_part, written_of, key_in}
use Rattle.tql_bind_draft.proofs.keys.bound_keys.Given as goal

-- the keys so far and the remaining ones
abbrev pub invariant-loop-key : goal.invariant-loop-key
invariant-loop-key l =
    EachLeads (key_in (written_of l.draft) (map application_of l.applications)) (map key_part l.keys) l.fn.faults
    (map key_of l.bound.items) (map key_part (drop l.key-index l.keys)) l.faults

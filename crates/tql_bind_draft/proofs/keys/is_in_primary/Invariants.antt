use Rattle.std.proofs.Common.{◌≡◌, drop, map}
use Rattle.std.specs.List.{list_any}
use Rattle.tql_bind_draft.specs.Drafts.{key_part, has_primary}
use Rattle.tql_bind_draft.proofs.keys.is_in_primary.Given as goal

abbrev pub invariant-loop-key : goal.invariant-loop-key
invariant-loop-key l =
    list_any (has_primary l.name) (map key_part (drop l.key-index l.keys)) ≡ list_any (has_primary l.name)
    (map key_part l.keys)

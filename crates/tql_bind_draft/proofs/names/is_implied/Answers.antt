use Rattle.std.proofs.Common.{◌∙◌, Bool, map, ap, sym}
use Rattle.std.specs.Prelude.{◌||◌}
use Rattle.std.specs.List.{list_any}
use Rattle.tql_bind_draft.specs.Drafts.{application_part, key_part, has_primary}
use Rattle.tql_bind_draft.proofs.ListLaws.{implied_by}
use Rattle.tql_bind_draft.proofs.names.is_implied.Goals as goal

pub returns-else-is_of_period : goal.returns-else-is_of_period
returns-else-is_of_period c =
    let n = c.args.name.now in
    let ps = map application_part c.args.periods.now in
    let ks = map key_part c.args.keys.now in
    let none = sym c.is_of_period.ensures ∙ c.if-is_of_period.false in
    c.is_in_primary.ensures ∙ ap (λ (b : Bool). b || list_any (has_primary n) ks) (sym none) ∙ implied_by n ps ks

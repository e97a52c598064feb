use Rattle.std.proofs.Common.{rules, tests, ap, ◌∙◌, map}
use Rattle.std.proofs.lemmas.Fn.{filter_same}
use Rattle.tql_catalog.specs.Definitions.{key_of}
use Rattle.tql_expr.specs.Shown.{shown_by}
use Rattle.tql_expr.specs.declared.stored.StoredRow.{StoredRow}
use Rattle.tql_key_clashes.specs.Rivals.{can_clash}
use Rattle.tql_key_clashes.proofs.SortedRivals.{map_where}
use Rattle.tql_key_clashes.proofs.rivals.keep_rivals.Goals as goal

pub returns : goal.returns
returns c =
    let d = c.args.definition.now in
    let k = key_of c.args.key.now in
    ap (map shown_by) (filter_same _ (λ (r : StoredRow). can_clash d k (shown_by r)) _
    (λ x b f' h. (search (rules, tests), search rules)) _ _ c.retain.ensures.filtered)
    ∙ map_where shown_by (can_clash d k) c.args.rows.now.items

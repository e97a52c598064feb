use Rattle.std.proofs.Common.{◌≡◌, rules, tests, ap, subst, ◌∙◌, ℕ, List, map, filter}
use Rattle.std.specs.List.Sorted.{IsSorted}
use Rattle.tql_spec.specs.Query.{by_columns}
use Rattle.tql_catalog.specs.Definitions.{key_of}
use Rattle.tql_expr.specs.Shown.{shown_by}
use Rattle.tql_key_rows.specs.Asked.{new_rows}
use Rattle.tql_key_rows.specs.Ranks.{rank}
use Rattle.tql_key_clashes.specs.Rivals.{can_clash}
use Rattle.tql_key_clashes.proofs.SortedRivals.{sorted_decide}
use Rattle.tql_key_clashes.proofs.rivals.are_apart.Goals as goal

pub returns : goal.returns
returns c =
    let d = c.args.definition.now in
    let k = key_of c.args.key.now in
    let all = new_rows d c.args.moment c.args.rows.now in
    let rivals = map shown_by c.keep_rivals.new.rows.items in
    let sorted = map shown_by c.sort_by_ranks.new.rows.items in
    let come : map shown_by c.in_ok-rivals.rivals.items ≡ all = search (rules, tests) in
    let kept : rivals ≡ filter (can_clash d k) all =
    c.keep_rivals.ensures ∙ ap (filter (can_clash d k)) come in
    let rise : IsSorted by_columns (map (rank d k.columns) sorted) =
    subst (λ (cs : List ℕ). IsSorted by_columns (map (rank d cs) sorted)) c.deref.ensures.value
    c.sort_by_ranks.ensures.sorted in
    let told = sorted_decide d k all rivals sorted rise c.sort_by_ranks.ensures.same kept in
    search (rules, tests, told)

use Rattle.std.proofs.Common.{◌≡◌, rules, tests, subst, map}
use Rattle.tql_spec.specs.Bag.{SameBag}
use Rattle.tql_expr.specs.Shown.{shown_by}
use Rattle.tql_key_rows.specs.Asked.{new_rows}
use Rattle.tql_key_rows.proofs.coming.sorted_coming.Goals as goal

pub returns-clause-same : goal.returns-clause-same
returns-clause-same c =
    let all = new_rows c.args.definition.now c.args.change.now.moment c.args.change.now.added.now in
    let come : map shown_by c.in_ok-rows.rows.items ≡ all = search (rules, tests) in
    subst (SameBag (map shown_by c.sort_by_tuples.new.rows.items)) come c.sort_by_tuples.ensures.same

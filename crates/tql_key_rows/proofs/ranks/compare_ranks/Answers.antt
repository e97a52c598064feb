use Rattle.std.proofs.Common.{rules, tests, sym, ◌∙◌, ◌≡◌, true, false}
use Rattle.std.specs.Ordering.{int_cmp, is_ne}
use Rattle.tql_spec.specs.Query.{by_columns}
use Rattle.tql_expr.specs.Shown.{shown_by}
use Rattle.tql_key_rows.specs.Ranks.{starts_at}
use Rattle.tql_key_rows.specs.Touched.{tuple}
use Rattle.tql_key_rows.proofs.Ranked.{first_decides, rank_by, then_decides}
use Rattle.tql_key_rows.proofs.ranks.compare_ranks.Goals as goal

pub returns-then-is_ne : goal.returns-then-is_ne
returns-then-is_ne c =
    let d = c.args.definition.now in
    let columns = c.args.columns.now in
    let a = shown_by c.args.a.now in
    let b = shown_by c.args.b.now in
    let differ : is_ne (by_columns (tuple columns a) (tuple columns b)) ≡ true = search (rules, tests) in
    c.compare_tuples-by_tuple.ensures
    ∙ first_decides (by_columns (tuple columns a) (tuple columns b)) (int_cmp (starts_at d a) (starts_at d b)) differ
    ∙ sym (rank_by columns a b (starts_at d a) (starts_at d b))

pub returns : goal.returns
returns c =
    let d = c.args.definition.now in
    let columns = c.args.columns.now in
    let a = shown_by c.args.a.now in
    let b = shown_by c.args.b.now in
    let tie : is_ne (by_columns (tuple columns a) (tuple columns b)) ≡ false = search (rules, tests) in
    let told : c.cmp.result ≡ int_cmp (starts_at d a) (starts_at d b) = search (rules, tests) in
    told
    ∙ then_decides (by_columns (tuple columns a) (tuple columns b)) (int_cmp (starts_at d a) (starts_at d b)) tie
    ∙ sym (rank_by columns a b (starts_at d a) (starts_at d b))

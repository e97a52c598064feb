-- The rows with a tuple are between two positions.
use Rattle.std.proofs.Common.{◌∙◌, ◌-◌, ap, sym, rules, Bool, List, map, take, drop}
use Rattle.std.specs.Prelude.{◌&&◌}
use Rattle.std.specs.List.{list_any}
use Rattle.std.specs.Ordering.{is_lt, is_le}
use Rattle.std.proofs.lemmas.List.Sorted.{IsPartitionPoint-from_clause}
use Rattle.tql_spec.specs.Datum.{Row}
use Rattle.tql_spec.specs.Query.{by_columns}
use Rattle.tql_expr.specs.Shown.{shown_by}
use Rattle.tql_expr.specs.declared.stored.StoredRow.{StoredRow}
use Rattle.tql_value.specs.Views.{datum_of_view}
use Rattle.tql_key_rows.specs.Touched.{tuple, has_tuple}
use Rattle.tql_key_rows.proofs.Agreeing.{Begins, Ends, any_map, begins_first, below_first, some_between, upto_first}
use Rattle.tql_key_rows.proofs.coming.with_tuple.Goals as goal

pub overflow_sub-end : goal.overflow_sub-end
overflow_sub-end c =
    let cs = c.args.columns.now in
    let vs = map datum_of_view c.args.tuple.now in
    let rows = c.args.rows.now in
    let from : Begins shown_by cs vs rows c.partition_point-start.result =
    IsPartitionPoint-from_clause (λ (r : StoredRow). is_lt (by_columns (tuple cs (shown_by r)) vs)) rows
    c.partition_point-start.result c.partition_point-start.ensures.partitioned
    (below_first shown_by cs vs rows c.requires) (λ a r f' k. (search rules, search rules)) in
    let to : Ends shown_by cs vs rows c.partition_point-end.result =
    IsPartitionPoint-from_clause (λ (r : StoredRow). is_le (by_columns (tuple cs (shown_by r)) vs)) rows
    c.partition_point-end.result c.partition_point-end.ensures.partitioned
    (upto_first shown_by cs vs rows c.requires) (λ a r f' k. (search rules, search rules)) in
    begins_first shown_by cs vs rows c.partition_point-start.result c.partition_point-end.result
    c.partition_point-start.ensures.bound from to

pub returns : goal.returns
returns c test =
    let cs = c.args.columns.now in
    let vs = map datum_of_view c.args.tuple.now in
    let rows = c.args.rows.now in
    let i = c.partition_point-start.result in
    let j = c.partition_point-end.result in
    let from : Begins shown_by cs vs rows i =
    IsPartitionPoint-from_clause (λ (r : StoredRow). is_lt (by_columns (tuple cs (shown_by r)) vs)) rows i
    c.partition_point-start.ensures.partitioned
    (below_first shown_by cs vs rows c.requires) (λ a r f' k. (search rules, search rules)) in
    let to : Ends shown_by cs vs rows j =
    IsPartitionPoint-from_clause (λ (r : StoredRow). is_le (by_columns (tuple cs (shown_by r)) vs)) rows j
    c.partition_point-end.ensures.partitioned
    (upto_first shown_by cs vs rows c.requires) (λ a r f' k. (search rules, search rules)) in
    let has : Row → Bool = λ r. has_tuple cs vs r && test r in
    ap (λ (rs : List StoredRow). list_any has (map shown_by rs))
    (c.split_at-2.ensures.front ∙ ap (take (j - i)) c.split_at.ensures.back)
    ∙ any_map has shown_by (take (j - i) (drop i rows))
    ∙ some_between shown_by cs vs rows test i j c.partition_point-start.ensures.bound
    c.partition_point-end.ensures.bound from to
    ∙ sym (any_map has shown_by rows)

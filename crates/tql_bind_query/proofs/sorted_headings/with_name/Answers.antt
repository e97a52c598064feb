-- The headings of a name are between two places.
use Rattle.std.proofs.Common.{◌∙◌, ◌-◌, ap, rules, take}
use Rattle.std.specs.Ordering.{is_lt, is_le}
use Rattle.std.proofs.lemmas.List.Sorted.{IsPartitionPoint-from_clause}
use Rattle.tql_bind_query.specs.declared.sorted_headings.Heading.{Heading}
use Rattle.tql_bind_query.proofs.HeadedLaws.{Begins, Ends, begins_first, below_first, by_name, named_between}
use Rattle.tql_bind_query.proofs.HeadedLaws.{upto_first}
use Rattle.tql_bind_query.proofs.sorted_headings.with_name.Goals as goal

pub overflow_sub-end : goal.overflow_sub-end
overflow_sub-end c =
    let n = c.args.name.now in
    let hs = c.args.sorted.now in
    let from : Begins n hs c.partition_point-start.result =
    IsPartitionPoint-from_clause (λ (h : Heading). is_lt (by_name n hs h)) hs c.partition_point-start.result
    c.partition_point-start.ensures.partitioned (below_first n hs c.requires)
    (λ a r f' k. (search rules, search rules)) in
    let to : Ends n hs c.partition_point-end.result =
    IsPartitionPoint-from_clause (λ (h : Heading). is_le (by_name n hs h)) hs c.partition_point-end.result
    c.partition_point-end.ensures.partitioned (upto_first n hs c.requires)
    (λ a r f' k. (search rules, search rules)) in
    begins_first n hs c.partition_point-start.result c.partition_point-end.result
    c.partition_point-start.ensures.bound from to

pub returns : goal.returns
returns c =
    let n = c.args.name.now in
    let hs = c.args.sorted.now in
    let i = c.partition_point-start.result in
    let j = c.partition_point-end.result in
    let from : Begins n hs i =
    IsPartitionPoint-from_clause (λ (h : Heading). is_lt (by_name n hs h)) hs i
    c.partition_point-start.ensures.partitioned (below_first n hs c.requires)
    (λ a r f' k. (search rules, search rules)) in
    let to : Ends n hs j =
    IsPartitionPoint-from_clause (λ (h : Heading). is_le (by_name n hs h)) hs j
    c.partition_point-end.ensures.partitioned (upto_first n hs c.requires)
    (λ a r f' k. (search rules, search rules)) in
    c.split_at-2.ensures.front ∙ ap (take (j - i)) c.split_at.ensures.back
    ∙ named_between n hs i j c.partition_point-start.ensures.bound c.partition_point-end.ensures.bound from to

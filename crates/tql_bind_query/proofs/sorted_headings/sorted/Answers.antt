-- A stable sort keeps the indexes of each name in order.
use Rattle.std.proofs.Common.{rules, map}
use Rattle.std.specs.Prelude.{string_bytes}
use Rattle.std.proofs.lemmas.Cmp.{nat_list_cmp_total}
use Rattle.std.proofs.lemmas.Fn.{always_returns_same}
use Rattle.std.proofs.lemmas.List.Sorted.{ranks_by}
use Rattle.tql_bind_query.specs.Headed.{is_before}
use Rattle.tql_bind_query.specs.declared.sorted_headings.Heading.{Heading}
use Rattle.tql_bind_query.proofs.HeadedLaws.{places_stay}
use Rattle.tql_bind_query.proofs.sorted_headings.sorted.Goals as goal

pub returns : goal.returns
returns c =
    let ordered = ranks_by nat_list_cmp_total (λ (h : Heading). h.name.now) in
    record {
      rise = c.in_ok-sort_by.ensures.sorted is_before ordered
          (always_returns_same _ _ _ (λ a r f' k. (search rules, search rules)));
      placed = λ _ x. places_stay (map string_bytes c.args.headings.now) c.in_ok-sorted.sorted.items
          c.sort_by.new.self.items x c.in_ok-sorted.ensures (c.sort_by.ensures.stable is_before ordered
          (always_returns_same _ _ _ (λ a r f' k. (search rules, search rules))));
    }

use Rattle.std.proofs.Common.{rules}
use Rattle.std.proofs.lemmas.Cmp.{nat_list_cmp_total}
use Rattle.std.proofs.lemmas.Fn.{always_returns_same}
use Rattle.std.proofs.lemmas.List.Sorted.{ranks_by}
use Rattle.tql_bind_table.specs.KeyLists.{is_before}
use Rattle.tql_bind_table.specs.declared.parent_keys.KeyList.{KeyList}
use Rattle.tql_bind_table.proofs.KeyListLaws.{declared_so}
use Rattle.tql_bind_table.proofs.parent_keys.sorted_lists.Goals as goal

pub returns : goal.returns
returns c =
    let ordered = ranks_by nat_list_cmp_total (λ (l : KeyList). l.columns.now) in
    record {
      rise = c.in_ok-sort_by.ensures.sorted is_before ordered
          (always_returns_same _ _ _ (λ a r f' k. (search rules, search rules)));
      declared = declared_so c.args.definition.now c.args.by_period c.in_ok-lists.lists.items
          c.sort_by.new.self.items c.in_ok-lists.ensures c.sort_by.ensures.permutation;
    }

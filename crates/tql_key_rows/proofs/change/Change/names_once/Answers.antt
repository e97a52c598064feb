use Rattle.std.specs.Prelude.{nat_lt}
use Rattle.std.proofs.Common.{◌∙◌, rules}
use Rattle.std.proofs.lemmas.List.Sorted.{answers_always}
use Rattle.tql_spec.proofs.Bags.{same-sym}
use Rattle.tql_key_rows.proofs.KeptLists.{distinct_either, distinct_told}
use Rattle.tql_key_rows.proofs.change.Change.names_once.Goals as goal

pub returns : goal.returns
returns c =
    let change = c.args.self.now in
    distinct_told change.removed.now c.is_sorted_by.result change.rising
    (c.is_sorted_by.ensures.cases nat_lt (answers_always _ _ _ (λ f a r g h. search rules)))
    ∙ distinct_either change.removed.now change.given.now (same-sym change.same)

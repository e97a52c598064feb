use Rattle.std.specs.Prelude.{int_le}
use Rattle.std.proofs.Common.{rules}
use Rattle.std.proofs.lemmas.List.Sorted.{answers_always}
use Rattle.tql_period.proofs.Rising.{neighbours}
use Rattle.tql_period.proofs.coverage.starts_rise.Goals as goal

pub returns : goal.returns
returns c = neighbours _ _
    (c.is_sorted_by.ensures.cases (λ x y. int_le x.start y.start) (answers_always _ _ _ (λ f a r g h. search rules)))

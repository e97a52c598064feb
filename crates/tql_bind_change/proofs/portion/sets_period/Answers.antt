use Rattle.std.proofs.Common.{rules, tests, sym, ◌∙◌}
use Rattle.std.specs.Prelude.{option_map}
use Rattle.std.proofs.lemmas.Iterator.{YieldsList-from_slice}
use Rattle.std.proofs.lemmas.Iterator.Search.{any_from_yields_List}
use Rattle.tql_spec.specs.Creation.{has_number, period_columns}
use Rattle.tql_syntax_tree.specs.Statements.{portion_of}
use Rattle.tql_bind_change.proofs.PortionLaws.{is_mapped, sets_of_portion}
use Rattle.tql_bind_change.proofs.portion.sets_period.Goals as goal

pub returns-then-is_some : goal.returns-then-is_some
returns-then-is_some c =
    let d = c.args.definition.now in
    let p = c.args.portion in
    let numbers = c.args.numbers.now in
    sets_of_portion d (option_map portion_of p) numbers c.any.result (is_mapped portion_of p ∙ sym c.is_some.ensures
    ∙ c.if-is_some.true)
    (any_from_yields_List (λ i. has_number i (period_columns d.application)) c.any.new.self _ c.any.result
    c.any.ensures.ran (YieldsList-from_slice numbers cc)
    (λ x b q k. search (rules, tests)))

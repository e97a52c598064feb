use Rattle.std.proofs.Common.{rules, tests, ◌∙◌}
use Rattle.std.specs.List.{list_any}
use Rattle.std.proofs.lemmas.Iterator.{YieldsList-from_slice}
use Rattle.std.proofs.lemmas.Iterator.Search.{any_from_yields_List}
use Rattle.tql_spec.specs.Horizon.{is_before}
use Rattle.tql_spec.specs.Query.{Ref}
use Rattle.tql_bound.specs.Queries.{references_in}
use Rattle.tql_bound.specs.declared.query.Chain.{Chain}
use Rattle.tql_bind.specs.Limited.{asks}
use Rattle.tql_bind.proofs.Limited.{chains_tested}
use Rattle.tql_bind.proofs.limits.does_ask_before.Goals as goal

pub returns : goal.returns
returns c =
    let query = c.args.query.now in
    let chains = query.chains.items in
    let h = c.args.limits.now.horizon in
    any_from_yields_List (λ (x : Chain). list_any (asks h) (references_in x)) c.any.new.self _ c.any.result
    c.any.ensures.ran (YieldsList-from_slice chains cc) (λ x b q k. search (rules, tests))
    ∙ chains_tested (λ (r : Ref). is_before h r.when) query.terms chains

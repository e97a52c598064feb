use Rattle.std.proofs.Common.{rules, tests, ◌∙◌}
use Rattle.std.specs.Prelude.{is_none}
use Rattle.std.specs.List.{list_any}
use Rattle.std.proofs.lemmas.Iterator.{YieldsList-from_slice}
use Rattle.std.proofs.lemmas.Iterator.Search.{any_from_yields_List}
use Rattle.tql_spec.specs.Definition.{table_at}
use Rattle.tql_spec.specs.Query.{Ref}
use Rattle.tql_catalog.specs.Tables.{definitions_of}
use Rattle.tql_bound.specs.Queries.{references_in}
use Rattle.tql_bound.specs.declared.query.Chain.{Chain}
use Rattle.tql_bind.specs.Limited.{is_plain}
use Rattle.tql_bind.proofs.Limited.{chains_tested}
use Rattle.tql_bind.proofs.limits.reads_plain.Goals as goal

pub returns : goal.returns
returns c =
    let query = c.args.query.now in
    let chains = query.chains.items in
    let defs = definitions_of c.args.tables.now in
    any_from_yields_List (λ (x : Chain). list_any (is_plain defs) (references_in x)) c.any.new.self _ c.any.result
    c.any.ensures.ran (YieldsList-from_slice chains cc) (λ x b q k. search (rules, tests))
    ∙ chains_tested (λ (r : Ref). is_none (table_at defs r.table).system) query.terms chains

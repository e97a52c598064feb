use Rattle.std.proofs.Common.{rules, tests, ◌∙◌}
use Rattle.std.proofs.lemmas.Iterator.{YieldsList-from_slice}
use Rattle.std.proofs.lemmas.Iterator.Search.{any_from_yields_List}
use Rattle.tql_catalog.specs.Tables.{definitions_of}
use Rattle.tql_bound.specs.declared.query.Join.{Join}
use Rattle.tql_bind.specs.Limited.{is_plain}
use Rattle.tql_bind.proofs.Limited.{joins_asked}
use Rattle.tql_bind.proofs.limits.do_joins_read_plain.Goals as goal

pub returns : goal.returns
returns c =
    let joins = c.args.joins.now in
    let defs = definitions_of c.args.tables.now in
    any_from_yields_List (λ (j : Join). is_plain defs j.reference) c.any.new.self _ c.any.result c.any.ensures.ran
    (YieldsList-from_slice joins cc) (λ x b q k. search (rules, tests)) ∙ joins_asked (is_plain defs) joins

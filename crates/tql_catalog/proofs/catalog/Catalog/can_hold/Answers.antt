use Rattle.std.proofs.Common.{rules, tests, ◌∙◌, ap, List}
use Rattle.std.specs.List.{list_all}
use Rattle.std.proofs.lemmas.Iterator.{YieldsList-from_slice}
use Rattle.std.proofs.lemmas.Iterator.Search.{all_from_yields_List}
use Rattle.tql_spec.specs.Definition.{Reference}
use Rattle.tql_catalog.specs.Definitions.{reference_of}
use Rattle.tql_catalog.specs.Tables.{definitions_of, can_have}
use Rattle.tql_catalog.proofs.Lists.{all_of}
use Rattle.tql_catalog.proofs.catalog.Catalog.can_hold.Goals as goal

pub returns : goal.returns
returns c =
    let references = c.references.result.now in
    let test = can_have (definitions_of c.args.self.now) in
    all_from_yields_List (λ x. test (reference_of x)) _ _ _ c.all.ensures.ran
    (YieldsList-from_slice references cc) (λ x b q k. search (rules, tests))
    ∙ all_of test reference_of references
    ∙ ap (λ (fs : List Reference). list_all test fs) c.references.ensures.references

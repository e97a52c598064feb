use Rattle.std.proofs.Common.{rules, tests, ◌∙◌}
use Rattle.std.proofs.lemmas.Iterator.{YieldsList-from_slice}
use Rattle.std.proofs.lemmas.Iterator.Search.{all_from_yields_List}
use Rattle.tql_catalog.specs.Defined.{is_reference}
use Rattle.tql_catalog.specs.Definitions.{reference_of}
use Rattle.tql_catalog.proofs.Lists.{all_of}
use Rattle.tql_catalog.proofs.table_def.TableDef.are_references.Goals as goal

pub returns : goal.returns
returns c =
    let references = c.args.references.now in
    all_from_yields_List (λ x. is_reference c.args.self.now (reference_of x)) _ _ _ c.all.ensures.ran
    (YieldsList-from_slice references cc) (λ x b q k. search (rules, tests))
    ∙ all_of (is_reference c.args.self.now) reference_of references

use Rattle.std.proofs.Common.{rules, tests, ◌∙◌, ap, Bool}
use Rattle.std.specs.List.{list_any}
use Rattle.std.proofs.lemmas.Iterator.{YieldsList-from_slice}
use Rattle.std.proofs.lemmas.Iterator.Search.{any_from_yields_List}
use Rattle.tql_spec.specs.Definition.{TableDef, Reference}
use Rattle.tql_spec.specs.Words.{same_text}
use Rattle.tql_catalog.specs.Definitions.{reference_of}
use Rattle.tql_catalog.proofs.Lists.{any_of}
use Rattle.tql_catalog.proofs.table_def.TableDef.is_referring_to.Goals as goal

pub returns : goal.returns
returns c =
    let references = c.self.inside.references.items in
    let names : Reference → Bool = λ f. same_text c.args.name.now f.parent in
    any_from_yields_List (λ r. names (reference_of r)) c.any.new.self _ c.any.result c.any.ensures.ran
    (YieldsList-from_slice references cc) (λ x b q k. search (rules, tests))
    ∙ any_of names reference_of references
    ∙ ap (λ (d : TableDef). list_any names d.references) c.self.view_is

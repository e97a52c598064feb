use Rattle.std.proofs.Common.{rules, tests, ◌∙◌, ap, Bool}
use Rattle.std.specs.Prelude.{◌&&◌, not, if◌then◌else◌}
use Rattle.std.specs.List.{list_any}
use Rattle.std.proofs.lemmas.Iterator.{YieldsList-from_slice}
use Rattle.std.proofs.lemmas.Iterator.Search.{any_from_yields_List}
use Rattle.tql_spec.specs.Creation.{same_numbers}
use Rattle.tql_spec.specs.Definition.{TableDef, Key}
use Rattle.tql_catalog.specs.Definitions.{key_of}
use Rattle.tql_catalog.proofs.Lists.{any_of}
use Rattle.tql_catalog.proofs.table_def.TableDef.has_key.Goals as goal

pub returns : goal.returns
returns c =
    let keys = c.self.inside.keys.items in
    let is : Key → Bool = λ k. same_numbers k.columns c.args.columns.now
    && (if c.args.by_period then k.by_period else not k.by_period) in
    any_from_yields_List (λ k. is (key_of k)) c.any.new.self _ c.any.result c.any.ensures.ran
    (YieldsList-from_slice keys cc) (λ x b q k. search (rules, tests))
    ∙ any_of is key_of keys
    ∙ ap (λ (d : TableDef). list_any is d.keys) c.self.view_is

use Rattle.std.proofs.Common.{rules, tests, ◌∙◌}
use Rattle.std.proofs.lemmas.Iterator.{YieldsList-from_slice}
use Rattle.std.proofs.lemmas.Iterator.Search.{all_from_yields_List}
use Rattle.tql_catalog.specs.Defined.{is_key}
use Rattle.tql_catalog.specs.Definitions.{key_of}
use Rattle.tql_catalog.proofs.Lists.{all_of}
use Rattle.tql_catalog.proofs.table_def.TableDef.are_keys.Goals as goal

pub returns : goal.returns
returns c =
    let keys = c.args.keys.now in
    all_from_yields_List (λ x. is_key c.args.self.now (key_of x)) _ _ _ c.all.ensures.ran
    (YieldsList-from_slice keys cc) (λ x b q k. search (rules, tests))
    ∙ all_of (is_key c.args.self.now) key_of keys

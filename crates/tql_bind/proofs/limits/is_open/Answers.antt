use Rattle.std.proofs.Common.{rules, tests, ◌∙◌}
use Rattle.std.proofs.lemmas.Iterator.{YieldsList-from_slice}
use Rattle.std.proofs.lemmas.Iterator.Search.{any_from_yields_List}
use Rattle.std.specs.Prelude.{string_bytes}
use Rattle.tql_spec.specs.Words.{same_text}
use Rattle.tql_bound.specs.declared.reader.Reader.{Reader}
use Rattle.tql_bind.proofs.Limited.{name_sought}
use Rattle.tql_bind.proofs.limits.is_open.Goals as goal

pub returns : goal.returns
returns c =
    let n = c.args.name.now in
    let readers = c.args.limits.now.readers.now in
    any_from_yields_List (λ (r : Reader). same_text n (string_bytes r.name)) c.any.new.self _ c.any.result
    c.any.ensures.ran (YieldsList-from_slice readers cc) (λ x b q k. search (rules, tests))
    ∙ name_sought (λ (r : Reader). string_bytes r.name) n readers

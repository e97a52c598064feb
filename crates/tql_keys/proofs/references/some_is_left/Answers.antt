use Rattle.std.proofs.Common.{rules, tests, sym, ap, ◌∙◌, Bool}
use Rattle.std.specs.Prelude.{not}
use Rattle.std.specs.List.{list_any}
use Rattle.std.proofs.lemmas.Iterator.{YieldsList-from_slice}
use Rattle.std.proofs.lemmas.Iterator.Search.{any_from_yields_List}
use Rattle.tql_store.specs.StoreModel.{is_among}
use Rattle.tql_versions.specs.declared.version.Version.{Version}
use Rattle.tql_key_rows.proofs.Bools.{and_yes}
use Rattle.tql_keys.proofs.references.some_is_left.Goals as goal

pub returns : goal.returns
returns c table =
    let removed = c.args.change.now.removed.now in
    any_from_yields_List (λ (f : Version). not (is_among f.id removed)) c.any.new.self _ c.any.result
    c.any.ensures.ran (YieldsList-from_slice c.args.found.now cc) (λ x b q k. search (rules, tests))
    ∙ ap (λ (p : Version → Bool). list_any p c.args.found.now)
    (λ i (f : Version). (sym (and_yes (not (is_among f.id removed)))) i)

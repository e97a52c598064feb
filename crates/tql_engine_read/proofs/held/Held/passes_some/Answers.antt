use Rattle.std.proofs.Common.{rules, tests, ◌∙◌, ap}
use Rattle.std.proofs.lemmas.Iterator.{YieldsList-from_slice}
use Rattle.std.proofs.lemmas.Iterator.Search.{any_from_yields_List}
use Rattle.std.specs.List.{list_any}
use Rattle.tql_bound.specs.declared.reader.Reader.{Reader}
use Rattle.tql_engine_state.specs.Readers.{KeptReader, is_passed}
use Rattle.tql_engine_state.specs.Stands.{EngineModel}
use Rattle.tql_engine_state.proofs.ReaderLists.{passed_kept}
use Rattle.tql_engine_read.proofs.held.Held.passes_some.Goals as goal

pub returns : goal.returns
returns g c =
    let m = c.args.moment in
    any_from_yields_List (λ (r : Reader). is_passed m r.pin) c.any.new.self _ c.any.result c.any.ensures.ran
    (YieldsList-from_slice c.self.inside.readers.now cc) (λ x b q k. search (rules, tests))
    ∙ passed_kept m c.self.inside.readers.now
    ∙ ap (λ (h : EngineModel). list_any (λ (k : KeptReader). is_passed m k.pin) h.readers) c.self.view_is

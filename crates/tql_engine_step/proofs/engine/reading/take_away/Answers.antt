use Rattle.std.proofs.Common.{rules, tests, ap, ◌∙◌, map}
use Rattle.std.proofs.lemmas.Fn.{filter_same}
use Rattle.std.specs.Prelude.{not, string_bytes}
use Rattle.tql_spec.specs.Words.{same_text}
use Rattle.tql_bound.specs.declared.reader.Reader.{Reader}
use Rattle.tql_engine_state.specs.Readers.{reader_of}
use Rattle.tql_engine_state.proofs.ReaderLists.{others_kept}
use Rattle.tql_engine_step.proofs.engine.reading.take_away.Goals as goal

pub returns : goal.returns
returns c =
    let n = c.args.name.now in
    ap (map reader_of) (filter_same _ (λ (r : Reader). not (same_text n (string_bytes r.name))) _
    (λ x b f' h. (search (rules, tests), search rules)) _ _ c.retain.ensures.filtered)
    ∙ others_kept n c.args.readers.now.items

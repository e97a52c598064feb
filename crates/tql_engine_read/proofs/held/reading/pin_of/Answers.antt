use Rattle.std.proofs.Common.{rules, tests, ◌∙◌, ap, sym}
use Rattle.std.proofs.lemmas.Iterator.{YieldsList-from_slice}
use Rattle.std.proofs.lemmas.Iterator.Search.{find_from_yields_List}
use Rattle.std.specs.Prelude.{string_bytes, option_map}
use Rattle.tql_spec.specs.Words.{same_text}
use Rattle.tql_bound.specs.declared.reader.Reader.{Reader}
use Rattle.tql_engine_state.proofs.ReaderLists.{found_pin, pin_in}
use Rattle.tql_engine_read.proofs.held.reading.pin_of.Goals as goal

pub returns-in-Some : goal.returns-in-Some
returns-in-Some c =
    let n = c.args.name.now in
    let rs = c.args.readers.now in
    ap pin_in (ap (option_map _) (sym c.in-Some.is)
    ∙ find_from_yields_List (λ (r : Reader). same_text n (string_bytes r.name)) c.find.new.self _ c.find.result
    c.find.ensures.ran (YieldsList-from_slice rs cc) (λ x b q k. search (rules, tests)))
    ∙ found_pin n rs

pub returns-in-None : goal.returns-in-None
returns-in-None c =
    let n = c.args.name.now in
    let rs = c.args.readers.now in
    ap pin_in (ap (option_map _) (sym c.in-None.is)
    ∙ find_from_yields_List (λ (r : Reader). same_text n (string_bytes r.name)) c.find.new.self _ c.find.result
    c.find.ensures.ran (YieldsList-from_slice rs cc) (λ x b q k. search (rules, tests)))
    ∙ found_pin n rs

use Rattle.std.proofs.Common.{◌≡◌, sym, refl, length, Some}
use Rattle.std.specs.Prelude.{slice_get}
use Rattle.std.proofs.lemmas.Option.{slice_get_read}
use borrow.Author.Tests.{ltb-true}
use Rattle.tql_catalog.specs.Definitions.{key_of}
use Rattle.tql_key_failures.proofs.Parts.{named_at}
use Rattle.tql_key_failures.proofs.failures.key_at.Goals as goal

pub returns : goal.returns
returns c =
    let items = c.keys.result.now in
    let n = c.args.number in
    let x = c.in_ok-key.key.now in
    let k = c.in_ok-key.ensures.lookup in
    let there : slice_get items n ≡ Some x = slice_get_read items (length items) n x refl
    (ltb-true n (length items) (sym k.0)) k.1 in
    sym (named_at key_of c.args.definition.now.keys items c.keys.ensures.keys n x there)

use Rattle.std.proofs.lemmas.Option.{slice_get_read}
use borrow.Author.Tests.{ltb-true}
use Rattle.std.proofs.Common.{◌<◌, ◌≡◌, Some, length, refl, sym}
use Rattle.std.specs.Prelude.{slice_get}
use Rattle.tql_catalog.specs.Defined.{is_key}
use Rattle.tql_catalog.specs.Definitions.{key_of}
use Rattle.tql_key_failures.proofs.Parts.{part_at}
use Rattle.tql_key_failures.proofs.failures.failed_at.Goals as goal

pub key_after-requires-clause-columns : goal.key_after-requires-clause-columns
key_after-requires-clause-columns g c =
    let d = c.args.table.now.definition in
    let items = c.keys.result.now in
    let n = c.args.number in
    let x = c.in-Some.key.now in
    let k = c.in-Some.ensures.lookup in
    let inside : n < length items = ltb-true n (length items) (sym k.0) in
    let there : slice_get items n ≡ Some x = slice_get_read items (length items) n x refl inside k.1 in
    part_at key_of (is_key d) d.keys items c.keys.ensures.keys n x there c.keys.ensures.right.keys

pub failed_row-requires-clause-columns : goal.failed_row-requires-clause-columns
failed_row-requires-clause-columns g c =
    let d = c.args.table.now.definition in
    let items = c.keys.result.now in
    let n = c.args.number in
    let x = c.in-Some.key.now in
    let k = c.in-Some.ensures.lookup in
    let inside : n < length items = ltb-true n (length items) (sym k.0) in
    let there : slice_get items n ≡ Some x = slice_get_read items (length items) n x refl inside k.1 in
    part_at key_of (is_key d) d.keys items c.keys.ensures.keys n x there c.keys.ensures.right.keys

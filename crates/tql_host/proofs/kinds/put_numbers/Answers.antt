use Rattle.std.proofs.Common.{◌≡◌, ℕ, ◌<◌, length, set, sym, ap, ◌∙◌, arith}
use Rattle.std.proofs.lemmas.List.{get_or-map, length-map}
use Rattle.tql_value.specs.Views.{plain_kind}
use Rattle.tql_value.specs.declared.value.Kind.{Kind}
use Rattle.tql_host_cells.specs.Cells.{number_of_kind}
use Rattle.tql_host.specs.Kinds.{kind_bytes}
use Rattle.tql_host.proofs.Filling.{fills}
use Rattle.tql_host.proofs.kinds.put_numbers.Goals as goal

pub loop-index-preserved : goal.loop-index-preserved
loop-index-preserved c =
    let f : Kind → ℕ = λ k. number_of_kind (plain_kind k) in
    let kinds = c.args.kinds.now in let room = c.args.room.now in let i = c.loop-index.index in
    let below = c.loop-index-test.true in let count = c.min-count.ensures in
    let same : length (kind_bytes kinds) ≡ length kinds = length-map kinds f in
    let inside : i < length kinds = omega arith in
    ap (λ r. set r i c.kind_number.result) c.loop-index.invariant
    ∙ fills (kind_bytes kinds) room i c.kind_number.result (omega arith) (omega arith)
    (c.kind_number.ensures ∙ sym (get_or-map f kinds i _ 0 inside))

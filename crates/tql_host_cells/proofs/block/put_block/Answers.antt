use Rattle.std.proofs.Common.{◌≡◌, ◌+◌, ◌++◌, length, drop, ◌∙◌, ap, arith, length-append}
use Rattle.tql_value.specs.Views.{rows_of}
use Rattle.tql_host_cells.specs.Block.{block, column_of, kinds, numbers, texts}
use Rattle.tql_host_cells.proofs.Blocks.{chosen, over_three}
use Rattle.tql_host_cells.proofs.Most.{most_known}
use Rattle.tql_host_cells.proofs.block.put_block.Goals as goal

pub returns-then-needed-room-clause-put : goal.returns-then-needed-room-clause-put
returns-then-needed-room-clause-put c =
    let cells = column_of c.args.column (rows_of c.args.rows.now) in
    let a = numbers 0 cells in let b = kinds cells in let d = texts cells in
    let whole : length (block cells) ≡ length a + (length b + length d) =
    length-append a (b ++ d) ∙ ap (λ n. length a + n) (length-append b d) in
    let is : c.in-Some.needed ≡ length (block cells) = most_known _ _ c.in-Some.ensures in
    let room = c.if-needed-room.true in
    over_three a b d c.args.room.now c.put_numbers-kinds.new.room c.put_kinds-texts.new.room c.put_texts.new.room
    c.put_numbers-kinds.result c.put_kinds-texts.result c.put_numbers-kinds.ensures.put c.put_numbers-kinds.ensures.end
    c.put_kinds-texts.ensures.put c.put_kinds-texts.ensures.end c.put_texts.ensures (omega arith)
    ∙ chosen (length (block cells)) (length c.args.room.now)
    (block cells ++ drop (length (block cells)) c.args.room.now) c.args.room.now (omega arith)

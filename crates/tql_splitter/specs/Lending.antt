-- The state of a splitter when the borrow of the returned piece has ended.
use Rattle.std.specs.Prelude.{Option}
use Rattle.std.specs.Borrow.{Fml, MutBor}
use Rattle.std.specs.Io.BufRead.{Rests}
use Rattle.tql_splitter.specs.Stream.{Stream}
use Rattle.tql_splitter.specs.Pieces.{Gives}
use Rattle.tql_splitter.specs.declared.piece.Piece.{Piece}
use Rattle.tql_splitter.specs.contracts.splitter.Splitter.{the_row}

abbrev pub EndsAs : MutBor Stream → Option Piece → Fml
EndsAs s result = Rests the_row s (Gives s.now result)

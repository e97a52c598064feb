-- The numbers of requests.
use Rattle.std.specs.Prelude.{ℕ, ◌&&◌, Option, Some, None, nat_le, if◌then◌else◌}
use Rattle.tql_host_cells.specs.declared.requests.Asked.{Asked}
use Rattle.tql_host_cells.specs.declared.requests.Asked.TheVariants as asked

-- the number of a request
abbrev pub number_of : Asked → ℕ
number_of asked.Step = 1
number_of asked.Feed = 2
number_of asked.Next = 3
number_of asked.Finish = 4
number_of asked.Heading = 5
number_of asked.Row = 6
number_of asked.Cell = 7
number_of asked.Block = 8
number_of asked.Skip = 9
number_of asked.Verb = 10
number_of asked.Words = 11
number_of asked.Hint = 12
number_of asked.Constraint = 13
number_of asked.FaultColumn = 14
number_of asked.Place = 15
number_of asked.Kinds = 16
number_of asked.Json = 17
number_of asked.Forget = 18
number_of asked.Open = 19
number_of asked.Close = 20
number_of asked.InUse = 21
number_of asked.StepWith = 22
number_of asked.Places = 23

-- the numbers that ask for something
abbrev pub asked_by : ℕ → Option ℕ
asked_by n = if (nat_le 1 n && nat_le n 23) then Some n else None

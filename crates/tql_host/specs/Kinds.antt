-- What a host is told of the kinds of a query's columns.
use Rattle.std.specs.Prelude.{ℕ, List, ◌++◌, length, map, take, drop, pos, negsuc, Option, Some, None, Result, Ok, Err}
use Rattle.std.specs.Prelude.{Vec}
use Rattle.tql_spec.specs.Text.{number}
use Rattle.tql_value.specs.Refusals.{refusal_of}
use Rattle.tql_value.specs.Views.{plain_kind}
use Rattle.tql_value.specs.declared.refusal.Refusal.{Refusal}
use Rattle.tql_value.specs.declared.value.Kind.{Kind}
use Rattle.tql_host_cells.specs.declared.requests.Told.{Told}
use Rattle.tql_host_cells.specs.Texts.{signed, copied}
use Rattle.tql_host_cells.specs.Cells.{number_of_kind}

-- the numbers of kinds
abbrev pub kind_bytes : List Kind → List ℕ
kind_bytes kinds = map (λ k. number_of_kind (plain_kind k)) kinds

-- how many kinds there are, -1 for no query, or the refusal
abbrev pub told_kinds : {A : Type 0} → Result (Option (Vec Kind A)) Refusal → Told
told_kinds (Ok (Some kinds)) = record { kind = 1; code = 0; number = signed (length kinds.items); length = 0 }
told_kinds (Ok None) = record { kind = 1; code = 0; number = negsuc 0; length = 0 }
told_kinds (Err e) = record { kind = 3; code = number (refusal_of e); number = pos 0; length = 0 }

-- the room with as many of the numbers at its front as it has place for
abbrev pub put_kinds : {A : Type 0} → Result (Option (Vec Kind A)) Refusal → List ℕ → List ℕ
put_kinds (Ok (Some kinds)) room = copied (kind_bytes kinds.items) 0 room
put_kinds (Ok None) room = room
put_kinds (Err e) room = room

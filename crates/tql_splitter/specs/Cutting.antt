-- Where a script is cut into pieces.
use Rattle.std.specs.Prelude.{ℕ, ◌==◌, ◌&&◌, Bool, true, false, suc, List, [], ◌∷◌, Option, Some, None, if◌then◌else◌}
use Rattle.tql_spec.specs.Script as script
use Rattle.tql_spec.specs.Script.{state_after, can_end}
use Rattle.tql_splitter.specs.declared.scan_state.ScanState as code
use Rattle.tql_splitter.specs.declared.scan_state.ScanState.TheVariants as c

-- the state that a value of the code represents
abbrev pub state_of : code.ScanState → script.ScanState
state_of c.Outside = script.Outside
state_of c.AfterDash = script.AfterDash
state_of c.InText = script.InText
state_of c.InName = script.InName
state_of c.InComment = script.InComment

-- whether a state is inside a comment
abbrev pub is_comment : script.ScanState → Bool
is_comment script.Outside = false
is_comment script.AfterDash = false
is_comment script.InText = false
is_comment script.InName = false
is_comment script.InComment = true

-- the state after these bytes
abbrev pub state_behind : script.ScanState → List ℕ → script.ScanState
state_behind p [] = p
state_behind p (b ∷ bs) = state_behind (state_after p b) bs

abbrev pub one_more : Option ℕ → Option ℕ
one_more None = None
one_more (Some n) = Some (suc n)

-- the number of bytes before the first `;` that ends a piece
abbrev pub end_from : script.ScanState → List ℕ → Option ℕ
end_from p [] = None
end_from p (b ∷ bs) = if (b == 59) && can_end p then Some 0 else one_more (end_from (state_after p b) bs)

abbrev pub finished_piece : List ℕ → script.Piece
finished_piece text = record { text = text; finished = true }

abbrev pub unfinished_piece : List ℕ → script.Piece
unfinished_piece text = record { text = text; finished = false }

-- The places of values in a text, and the text in which their literals are.
use Rattle.std.specs.Prelude.{◌≡◌, ℕ, suc, ◌==◌, ◌&&◌, Bool, List, [], ◌∷◌, ◌++◌, length, if◌then◌else◌}
use Rattle.std.specs.Prelude.{Option, Some, None, Result, Ok, Err, Vec}
use Rattle.tql_spec.specs.Script.{ScanState, Outside, state_after, can_end}
use Rattle.tql_spec.specs.Datum.{Datum}
use Rattle.tql_literal.specs.Literals.{literal_text}
use Rattle.tql_splitter.specs.Cutting.{one_more}
use Rattle.tql_places.specs.declared.places.Unfilled.{Unfilled}
use Rattle.tql_places.specs.declared.places.Unfilled.TheVariants.{OutOfMemory, WrongNumber, NoValues}

-- whether a byte is the place of a value: a `?` outside quotes and comments
abbrev pub is_place : ScanState → ℕ → Bool
is_place p b = (b == 63) && can_end p

-- the number of places
abbrev pub places_from : ScanState → List ℕ → ℕ
places_from p [] = 0
places_from p (b ∷ bs) =
    let rest = places_from (state_after p b) bs in
    if is_place p b then suc rest else rest

-- the number of places in a text
abbrev pub places : List ℕ → ℕ
places text = places_from Outside text

-- a literal between blanks
abbrev pub spaced : Datum → List ℕ
spaced v = 32 ∷ literal_text v ++ 32 ∷ []

-- the bytes with the literals of the values in the first places
abbrev pub filled_from : ScanState → List ℕ → List Datum → List ℕ
filled_from p [] vs = []
filled_from p (b ∷ bs) [] = b ∷ bs
filled_from p (b ∷ bs) (v ∷ vs) =
    if is_place p b then spaced v ++ filled_from (state_after p b) bs vs
    else b ∷ filled_from (state_after p b) bs (v ∷ vs)

-- the text with the literal of the n-th value in its n-th place
abbrev pub filled : List ℕ → List Datum → List ℕ
filled text values = filled_from Outside text values

-- the text is filled if there are as many values as places, and there is memory
abbrev pub Fills : {A : Type 0} → List ℕ → List Datum → Result (Vec ℕ A) Unfilled → Type 0
Fills text values (Ok bytes) = (length values ≡ places text) × (bytes.items ≡ filled text values)
Fills text values (Err OutOfMemory) = length values ≡ places text
Fills text values (Err WrongNumber) = length values ≡ places text → ⊥
Fills text values (Err NoValues) = ⊥

-- ---- how it is made

-- the number of bytes before the first place
abbrev pub first_from : ScanState → List ℕ → Option ℕ
first_from p [] = None
first_from p (b ∷ bs) = if is_place p b then Some 0 else one_more (first_from (state_after p b) bs)

-- the text up to its first place and a literal there are appended; the rest is filled next, whatever its values are
abbrev pub GoesOn : (text : List ℕ) → Datum → (old new rest : List ℕ) → Type 0
GoesOn text v old new rest = (vs : List Datum) → old ++ filled text (v ∷ vs) ≡ new ++ filled rest vs

-- How the pending text is kept, byte by byte.
use Rattle.std.specs.Prelude.{◌≡◌, ◌≤◌, ◌<◌, ◌||◌, ◌==◌, ℕ, Bool, List, [], ◌∷◌, ◌++◌, length, MatchBool}
use Rattle.tql_spec.specs.Script.{is_blank}
use Rattle.tql_splitter.specs.Stream.{Kept, Nothing, Dash, Whole, Overlong, Lost}
use Rattle.tql_splitter.specs.declared.pending.Holding as code
use Rattle.tql_splitter.specs.declared.pending.Holding.TheVariants as c

-- the maximum length of a text that is returned
abbrev pub longest : ℕ
longest = 1_048_576

-- the number of bytes that a splitter allocates for a text up front; a text that fits needs no further allocation
abbrev pub room : ℕ
room = 65_536

-- the kept text that the code's values represent
abbrev pub kept_of : code.Holding → List ℕ → Kept
kept_of c.Nothing bytes = Nothing
kept_of c.Dash bytes = Dash
kept_of c.Whole bytes = Whole bytes
kept_of c.Overlong bytes = Overlong
kept_of c.Lost bytes = Lost

-- the invariant of the code: no bytes before a text is kept, and at most `longest` bytes of a whole text
abbrev pub IsPending : code.Holding → List ℕ → Type 0
IsPending c.Nothing bytes = bytes ≡ []
IsPending c.Dash bytes = bytes ≡ []
IsPending c.Whole bytes = length bytes ≤ longest
IsPending c.Overlong bytes = Unit {0}
IsPending c.Lost bytes = Unit {0}

-- the text is kept whole, or it is too long, or an allocation for it failed, which can happen only beyond its room
abbrev pub Keeps : List ℕ → Kept → Type 0
Keeps text Nothing = ⊥
Keeps text Dash = ⊥
Keeps text (Whole t) = (t ≡ text) × (length text ≤ longest)
Keeps text Overlong = longest < length text
Keeps text Lost = room < length text

-- a byte is appended to the kept text
abbrev pub Puts : ℕ → (old new : Kept) → Type 0
Puts b Nothing new = Keeps (b ∷ []) new
Puts b Dash new = Keeps (b ∷ []) new
Puts b (Whole t) new = Keeps (t ++ b ∷ []) new
Puts b Overlong new = new ≡ Overlong
Puts b Lost new = new ≡ Lost

-- bytes are appended to a text that has begun; where none has begun, nothing changes
abbrev pub PutsAll : List ℕ → (old new : Kept) → Type 0
PutsAll bytes Nothing new = new ≡ Nothing
PutsAll bytes Dash new = new ≡ Dash
PutsAll bytes (Whole t) new = Keeps (t ++ bytes) new
PutsAll bytes Overlong new = new ≡ Overlong
PutsAll bytes Lost new = new ≡ Lost

-- a byte is scanned: blanks and comments before the text are skipped, and two `-` there begin a comment
abbrev pub Looks : (in_comment : Bool) → ℕ → (old new : Kept) → Type 0
Looks in_comment b Nothing new =
    MatchBool (in_comment || is_blank b) (new ≡ Nothing) (MatchBool (b == 45) (new ≡ Dash) (Keeps (b ∷ []) new))
Looks in_comment b Dash new = MatchBool (b == 45) (new ≡ Nothing) (Keeps (45 ∷ b ∷ []) new)
Looks in_comment b (Whole t) new = Keeps (t ++ b ∷ []) new
Looks in_comment b Overlong new = new ≡ Overlong
Looks in_comment b Lost new = new ≡ Lost

-- the text ends: a `-` alone is a text
abbrev pub Ends : (old new : Kept) → Type 0
Ends Nothing new = new ≡ Nothing
Ends Dash new = Keeps (45 ∷ []) new
Ends (Whole t) new = new ≡ Whole t
Ends Overlong new = new ≡ Overlong
Ends Lost new = new ≡ Lost

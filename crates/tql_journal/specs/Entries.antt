-- Statements are added to what was found.
use Rattle.std.specs.Prelude.{◌≡◌, ◌≤◌, ◌⊎◌, ◌+◌, ℕ, Bool, List, ◌++◌, length, Some, IsTrue, MatchBool}
use Rattle.tql_journal.specs.Fronts.{HasNone, HasNoneEver, BeginsOne}
use Rattle.tql_journal.specs.Windows.{Seen}
use Rattle.tql_journal.specs.Reading.{IsOf, line_feeds}
use Rattle.tql_journal.specs.declared.front.Entry.{Entry}
use Rattle.tql_journal.specs.declared.found.Found.{Found}

-- a statement with its line was added to what was found, but for the seal
pub record Adds (sought text : List ℕ) (e : Entry) (old new : Found) : Type 0 where
  pub seal : new.seal ≡ old.seal
  pub end : new.end ≡ old.end + e.count
  pub statements : new.statements ≡ old.statements + 1
  pub lines : new.lines ≡ old.lines + (line_feeds text + 2)
  pub last : new.last ≡ Some e.digits
  pub has_line : IsTrue new.has_line → IsTrue old.has_line ⊎ (e.digits ≡ sought)
  pub still : IsTrue old.has_line → IsTrue new.has_line
  pub this : e.digits ≡ sought → IsTrue new.has_line

-- the bytes are a beginning of a statement with its line; or none, whatever may follow
abbrev pub MayFollow : (before bytes : List ℕ) → Bool → Type 0
MayFollow before bytes is_torn =
    MatchBool is_torn (HasNone before bytes × BeginsOne before bytes) (HasNoneEver before bytes)

-- All statements with their lines at the front of a window were added to what was found.
pub record TakesAll (sought : List ℕ) (window window' : Seen) (old new : Found) (is_torn : Bool) : Type 0 where
  pub taken : List ℕ
  pub bytes : window.bytes ≡ taken ++ window'.bytes
  pub total : window'.total ≡ window.total
  pub end : new.end ≡ old.end + length taken
  pub statements : new.statements ≤ new.end
  pub lines : new.lines ≤ new.end
  pub is : (front : List ℕ) → IsOf sought front old → IsOf sought (front ++ taken) new
      × MayFollow (front ++ taken) window'.bytes is_torn

-- What is found in a file that is read as a journal.
use Rattle.std.specs.Prelude.{◌≡◌, ◌<◌, ◌⊎◌, ◌==◌, ◌&&◌, ◌||◌, ℕ, Bool, true, false, List, [], ◌∷◌, ◌++◌, length}
use Rattle.std.specs.Prelude.{slice_index, count_by, nat_lt, Option, Some, None, IsTrue, IsFalse}
use Rattle.std.specs.List.{prefix_len}
use Rattle.std.specs.Io.KnownBytes.{Consumes, IsAtEnd}
use Rattle.tql_spec.specs.Bag.{In}
use Rattle.tql_journal_laws.specs.Bytes.{Begins, IsJournal, IsLongestJournal, with_text, with_statement}
use Rattle.tql_journal.specs.Seals.{head, hash_words, HoldsBytes}
use Rattle.tql_journal.specs.declared.found.Found.{Found}
use Rattle.tql_journal.specs.declared.found.Rest as rest
use Rattle.tql_journal.specs.declared.found.Rest.TheVariants as r

-- ---- the journal

-- the digits of the lines of these statements, oldest first
abbrev pub digits_of : (start : List ℕ) → List (List ℕ) → List (List ℕ)
digits_of start [] = []
digits_of start (t ∷ ts) = hash_words (with_text start t) ∷ digits_of (with_statement hash_words start t) ts

-- the last of a list
abbrev pub last_of : List (List ℕ) → Option (List ℕ)
last_of [] = None
last_of (x ∷ []) = Some x
last_of (x ∷ y ∷ ys) = last_of (y ∷ ys)

-- the number of line feeds
abbrev pub line_feeds : List ℕ → ℕ
line_feeds bytes = count_by (λ b. b == 10) bytes

-- these bytes are the journal of these texts, of which this is found
pub record Counts (sought front : List ℕ) (texts : List (List ℕ)) (found : Found) : Type 0 where
  pub journal : IsJournal hash_words head front texts
  pub end : found.end ≡ length front
  pub statements : found.statements ≡ length texts
  pub lines : found.lines ≡ line_feeds front
  pub last : found.last ≡ last_of (digits_of head texts)
  pub there : IsTrue found.has_line → In sought (digits_of head texts)
  pub all : In sought (digits_of head texts) → IsTrue found.has_line

-- these bytes are a journal, of which this is found
pub record IsOf (sought front : List ℕ) (found : Found) : Type 0 where
  pub texts : List (List ℕ)
  pub counts : Counts sought front texts found
  pub seal : HoldsBytes found.seal front

-- ---- what follows it

-- whether a byte is a hexadecimal digit of a line
abbrev pub is_digit : ℕ → Bool
is_digit b = (nat_lt 47 b && nat_lt b 58) || (nat_lt 96 b && nat_lt b 103)

-- whether the bytes begin with 64 digits and a line feed
abbrev pub is_line : List ℕ → Bool
is_line bytes = (prefix_len is_digit bytes == 64) && nat_lt 64 (length bytes) && (slice_index bytes 64 == 10)

-- whether the bytes begin with a line feed and a line like that of a statement
abbrev pub begins_line : List ℕ → Bool
begins_line (a ∷ b ∷ c ∷ d ∷ bytes) = (a == 10) && (b == 45) && (c == 45) && (d == 32) && is_line bytes
begins_line bytes = false

-- whether a line like that of a statement is among these bytes, after a line feed
abbrev pub has_line : List ℕ → Bool
has_line [] = false
has_line (b ∷ bs) = begins_line (b ∷ bs) || has_line bs

-- the bytes are a beginning of a journal
pub record IsBeginning (bytes : List ℕ) : Type 0 where
  pub whole : List ℕ
  pub texts : List (List ℕ)
  pub journal : IsJournal hash_words head whole texts
  pub begins : Begins bytes whole

-- the bytes are no beginning of a journal
abbrev pub IsNoBeginning : List ℕ → Type 0
IsNoBeginning bytes = (whole : List ℕ) (texts : List (List ℕ)) → IsJournal hash_words head whole texts
    → Begins bytes whole → ⊥

-- what follows the journal: nothing; or what a crash leaves of a statement; or what shows a change
abbrev pub IsRest : (file tail : List ℕ) → rest.Rest → Type 0
IsRest file tail r.Nothing = tail ≡ []
IsRest file tail r.Torn = (0 < length tail) × IsFalse (has_line tail) × IsBeginning file
IsRest file tail r.Damaged = IsNoBeginning file ⊎ IsTrue (has_line tail)

-- what is told of the bytes that follow the journal at the end of a file, if they are a beginning of a statement
abbrev pub IsRestOf : (tail : List ℕ) → rest.Rest → Type 0
IsRestOf tail r.Nothing = length tail ≡ 0
IsRestOf tail r.Torn = (0 < length tail) × IsFalse (has_line tail)
IsRestOf tail r.Damaged = IsTrue (has_line tail)

-- what is told of a file that begins with these bytes and not with the first line
abbrev pub IsHeadRest : (bytes : List ℕ) → rest.Rest → Type 0
IsHeadRest bytes r.Nothing = length bytes ≡ 0
IsHeadRest bytes r.Torn = (0 < length bytes) × Begins bytes head
IsHeadRest bytes r.Damaged = Begins bytes head → ⊥

-- ---- the file

-- the longest journal that the file begins with is found
pub record IsJournalFound (sought file front : List ℕ) (found : Found) : Type 0 where
  pub is : IsOf sought front found
  pub longest : IsLongestJournal hash_words head file front is.texts

-- the file begins with no journal
pub record IsNoneFound (file front : List ℕ) (found : Found) : Type 0 where
  pub empty : front ≡ []
  pub none : (longer : List ℕ) (texts : List (List ℕ)) → IsJournal hash_words head longer texts → Begins longer file → ⊥
  pub seal : HoldsBytes found.seal head
  pub end : found.end ≡ 0
  pub statements : found.statements ≡ 0
  pub lines : found.lines ≡ 0
  pub last : found.last ≡ None
  pub has_line : IsFalse found.has_line

-- the longest journal that the file begins with, if any, and what follows it
pub record IsFound (sought file : List ℕ) (found : Found) : Type 0 where
  pub front : List ℕ
  pub tail : List ℕ
  pub parts : file ≡ front ++ tail
  pub journal : IsJournalFound sought file front found ⊎ IsNoneFound file front found
  pub rest : IsRest file tail found.rest

-- whether something was changed
abbrev pub is_damaged : rest.Rest → Bool
is_damaged r.Nothing = false
is_damaged r.Torn = false
is_damaged r.Damaged = true

-- This is found in a file of which these are the first bytes, and maybe all, without a first line.
pub record IsHeadless (sought bytes : List ℕ) (found : Found) : Type 0 where
  pub whole : IsFalse (is_damaged found.rest) → IsFound sought bytes found
  pub damaged : IsTrue (is_damaged found.rest) → (more : List ℕ) → IsFound sought (bytes ++ more) found

-- The reader gave bytes, to the end of the file unless it is damaged, and this is found in the file, whatever follows
-- those bytes.
pub record IsReadOf (before now : Option (List ℕ)) (sought : List ℕ) (found : Found) : Type 0 where
  pub bytes : List ℕ
  pub given : Consumes before now bytes
  pub size : found.size ≡ length bytes
  pub is_ended : Bool
  pub whole : IsFalse (is_damaged found.rest) → IsTrue is_ended
  pub ended : IsTrue is_ended → IsAtEnd now
  pub is : (more : List ℕ) → (IsTrue is_ended → more ≡ []) → IsFound sought (bytes ++ more) found

-- The model of a tree of entries, and the invariant of each branch.
use Rattle.std.specs.Prelude.{◌≡◌, ℕ, ◌+◌, ◌*◌, ◌^◌, ◌<◌, ◌≤◌, max, Bool, true, false, List, [], ◌∷◌, ◌++◌, length}
use Rattle.std.specs.Prelude.{count_by, take, drop, ℤ, int_lt, not}
use Rattle.std.specs.Int.{int_max}
use Rattle.std.specs.declared.cmp.Ordering.{Ordering}
use Rattle.std.specs.declared.cmp.Ordering.TheVariants.{Less, Equal, Greater}
use Rattle.std.specs.Ordering.{nat_cmp, int_cmp, is_lt, ordering_then}
use Rattle.tql_index.specs.Entry.{Entry}
use Rattle.tql_index.specs.Line.{first_place}

-- the entries in order, and the number of branches on the longest path down
pub record Contents : Type 0 where
  pub entries : List Entry
  pub height : ℕ

-- the order of entries: by start, then end, then number
abbrev pub entry_cmp : Entry → Entry → Ordering
entry_cmp a b = ordering_then (int_cmp a.period.start b.period.start)
    (ordering_then (int_cmp a.period.end b.period.end) (nat_cmp a.id b.id))

-- whether the first entry is before the second
abbrev pub is_before : Entry → Entry → Bool
is_before a b = is_lt (entry_cmp a b)

-- the number of entries of the list that are before e
abbrev pub before : Entry → List Entry → ℕ
before e es = count_by (λ x. is_before x e) es

-- the number of entries of the list that are after e
abbrev pub after : Entry → List Entry → ℕ
after e es = count_by (λ x. is_before e x) es

-- the number of pairs of entries of which the later one in the list is before the earlier one
abbrev pub inversions : List Entry → ℕ
inversions [] = 0
inversions (e ∷ es) = before e es + inversions es

-- the entries are in order
abbrev pub IsInOrder : List Entry → Type 0
IsInOrder es = inversions es ≡ 0

-- the first k entries of the list are before e, and the others are not
pub record IsPlace (e : Entry) (es : List Entry) (k : ℕ) : Type 0 where
  pub within : k ≤ length es
  pub all_before : before e (take k es) ≡ k
  pub none_before : before e (drop k es) ≡ 0

-- how an entry compares with a run: it is before all entries of the run, after all of them, or neither
abbrev pub IsSide : Ordering → Entry → List Entry → Type 0
IsSide Less e run = after e run ≡ length run
IsSide Equal e run = (after e run < length run) × (before e run < length run)
IsSide Greater e run = before e run ≡ length run

-- the side on which an entry has room: left of a run, in it, or right of it
abbrev pub HasRoom : Ordering → Entry → List Entry → List Entry → List Entry → Type 0
HasRoom Less e left run right = before e (run ++ right) ≡ 0
HasRoom Equal e left run right = (after e left ≡ 0) × (before e right ≡ 0)
HasRoom Greater e left run right = after e (left ++ run) ≡ 0

-- the greatest end, or the first place of the line if there are no entries
abbrev pub greatest_end : List Entry → ℤ
greatest_end [] = first_place
greatest_end (e ∷ es) = int_max e.period.end (greatest_end es)

-- g is the greatest end from before the removal of an entry that ends at `end`, if one was removed
abbrev pub WasGreatest : Bool → ℤ → ℤ → List Entry → Type 0
WasGreatest true end g es = g ≡ int_max end (greatest_end es)
WasGreatest false end g es = g ≡ greatest_end es

-- g is the greatest end from before the addition of entries with the greatest end `end`, if they were added
abbrev pub WillBeGreatest : Bool → ℤ → ℤ → List Entry → Type 0
WillBeGreatest true end g es = int_max g end ≡ greatest_end es
WillBeGreatest false end g es = g ≡ greatest_end es

-- some entry starts at the place or after it
abbrev pub StartsLate : ℤ → List Entry → Type 0
StartsLate place es = 0 < count_by (λ e. not (int_lt e.period.start place)) es

-- the two heights differ by at most this number
abbrev pub DifferByAtMost : ℕ → ℕ → ℕ → Type 0
DifferByAtMost by l r = (l ≤ r + by) × (r ≤ l + by)

-- the depth is at most twice the number of binary digits of the count; k digits suffice for a count below 2 ^ k
abbrev pub IsShallow : ℕ → ℕ → Type 0
IsShallow depth count = (k : ℕ) → count < 2 ^ k → depth ≤ 2 * k

-- the invariant of a run: its entries are in order, at most 32, and end by g at the latest
pub record IsRun (es : List Entry) (g : ℤ) : Type 0 where
  pub in_order : IsInOrder es
  pub few : length es ≤ 32
  pub greatest_is : g ≡ greatest_end es

-- the invariant of a branch: it has a run of entries, all entries are in order, its sides differ in height by at most
-- one, and its height and greatest end are right
pub record IsBranch (l : Contents) (run : List Entry) (height : ℕ) (greatest : ℤ) (r : Contents) : Type 0 where
  pub some : 0 < length run
  pub in_order : IsInOrder (l.entries ++ (run ++ r.entries))
  pub balanced : DifferByAtMost 1 l.height r.height
  pub height_is : height ≡ max l.height r.height + 1
  pub greatest_is : greatest ≡ greatest_end (l.entries ++ (run ++ r.entries))
  pub shallow : IsShallow height (length (l.entries ++ (run ++ r.entries)))
  pub deep : length (l.entries ++ (run ++ r.entries)) + 32 ≤ 32 * 2 ^ height

-- a height h that balancing may give to a run between sides of the heights l and r
abbrev pub IsHeightAfterBalance : ℕ → ℕ → ℕ → Type 0
IsHeightAfterBalance l r h = (max l r ≤ h) × (h ≤ max l r + 1) × (DifferByAtMost 1 l r → h ≡ max l r + 1)

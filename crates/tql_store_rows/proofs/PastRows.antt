-- Rows of closed versions in the indexes by value and period, followed by rows that the open transaction ended.
use Rattle.std.proofs.Common.{◌≡◌, ℕ, zero, suc, ◌+◌, ◌<◌, ◌≤◌, Bool, true, false, List, [], ◌∷◌, ◌++◌, map, get_or}
use Rattle.std.proofs.Common.{length, length-append, append-nil, append_assoc, refl, sym, ap, subst, ◌∙◌, arith}
use Rattle.std.proofs.Common.{inl, inr, take}
use Rattle.std.specs.Prelude.{◌⊎◌, All, Contains, ℤ, Option, Some, None, max, nat_lt, not, if◌then◌else◌}
use Rattle.std.proofs.lemmas.List.{map-append, length-map, get_or_append_left, get_or-map}
use Rattle.std.proofs.lemmas.List.Elements.{All-append, All-filter, All-nil, Contains-get_or, filter_passes}
use Rattle.std.proofs.lemmas.Bool.Decides.{nat_tests}
use Rattle.tql_spec.specs.Datum.{Row}
use Rattle.tql_spec.specs.Definition.{Version}
use Rattle.tql_spec.specs.Period.{Period}
use Rattle.tql_store_index.specs.Basis.{Filed, filed, stands_by}
use Rattle.tql_store_index.specs.Seating.{Seating, AreGrown}
use Rattle.tql_store_index.specs.ValueIndexes.{ValueIndex, index_at, Each, AreLoose, IsGrown, IsTurned}
use Rattle.tql_standing.proofs.Counting.{times}
use Rattle.tql_store_rows.proofs.Heaping.{none_in_heap}
use Rattle.tql_store_rows.proofs.Numbering.{taken-is}
use Rattle.tql_standing.proofs.RowsStanding.{standing_back, standing_less, standing_longer}
use Rattle.tql_standing.proofs.RowsStanding.{standing_more, standing_nil, standing_none}
use Rattle.tql_store_rows.proofs.Turns.{at-closing, length-closing}
use Rattle.tql_versions.specs.Changes.{closing, ended, fresh, nothing, taken}
use Rattle.tql_versions.specs.Heap.{AreInHeap}
use Rattle.tql_versions.specs.Marks.{below, from}
use Rattle.tql_store_rows.proofs.LentRows.{free_stand, listed_front, none_front, shut_front}
use Rattle.tql_store_rows.specs.Loans.{AllStand, AreLent, AreListed, AreShut, IsFront}
use Rattle.tql_store_rows.specs.declared.borrowing.Loan.{Loan}
use Rattle.tql_standing.specs.RowsStanding.{AreStanding, IsComing, IsFilled, Rises, ending, past_of}
use Rattle.tql_standing.specs.RowsStanding.{past_rows, pasts_at, pasts_of, rows_of}
use Rattle.tql_versions.specs.Places.{version_at}
use Rattle.tql_store_rows.specs.TableModel.{TableModel, InTurn}
use Rattle.tql_versions.specs.Views.{version_of, versions_of}
use Rattle.tql_versions.specs.declared.kept.Kept.{Kept}

-- ---- rows at positions

-- the version that the code reads at a position
pub at_read : (ks : List Kept) (i : ℕ) (v : Kept) → i < length ks → v ≡ get_or ks i v
    → version_at (versions_of ks) i ≡ version_of v
at_read ks i v l read = get_or-map version_of ks i v nothing l ∙ ap version_of (sym read)

-- the row that the code reads at the next position, with its period attached
pub place_read : (ks : List Kept) (places : List ℕ) (j : ℕ) (v : Kept) (until : Option ℤ) (x : Period) (none : Filed)
    → j < length places → get_or places j 0 < length ks → v ≡ get_or ks (get_or places j 0) v
    → x ≡ (past_of (ending until (version_of v))).during
    → filed v.row x ≡ get_or (pasts_at until places (versions_of ks)) j none
place_read ks places j v until x none l within read e =
    ap (filed v.row) e ∙ cells until (version_of v)
    ∙ ap (λ (w : Version). past_of (ending until w)) (sym (at_read ks (get_or places j 0) v within read))
    ∙ sym (get_or-map (λ i. past_of (ending until (version_at (versions_of ks) i))) places j 0 none l)
  where
    cells : (m : Option ℤ) (w : Version) → filed w.row.cells (past_of (ending m w)).during ≡ past_of (ending m w)
    cells None w = refl
    cells (Some m) w = refl

-- the version there is non-empty
pub rises_there : (ks : List Kept) (places : List ℕ) (j : ℕ) (v : Kept) (until : Option ℤ) → j < length places
    → get_or places j 0 < length ks → v ≡ get_or ks (get_or places j 0) v
    → All (λ i. Rises (ending until (version_at (versions_of ks) i))) places → Rises (ending until (version_of v))
rises_there ks places j v until l within read early =
    subst (λ (w : Version). Rises (ending until w)) (at_read ks (get_or places j 0) v within read) (early j 0 l)

pub at-length : (until : Option ℤ) (is : List ℕ) (vs : List Version) → length (pasts_at until is vs) ≡ length is
at-length until is vs = length-map is (λ i. past_of (ending until (version_at vs i)))

pub pasts-length : (vs : List Version) → length (pasts_of vs) ≡ length vs
pasts-length vs = length-map vs past_of

-- the same rows, from equal ends and versions
pub same_pasts : (a b : Option ℤ) (is : List ℕ) (vs us : List Version)
    → All (λ i. past_of (ending a (version_at vs i)) ≡ past_of (ending b (version_at us i))) is
    → pasts_at a is vs ≡ pasts_at b is us
same_pasts a b [] vs us h = refl
same_pasts a b (i ∷ is) vs us h =
    ap (λ r. r ∷ pasts_at a is vs) (h 0 i (omega arith))
    ∙ ap (λ rs. past_of (ending b (version_at us i)) ∷ rs)
    (same_pasts a b is vs us (λ k d l. h (suc k) d (omega (arith, l))))

-- without a new end, they are the rows of the versions at these positions
pub pasts_there : (is : List ℕ) (vs : List Version) → pasts_at None is vs ≡ pasts_of (map (version_at vs) is)
pasts_there [] vs = refl
pasts_there (i ∷ is) vs = ap (λ rs. past_of (version_at vs i) ∷ rs) (pasts_there is vs)

-- ---- adding rows

-- after the slots and indexes have grown, the new rows are entered after the others
pub past_entered : (s t : Seating) (old grown new : List ValueIndex) (rows added : List Filed) (n count to : ℕ)
    → length rows ≡ n → length added ≡ count → to ≡ n + count → AreGrown s t
    → length t.seats ≤ max (length s.seats) to → to ≤ length t.seats → Each IsGrown old grown
    → ((i : ℕ) → i < length old → to ≤ length (index_at grown i).standing)
    → Each (IsComing n count added t) grown new → AreStanding s old rows → AreStanding t new (rows ++ added)
past_entered s t old grown new rows added n count to e c f more most room each wide coming h =
    standing_more t grown new rows added n e (omega (arith, c, f, room))
    (subst (λ k. Each (IsComing n k added t) grown new) (sym c) coming)
    (standing_longer s t old grown rows to more most each wide h)

-- after a failure, the new rows are removed again
pub past_refused : (s t : Seating) (old grown now new : List ValueIndex) (rows : List Filed) (n to : ℕ)
    → length rows ≡ n → AreGrown s t → length t.seats ≤ max (length s.seats) to → Each IsGrown old grown
    → ((i : ℕ) → i < length old → to ≤ length (index_at grown i).standing)
    → Each (IsTurned n to t) grown now → Each (IsTurned n to t) now new
    → ((i : ℕ) → i < length now → AreLoose n to t (index_at new i).standing) → AreStanding s old rows
    → AreStanding t new rows
past_refused s t old grown now new rows n to e more most each wide one two gone h =
    standing_back t grown now new rows n to e one two gone (standing_longer s t old grown rows to more most each wide h)

-- ---- removing rows

-- if there is an index, each row has a row slot
pub seat_each : (s : Seating) (indexes : List ValueIndex) (rows : List Filed) → AreStanding s indexes rows
    → 0 < length indexes → length rows ≤ length s.seats
seat_each s indexes rows h l =
    let r = (h.each 0 l).room in omega (arith, r, length-map rows (stands_by (index_at indexes 0).basis))

none_or_some : (n : ℕ) → (n ≡ 0) ⊎ (0 < n)
none_or_some zero = inl refl
none_or_some (suc n) = inr (omega arith)

-- the rows after a position have been removed
pub past_left : (s : Seating) (old new : List ValueIndex) (rows more : List Filed) (from cut : ℕ) → length rows ≡ from
    → (length (rows ++ more) ≤ length s.seats → length (rows ++ more) ≤ cut) → Each (IsTurned from cut s) old new
    → ((i : ℕ) → i < length old → AreLoose from cut s (index_at new i).standing) → AreStanding s old (rows ++ more)
    → AreStanding s new rows
past_left s old new rows more from cut e most turned gone h = elim (none_or_some (length old)) [
  | inl z ↦ standing_nil s new rows (turned.0 ∙ z)
  | inr l ↦ standing_less s old new rows more (rows ++ more) from cut e refl
      (most (seat_each s old (rows ++ more) h l)) turned gone h
]

-- there were no rows after them
pub past_alone : (s : Seating) (indexes : List ValueIndex) (rows more : List Filed) (from : ℕ) → length rows ≡ from
    → (length (rows ++ more) ≤ length s.seats → length (rows ++ more) ≤ from) → AreStanding s indexes (rows ++ more)
    → AreStanding s indexes rows
past_alone s indexes rows more from e most h = elim (none_or_some (length indexes)) [
  | inl z ↦ standing_nil s indexes rows z
  | inr l ↦ subst (AreStanding s indexes)
      (ap (λ rs. rows ++ rs) (no_more more (let m = most (seat_each s indexes (rows ++ more) h l) in
      omega (arith, m, e, length-append rows more))) ∙ append-nil rows) h
]
  where
    no_more : (rs : List Filed) → length rs ≤ 0 → rs ≡ []
    no_more [] l = refl
    no_more (r ∷ rs) l = absurd (omega (arith, l))

-- ---- a change

pub past-length : (keeps : Bool) (current : List Version) (ended : List ℕ) (closed : List Version) → keeps ≡ true
    → length (past_rows keeps current ended closed) ≡ length closed + length ended
past-length true current ended closed e =
    length-append (pasts_of closed) (pasts_at None ended current)
    ∙ ap (λ n. n + length (pasts_at None ended current)) (pasts-length closed)
    ∙ ap (λ n. length closed + n) (at-length None ended current)
past-length false current ended closed e = absurd (cc)

-- the past rows before a change, with those of the versions that it ends, are the past rows after it
past_changed : (keeps : Bool) (m : ℤ) (removed more : List ℕ) (rows : List Row)
    (old new : List Version) (gone : List ℕ) (closed : List Version) → All (λ i. i < length old) gone
    → All (λ i. (version_at old i).end ≡ m) gone → All (λ i. i < length old) more → All (Contains removed) more
    → new ≡ closing m removed old ++ map (fresh m) rows
    → past_rows keeps old gone closed ++ (if keeps then pasts_at (Some m) more old else [])
    ≡ past_rows keeps new (gone ++ more) closed
past_changed true m removed more rows old new gone closed low shut within listed e =
    append_assoc (pasts_of closed) (pasts_at None gone old) (pasts_at (Some m) more old)
    ∙ ap (λ rs. pasts_of closed ++ rs)
    (ap (λ rs. rs ++ pasts_at (Some m) more old) (same_pasts None None gone old new
    (λ k d l. kept (get_or gone k d) (low k d l) (shut k d l)))
    ∙ ap (λ rs. pasts_at None gone new ++ rs) (same_pasts (Some m) None more old new
    (λ k d l. now (get_or more k d) (within k d l) (listed k d l)))
    ∙ sym (map-append (λ i. past_of (version_at new i)) gone more))
  where
    here : (k : ℕ) → k < length old → version_at new k ≡ version_at (closing m removed old) k
    here k l = ap (λ vs. version_at vs k) e
        ∙ get_or_append_left (closing m removed old) (map (fresh m) rows) nothing
        k (let n = length-closing m removed old in omega (arith, n, l))

    kept : (k : ℕ) → k < length old → (version_at old k).end ≡ m
        → past_of (version_at old k) ≡ past_of (version_at new k)
    kept k l z = elim (at-closing m removed old k l) [
      | inl x ↦ ap (λ (y : ℤ). past_of (ended y (version_at old k))) z ∙ ap past_of (sym (here k l ∙ x.0))
      | inr x ↦ ap past_of (sym (here k l ∙ x.0))
    ]

    now : (k : ℕ) → k < length old → Contains removed k
        → past_of (ended m (version_at old k)) ≡ past_of (version_at new k)
    now k l c = elim (at-closing m removed old k l) [
      | inl x ↦ ap past_of (sym (here k l ∙ x.0))
      | inr x ↦ absurd (x.1 c)
    ]
past_changed false m removed more rows old new gone closed low shut within listed e =
    append-nil (pasts_of closed ++ [])

-- ---- the end of a transaction

-- the rows that a commit appends to those of the closed versions were entered before
pub past_kept : (keeps : Bool) (m : ℤ) (current after : List Version) (ended : List ℕ) (closed new : List Version)
    → ((k : ℕ) → times k ended ≤ 1) → new ≡ closed ++ (if keeps then taken m ended current else [])
    → past_rows keeps after [] new ≡ past_rows keeps current ended closed
past_kept true m current after ended closed new once e =
    append-nil (pasts_of new) ∙ ap pasts_of e ∙ map-append past_of closed (taken m ended current)
    ∙ ap (λ rs. pasts_of closed ++ rs) (ap pasts_of (taken-is m ended current current once (λ k d l. refl))
    ∙ sym (pasts_there ended current))
past_kept false m current after ended closed new once e =
    ap (λ vs. pasts_of vs ++ []) (e ∙ append-nil closed)

-- after a rollback the past rows are those of the closed versions
pub past_alone_rows : (keeps : Bool) (current : List Version) (closed : List Version)
    → pasts_of closed ≡ past_rows keeps current [] closed
past_alone_rows true current closed = sym (append-nil (pasts_of closed))
past_alone_rows false current closed = sym (append-nil (pasts_of closed))

past-most : (keeps : Bool) (current : List Version) (ended : List ℕ) (closed : List Version)
    → length (past_rows keeps current ended closed) ≤ length closed + length ended
past-most true current ended closed = let n = past-length true current ended closed refl in omega (arith, n)
past-most false current ended closed =
    omega (arith, length-append (pasts_of closed) [], pasts-length closed)

-- ---- the invariant

count_of : (ks : List Kept) → length (versions_of ks) ≡ length ks
count_of ks = length-map ks version_of

-- no position is recorded as dead
pub none_behind : (base : ℕ) (dead : List ℕ) → dead ≡ [] → All (λ k. base ≤ k) dead
none_behind base dead e = subst (All (λ k. base ≤ k)) (sym e) (All-nil (λ k. base ≤ k))

-- a table without rows
pub none_stand : (keeps : Bool) (s t : Seating) (indexes past : List ValueIndex) (current closed : List Kept)
    (ended : List ℕ) (base : ℕ) (dead : List ℕ) (loans : List Loan) → s ≡ record { seats = []; places = [] }
    → t ≡ record { seats = []; places = [] }
    → All (λ (k : ValueIndex). k.standing ≡ []) indexes → All (λ (k : ValueIndex). k.standing ≡ []) past
    → current ≡ [] → ended ≡ [] → closed ≡ [] → dead ≡ [] → loans ≡ []
    → AllStand keeps s indexes t past (versions_of current) ended (versions_of closed) base dead loans
none_stand keeps s t indexes past current closed ended base dead loans e f all all' none nil gone empty free =
    free_stand keeps s t indexes past (versions_of current) ended (versions_of closed) base dead loans free
    (subst (AreStanding s indexes) (sym (ap (λ ks. rows_of (versions_of ks)) none)) (standing_none s indexes e all))
    (subst (AreStanding t past) (sym (ap (λ is. past_rows keeps (versions_of current) is (versions_of closed)) nil
    ∙ ap (λ ks. past_rows keeps (versions_of current) [] (versions_of ks)) gone
    ∙ sym (past_alone_rows keeps (versions_of current) []))) (standing_none t past f all'))
    (none_behind base dead empty) (none_in_heap (versions_of closed) (ap versions_of gone))

-- the rows that a change ends follow those ended before, in terms of the versions before the change
pub more_stand : (keeps : Bool) (n m : ℤ) (t : Seating) (past : List ValueIndex) (before versions : List Kept)
    (more places ended : List ℕ) (closed later : List Kept) → n ≡ m → versions ≡ before → places ≡ more → later ≡ closed
    → AreStanding t past (past_rows keeps (versions_of before) ended (versions_of closed)
    ++ (if keeps then pasts_at (Some n) places (versions_of versions) else []))
    → AreStanding t past (past_rows keeps (versions_of before) ended (versions_of later)
    ++ (if keeps then pasts_at (Some m) more (versions_of before) else []))
more_stand keeps n m t past before versions more places ended closed later at e f g h =
    subst (AreStanding t past)
    (ap (λ (x : ℤ). past_rows keeps (versions_of before) ended (versions_of closed)
    ++ (if keeps then pasts_at (Some x) places (versions_of versions) else [])) at
    ∙ ap (λ (ks : List Kept). past_rows keeps (versions_of before) ended (versions_of closed)
    ++ (if keeps then pasts_at (Some m) places (versions_of ks) else [])) e
    ∙ ap (λ is. past_rows keeps (versions_of before) ended (versions_of closed)
    ++ (if keeps then pasts_at (Some m) is (versions_of before) else [])) f
    ∙ sym (ap (λ (ks : List Kept). past_rows keeps (versions_of before) ended (versions_of ks)
    ++ (if keeps then pasts_at (Some m) more (versions_of before) else [])) g)) h

-- the same, in terms of the versions after the change
pub change_past : (keeps : Bool) (m : ℤ) (h : TableModel) (t : Seating) (past : List ValueIndex)
    (before : List Kept) (new : List Version) (removed : List ℕ) (base : ℕ) (ended all : List ℕ) (closed : List Version)
    (rows : List Row) → InTurn m h → versions_of before ≡ h.current → ended ≡ h.ended
    → All (λ i. i < length h.current) removed → all ≡ ended ++ below base removed
    → new ≡ closing m removed h.current ++ map (fresh m) rows
    → AreStanding t past (past_rows keeps (versions_of before) ended closed
    ++ (if keeps then pasts_at (Some m) (below base removed) (versions_of before) else []))
    → AreStanding t past (past_rows keeps new all closed)
change_past keeps m h t past before new removed base ended all closed rows turn is e within g made stand =
    subst (AreStanding t past)
    (ap (λ (vs : List Version). past_rows keeps vs ended closed
    ++ (if keeps then pasts_at (Some m) (below base removed) vs else [])) is
    ∙ ap (λ js. past_rows keeps h.current js closed
    ++ (if keeps then pasts_at (Some m) (below base removed) h.current else [])) e
    ∙ past_changed keeps m removed (below base removed) rows h.current new h.ended closed
    (λ k d l. let w = turn.within k d l in let b = turn.based in omega (arith, w, b)) (λ k d l. turn.shut k d l)
    (All-filter (λ i. nat_lt i base) (λ i. i < length h.current) removed within)
    (All-filter (λ i. nat_lt i base) (Contains removed) removed (λ k d l. Contains-get_or removed k d l)) made
    ∙ sym (ap (λ js. past_rows keeps new js closed) (g ∙ ap (λ js. js ++ below base removed) e))) stand

-- the positions that a change records as dead are not below the base
pub change_behind : (base : ℕ) (old removed dead : List ℕ) → dead ≡ old ++ from base removed
    → All (λ k. base ≤ k) old → All (λ k. base ≤ k) dead
change_behind base old removed dead e low = subst (All (λ k. base ≤ k)) (sym e)
    (All-append (λ k. base ≤ k) old (from base removed) low
    (λ k d l. not_low (get_or (from base removed) k d) (filter_passes (λ i. not (nat_lt i base)) removed k d l)))
  where
    not_low : (k : ℕ) → not (nat_lt k base) ≡ true → base ≤ k
    not_low k h = grind (arith, nat_tests)

-- a commit does not move the entries of the versions that it closes
pub commit_past : (keeps : Bool) (m n : ℤ) (h : TableModel) (t : Seating) (past : List ValueIndex)
    (current opened : List Kept) (after : List Version) (ended again none : List ℕ) (closed new : List Kept)
    → InTurn m h → opened ≡ current → ended ≡ h.ended → again ≡ h.ended → none ≡ []
    → versions_of new ≡ versions_of closed ++ (if keeps then taken n again (versions_of opened) else [])
    → AreStanding t past (past_rows keeps (versions_of current) ended (versions_of closed))
    → AreStanding t past (past_rows keeps after none (versions_of new))
commit_past keeps m n h t past current opened after ended again none closed new turn same is is' nil made stand =
    subst (AreStanding t past)
    (sym (ap (λ js. past_rows keeps after js (versions_of new)) nil
    ∙ past_kept keeps n (versions_of current) after h.ended (versions_of closed) (versions_of new) turn.once
    (made ∙ ap (λ js. versions_of closed ++ (if keeps then taken n js (versions_of opened) else [])) is'
    ∙ ap (λ (ks : List Kept). versions_of closed ++ (if keeps then taken n h.ended (versions_of ks) else [])) same)
    ∙ sym (ap (λ js. past_rows keeps (versions_of current) js (versions_of closed)) is))) stand

-- a rollback removes the entries after those of the closed versions
pub rollback_past : (keeps : Bool) (t : Seating) (past left : List ValueIndex) (current after : List Version)
    (ended none : List ℕ) (closed : List Kept) (from to : ℕ) → from ≡ length closed → to ≡ from + length ended
    → none ≡ []
    → ((rows more : List Filed) → length rows ≡ from → length (rows ++ more) ≤ to → AreStanding t past (rows ++ more)
    → AreStanding t left rows)
    → AreStanding t past (past_rows keeps current ended (versions_of closed))
    → AreStanding t left (past_rows keeps after none (versions_of closed))
rollback_past keeps t past left current after ended none closed from to e f nil goes stand =
    subst (AreStanding t left)
    (past_alone_rows keeps after (versions_of closed)
    ∙ sym (ap (λ js. past_rows keeps after js (versions_of closed)) nil))
    (goes (pasts_of (versions_of closed)) (if keeps then pasts_at None ended current else [])
    (pasts-length (versions_of closed) ∙ count_of closed ∙ sym e)
    (let n = past-most keeps current ended (versions_of closed) in omega (arith, n, count_of closed, e, f)) stand)

-- the number of the next ended row
pub next_number : (closed later : List Kept) (ended more : List ℕ) (a b : ℕ) → later ≡ closed → more ≡ ended
    → a ≡ length later → b ≡ length more → a + b ≡ length closed + length ended
next_number closed later ended more a b e f g h =
    let l = ap length e in let m = ap length f in omega (arith, l, m, g, h)

-- the number of past rows before a change adds more
pub past_size : (keeps : Bool) (current : List Version) (ended : List ℕ) (closed : List Kept) (number : ℕ)
    → number ≡ length closed + length ended → keeps ≡ true
    → length (past_rows keeps current ended (versions_of closed)) ≡ number
past_size keeps current ended closed number e k =
    past-length keeps current ended (versions_of closed) k ∙ ap (λ n. n + length ended) (count_of closed) ∙ sym e

pub past_filled : (keeps : Bool) (t : Seating) (past : List ValueIndex) (current : List Version) (ended : List ℕ)
    (closed : List Kept) (number : ℕ) → number ≡ length closed + length ended
    → AreStanding t past (past_rows keeps current ended (versions_of closed)) → keeps ≡ true
    → IsFilled number t past
past_filled keeps t past current ended closed number e h k = record {
  rows = past_rows keeps current ended (versions_of closed);
  size = past_size keeps current ended closed number e k;
  standing = h;
}

-- a failed change leaves the rows entered as they were; of the loans, the first ones are left
pub refused_stand : (keeps : Bool) (s t : Seating) (indexes past : List ValueIndex)
    (before current closed later : List Kept) (ended cut : List ℕ) (base : ℕ) (dead left : List ℕ)
    (loans fewer : List Loan) → current ≡ before → later ≡ closed → cut ≡ ended → left ≡ dead
    → IsFront fewer loans → AreLent base fewer s indexes (rows_of (versions_of current))
    → AreStanding t past (past_rows keeps (versions_of before) ended (versions_of closed))
    → All (λ k. base ≤ k) dead → AreShut loans (versions_of before) → AreListed loans ended
    → (dead ≡ []) ⊎ (loans ≡ []) → AreInHeap (versions_of closed)
    → AllStand keeps s indexes t past (versions_of current) cut (versions_of later) base left fewer
refused_stand keeps s t indexes past before current closed later ended cut base dead left loans fewer e f g same first
    h i low shut listed settled heap = record {
      behind = subst (All (λ k. base ≤ k)) (sym same) low;
      current_ones = h;
      past_ones = subst (AreStanding t past)
          (sym (ap (λ ks. past_rows keeps (versions_of ks) cut (versions_of later)) e
          ∙ ap (λ js. past_rows keeps (versions_of before) js (versions_of later)) g
          ∙ ap (λ ks. past_rows keeps (versions_of before) ended (versions_of ks)) f)) i;
      shut = subst (λ (ks : List Kept). AreShut fewer (versions_of ks)) (sym e) (shut_front loans fewer
          (versions_of before) first shut);
      listed = subst (AreListed fewer) (sym g) (listed_front loans fewer ended first listed);
      settled = elim settled [
        | inl x ↦ inl (same ∙ x)
        | inr x ↦ inr (none_front loans fewer first x)
      ];
      in_heap = subst (λ (ks : List Kept). AreInHeap (versions_of ks)) (sym f) heap;
    }

-- cutting a list back to its old length restores it
pub cut_back : (all old new left : List ℕ) (n : ℕ) → all ≡ old ++ new → n ≡ length old → left ≡ take n all
    → left ≡ old
cut_back all old new left n e f g = g ∙ ap (λ k. take k all) f ∙ ap (take (length old)) e ∙ front old
  where
    front : (xs : List ℕ) → take (length xs) (xs ++ new) ≡ xs
    front [] = refl
    front (x ∷ xs) = ap (λ ys. x ∷ ys) (front xs)

-- the versions after a change, in terms of those before it
pub made_of : (n m : ℤ) (removed : List ℕ) (old before : List Kept) (vs new : List Version)
    (rows : List Row) → n ≡ m → old ≡ before → versions_of before ≡ vs
    → new ≡ closing n removed (versions_of old) ++ map (fresh n) rows
    → new ≡ closing m removed vs ++ map (fresh m) rows
made_of n m removed old before vs new rows e f g h =
    h ∙ ap (λ (x : ℤ). closing x removed (versions_of old)
    ++ map (fresh x) rows) e
    ∙ ap (λ (ks : List Kept). closing m removed (versions_of ks)
    ++ map (fresh m) rows) f
    ∙ ap (λ us. closing m removed us ++ map (fresh m) rows) g

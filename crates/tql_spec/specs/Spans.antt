-- The results of queries on the copies, stated by spans and membership: laws about the functions of History.
use Rattle.std.specs.Prelude.{◌≡◌, ◌⊎◌, ℕ, List, [], ◌∷◌, ◌++◌, map, ℤ, ◌≤ℤ◌, ◌<ℤ◌, if◌then◌else◌}
use Rattle.std.specs.List.{sum_by}
use Rattle.tql_spec.specs.Bag.{In}
use Rattle.tql_spec.specs.Calendar.{high}
use Rattle.tql_spec.specs.Definition.{Stamped, Version, same_stamped}
use Rattle.tql_spec.specs.History.{Entry, Falling, Now, AsOf, FromTo, Between, rows_in, table_history, found}

-- ---- spans

-- given the later copies, a copy's span holds a moment: from its own on, before each later copy's, before the highest
pub record SpanHolds (later : List Entry) (e : Entry) (p : ℤ) : Type 0 where
  pub begun : e.moment ≤ℤ p
  pub before_later : (c : Entry) → In c later → p <ℤ c.moment
  pub before_end : p <ℤ high

-- ---- row ends

-- the row is in the table in each of these copies
abbrev pub InEach : ℕ → List Entry → Stamped → Type 0
InEach t copies r = (c : Entry) → In c copies → In r (rows_in c.copy t)

-- one later copy lacks the row, those between it and the row's copy have it, and the row ends at its moment
pub record EndsIn (t : ℕ) (later : List Entry) (r : Stamped) (end : ℤ) : Type 0 where
  pub newer : List Entry
  pub lacking : Entry
  pub between : List Entry
  pub parts : later ≡ newer ++ lacking ∷ between
  pub kept : InEach t between r
  pub lacks : In r (rows_in lacking.copy t) → ⊥
  pub ends : end ≡ lacking.moment

-- given the later copies, a row ends at the moment of the earliest of them that lacks it, else at the highest moment
abbrev pub EndsAt : ℕ → List Entry → Stamped → ℤ → Type 0
EndsAt t later r end = (InEach t later r × (end ≡ high)) ⊎ EndsIn t later r end

-- ---- one copy

-- the rows of these versions
abbrev pub found_rows : List Version → List Stamped
found_rows vs = map (λ (v : Version). v.row) vs

-- the versions are a copy's rows, each with its end
pub record AreRowsOf (t : ℕ) (later : List Entry) (e : Entry) (vs : List Version) : Type 0 where
  pub rows : found_rows vs ≡ rows_in e.copy t
  pub ends : (v : Version) → In v vs → EndsAt t later v.row v.end

-- a query without a clause finds the rows of the newest copy, and none before any commit
pub record NowIsTheNewest (t : ℕ) (entries : List Entry) : Type 0 where
  pub there : (e : Entry) (older : List Entry) → entries ≡ e ∷ older
      → AreRowsOf t [] e (found Now (table_history t entries))
  pub none : entries ≡ [] → found Now (table_history t entries) ≡ []

-- a copy whose span holds a moment, at its position in the history
pub record StandsAt (m : ℤ) (entries : List Entry) : Type 0 where
  pub later : List Entry
  pub copy : Entry
  pub older : List Entry
  pub whole : entries ≡ later ++ copy ∷ older
  pub held : SpanHolds later copy m

-- AS OF m finds the rows of the copy whose span holds m; none before the first copy, and none at the highest moment.
-- There is no other case
pub record AsOfIsTheCopyThen (t : ℕ) (m : ℤ) (entries : List Entry) : Type 0 where
  pub there : (later : List Entry) (e : Entry) (older : List Entry) → entries ≡ later ++ e ∷ older
      → SpanHolds later e m
      → AreRowsOf t later e (found (AsOf m) (table_history t entries))
  pub before_all : ((e : Entry) → In e entries → m <ℤ e.moment) → found (AsOf m) (table_history t entries) ≡ []
  pub at_highest : high ≤ℤ m → found (AsOf m) (table_history t entries) ≡ []
  pub no_other : StandsAt m entries ⊎ ((e : Entry) → In e entries → m <ℤ e.moment) ⊎ (high ≤ℤ m)

-- ---- the copies that a range meets

-- the moments that FROM a TO b asks for
abbrev pub IsFromTo : ℤ → ℤ → ℤ → Type 0
IsFromTo a b p = (a ≤ℤ p) × (p <ℤ b)

-- the moments that BETWEEN a AND b asks for
abbrev pub IsBetween : ℤ → ℤ → ℤ → Type 0
IsBetween a b p = (a ≤ℤ p) × (p ≤ℤ b)

-- the multiplicity of a row among rows
abbrev pub times : Stamped → List Stamped → ℕ
times r rows = sum_by (λ s. if same_stamped r s then 1 else 0) rows

-- a copy that has the row, at its position in the history, and a moment of its span that is asked for
pub record MetWith (t : ℕ) (Asked : ℤ → Type 0) (entries : List Entry) (r : Stamped) : Type 0 where
  pub later : List Entry
  pub copy : Entry
  pub older : List Entry
  pub whole : entries ≡ later ++ copy ∷ older
  pub moment : ℤ
  pub asked : Asked moment
  pub held : SpanHolds later copy moment
  pub there : In r (rows_in copy.copy t)

-- the multiplicity of the row in that copy
abbrev pub times_there : (t : ℕ) → {Asked : ℤ → Type 0} → {entries : List Entry} → {r : Stamped}
    → MetWith t Asked entries r → ℕ
times_there t {Asked} {entries} {r} c = times r (rows_in c.copy.copy t)

-- a range: each version is a row of a copy met, with its end there. Each row of a copy met has the multiplicity that it
-- has in one of the copies met
pub record AreOfCopiesMet (t : ℕ) (Asked : ℤ → Type 0) (entries : List Entry) (vs : List Version) : Type 0 where
  pub only : (v : Version) → In v vs → (c : MetWith t Asked entries v.row) × EndsAt t c.later v.row v.end
  pub each : (r : Stamped) → MetWith t Asked entries r
      → (c : MetWith t Asked entries r) × (times r (found_rows vs) ≡ times_there t c)

-- both forms of a range, FROM .. TO and BETWEEN .. AND
pub record RangesAreCopiesMet (t : ℕ) (a b : ℤ) (entries : List Entry) : Type 0 where
  pub from_to : AreOfCopiesMet t (IsFromTo a b) entries (found (FromTo a b) (table_history t entries))
  pub between : AreOfCopiesMet t (IsBetween a b) entries (found (Between a b) (table_history t entries))

-- ---- laws

-- the results of each form of a query on one table
pub record QuestionsBySpans (t : ℕ) (entries : List Entry) : Type 0 where
  pub now : NowIsTheNewest t entries
  pub as_of : (m : ℤ) → AsOfIsTheCopyThen t m entries
  pub ranges : (a b : ℤ) → RangesAreCopiesMet t a b entries

-- the law: this holds for every history whose moments decrease
abbrev pub ReadsBySpans : Type 0
ReadsBySpans = (t : ℕ) (entries : List Entry) → Falling entries → QuestionsBySpans t entries

-- ---- rows that stay as they are

-- a row has one multiplicity in all copies that have it, and is in each copy between two that have it
pub record IsSteady (t : ℕ) (entries : List Entry) : Type 0 where
  pub one_multiplicity : (r : Stamped) (c d : Entry) → In c entries → In d entries → In r (rows_in c.copy t)
      → In r (rows_in d.copy t)
      → times r (rows_in c.copy t) ≡ times r (rows_in d.copy t)
  pub no_return : (r : Stamped) (newer between older : List Entry) (c d : Entry)
      → entries ≡ newer ++ c ∷ (between ++ d ∷ older)
      → In r (rows_in c.copy t) → In r (rows_in d.copy t) → InEach t between r

-- for steady rows: any copy met that has a row gives the row's multiplicity and its end
pub record AreOfAnyCopyMet (t : ℕ) (Asked : ℤ → Type 0) (entries : List Entry) (vs : List Version) : Type 0 where
  pub as_often : (r : Stamped) (c : MetWith t Asked entries r) → times r (found_rows vs) ≡ times_there t c
  pub ends : (v : Version) → In v vs → (c : MetWith t Asked entries v.row) → EndsAt t c.later v.row v.end

-- both forms of a range, FROM .. TO and BETWEEN .. AND
pub record AnyCopyMetWill (t : ℕ) (a b : ℤ) (entries : List Entry) : Type 0 where
  pub from_to : AreOfAnyCopyMet t (IsFromTo a b) entries (found (FromTo a b) (table_history t entries))
  pub between : AreOfAnyCopyMet t (IsBetween a b) entries (found (Between a b) (table_history t entries))

-- the law: where rows are steady, it does not matter which of the copies met is used
abbrev pub SteadyRangesAgree : Type 0
SteadyRangesAgree =
    (t : ℕ) (a b : ℤ) (entries : List Entry) → Falling entries → IsSteady t entries → AnyCopyMetWill t a b entries

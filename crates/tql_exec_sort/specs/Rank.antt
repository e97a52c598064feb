-- Ranks of values: a rank never contradicts the order of the values.
use Rattle.std.specs.Prelude.{◌≡◌, ℕ, Bool, zero, suc, false, ◌+◌, ◌*◌, ◌^◌, ◌<◌, List, [], ◌∷◌, ℤ, pos, ◌+ℤ◌}
use Rattle.std.specs.Prelude.{neg_ℤ, drop, All}
use Rattle.std.specs.declared.cmp.Ordering.{Ordering}
use Rattle.std.specs.Ordering.{nat_cmp, int_cmp, ordering_then}
use Rattle.tql_spec.specs.Query.{OrderKey, directed, row_order}
use Rattle.tql_spec.specs.Datum.{Datum, Null, Int, Text, Day, Moment, Row, rank}
use Rattle.tql_spec.specs.Definition.{cell}
use Rattle.tql_value.specs.Views.{row_of}
use Rattle.tql_exec_sort.specs.declared.sorting.Ranked.{Ranked}
use Rattle.tql_exec_sort.specs.declared.rank.Rank.{Rank}

-- the first n bytes of a text as a big-endian number; a missing byte counts as 0
unfoldable pub start_of : ℕ → List ℕ → ℕ
start_of zero text = 0
start_of (suc n) [] = 0
start_of (suc n) (b ∷ bs) = b * 256 ^ n + start_of n bs

-- the number of a rank; for a text, whose items are bytes, its first eight bytes, offset by the least number of 64 bits
abbrev pub IsNumber : Datum → ℤ → Type 0
IsNumber Null z = z ≡ pos 0
IsNumber (Int n) z = z ≡ n
IsNumber (Text t) z = (z ≡ neg_ℤ (pos (2 ^ 63)) +ℤ pos (start_of 8 t)) × All (λ b. b < 256) t
IsNumber (Day d) z = z ≡ d
IsNumber (Moment m) z = z ≡ m

-- the rest of a rank; for a text the next eight bytes
abbrev pub IsRest : Datum → ℕ → Type 0
IsRest Null n = n ≡ 0
IsRest (Int i) n = n ≡ 0
IsRest (Text t) n = n ≡ start_of 8 (drop 8 t)
IsRest (Day d) n = n ≡ 0
IsRest (Moment m) n = n ≡ 0

-- the rank of a value: the number of its kind, its number, and the rest
pub record IsRank (d : Datum) (r : Rank) : Type 0 where
  pub kind : r.kind ≡ rank d
  pub number : IsNumber d r.number
  pub rest : IsRest d r.rest

-- the order of ranks by kind, and then by number
abbrev pub by_rank : Rank → Rank → Ordering
by_rank r s = ordering_then (nat_cmp r.kind s.kind) (int_cmp r.number s.number)

-- the order of ranks by their rest, if these are equal
abbrev pub by_rest : Rank → Rank → Ordering
by_rest r s = nat_cmp r.rest s.rest

-- the first sort key; without ORDER BY the first column, ascending
abbrev pub first_of : List OrderKey → OrderKey
first_of [] = record { column = 0; falls = false }
first_of (k ∷ ks) = k

-- the row
abbrev pub row_in : Ranked → Row
row_in x = row_of x.row.items

-- the rank is that of the value in this column
abbrev pub HasRank : ℕ → Ranked → Type 0
HasRank column x = IsRank (cell (row_in x) column) x.rank

-- the order of rows by their ranks, ascending or descending, and then the printed order
abbrev pub ranked_order : Bool → List OrderKey → Ranked → Ranked → Ordering
ranked_order falls keys a b =
    ordering_then (directed falls (by_rank a.rank b.rank))
    (ordering_then (directed falls (by_rest a.rank b.rank)) (row_order keys (row_in a) (row_in b)))

-- Headings with the indexes of their output columns.
use Rattle.std.specs.Prelude.{◌≡◌, ◌==◌, ℕ, suc, Bool, false, List, [], ◌∷◌, length, map}
use Rattle.std.specs.Cmp.Lexicographic.{slice_cmp}
use Rattle.std.specs.List.{filter}
use Rattle.std.specs.List.Sorted.{IsSortedBy}
use Rattle.std.specs.Ordering.{is_lt, nat_cmp}
use Rattle.tql_spec.specs.Binding.{places_of}
use Rattle.tql_spec.specs.Definition.{Name}
use Rattle.tql_spec.specs.Words.{same_text}
use Rattle.tql_bind_query.specs.declared.sorted_headings.Heading.{Heading}

-- a heading, and its index
pub record Headed : Type 0 where
  pub name : Name
  pub place : ℕ

-- the heading and the index that the code's value represents
abbrev pub headed_of : Heading → Headed
headed_of h = record { name = h.name.now; place = h.place }

-- headings with their indexes, which begin with this one
abbrev pub headed_from : ℕ → List Name → List Headed
headed_from i [] = []
headed_from i (h ∷ hs) = record { name = h; place = i } ∷ headed_from (suc i) hs

-- the index of a heading
abbrev pub place_in : Heading → ℕ
place_in h = h.place

-- whether one precedes another by its bytes
abbrev pub is_before : Heading → Heading → Bool
is_before a b = is_lt (slice_cmp nat_cmp a.name.now b.name.now)

-- headings in ascending order
abbrev pub AreRising : List Heading → Type 0
AreRising hs = IsSortedBy is_before hs

-- sorted headings: none, or all of them, in which each name has its indexes, from the left
pub record AreSorted (names : List Name) (hs : List Heading) : Type 0 where
  pub rise : AreRising hs
  pub placed : (length hs == 0) ≡ false → (x : Heading)
      → map place_in (filter (λ (h : Heading). same_text x.name.now h.name.now) hs) ≡ places_of x.name.now 0 names

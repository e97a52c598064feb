-- The accumulators of groups, when one more row comes.
use Rattle.std.specs.Prelude.{◌≡◌, ℕ, ◌*◌, List, [], ◌∷◌, ◌++◌, Some, length, slice_get}
use Rattle.tql_spec.specs.Datum.{Row}
use Rattle.tql_spec.specs.Query.{cells_at}
use Rattle.tql_expr.specs.declared.terms.Aggregate.{Aggregate}
use Rattle.tql_expr.specs.declared.terms.Terms.{Terms}
use Rattle.tql_exec_fold.specs.Folded.{HaveFolded}
use Rattle.tql_exec_fold.specs.declared.fold.Accumulator.{Accumulator}
use Rattle.tql_exec_group.specs.declared.grouping.Groups.{Groups}
use Rattle.tql_exec_numbered.specs.Numbered.{with_row}

-- the accumulators that are added, one for each aggregate, have taken no rows
abbrev pub Begins : List Aggregate → List Accumulator → List Accumulator → Type 0
Begins aggregates old new =
    (added : List Accumulator) × (new ≡ old ++ added) × ((t : Terms) → HaveFolded t aggregates added [])

-- the row is of the group with this number, which begins if no row before was of it
pub record Enters (columns : List ℕ) (aggregates : List Aggregate) (old new : Groups) (row : Row) (n : ℕ)
    : Type 0 where
  pub keys : new.keys ≡ with_row old.keys (cells_at columns row)
  pub number : slice_get new.keys n ≡ Some (cells_at columns row)
  pub begun : n ≡ length old.keys → Begins aggregates old.folds.items new.folds.items
  pub none : n ≡ length old.keys → new.counts.items ≡ old.counts.items ++ 0 ∷ []
  pub kept : (n ≡ length old.keys → ⊥) → new.folds.items ≡ old.folds.items
  pub same : (n ≡ length old.keys → ⊥) → new.counts.items ≡ old.counts.items

-- the part with a number, in a list of parts of this width one after another
abbrev pub IsPart : ℕ → ℕ → List Accumulator → List Accumulator → Type 0
IsPart number width part all = (before same after : List Accumulator) → all ≡ before ++ (same ++ after)
    → length before ≡ number * width → length same ≡ width → part ≡ same

-- the accumulators of the group with this number have taken the row, and no others
abbrev pub TakesAt : Terms → List Aggregate → ℕ → List Accumulator → List Accumulator → Row → Type 0
TakesAt t aggregates number old new row = (before part after : List Accumulator) (rows : List Row)
    → old ≡ before ++ (part ++ after) → length before ≡ number * length aggregates → HaveFolded t aggregates part rows
    → (taken : List Accumulator) × (new ≡ before ++ (taken ++ after))
    × HaveFolded t aggregates taken (rows ++ row ∷ [])

-- Closed versions that change places together with their row slots.
use Rattle.std.specs.Prelude.{List, IsPermutation}
use Rattle.tql_spec.specs.Definition.{Version}
use Rattle.tql_store_index.specs.Seating.{Seating}
use Rattle.tql_store_index.specs.ValueIndexes.{ValueIndex}
use Rattle.tql_standing.specs.RowsStanding.{AreStanding, pasts_of}

-- the versions are in another order, and each is still filed under its period
pub record AreReordered (old new : List Version) (s t : Seating) : Type 0 where
  pub same : IsPermutation old new
  pub standing : (indexes : List ValueIndex) → AreStanding s indexes (pasts_of old)
      → AreStanding t indexes (pasts_of new)

-- A request that is neither to open nor to close an engine.
use Rattle.std.proofs.Common.{◌≡◌, refl, Some}
use Rattle.tql_host_cells.specs.declared.requests.Asked.{Asked}
use Rattle.tql_host_cells.specs.declared.requests.Asked.TheVariants as asked
use Rattle.tql_host.specs.declared.host.Host.{Host}
use Rattle.tql_host.specs.Serving.{Back, DoesWith, Sent, Serves}

pub serves_held : (a : Asked) (s : Sent) (old new : Host) (r : Back) → (a ≡ asked.Open → ⊥) → (a ≡ asked.Close → ⊥)
    → DoesWith a s old.held old new r → Serves (Some a) s old new r
serves_held asked.Open s old new r opens closes does = absurd (opens refl)
serves_held asked.Close s old new r opens closes does = absurd (closes refl)
serves_held a s old new r opens closes does = does

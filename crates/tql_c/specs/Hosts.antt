-- Where a host lies.
use Rattle.std.specs.Prelude.{List, ℕ}
use base.Fml.{Fml, fex}
use base.Fraction.{full_share}
use denote.RawPtr.{Ptr, lies_at}
use Rattle.tql_host.specs.declared.host.Host.{Host}
use Rattle.tql_host.specs.contracts.host.Host.{the_row}
use Rattle.tql_host.specs.Serving.{Answers, Back, Sent}

-- a host lies there that answered so
abbrev pub answered_at : Ptr → Sent → Host → Back → Fml
answered_at at sent old back = fex ((new : Host) × Answers sent old new back) (λ p. lies_at the_row full_share at p.0)

use Rattle.std.proofs.Common.{sym, subst}
use Rattle.tql_key_rows.specs.Coming.{TuplesRise}
use Rattle.tql_key_failures.proofs.failures.unmet_stored.Goals as goal

pub unmet_among-requires-clause-rise : goal.unmet_among-requires-clause-rise
unmet_among-requires-clause-rise g c =
    subst (TuplesRise c.in_ok-parents.parents.columns.now) (sym c.deref-4.ensures.value) c.in_ok-coming.ensures.rise

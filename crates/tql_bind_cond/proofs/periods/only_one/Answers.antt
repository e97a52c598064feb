use Rattle.std.proofs.Common.{ap}
use Rattle.tql_spec.specs.Names.{only_one}
use Rattle.tql_bind_expr.proofs.Gathering.{sound_ok}
use Rattle.tql_bind_cond.specs.Ends.{ends_of, periods_of}
use Rattle.tql_bind_cond.proofs.PeriodLaws.{one_at}
use Rattle.tql_bind_cond.proofs.periods.only_one.Goals as goal

pub returns-in-len1-clause-bound : goal.returns-in-len1-clause-bound
returns-in-len1-clause-bound c =
    sound_ok _ _ (ends_of c.ends_at.new.terms) _ _
    (ap (λ xs. only_one (periods_of xs)) (one_at c.args.found.now (record {
      start = 0;
      end = 0;
    }) c.in-len1.len_at_least c.in-len1.len_below))
    c.ends_at.ensures.bound

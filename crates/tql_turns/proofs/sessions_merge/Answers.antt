use Rattle.tql_turns.specs.Merge.{model}
use Rattle.tql_turns.proofs.Merge.{sessions_merge, sessions_merge_on, merges_show_own, merges_keep_promises}
use Rattle.tql_turns.proofs.sessions_merge.Goals as goal

pub returns-clause-merge : goal.returns-clause-merge
returns-clause-merge c = sessions_merge model

pub returns-clause-on : goal.returns-clause-on
returns-clause-on c = sessions_merge_on model

pub returns-clause-own : goal.returns-clause-own
returns-clause-own c = merges_show_own

pub returns-clause-promises : goal.returns-clause-promises
returns-clause-promises c =
    merges_keep_promises c.constraints_in_runs.ensures.tests c.pruned_history.ensures.runs

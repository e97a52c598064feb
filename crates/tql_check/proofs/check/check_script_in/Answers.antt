use Rattle.tql_check.proofs.check.check_script_in.Goals as goal

pub returns : goal.returns
returns g c before wrote s = c.run_in.ensures.runs before wrote s tt

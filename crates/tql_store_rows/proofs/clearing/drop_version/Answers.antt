use Rattle.std.proofs.Common.{◌-◌, rules, arith}
use Rattle.std.proofs.lemmas.Grind.{common_steps}
use Rattle.tql_standing.proofs.Sweeping.{less_one}
use Rattle.tql_store_rows.proofs.clearing.drop_version.Goals as goal

pub returns-clause-less : goal.returns-clause-less
returns-clause-less c = λ n low shut.
    less_one n c.args.seats.now c.swap.new.self c.args.versions.now.items c.swap_remove.new.self.items c.args.place
    (c.len-last.result - 1) c.swap_remove.result c.requires
    (first_of (search rules, grind (arith, common_steps))) c.swap.ensures.swapped c.swap_remove.ensures.items
    c.swap_remove.ensures.value low shut

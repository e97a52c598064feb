-- Nothing is looked up by conjuncts that begin with a calculation.
use Rattle.std.specs.Prelude.{refl, [], true, None}
use Rattle.std.proofs.Common.{subst}
use Rattle.tql_plan_access.specs.Said.{IsOrRanged}
use Rattle.test_mutants.specs.Lookups.{IsAccess, by_key, keyed_table}

pub nothing_is_right : IsAccess None
nothing_is_right = record { said = None; by = refl; is = refl }

pub key_is_wrong : IsAccess by_key → ⊥
key_is_wrong clause =
    let e : IsOrRanged keyed_table [] true None by_key =
    subst (λ said. IsOrRanged keyed_table [] true said by_key) clause.by clause.is
    in absurd (cc)

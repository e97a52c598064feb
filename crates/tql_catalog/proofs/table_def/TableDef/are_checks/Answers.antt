use Rattle.std.proofs.Common.{rules, tests, ◌∙◌}
use Rattle.std.proofs.lemmas.Iterator.{YieldsList-from_slice}
use Rattle.std.proofs.lemmas.Iterator.Search.{all_from_yields_List}
use Rattle.tql_catalog.specs.Defined.{is_check}
use Rattle.tql_expr.specs.Meaning.{cond}
use Rattle.tql_catalog.proofs.Lists.{all_of}
use Rattle.tql_catalog.proofs.table_def.TableDef.are_checks.Goals as goal

pub returns : goal.returns
returns c =
    let checks = c.args.checks.now in
    all_from_yields_List (λ x. is_check c.args.self.now (cond checks.terms x)) _ _ _ c.all.ensures.ran
    (YieldsList-from_slice checks.conditions.items cc) (λ x b q k. search (rules, tests))
    ∙ all_of (is_check c.args.self.now) (cond checks.terms) checks.conditions.items

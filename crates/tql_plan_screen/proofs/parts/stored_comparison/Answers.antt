use Rattle.std.proofs.Common.{◌∙◌, sym}
use Rattle.tql_expr.specs.Meaning.{cond}
use Rattle.tql_value.specs.Views.{datum_of_view, plain_comparison}
use Rattle.tql_plan_screen.specs.Coded.{compared_test}
use Rattle.tql_plan_screen.proofs.StoredColumns.{found_elsewhere, none_found, stored_parts}
use Rattle.tql_plan_screen.proofs.Tests.{comparison_for}
use Rattle.tql_plan_screen.proofs.parts.stored_comparison.Goals as goal

pub returns-then-not-is_stored-clause-none : goal.returns-then-not-is_stored-clause-none
returns-then-not-is_stored-clause-none c none =
    found_elsewhere c.args.definition.now (cond c.args.terms.now c.args.c) (compared_test c.in-Some.compared)
    c.in-Some.ensures (sym c.is_stored.ensures ∙ c.if-not-is_stored.true)

pub returns-else-not-is_stored-clause-test : goal.returns-else-not-is_stored-clause-test
returns-else-not-is_stored-clause-test c =
    let d = c.args.definition.now in
    let p = stored_parts d c.in-Some.compared.column (sym c.is_stored.ensures ∙ c.if-not-is_stored.false) in
    comparison_for d (cond c.args.terms.now c.args.c) c.in-Some.compared.column c.stored_number-column.result
    (plain_comparison c.in-Some.compared.sign) (datum_of_view c.in-Some.compared.value) (sym c.in-Some.ensures)
    p.0 p.1 c.stored_number-column.ensures

pub returns-in-None-clause-none : goal.returns-in-None-clause-none
returns-in-None-clause-none c none =
    none_found c.args.definition.now (cond c.args.terms.now c.args.c) c.in-None.ensures

use Rattle.std.proofs.Common.{◌≡◌, List, map, ap, subst, sym, ◌∙◌}
use Rattle.std.specs.Prelude.{Option, option_map}
use Rattle.tql_spec.specs.Creation.{first_of, has_number}
use Rattle.tql_spec.specs.Definition.{System}
use Rattle.tql_spec.specs.Expression.{Cond}
use Rattle.tql_spec.specs.Names.{Checked, Known, check_each}
use Rattle.tql_spec.specs.Syntax.{Condition}
use Rattle.tql_catalog.specs.Definitions as catalog
use Rattle.tql_catalog.specs.Definitions.{application_of, system_of, checks_of}
use Rattle.tql_bind_expr.specs.Gathered.{Gathers}
use Rattle.tql_bind_check.specs.Checking.{check_by, checks_in, elements_in}
use Rattle.tql_bind_draft.specs.Drafts.{column_of, columns_in, is_generated_in}
use Rattle.tql_bind_table.specs.NewTables.{generated_in, scope_by}
use Rattle.tql_bind_draft.specs.declared.draft.NewColumn.{NewColumn}
use Rattle.tql_bind_table.proofs.CheckLaws.{generated_same}
use Rattle.tql_bind_table.proofs.checks.table_checks.Goals as goal

pub returns : goal.returns
returns c =
    let numbers : c.deref-2.result.now ≡ generated_in (columns_in c.args.draft.now) = c.deref-2.ensures.value
    ∙ c.in_ok-generated.ensures
    ∙ ap (λ (cs : List NewColumn). generated_in (map column_of cs)) c.deref.ensures.value in
    let generated : (λ i. has_number i c.deref-2.result.now) ≡ is_generated_in (columns_in c.args.draft.now) =
    (λ j i. has_number i (numbers j)) ∙ generated_same (columns_in c.args.draft.now) in
    let scope : Option System → List Known
    = λ s. scope_by c.args.name.now (map catalog.column_of c.args.columns.now)
    (map application_of c.args.applications.now) s in
    let same : check_by (λ i. has_number i c.deref-2.result.now)
    (scope (option_map system_of c.first_system-system.result))
    ≡ check_by (is_generated_in (columns_in c.args.draft.now)) (scope (first_of (map system_of c.args.systems.now))) =
    λ j. check_by (generated j) (scope (c.first_system-system.ensures j)) in
    let gathers : (Condition → Checked Cond) → List Cond → Type 0
    = λ f bs. Gathers (check_each f (checks_in (elements_in c.args.create.now))) c.args.faults.now
    c.bound_checks.new.faults bs in
    let bound = subst (λ (f : Condition → Checked Cond). gathers f (checks_of c.in_ok-checks.checks)) same
    c.in_ok-checks.ensures in
    subst (gathers (check_by (is_generated_in (columns_in c.args.draft.now))
    (scope (first_of (map system_of c.args.systems.now))))) (sym c.named.ensures) bound

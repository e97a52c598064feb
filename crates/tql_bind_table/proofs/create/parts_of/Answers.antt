use Rattle.std.proofs.Common.{◌≡◌, ◌∙◌, ap, sym, List, length, map, subst}
use Rattle.tql_spec.specs.Creation.{column, first_of}
use Rattle.tql_spec.specs.Definition as definition
use Rattle.tql_spec.specs.Definition.{Name}
use Rattle.tql_spec.specs.Names.{check_each, Known}
use Rattle.tql_catalog.specs.Definitions as catalog
use Rattle.tql_catalog.specs.Definitions.{application_of, system_of, key_of, reference_of, checks_of}
use Rattle.tql_catalog.specs.declared.definition.Application.{Application}
use Rattle.tql_catalog.specs.Tables.{definitions_of}
use Rattle.tql_bind_expr.specs.Gathered.{Gathers}
use Rattle.tql_bind_check.specs.Checking.{check_by, checks_in, elements_in}
use Rattle.tql_bind_draft.specs.Drafts.{column_of, application_part, system_part, key_part, reference_part, columns_in}
use Rattle.tql_bind_draft.specs.Drafts.{applications_in, systems_in, written_of, application_in, system_in, key_in}
use Rattle.tql_bind_draft.specs.Drafts.{implied_in, is_generated_in, names_of_periods}
use Rattle.tql_bind_draft.specs.PeriodNames.{AreNames, names_of_bound}
use Rattle.tql_bind_draft.proofs.PeriodLaws.{names_bound}
use Rattle.tql_bind_table.specs.NewTables.{reference_in, flat_each, defined_in, scope_by, create_in, table_by}
use Rattle.tql_bind_draft.specs.declared.draft.NewColumn.{NewColumn}
use Rattle.tql_bind_draft.specs.declared.draft.NewApplication.{NewApplication}
use Rattle.tql_bind_draft.specs.declared.draft.NewSystem.{NewSystem}
use Rattle.tql_bind_draft.specs.declared.draft.NewKey.{NewKey}
use Rattle.tql_bind_draft.specs.declared.draft.NewReference.{NewReference}
use Rattle.tql_bind_table.proofs.CheckLaws.{ends_within, systems_within, width_same}
use Rattle.tql_bind_table.proofs.Creations.{draft_gathered}
use Rattle.tql_bind_table.proofs.create.parts_of.Goals as goal

pub table_checks-requires-clause-applications : goal.table_checks-requires-clause-applications
table_checks-requires-clause-applications c =
    let d = c.args.draft.now in
    let w = written_of d in
    let cs = c.in_ok-columns.columns.items in
    let columns : map catalog.column_of c.in_ok-columns.columns.items ≡ defined_in w = c.in_ok-columns.ensures
    ∙ (λ i. map (column (implied_in (map application_part (c.deref-10.ensures.value i))
    (map key_part (c.deref-11.ensures.value i)))) (map column_of (c.deref-9.ensures.value i))) in
    let written : (check_each (application_in (map column_of c.deref.result.now))
    (map application_part c.deref-2.result.now)).value
    ≡ (check_each (application_in (columns_in d)) (applications_in d)).value =
    (λ i. (check_each (application_in (map column_of (c.deref.ensures.value i)))
    (map application_part (c.deref-2.ensures.value i))).value) in
    ends_within (columns_in d) (length c.deref-12.result.now)
    (width_same w cs columns ∙ ap length (sym c.deref-12.ensures.value)) (applications_in d) c.deref-13.result.now
    (ap (map application_of) c.deref-13.ensures.value ∙ c.in_ok-applications.ensures.value ∙ written)

pub table_checks-requires-clause-systems : goal.table_checks-requires-clause-systems
table_checks-requires-clause-systems c =
    let d = c.args.draft.now in
    let w = written_of d in
    let cs = c.in_ok-columns.columns.items in
    let columns : map catalog.column_of c.in_ok-columns.columns.items ≡ defined_in w = c.in_ok-columns.ensures
    ∙ (λ i. map (column (implied_in (map application_part (c.deref-10.ensures.value i))
    (map key_part (c.deref-11.ensures.value i)))) (map column_of (c.deref-9.ensures.value i))) in
    let written : (check_each (system_in (map column_of c.deref-3.result.now))
    (map system_part c.deref-4.result.now)).value ≡ (check_each (system_in (columns_in d)) (systems_in d)).value =
    (λ i. (check_each (system_in (map column_of (c.deref-3.ensures.value i)))
    (map system_part (c.deref-4.ensures.value i))).value) in
    systems_within (columns_in d) (length c.deref-12.result.now)
    (width_same w cs columns ∙ ap length (sym c.deref-12.ensures.value)) (systems_in d) c.deref-14.result.now
    (ap (map system_of) c.deref-14.ensures.value ∙ c.in_ok-systems.ensures.value ∙ written)

pub bound_keys-requires-clause-bound : goal.bound_keys-requires-clause-bound
bound_keys-requires-clause-bound c =
    let d = c.args.draft.now in
    let bound : names_of_bound (map application_of c.deref-5.result.now) ≡ names_of_periods (applications_in d)
    = ap (λ (xs : List Application). names_of_bound (map application_of xs)) c.deref-5.ensures.value
    ∙ ap names_of_bound c.in_ok-applications.ensures.value
    ∙ names_bound (map column_of c.deref.result.now) c.deref-2.result.now
    ∙ ap (λ (ps : List NewApplication). names_of_periods (map application_part ps)) c.deref-2.ensures.value in
    subst (λ (ns : List Name). AreNames d.names ns) (sym bound) c.requires

pub bound_references-requires-clause-bound : goal.bound_references-requires-clause-bound
bound_references-requires-clause-bound c =
    let d = c.args.draft.now in
    let bound : names_of_bound (map application_of c.deref-7.result.now) ≡ names_of_periods (applications_in d)
    = ap (λ (xs : List Application). names_of_bound (map application_of xs)) c.deref-7.ensures.value
    ∙ ap names_of_bound c.in_ok-applications.ensures.value
    ∙ names_bound (map column_of c.deref.result.now) c.deref-2.result.now
    ∙ ap (λ (ps : List NewApplication). names_of_periods (map application_part ps)) c.deref-2.ensures.value in
    subst (λ (ns : List Name). AreNames d.names ns) (sym bound) c.requires

pub returns : goal.returns
returns c =
    let d = c.args.draft.now in
    let w = written_of d in
    let defs = definitions_of c.args.tables.now in
    let as' = map application_of c.in_ok-applications.applications.items in
    let ss = map system_of c.in_ok-systems.systems.items in
    let ks = map key_of c.in_ok-keys.keys.items in
    let fs = map reference_of c.in_ok-references.references.items in
    let m1 = c.whole_faults.new.faults in
    let m2 = c.application_periods.new.faults in
    let m3 = c.system_periods.new.faults in
    let m4 = c.bound_keys.new.faults in
    let m5 = c.bound_references.new.faults in
    let m6 = c.table_checks.new.faults in
    let bs = checks_of c.in_ok-checks.checks in
    let applied =
    subst (λ (ps : List NewApplication). Gathers
    (check_each (application_in (columns_in d)) (map application_part ps)) m1 m2 as') c.deref-2.ensures.value
    (subst (λ (cs : List NewColumn). Gathers
    (check_each (application_in (map column_of cs)) (map application_part c.deref-2.result.now)) m1 m2 as')
    c.deref.ensures.value c.in_ok-applications.ensures) in
    let versioned =
    subst (λ (ps : List NewSystem). Gathers (check_each (system_in (columns_in d)) (map system_part ps)) m2 m3 ss)
    c.deref-4.ensures.value
    (subst (λ (cs : List NewColumn). Gathers
    (check_each (system_in (map column_of cs)) (map system_part c.deref-4.result.now)) m2 m3 ss)
    c.deref-3.ensures.value c.in_ok-systems.ensures) in
    let keyed =
    subst (λ (ps : List NewKey). Gathers (check_each (key_in w as') (map key_part ps)) m3 m4 ks) c.deref-6.ensures.value
    (subst (λ (xs : List Application). Gathers
    (check_each (key_in w (map application_of xs)) (map key_part c.deref-6.result.now)) m3 m4 ks)
    c.deref-5.ensures.value c.in_ok-keys.ensures) in
    let referring =
    subst (λ (ps : List NewReference). Gathers (flat_each (reference_in defs w as') (map reference_part ps)) m4 m5 fs)
    c.deref-8.ensures.value
    (subst (λ (xs : List Application). Gathers
    (flat_each (reference_in defs w (map application_of xs)) (map reference_part c.deref-8.result.now)) m4 m5 fs)
    c.deref-7.ensures.value c.in_ok-references.ensures) in
    let columns : map catalog.column_of c.in_ok-columns.columns.items ≡ defined_in w = c.in_ok-columns.ensures
    ∙ (λ i. map (column (implied_in (map application_part (c.deref-10.ensures.value i))
    (map key_part (c.deref-11.ensures.value i)))) (map column_of (c.deref-9.ensures.value i))) in
    let scope : scope_by c.args.name.now (map catalog.column_of c.deref-12.result.now)
    (map application_of c.deref-13.result.now) (first_of (map system_of c.deref-14.result.now))
    ≡ scope_by c.args.name.now (defined_in w) as' (first_of ss)
    = (λ i. scope_by c.args.name.now (map catalog.column_of (c.deref-12.ensures.value i))
    (map application_of (c.deref-13.ensures.value i)) (first_of (map system_of (c.deref-14.ensures.value i))))
    ∙ (λ i. scope_by c.args.name.now (columns i) as' (first_of ss)) in
    let written = checks_in (elements_in c.args.create.now) in
    let checked = subst (λ (k : List Known). Gathers
    (check_each (check_by (is_generated_in (columns_in d)) k) written) m5 m6 bs) scope c.in_ok-checks.ensures in
    subst (λ (cs : List definition.Column).
    Gathers (create_in defs c.args.name.now w written c.args.create.now.is_versioned) c.args.faults.now m6
    (table_by c.args.name.now cs (first_of ss) (first_of as') ks fs bs)) (sym columns)
    (draft_gathered defs c.args.name.now w written c.args.create.now.is_versioned c.args.faults.now
    m1 m2 m3 m4 m5 m6 as' ss ks fs bs
    c.whole_faults.ensures applied versioned keyed referring checked)

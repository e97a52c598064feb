use Rattle.std.proofs.Common.{ap, ◌∙◌, sym, subst, refl}
use Rattle.std.specs.Prelude.{string_bytes, option_map}
use Rattle.tql_spec.specs.Binding.{bind}
use Rattle.tql_spec.specs.Definition.{Name, TableDef}
use Rattle.tql_spec.specs.Machine.{CreateTable}
use Rattle.tql_value.specs.Refusals.{refusal_of}
use Rattle.tql_catalog.specs.Tables.{definitions_of}
use Rattle.tql_syntax_tree.specs.Statements.{create_of}
use Rattle.tql_bind_expr.specs.Gathered.{Gathers}
use Rattle.tql_bind_expr.proofs.Gathering.{first_is}
use Rattle.tql_bind_check.specs.Checking.{checks_in, elements_in}
use Rattle.tql_bind_draft.specs.Drafts.{written_of}
use Rattle.tql_bind_table.specs.NewTables.{create_in, table_of}
use Rattle.tql_bind_table.proofs.Creations.{IsDraft, bind_gathered}
use Rattle.tql_bind_table.proofs.Definable.{can_stand}
use Rattle.tql_bind_table.proofs.Gathered.{told, clean}
use Rattle.tql_bind_table.proofs.create.new_table.Goals as goal

pub returns-in-Some : goal.returns-in-Some
returns-in-Some c =
    let defs = definitions_of c.args.tables.now in
    let tree = c.args.create.now in
    let d = c.in_ok-draft.draft in
    let n = string_bytes c.in_ok-name.name in
    let old = c.none-faults.result in
    let new = c.parts_of.new.faults in
    let t = table_of n c.in_ok-parts.parts in
    let g = subst (λ (m : Name).
    Gathers (create_in defs m (written_of d) (checks_in (elements_in tree)) tree.is_versioned) old new
    (table_of m c.in_ok-parts.parts)) c.deref.ensures c.in_ok-parts.ensures in
    let is : IsDraft tree n (written_of d) =
    record {
      name = c.in_ok-name.ensures;
      columns = c.in_ok-draft.ensures.columns;
      applications = c.in_ok-draft.ensures.applications;
      systems = c.in_ok-draft.ensures.systems;
      keys = c.in_ok-draft.ensures.keys;
      references = c.in_ok-draft.ensures.references;
    } in
    let all = bind defs (create_of tree) in
    told (λ x. CreateTable x) all c.in-Some.fault
    (first_is all old new (CreateTable t) c.none-faults.ensures
    (bind_gathered defs tree n (written_of d) old new t is g)
    ∙ sym c.least.ensures ∙ ap (option_map refusal_of) c.in-Some.is)

pub definition-requires-clause-definable : goal.definition-requires-clause-definable
definition-requires-clause-definable c =
    let defs = definitions_of c.args.tables.now in
    let tree = c.args.create.now in
    let d = c.in_ok-draft.draft in
    let n = string_bytes c.in_ok-name.name in
    let old = c.none-faults.result in
    let new = c.parts_of.new.faults in
    let t = table_of n c.in_ok-parts.parts in
    let g = subst (λ (m : Name).
    Gathers (create_in defs m (written_of d) (checks_in (elements_in tree)) tree.is_versioned) old new
    (table_of m c.in_ok-parts.parts)) c.deref.ensures c.in_ok-parts.ensures in
    let all = create_in defs n (written_of d) (checks_in (elements_in tree)) tree.is_versioned in
    (can_stand defs n (written_of d) (checks_in (elements_in tree)) d.applications.items refl tree.is_versioned t
    (first_is all old new t c.none-faults.ensures g ∙ sym c.least.ensures
    ∙ ap (option_map refusal_of) c.in-None.is) g.value).definable

pub definition-requires-clause-constrained : goal.definition-requires-clause-constrained
definition-requires-clause-constrained c =
    let defs = definitions_of c.args.tables.now in
    let tree = c.args.create.now in
    let d = c.in_ok-draft.draft in
    let n = string_bytes c.in_ok-name.name in
    let old = c.none-faults.result in
    let new = c.parts_of.new.faults in
    let t = table_of n c.in_ok-parts.parts in
    let g = subst (λ (m : Name).
    Gathers (create_in defs m (written_of d) (checks_in (elements_in tree)) tree.is_versioned) old new
    (table_of m c.in_ok-parts.parts)) c.deref.ensures c.in_ok-parts.ensures in
    let all = create_in defs n (written_of d) (checks_in (elements_in tree)) tree.is_versioned in
    (can_stand defs n (written_of d) (checks_in (elements_in tree)) d.applications.items refl tree.is_versioned t
    (first_is all old new t c.none-faults.ensures g ∙ sym c.least.ensures
    ∙ ap (option_map refusal_of) c.in-None.is) g.value).constrained

pub returns-in_ok-definition-in-None : goal.returns-in_ok-definition-in-None
returns-in_ok-definition-in-None c =
    let defs = definitions_of c.args.tables.now in
    let tree = c.args.create.now in
    let d = c.in_ok-draft.draft in
    let n = string_bytes c.in_ok-name.name in
    let old = c.none-faults.result in
    let new = c.parts_of.new.faults in
    let t = table_of n c.in_ok-parts.parts in
    let g = subst (λ (m : Name).
    Gathers (create_in defs m (written_of d) (checks_in (elements_in tree)) tree.is_versioned) old new
    (table_of m c.in_ok-parts.parts)) c.deref.ensures c.in_ok-parts.ensures in
    let is : IsDraft tree n (written_of d) =
    record {
      name = c.in_ok-name.ensures;
      columns = c.in_ok-draft.ensures.columns;
      applications = c.in_ok-draft.ensures.applications;
      systems = c.in_ok-draft.ensures.systems;
      keys = c.in_ok-draft.ensures.keys;
      references = c.in_ok-draft.ensures.references;
    } in
    let whole = bind_gathered defs tree n (written_of d) old new t is g in
    let made = c.in_ok-definition-in-None in
    clean (λ x. CreateTable x) (bind defs (create_of tree)) old new made.field-0 c.none-faults.ensures
    (sym c.least.ensures ∙ ap (option_map refusal_of) c.in-None.is)
    (subst (λ (x : TableDef). Gathers (bind defs (create_of tree)) old new (CreateTable x)) (sym made.ensures) whole)

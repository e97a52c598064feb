-- A CREATE TABLE without a fault references keys of existing tables.
use Rattle.std.specs.Prelude.{◌≡◌, List, [], Bool, IsTrue, None}
use Rattle.std.specs.List.{list_all}
use Rattle.std.proofs.Common.{subst, sym}
use Rattle.tql_spec.specs.Refusal.{first}
use Rattle.tql_spec.specs.Definition.{Name, TableDef, Application, System, Key, Reference}
use Rattle.tql_spec.specs.Names.{Checked, check_each}
use Rattle.tql_spec.specs.Syntax.{Element}
use Rattle.tql_spec.specs.Creation.{application_parts, system_parts, constraints_of, application_period, system_period}
use Rattle.tql_spec.specs.Creation.{keys, references, whole_faults, create}
use Rattle.tql_catalog.specs.Tables.{can_have}
use Rattle.tql_bind_draft.specs.Drafts.{written_in, reference_parts}
use Rattle.tql_bind_table.proofs.NoFault.{nothing_first, front_none, behind_none}
use Rattle.tql_bind_table.proofs.Listings.{parents_right}
use Rattle.tql_bind_table.proofs.Creations.{references_are}

-- what a catalog requires of the references of a new table
pub parents_there : (defs : List TableDef) (n : Name) (es : List Element) (versioned : Bool)
    → first (create defs n es versioned).faults ≡ None
    → IsTrue (list_all (can_have defs) (create defs n es versioned).value.references)
parents_there defs n es versioned none =
    let cs = constraints_of es in
    let periods : Checked (List Application) = check_each (application_period es) (application_parts es) in
    let systems : Checked (List System) = check_each (system_period es) (system_parts es) in
    let ks : Checked (List Key) = keys es periods.value cs in
    let fs : Checked (List Reference) = references defs es periods.value cs in
    let empty = nothing_first (create defs n es versioned).faults none in
    let n1 = behind_none (whole_faults defs n es versioned) _ empty in
    let n2 = behind_none periods.faults _ n1 in
    let n3 = behind_none systems.faults _ n2 in
    let free = front_none fs.faults _ (behind_none ks.faults _ n3) in
    let passes : Checked (List Reference) → Type 0
    = λ c. c.faults ≡ [] → IsTrue (list_all (can_have defs) c.value) in
    subst passes (sym (references_are defs es periods.value cs))
    (parents_right defs (written_in es) periods.value (reference_parts cs)) free

use Rattle.std.specs.Prelude.{◌≡◌, ◌≤◌, ◌∷◌, None, length}
use Rattle.std.proofs.Common.{ap, subst, sym, ◌∙◌, append-nil}
use Rattle.tql_spec.specs.Creation as creation
use Rattle.tql_spec.specs.Definition.{TableDef, place_of}
use Rattle.tql_spec.specs.Refusal.{first}
use Rattle.tql_catalog.specs.Tables.{definitions_of}
use Rattle.tql_syntax_tree.specs.Expressions.{name_of}
use Rattle.tql_syntax_tree.specs.Statements.{element_of, elements_of}
use Rattle.tql_bind.proofs.Room.{room_law, free_law, narrow_law, same_table}
use Rattle.tql_bind.proofs.binder.create.Goals as goal

pub returns-in-Ok-clause-sound : goal.returns-in-Ok-clause-sound
returns-in-Ok-clause-sound c =
    let defs = definitions_of c.args.tables.now in
    let tree = c.args.create.now in
    let n = name_of tree.table in
    let elements = element_of tree.first ∷ elements_of tree.more in
    let made = creation.create defs n elements tree.is_versioned in
    let none : first made.faults ≡ None = ap first (sym (append-nil made.faults)) ∙ c.in-Ok.ensures.0 in
    record {
      free = ap (λ (d : TableDef). place_of d.name defs)
          (sym (same_table made.value c.in-Ok.definition c.in-Ok.ensures.1))
          ∙ free_law defs n elements tree.is_versioned none;
      room = room_law defs n elements tree.is_versioned none;
      narrow = subst (λ (d : TableDef). length d.columns ≤ 64)
          (same_table made.value c.in-Ok.definition c.in-Ok.ensures.1)
          (narrow_law defs n (element_of tree.first) (elements_of tree.more) tree.is_versioned c.requires.narrow);
    }

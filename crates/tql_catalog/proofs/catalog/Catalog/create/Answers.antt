use Rattle.std.proofs.Common.{rules, tests, ◌≡◌, ◌≤◌, ◌<◌, ◌∙◌, ◌++◌, [], ◌∷◌, List, string_bytes, ap, sym, subst, None}
use Rattle.std.proofs.Common.{arith, length}
use Rattle.std.proofs.lemmas.List.{length-append, length-map, with_items_is}
use Rattle.std.specs.List.{list_all}
use Rattle.std.specs.Map.{values_of}
use Rattle.std.specs.Prelude.{All}
use Rattle.std.specs.Vec.{with_items}
use Rattle.tql_spec.specs.Refusal.{first}
use Rattle.tql_catalog.specs.Referring.{HasRoom}
use Rattle.tql_catalog.specs.Sought.{lists_of}
use Rattle.tql_catalog.specs.Tables.{definitions_of, IsFree, IsCatalog, IsByName, creation_faults, can_have}
use Rattle.tql_catalog.specs.declared.catalog.Table.{Table}
use Rattle.tql_catalog.proofs.Catalogs.{one_more, no_fault_told, not_placed, put_last, tables_more, by_name_more}
use Rattle.tql_catalog.proofs.ReferringLists.{lists_after, lists_count, none_refer}
use Rattle.tql_catalog.proofs.catalog.Catalog.create.Goals as goal

-- the tables with the new one after the others
grown : (c : goal.After-deref_mut-2)
    → values_of c.insert.new.self.entries
    ≡ values_of c.self.inside.tables.entries ++ record { definition = c.args.definition; id = c.args.id } ∷ []
grown c =
    let entries = c.self.inside.tables.entries in
    let name = c.in_ok-name.name in
    let table : Table = record { definition = c.args.definition; id = c.args.id } in
    let untold : c.creation_fault.result ≡ None = search (rules, tests) in
    let none : first (creation_faults (definitions_of c.args.self.now) c.args.definition.name) ≡ None =
    no_fault_told (definitions_of c.args.self.now) c.args.definition.name c.name.result.now c.creation_fault.result
    c.name.ensures untold c.creation_fault.ensures in
    let there : first (creation_faults (definitions_of (values_of entries)) c.args.definition.name) ≡ None =
    ap (λ (ts : List Table). first (creation_faults (definitions_of ts) c.args.definition.name)) c.self.view_is
    ∙ none in
    let named : string_bytes name ≡ c.args.definition.name = search (rules, tests) in
    ap values_of (c.in_ok-insert.ensures.entries
    ∙ put_last c.self.inside.tables name table named c.self.invariant.1 there) ∙ tables_more entries name table

pub note-requires-clause-there : goal.note-requires-clause-there
note-requires-clause-there c =
    let tables = values_of c.self.inside.tables.entries in
    let table : Table = record { definition = c.args.definition; id = c.args.id } in
    let at : c.len-place.result ≡ length tables = c.len-place.ensures.len
    ∙ sym (length-map c.self.inside.tables.entries (λ e. e.1)) in
    subst (λ (ts : List Table). c.len-place.result < length ts) (sym (grown c))
    (omega (arith, at, length-append tables (table ∷ [])))

pub note-requires-clause-count : goal.note-requires-clause-count
note-requires-clause-count c =
    let tables = values_of c.self.inside.tables.entries in
    let table : Table = record { definition = c.args.definition; id = c.args.id } in
    let lists = c.reserve_each.new.lists in
    let count = sym (length-map lists (λ v. v.items)) ∙ ap length c.reserve_each.ensures.lists
    ∙ length-map c.deref_mut.result.now (λ v. v.items) ∙ c.deref_mut.ensures.len in
    let same : length c.deref_mut-2.result.now ≡ length tables =
    lists_count tables c.deref_mut-2.result.now
    (ap lists_of (c.deref_mut-2.ensures.value ∙ with_items_is c.reserve.new.self lists count)
    ∙ c.reserve_each.ensures.lists ∙ ap lists_of (c.deref_mut.ensures.value ∙ c.reserve.ensures.items)
    ∙ c.self.invariant.2) in
    subst (λ (ts : List Table). length c.deref_mut-2.result.now ≤ length ts) (sym (grown c))
    (omega (arith, same, length-append tables (table ∷ [])))

pub note-requires-clause-room : goal.note-requires-clause-room
note-requires-clause-room c =
    let lists = c.reserve_each.new.lists in
    let count = sym (length-map lists (λ v. v.items)) ∙ ap length c.reserve_each.ensures.lists
    ∙ length-map c.deref_mut.result.now (λ v. v.items) ∙ c.deref_mut.ensures.len in
    subst (All HasRoom) (sym (c.deref_mut-2.ensures.value ∙ with_items_is c.reserve.new.self lists count))
    c.in_ok-reserve_each.ensures.room

pub invariant_of-self-2 : goal.invariant_of-self-2
invariant_of-self-2 c =
    let entries = c.self.inside.tables.entries in
    let name = c.in_ok-name.name in
    let table : Table = record { definition = c.args.definition; id = c.args.id } in
    let untold : c.creation_fault.result ≡ None = search (rules, tests) in
    let none : first (creation_faults (definitions_of c.args.self.now) c.args.definition.name) ≡ None =
    no_fault_told (definitions_of c.args.self.now) c.args.definition.name c.name.result.now c.creation_fault.result
    c.name.ensures untold c.creation_fault.ensures in
    let there : first (creation_faults (definitions_of (values_of entries)) c.args.definition.name) ≡ None =
    ap (λ (ts : List Table). first (creation_faults (definitions_of ts) c.args.definition.name)) c.self.view_is
    ∙ none in
    let named : string_bytes name ≡ c.args.definition.name = search (rules, tests) in
    let new = c.in_ok-insert.ensures.entries
    ∙ put_last c.self.inside.tables name table named c.self.invariant.1 there in
    let parents = ap (λ (ts : List Table). list_all (can_have (definitions_of ts)) c.args.definition.references)
    c.self.view_is ∙ c.requires.parents in
    let lists = c.reserve_each.new.lists in
    let count = sym (length-map lists (λ v. v.items)) ∙ ap length c.reserve_each.ensures.lists
    ∙ length-map c.deref_mut.result.now (λ v. v.items) ∙ c.deref_mut.ensures.len in
    let given : c.deref_mut-2.result.now ≡ lists =
    c.deref_mut-2.ensures.value ∙ with_items_is c.reserve.new.self lists count in
    let all : length c.deref_mut-2.result.now ≡ c.reserve.new.self.len = ap length given ∙ count in
    let written : length c.note.new.lists ≡ c.reserve.new.self.len = omega (arith, c.note.auto.lists, all) in
    let at = c.len-place.ensures.len ∙ sym (length-map entries (λ e. e.1)) in
    let before = ap lists_of given
    ∙ c.reserve_each.ensures.lists ∙ ap lists_of (c.deref_mut.ensures.value ∙ c.reserve.ensures.items)
    ∙ c.self.invariant.2 in (
      subst IsCatalog (sym (ap values_of new ∙ tables_more entries name table))
          (one_more (values_of entries) c.args.definition c.args.id c.self.invariant.0 there
          (subst (IsFree c.args.id) (sym c.self.view_is) c.requires.free) parents),
      subst IsByName (sym new) (by_name_more entries name table named c.self.invariant.1),
      lists_after (values_of entries) table _ c.len-place.result c.deref_mut-2.result.now c.note.new.lists _
          c.new.result (ap values_of new ∙ tables_more entries name table) at before c.note.ensures
          (c.push_reserved.ensures.items ∙ ap (λ ls. ls ++ c.new.result ∷ [])
          (with_items_is (with_items c.reserve.new.self lists) c.note.new.lists written)) c.new.ensures.items
          (none_refer (definitions_of (values_of entries)) c.args.definition c.self.invariant.0.parents parents
          (not_placed (definitions_of (values_of entries)) c.args.definition.name there)),
    )

pub returns-clause-created : goal.returns-clause-created
returns-clause-created c =
    let entries = c.self.inside.tables.entries in
    let name = c.in_ok-name.name in
    let table : Table = record { definition = c.args.definition; id = c.args.id } in
    let untold : c.creation_fault.result ≡ None = search (rules, tests) in
    let none : first (creation_faults (definitions_of c.args.self.now) c.args.definition.name) ≡ None =
    no_fault_told (definitions_of c.args.self.now) c.args.definition.name c.name.result.now c.creation_fault.result
    c.name.ensures untold c.creation_fault.ensures in
    let there : first (creation_faults (definitions_of (values_of entries)) c.args.definition.name) ≡ None =
    ap (λ (ts : List Table). first (creation_faults (definitions_of ts) c.args.definition.name)) c.self.view_is
    ∙ none in
    let named : string_bytes name ≡ c.args.definition.name = search (rules, tests) in
    let new = c.in_ok-insert.ensures.entries
    ∙ put_last c.self.inside.tables name table named c.self.invariant.1 there in
    ap values_of new ∙ tables_more entries name table ∙ ap (λ (ts : List Table). ts ++ table ∷ []) c.self.view_is

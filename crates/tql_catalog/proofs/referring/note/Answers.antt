use Rattle.std.proofs.Common.{◌≡◌, ◌+◌, ◌<◌, ◌≤◌, ◌≢◌, ◌∙◌, ap, sym, subst, length, arith, []}
use Rattle.std.proofs.lemmas.List.{length-map, length-set, map-set, get_or-set_other}
use Rattle.indexmap.specs.IndexMap.{values}
use Rattle.tql_spec.specs.Definition.{Name, TableDef, table_at}
use Rattle.tql_catalog.specs.Referring.{noted_if, refers_to, HasRoom}
use Rattle.tql_catalog.specs.Sought.{lists_of}
use Rattle.tql_catalog.specs.Tables.{definitions_of}
use Rattle.tql_catalog.specs.declared.catalog.Table.{Table}
use Rattle.tql_catalog.proofs.Catalogs.{definition_at}
use Rattle.tql_catalog.proofs.Rests.{rest_noted, noted_step, noted_end, places_of}
use Rattle.tql_catalog.proofs.referring.note.Goals as goal

pub loop-parent-preserved : goal.loop-parent-preserved
loop-parent-preserved c =
    let tables = values c.args.tables.now in
    let defs = definitions_of tables in
    let d = table_at defs c.args.place in
    let lists = c.loop-parent.lists in
    let k = c.loop-parent.parent in
    let v = c.note_if.new.list in
    let within : k < length lists = omega arith in
    let count : length lists ≤ length tables = omega (arith, c.requires.count) in
    let there : k < length tables = omega arith in
    let new : d ≡ c.index.result.now.definition = definition_at tables c.args.place _ c.index.ensures in
    let old : table_at defs k ≡ c.index-in-loop-parent.result.now.definition =
    definition_at tables k _ c.index-in-loop-parent.ensures in
    let test : c.is_referring_to-is_referring.result ≡ refers_to (table_at defs k).name d =
    c.is_referring_to-is_referring.ensures
    ∙ ap (λ (n : Name). refers_to n c.index.result.now.definition)
    (c.name.ensures ∙ ap (λ (t : TableDef). t.name) (sym old))
    ∙ ap (refers_to (table_at defs k).name) (sym new) in (
      ap (rest_noted d c.args.place (k + 1) defs) (map-set (λ v. v.items) lists k v)
          ∙ noted_step d c.args.place k defs (lists_of lists) v.items []
          (omega (arith, within, length-map lists (λ v. v.items)))
          (omega (arith, there, length-map tables (λ (t : Table). t.definition)))
          (c.note_if.ensures ∙ (λ i. noted_if (test i) c.args.place
          (places_of lists k c.index-lists-parent.result [] within i)))
          ∙ c.loop-parent.invariant.0,
      λ j z l m. let other : j ≢ k = omega arith in
          subst HasRoom (sym (get_or-set_other lists k j v z other))
          (c.loop-parent.invariant.1 j z (omega arith) (omega (arith, m, length-set lists k v))),
    )

pub returns : goal.returns
returns c =
    let tables = values c.args.tables.now in
    let defs = definitions_of tables in
    let lists = c.loop-parent.lists in
    let past : length lists ≤ c.loop-parent.parent = omega arith in
    sym (noted_end (table_at defs c.args.place) c.args.place c.loop-parent.parent defs (lists_of lists)
    (omega (arith, past, length-map lists (λ v. v.items)))) ∙ c.loop-parent.invariant.0

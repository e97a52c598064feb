use Rattle.std.proofs.Common.{◌≡◌, ◌<◌, List, ap, sym, subst, length, ◌∙◌, false}
use Rattle.std.specs.Prelude.{remove, slice_get}
use Rattle.std.specs.Map.{values_of}
use Rattle.std.proofs.lemmas.List.{length-map, with_items_is}
use Rattle.tql_spec.specs.Binding.{is_referenced}
use Rattle.tql_spec.specs.Definition.{table_at}
use Rattle.tql_catalog.specs.Referring.{closed_up}
use Rattle.tql_catalog.specs.Sought.{lists_of}
use Rattle.tql_catalog.specs.Tables.{IsCatalog, IsByName, definitions_of}
use Rattle.tql_catalog.specs.declared.catalog.Table.{Table}
use Rattle.tql_catalog.proofs.Catalogs.{one_less, tables_less, by_name_less, value_at}
use Rattle.tql_catalog.proofs.ReferringLists.{lists_before}
use Rattle.tql_catalog.proofs.catalog.Catalog.drop_at.Goals as goal

pub invariant_of-self : goal.invariant_of-self
invariant_of-self c =
    let entries = c.self.inside.tables.entries in
    let i = c.args.place in
    let left = c.shift_remove_index.ensures.entries in
    let gone = ap values_of left ∙ tables_less entries i in
    let lists = c.close_each.new.lists in
    let count = sym (length-map lists (λ v. v.items)) ∙ ap length c.close_each.ensures
    ∙ length-map (lists_of c.deref_mut.result.now) (closed_up i)
    ∙ length-map c.deref_mut.result.now (λ v. v.items) ∙ c.deref_mut.ensures.len in
    let within : i < length (values_of entries) =
    subst (λ (ts : List Table). i < length ts) (sym c.self.view_is) c.requires in
    let free : is_referenced (table_at (definitions_of (values_of entries)) i).name (definitions_of (values_of entries))
    ≡ false =
    ap (λ (ts : List Table). is_referenced (table_at (definitions_of ts) i).name (definitions_of ts)) c.self.view_is
    ∙ sym c.is_referenced.ensures ∙ c.if-is_referenced.false in (
      subst IsCatalog (sym gone) (one_less (values_of entries) i within free c.self.invariant.0),
      subst IsByName (sym left) (by_name_less entries i c.self.invariant.1),
      lists_before (values_of entries) _ i c.self.inside.referring.items c.deref_mut.result.now _ within gone
          c.self.invariant.2 (c.deref_mut.ensures.value ∙ c.remove.ensures.items)
          (ap lists_of (with_items_is c.remove.new.self lists count) ∙ c.close_each.ensures),
    )

pub returns-clause-taken : goal.returns-clause-taken
returns-clause-taken c =
    ap (λ (ts : List Table). slice_get ts c.args.place) (sym c.self.view_is)
    ∙ value_at c.self.inside.tables.entries c.args.place c.unwrap-table.result.0 _ (cc)

pub returns-clause-others : goal.returns-clause-others
returns-clause-others c =
    ap values_of c.shift_remove_index.ensures.entries ∙ tables_less c.self.inside.tables.entries c.args.place
    ∙ ap (λ (ts : List Table). remove ts c.args.place) c.self.view_is

use Rattle.std.proofs.Common.{◌<◌, ◌∙◌, ap, sym, subst, length, List, []}
use Rattle.std.specs.Prelude.{All}
use Rattle.std.specs.Map.{values_of}
use Rattle.tql_spec.specs.Definition.{table_at}
use Rattle.tql_catalog.specs.Referring.{referring_to}
use Rattle.tql_catalog.specs.Tables.{definitions_of}
use Rattle.tql_catalog.specs.Sought.{lists_of}
use Rattle.tql_catalog.specs.declared.catalog.Table.{Table}
use Rattle.tql_catalog.proofs.ReferringLists.{list_at, lists_count, referring_within}
use Rattle.tql_catalog.proofs.Rests.{places_of}
use Rattle.tql_catalog.proofs.catalog.Catalog.referring.Goals as goal

pub returns-clause-referring : goal.returns-clause-referring
returns-clause-referring c =
    let tables = values_of c.self.inside.tables.entries in
    let lists = c.self.inside.referring.items in
    let k = c.args.place in
    let there : k < length tables = subst (λ (ts : List Table). k < length ts) (sym c.self.view_is) c.requires in
    let within : k < length lists = subst (λ n. k < n) (sym (lists_count tables lists c.self.invariant.2)) there in
    c.as_slice.ensures.value
    ∙ ap (λ v. v.items) c.index.ensures ∙ places_of lists k c.index.result.now [] within
    ∙ list_at tables k (lists_of lists) [] there c.self.invariant.2
    ∙ ap (λ (ts : List Table). referring_to (table_at (definitions_of ts) k).name (definitions_of ts)) c.self.view_is

pub returns-clause-within : goal.returns-clause-within
returns-clause-within c =
    let tables = values_of c.self.inside.tables.entries in
    let lists = c.self.inside.referring.items in
    let k = c.args.place in
    let there : k < length tables = subst (λ (ts : List Table). k < length ts) (sym c.self.view_is) c.requires in
    let within : k < length lists = subst (λ n. k < n) (sym (lists_count tables lists c.self.invariant.2)) there in
    let is = c.as_slice.ensures.value
    ∙ ap (λ v. v.items) c.index.ensures ∙ places_of lists k c.index.result.now [] within
    ∙ list_at tables k (lists_of lists) [] there c.self.invariant.2
    ∙ ap (λ (ts : List Table). referring_to (table_at (definitions_of ts) k).name (definitions_of ts)) c.self.view_is in
    subst (All (λ p. p < length c.args.self.now)) (sym is)
    (referring_within (table_at (definitions_of c.args.self.now) k).name c.args.self.now)

use Rattle.std.proofs.Common.{◌∙◌, ap}
use Rattle.tql_spec.specs.Definition.{place_of}
use Rattle.tql_spec.specs.Refusal.{first}
use Rattle.std.specs.Prelude.{unwrap_or}
use Rattle.tql_catalog.specs.Tables.{definitions_of, drop_faults}
use Rattle.tql_syntax_tree.specs.Expressions.{name_of}
use Rattle.tql_bind.proofs.Gathered.{drop_bound}
use Rattle.tql_bind.proofs.drop_table.bind_drop.Goals as goal

pub returns : goal.returns
returns c =
    let defs = definitions_of c.args.tables.now in
    let named = c.deref-2.ensures ∙ c.in_ok-name.ensures in
    let sought = c.deref.ensures ∙ c.in_ok-name.ensures in
    drop_bound defs (name_of c.args.name) c.args.faults.now c.refuse_for.new.faults _ _
    (c.unwrap_or.ensures ∙ ap (λ o. unwrap_or o 0) (c.place_of-place.ensures.place ∙ ap (λ n. place_of n defs) sought))
    (c.drop_fault.ensures ∙ ap (λ n. first (drop_faults defs n)) named) c.refuse_for.ensures

-- The sorted headings of a name have its indexes.
use Rattle.std.proofs.Common.{◌∙◌, ap, sym, map}
use Rattle.tql_spec.specs.Binding.{only_place}
use Rattle.tql_bind_query.specs.Headed.{place_in}
use Rattle.tql_bind_query.specs.declared.sorted_headings.Heading.{Heading}
use Rattle.tql_bind_query.proofs.ordering.place_of.Goals as goal

pub returns : goal.returns
returns c =
    let x : Heading = record { name = c.args.name; place = 0 } in
    ap only_place (sym (c.requires.placed (sym c.is_empty.ensures ∙ c.if-is_empty.false) x)
    ∙ sym (ap (map place_in) c.with_name-named.ensures))
    ∙ c.only_heading.ensures

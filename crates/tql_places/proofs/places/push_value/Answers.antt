use Rattle.tql_value.specs.Views.{datum_of_view}
use Rattle.tql_places.proofs.Filling.{goes_past, goes_place}
use Rattle.tql_places.proofs.places.push_value.Goals as goal

pub returns-in_default : goal.returns-in_default
returns-in_default c = goes_past c.args.text.now c.args.bytes.now.items (datum_of_view c.args.value)
    c.first_place.result c.first_place.ensures.value c.in_default.not-Some

pub returns : goal.returns
returns c = goes_place c.args.text.now c.args.bytes.now.items c.extend_from_slice.new.self.items
    c.push_spaced.new.bytes.items c.split_at.result.0.now c.split_at.result.1.now (datum_of_view c.args.value)
    c.in-Some.place c.in-Some.ensures.value c.split_at.ensures.front c.split_at.ensures.back
    c.in_ok-extend_from_slice.ensures.items c.in_ok-push_spaced.ensures

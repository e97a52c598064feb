use Rattle.std.proofs.Common.{◌∙◌, ap}
use Rattle.std.specs.Prelude.{is_some}
use Rattle.tql_bind_draft.specs.Drafts.{applications_in, names_of_periods}
use Rattle.tql_bind_draft.proofs.PeriodLaws.{has_position}
use Rattle.tql_bind_draft.proofs.names.is_period.Goals as goal

pub returns : goal.returns
returns c =
    let d = c.args.draft.now in
    c.is_some.ensures ∙ ap is_some c.place_of.ensures
    ∙ has_position d.names (names_of_periods (applications_in d)) c.requires c.args.name.now

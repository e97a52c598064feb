use Rattle.std.proofs.Common.{get_or, ap, ◌∙◌, sym, rules, to_z, of_z, w64}
use Rattle.tql_versions.specs.declared.kept.Kept.{Kept}
use Rattle.tql_versions.specs.Changes.{ended}
use Rattle.tql_versions.specs.Views.{version_of}
use Rattle.tql_versions.proofs.Steps.{closing_step}
use Rattle.tql_versions.proofs.kept.end_each.Goals as goal

pub loop-place-preserved : goal.loop-place-preserved
loop-place-preserved c =
    closing_step _ c.args.places.now c.loop-place.place-index c.loop-place.versions
    (get_or c.args.places.now c.loop-place.place-index 0) c.index-versions-place.result c.end_at.new.version _
    (search rules) (search rules) (search rules) (search rules) (c.end_at.ensures
    ∙ ap (λ (k : Kept). ended (to_z w64 (of_z w64 c.args.moment)) (version_of k)) (sym c.index-versions-place.is))
    c.loop-place.invariant

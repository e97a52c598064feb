-- The group with a number.
use Rattle.std.proofs.Common.{◌≡◌, ap, arith, length, refl, subst, sym, ◌∙◌, []}
use Rattle.std.specs.Prelude.{slice_index_or}
use Rattle.tql_spec.specs.Datum.{Row}
use Rattle.tql_exec_group.specs.Begun.{IsPart}
use Rattle.tql_exec_group.specs.Grouped.{keys_of, with_key}
use Rattle.tql_exec_group.specs.Results.{IsKeyOf}
use Rattle.tql_exec_group.proofs.Counts.{count_there}
use Rattle.tql_exec_group.proofs.Groups.{kept_key, part_folded}
use Rattle.tql_exec_group.proofs.OnGroup.{key_of_group}
use Rattle.tql_exec_group.proofs.grouping.Grouping.add_numbered.Goals as goal

pub returns : goal.returns
returns c = λ rows h below.
    let t = c.args.self.now.terms.now in
    let columns = c.args.self.now.columns.now in
    let aggregates = c.args.self.now.steps.aggregates.items in
    let n = c.args.number in
    let wide : c.len-width.result ≡ length aggregates = omega (arith, c.len-width.ensures) in
    let key : Row = slice_index_or (keys_of columns rows) n [] in
    let is = c.key_of-key.ensures ∙ ap (λ ks. slice_index_or ks n []) h.grouped.keys ∙ kept_key columns rows n below in
    c.add_group.ensures (with_key columns rows key) (slice_index_or (with_key columns rows key) 0 [])
    (c.count_of-count.ensures ∙ ap (λ cs. slice_index_or cs n 0) c.as_slice.ensures.value
    ∙ count_there columns c.args.state.now.counts.items rows n h.counted below)
    (part_folded t columns aggregates c.args.state.now rows h n c.folds_at-folds.result.now
    (subst (λ w. IsPart n w c.folds_at-folds.result.now c.args.state.now.folds.items) wide c.folds_at-folds.ensures)
    below)
    (subst (λ k. IsKeyOf columns k (slice_index_or (with_key columns rows key) 0 [])) (sym is)
    (key_of_group columns rows n key below refl))

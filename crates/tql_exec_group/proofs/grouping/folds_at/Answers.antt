-- The part with a number.
use Rattle.std.proofs.Common.{◌≡◌, ◌+◌, ◌-◌, ◌≤◌, ◌∙◌, ap, arith, length, refl}
use Rattle.tql_exec_group.proofs.Parts.{part_within, read_part}
use Rattle.tql_exec_group.proofs.grouping.folds_at.Goals as goal

pub returns-then-folds-end : goal.returns-then-folds-end
returns-then-folds-end c = λ before same after flat from long.
    let all = c.as_slice-folds.ensures.value ∙ flat in
    let within : length before + c.args.width ≤ length c.as_slice-folds.result.now =
    part_within before same after c.as_slice-folds.result.now (length before) c.args.width all refl long in
    absurd (omega (arith, within, from))

pub returns : goal.returns
returns c = λ before same after flat from long.
    let all = c.as_slice-folds.ensures.value ∙ flat in
    let within : length before + c.args.width ≤ length c.as_slice-folds.result.now =
    part_within before same after c.as_slice-folds.result.now (length before) c.args.width all refl long in
    let size : length c.as_slice-folds.result.now ≡ length c.args.state.now.folds.items =
    ap length c.as_slice-folds.ensures.value in
    let at : length before ≡ c.saturating_mul-start.result = omega (arith, within, from, size) in
    let many : length same ≡ c.saturating_add-end.result - c.saturating_mul-start.result =
    omega (arith, within, from, size, long, at) in
    read_part before same after c.as_slice-folds.result.now c.saturating_mul-start.result
    (c.saturating_add-end.result - c.saturating_mul-start.result) all at many

use Rattle.std.proofs.Common.{rules, arith, ap, sym, ◌∙◌, ◌≡◌, [], List, map, drop}
use Rattle.std.specs.Prelude.{not, Option, option_map}
use Rattle.std.proofs.lemmas.Grind.{common_steps}
use Rattle.tql_spec.specs.Binding.{cells_misfit}
use Rattle.tql_value.specs.Views.{plain_kind}
use Rattle.tql_value.specs.declared.value.Kind.{Kind}
use Rattle.tql_bind_change.proofs.TupleLaws.{none_left, none_for}
use Rattle.tql_bind_change.proofs.tuples.cells_misfit.Goals as goal

pub returns : goal.returns
returns c =
    let left = c.loop-cell.left.now in
    let done : drop c.loop-cell.cell-index c.args.cells.now ≡ [] =
    first_of (search rules, grind (arith, common_steps)) in
    ap not c.is_empty.ensures ∙ sym (none_left left)
    ∙ sym (ap (λ (cs : List (Option Kind)). cells_misfit (map plain_kind left) (map (option_map plain_kind) cs))
    done) ∙ c.loop-cell.invariant

pub returns-in-empty : goal.returns-in-empty
returns-in-empty c = none_for c.loop-cell.left.now c.args.cells.now c.loop-cell.cell-index c.in-empty.len_below
    c.loop-cell-test.true ∙ c.loop-cell.invariant

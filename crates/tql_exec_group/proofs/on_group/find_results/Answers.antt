-- One more result.
use Rattle.std.proofs.Common.{◌<◌, ◌+◌, ap, length, subst, sym, ◌∙◌}
use Rattle.std.proofs.lemmas.List.{length_push}
use Rattle.tql_value.specs.Views.{row_of}
use Rattle.tql_exec_group.specs.Results.{AreResults}
use Rattle.tql_exec_group.specs.declared.on_group.Found.{Found}
use Rattle.tql_exec_group.proofs.OnGroup.{next_count, next_few, next_result}
use Rattle.tql_exec_group.proofs.on_group.find_results.Goals as goal

pub loop-node-preserved : goal.loop-node-preserved
loop-node-preserved c =
    let t = c.args.terms.now in
    let s = c.args.steps.now in
    let i = c.loop-node.node-index in
    let next = c.loop-node.next in
    let xs = c.deref-node-items.result.now in
    let nodes = c.deref-node-items.ensures.value in
    let found = c.loop-node.found.items in
    let given = c.as_slice.result.now in
    let slice = c.as_slice.ensures.value in
    let size = c.loop-node.invariant.size in
    let inside : i < length s.nodes.items =
    subst (λ ns. i < length ns) nodes c.loop-node-test.true in
    let one : Found = record { value = c.value_on.result; truth = c.truth_of.result } in
    let counted = c.loop-node.invariant.next in
    record {
      size = ap length c.in_ok-push.ensures.items ∙ length_push found one ∙ ap (λ n. n + 1) size;
      few = next_few t s i next xs _ found given c.requires nodes slice size inside counted c.after-next.result
          c.after-next.ensures c.loop-node.invariant.few;
      next = next_count t s i next xs _ found given c.requires nodes slice size inside counted c.after-next.result
          c.after-next.ensures;
      results = λ rows row n h k.
          subst (AreResults t c.args.group.columns.now rows row s.from) (sym c.in_ok-push.ensures.items)
          (next_result t s i next xs _ found given c.requires nodes slice size inside counted c.args.group.columns.now
          (row_of c.args.group.key.now) c.args.group.count c.args.group.folds.now one c.value_on.ensures.plain
          c.value_on.ensures.told c.truth_of.ensures rows row n h k (c.loop-node.invariant.results rows row n h k));
    }

-- One more accumulator of no rows.
use Rattle.std.proofs.Common.{◌<◌, ◌∙◌, ◌∷◌, ◌++◌, [], ap, arith, length, refl, subst, sym}
use Rattle.std.proofs.lemmas.List.{append-nil, append_assoc, take_all}
use Rattle.tql_exec_group.specs.Begun.{Begins}
use Rattle.tql_exec_fold.specs.Folded.{HasFolded}
use Rattle.tql_exec_group.proofs.Turns.{one_begun}
use Rattle.tql_exec_group.proofs.grouping.begin_group.Goals as goal

pub loop-which-init : goal.loop-which-init
loop-which-init c = ([], sym (append-nil c.args.folds.now.items), λ t. tt)

pub loop-which-preserved : goal.loop-which-preserved
loop-which-preserved c =
    let ws = c.args.aggregates.now in
    let i = c.loop-which._which-index in
    let inside : i < length ws = omega arith in
    let so_far = c.loop-which.invariant in
    let one = c.new.result in (
      so_far.0 ++ one ∷ [],
      c.in_ok-push.ensures.items ∙ ap (λ xs. xs ++ one ∷ []) so_far.1
          ∙ append_assoc c.args.folds.now.items so_far.0 (one ∷ []),
      λ t. one_begun (λ w a. HasFolded t w a []) i ws so_far.0 (so_far.0 ++ one ∷ []) one inside
          (λ w. c.new.ensures t w) refl (so_far.2 t),
    )

pub returns : goal.returns
returns c =
    subst (λ ws. Begins ws c.args.folds.now.items c.loop-which.folds.items)
    (take_all c.loop-which._which-index c.args.aggregates.now (omega arith)) c.loop-which.invariant

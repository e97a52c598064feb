-- The better of the best value so far and one more, and the sum with one more.
use mir.Val.{SFits}
use Rattle.std.specs.Prelude.{◌≡◌, ◌+◌, Some, true, false}
use Rattle.std.proofs.Common.{sym, ap, rules, subst, ◌∙◌}
use Rattle.std.specs.Int.{w128}
use Rattle.std.proofs.Math.Facts.{to_z-of_z}
use Rattle.tql_value.specs.Views.{datum_of_value, datum_of_view}
use Rattle.tql_spec.specs.Expression.{present}
use Rattle.tql_exec_fold.specs.Folds.{added, sum_behind, sum_of, IsWithin}
use Rattle.tql_exec_fold.proofs.Accumulators.{none_summed, one_kept, one_summed}
use Rattle.tql_exec_fold.proofs.fold.Accumulator.add.Goals as goal

pub returns-in_ok-keep_better-in-Min-clause-folds : goal.returns-in_ok-keep_better-in-Min-clause-folds
returns-in_ok-keep_better-in-Min-clause-folds c = λ vs.
    rw c.in-Min.is (one_kept false (datum_of_value c.args.self.now.best) (datum_of_value c.keep_better.new.best)
    (datum_of_view c.args.value) c.in_ok-keep_better-in-Min.ensures vs)

pub returns-in_ok-keep_better-in-Max-clause-folds : goal.returns-in_ok-keep_better-in-Max-clause-folds
returns-in_ok-keep_better-in-Max-clause-folds c = λ vs.
    rw c.in-Max.is (one_kept true (datum_of_value c.args.self.now.best) (datum_of_value c.keep_better-in-Max.new.best)
    (datum_of_view c.args.value) c.in_ok-keep_better-in-Max.ensures vs)

pub invariant_of-self-in-Sum-clause-within : goal.invariant_of-self-in-Sum-clause-within
invariant_of-self-in-Sum-clause-within c =
    let old = c.args.self.now in
    let next = c.with_value-self.result in
    let fits : SFits w128 next = search rules in
    let fitted : SFits w128 old.sum = search rules in
    subst (λ z. IsWithin (old.rows + 1) (Some z)) (sym (to_z-of_z fits))
    (c.with_value-self.ensures.within old.rows
    (subst (λ z. IsWithin old.rows (Some z)) (sym (to_z-of_z fitted)) old.within))

pub invariant_of-self-in-Sum-clause-none : goal.invariant_of-self-in-Sum-clause-none
invariant_of-self-in-Sum-clause-none c = λ zeros.
    let old = c.args.self.now in
    let next = c.with_value-self.result in
    let fits : SFits w128 next = search rules in
    let fitted : SFits w128 old.sum = search rules in
    let is : Some next ≡ added (Some old.sum) (datum_of_view c.args.value) =
    c.with_value-self.ensures.is ∙ ap (λ z. added (Some z) (datum_of_view c.args.value)) (to_z-of_z fitted) in
    to_z-of_z fits
    ∙ none_summed old.values c.with_count-self-in-Sum.result old.sum next (datum_of_view c.args.value) old.none
    c.with_count-self-in-Sum.ensures is zeros

pub returns-in-Sum-clause-folds : goal.returns-in-Sum-clause-folds
returns-in-Sum-clause-folds c = λ vs.
    let old = c.args.self.now in
    let next = c.with_value-self.result in
    let fits : SFits w128 next = search rules in
    let fitted : SFits w128 old.sum = search rules in
    let is : Some next ≡ added (Some old.sum) (datum_of_view c.args.value) =
    c.with_value-self.ensures.is ∙ ap (λ z. added (Some z) (datum_of_view c.args.value)) (to_z-of_z fitted) in
    rw c.in-Sum.is (ap (λ z. sum_behind (sum_of c.with_count-self-in-Sum.result z) (present vs)) (to_z-of_z fits)
    ∙ one_summed old.values c.with_count-self-in-Sum.result old.sum next (datum_of_view c.args.value) old.none
    c.with_count-self-in-Sum.ensures is vs)

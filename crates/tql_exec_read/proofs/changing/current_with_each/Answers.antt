-- One more value is looked up, and in the end all of them.
use Rattle.std.proofs.Common.{false, map, subst, sym, take}
use Rattle.std.proofs.lemmas.List.{take_all}
use Rattle.tql_value.specs.Views.{datum_of_view}
use Rattle.tql_value.specs.declared.value.View.TheVariants as view
use Rattle.tql_value.specs.declared.when.When.TheVariants.{Now}
use Rattle.tql_store.specs.Views.{IsFound}
use Rattle.tql_plan_access.specs.Alternatives.{has_any}
use Rattle.tql_exec_read.proofs.FoundAny.{any_here, apart_here, found_none}
use Rattle.tql_exec_read.proofs.changing.current_with_each.Goals as goal

pub loop-value-init : goal.loop-value-init
loop-value-init g c =
    subst (IsFound c.args.store.now c.args.table Now (λ row. false)) (sym c.new-found.ensures.items)
    (found_none c.args.store.now c.args.table Now)

pub loop-value-preserved : goal.loop-value-preserved
loop-value-preserved g c =
    let values = c.args.values.now in
    let i = c.loop-value.value-index in
    subst (λ looks. IsFound c.args.store.now c.args.table Now looks c.add_current_at.new.found.items)
    (any_here c.args.column datum_of_view values i view.Null c.loop-value-test.true)
    (c.in_ok-add_current_at.ensures (has_any c.args.column (map datum_of_view (take i values)))
    c.loop-value.invariant
    (apart_here c.args.column datum_of_view values i view.Null c.loop-value-test.true c.requires.distinct))

pub returns : goal.returns
returns g c =
    let values = c.args.values.now in
    subst (λ vs. IsFound c.args.store.now c.args.table Now (has_any c.args.column (map datum_of_view vs))
    c.loop-value.found.items)
    (take_all c.loop-value.value-index values c.loop-value-test.false) c.loop-value.invariant

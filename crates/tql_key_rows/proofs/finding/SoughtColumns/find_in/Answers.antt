use Rattle.std.proofs.Common.{◌≡◌, rules, tests, sym, ap, subst, ◌∙◌, map, List, ℕ, [], true}
use Rattle.std.specs.Prelude.{Some, None, option_map}
use Rattle.std.proofs.lemmas.Result.{IfOk-weaker}
use Rattle.tql_spec.specs.Bag.{SameBag}
use Rattle.tql_spec.specs.Definition.{Stamped, period_between}
use Rattle.tql_spec.specs.Period.{share_a_point}
use Rattle.tql_period.specs.Points.{points_of}
use Rattle.tql_store_index.specs.Tuple.{is_at}
use Rattle.tql_value.specs.Views.{datum_of_view}
use Rattle.tql_catalog.specs.Rows.{AreStoredAt}
use Rattle.tql_catalog.specs.Sought.{IsPeriodStoredAt}
use Rattle.std.specs.Prelude.{◌&&◌}
use Rattle.tql_spec.proofs.Bags.{same-refl}
use Rattle.tql_key_rows.specs.Asked.{row_found}
use Rattle.tql_key_rows.proofs.FoundRows.{names_are_found}
use Rattle.tql_key_rows.proofs.FoundIn.{none_in_falling, none_in_timeless, rows_in_are_found}
use Rattle.tql_key_rows.proofs.finding.SoughtColumns.find_in.Goals as goal

pub returns-in_default-clause-rows : goal.returns-in_default-clause-rows
returns-in_default-clause-rows g c x rows e of =
    let d = c.args.self.now.table.now.definition in
    let by : c.args.by_period ≡ true = search (rules, tests) in
    let none : c.new.result.items ≡ [] = c.new.ensures.items in
    let timed : IsPeriodStoredAt d d.application None = c.in_default.ensures in
    subst (λ (rs : List Stamped). SameBag (map row_found c.new.result.items) rs)
    (none_in_timeless d c.args.self.now.columns.now (map datum_of_view c.args.tuple.now) c.args.by_period x rows by
    timed)
    (subst (λ vs. SameBag (map row_found vs) []) (sym none) (same-refl []))

pub returns-in_default-period-clause-rows : goal.returns-in_default-period-clause-rows
returns-in_default-period-clause-rows g c x rows e of =
    let d = c.args.self.now.table.now.definition in
    let by : c.args.by_period ≡ true = search (rules, tests) in
    let none : c.new-in_default-period.result.items ≡ [] = c.new-in_default-period.ensures.items in
    let is : c.args.period ≡ None = search (rules, tests) in
    subst (λ (rs : List Stamped). SameBag (map row_found c.new-in_default-period.result.items) rs)
    (none_in_falling d c.args.self.now.columns.now (map datum_of_view c.args.tuple.now) c.args.by_period x rows by
    (sym (ap (option_map points_of) is) ∙ e))
    (subst (λ vs. SameBag (map row_found vs) []) (sym none) (same-refl []))

pub returns-clause-rows : goal.returns-clause-rows
returns-clause-rows g c =
    let table = c.args.self.now.table.now in
    let columns = c.args.self.now.columns.now in
    let stored = subst (λ (ks : List ℕ). AreStoredAt table.definition columns ks) (sym c.deref.ensures.value)
    c.args.self.now.right in
    let by : c.args.by_period ≡ true = search (rules, tests) in
    let is_some : c.args.period ≡ Some c.in-Some-period.period = search (rules, tests) in
    IfOk-weaker c.with_key_in.result _ _ (λ found is x rows e of.
    rows_in_are_found c.args.store.now table columns c.deref.result.now (map datum_of_view c.args.tuple.now)
    c.in-Some.ends x (points_of c.in-Some-period.period) c.args.by_period found.items stored c.in-Some.ensures
    (sym (ap (option_map points_of) is_some) ∙ e) by is rows of) c.with_key_in.ensures

pub returns-clause-ids : goal.returns-clause-ids
returns-clause-ids g c =
    IfOk-weaker c.with_key_in.result _ _ (λ found is.
    names_are_found c.args.store.now c.args.self.now.table.now.id
    (λ row. is_at c.deref.result.now (map datum_of_view c.args.tuple.now) row
    && share_a_point (period_between row c.in-Some.ends.0 c.in-Some.ends.1) (points_of c.in-Some-period.period))
    found.items is) c.with_key_in.ensures

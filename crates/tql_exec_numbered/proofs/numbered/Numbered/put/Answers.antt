-- The row is among the rows, or behind them.
use Rattle.std.proofs.Common.{◌≡◌, ◌≢◌, ℕ, List, subst, sym, ◌∙◌}
use Rattle.std.specs.Prelude.{Some, slice_get}
use Rattle.std.proofs.lemmas.Result.{on_ok_weaker}
use Rattle.tql_spec.specs.Datum.{Row}
use Rattle.tql_exec_numbered.specs.Numbered.{seen}
use Rattle.tql_exec_numbered.specs.Runs.{numbers_in}
use Rattle.tql_exec_numbered.specs.Slots.{AreFiled}
use Rattle.tql_exec_numbered.proofs.Known.{found_known, not_found_new, row_known, row_new}
use Rattle.tql_exec_numbered.proofs.numbered.Numbered.put.Goals as goal

pub returns-in-Some-clause-rows : goal.returns-in-Some-clause-rows
returns-in-Some-clause-rows c =
    let rows = c.args.self.now in
    let r : Row = seen c.args.row.now in
    let got : slice_get rows c.in-Some.number ≡ Some r =
    subst (λ (rs : List Row). slice_get rs c.in-Some.number ≡ Some r) c.self.view_is c.in-Some.ensures.some in
    sym (row_known rows r (found_known rows r c.in-Some.number got))

pub returns-in-None-clause-rows : goal.returns-in-None-clause-rows
returns-in-None-clause-rows c =
    let rows = c.args.self.now in
    let r : Row = seen c.args.row.now in
    let none : (n : ℕ) → slice_get rows n ≢ Some r =
    subst (λ (rs : List Row). (n : ℕ) → slice_get rs n ≢ Some r) c.self.view_is c.in-None.ensures.none in
    on_ok_weaker c.add.result (λ e. e ∙ sym (row_new rows r (not_found_new rows r none))) c.add.ensures.rows

pub number_of-number-requires-clause-filed : goal.number_of-number-requires-clause-filed
number_of-number-requires-clause-filed c =
    let rows = c.self.inside.rows in
    let slots = c.self.inside.slots.items in
    subst (λ xs. AreFiled rows xs (numbers_in c.as_slice-2.result.now)) (sym c.as_slice.ensures.value)
    (subst (λ rs. AreFiled rows slots (numbers_in rs)) (sym c.as_slice-2.ensures.value) c.self.invariant)

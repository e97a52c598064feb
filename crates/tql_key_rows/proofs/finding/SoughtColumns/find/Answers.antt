use Rattle.std.proofs.Common.{sym, subst, map, List, ℕ}
use Rattle.std.proofs.lemmas.Result.{IfOk-weaker}
use Rattle.tql_store_index.specs.Tuple.{is_at}
use Rattle.tql_value.specs.Views.{datum_of_view}
use Rattle.tql_catalog.specs.Rows.{AreStoredAt}
use Rattle.tql_key_rows.proofs.FoundRows.{rows_are_found, names_are_found}
use Rattle.tql_key_rows.proofs.finding.SoughtColumns.find.Goals as goal

pub returns-clause-rows : goal.returns-clause-rows
returns-clause-rows g c =
    let table = c.args.self.now.table.now in
    let columns = c.args.self.now.columns.now in
    let stored = subst (λ (ks : List ℕ). AreStoredAt table.definition columns ks) (sym c.deref.ensures.value)
    c.args.self.now.right in
    IfOk-weaker c.with_key.result _ _ (λ found is rows of.
    rows_are_found c.args.store.now table columns c.deref.result.now (map datum_of_view c.args.tuple.now) found.items
    stored is rows of) c.with_key.ensures

pub returns-clause-ids : goal.returns-clause-ids
returns-clause-ids g c =
    IfOk-weaker c.with_key.result _ _ (λ found is.
    names_are_found c.args.store.now c.args.self.now.table.now.id
    (is_at c.deref.result.now (map datum_of_view c.args.tuple.now)) found.items is) c.with_key.ensures

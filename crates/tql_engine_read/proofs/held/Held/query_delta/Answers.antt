use Rattle.std.proofs.Common.{◌∙◌, sym, subst, List, [], Some}
use Rattle.tql_spec.specs.Datum.{Row}
use Rattle.tql_spec.specs.Machine.{State}
use Rattle.tql_bound.specs.declared.change.QueryInsertion.{QueryInsertion}
use Rattle.tql_catalog.specs.declared.catalog.Table.{Table}
use Rattle.tql_dml.specs.Alters.{Alters, added_rows}
use Rattle.tql_engine_state.specs.Adding.{Adds}
use Rattle.tql_engine_state.specs.Stands.{StandsFor}
use Rattle.tql_engine_state.proofs.Asked.{fits_now}
use Rattle.tql_engine_state.proofs.Printing.{answer_prints, rows_print}
use Rattle.tql_engine_state.proofs.QueryInserting.{adds_of, not_answered}
use Rattle.tql_engine_state.proofs.Standing.{place_law, some_is}
use Rattle.tql_engine_read.proofs.held.Held.query_delta.Goals as goal

pub table_at-table-requires : goal.table_at-table-requires
table_at-table-requires g c = place_law c.args.self.now.tables c.args.insertion.now.table c.requires.within

pub insert_rows-requires : goal.insert_rows-requires
insert_rows-requires g c =
    let s : State = c.self.invariant.state in
    let x = c.args.insertion.now.query in
    let stands = subst (λ h. StandsFor h s) c.self.view_is c.self.invariant.stands in
    rows_print _ c.in-Ok.rows.items
    (answer_prints c.args.self.now.tables s x (fits_now c.args.self.now s stands) c.requires.placed)
    (c.in-Ok.ensures s stands)

pub returns : goal.returns
returns g c s q st there =
    let x : QueryInsertion = c.args.insertion.now in
    let p : Table = c.table_at-table.result.now in
    let rows : List Row = c.in-Ok.rows.items in
    let alters = subst (λ js. Alters p.id [] (λ m. (added_rows p.definition js (Some rows) m).rows)
    (added_rows p.definition js (Some rows)) c.insert_rows.result) c.deref.ensures.value
    c.insert_rows.ensures.alters in
    subst (λ (t : Table). Adds s t x c.insert_rows.result) (some_is p q (sym c.table_at-table.ensures ∙ there))
    (adds_of s p x rows c.insert_rows.result (c.in-Ok.ensures s st) alters c.insert_rows.ensures.fits)

pub returns-in-Err : goal.returns-in-Err
returns-in-Err g c s q st there = not_answered s q c.args.insertion.now c.in-Err.refusal (c.in-Err.ensures s st)

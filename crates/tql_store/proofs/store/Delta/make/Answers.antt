use Rattle.std.proofs.Common.{slice_index_or, sym, ap, ◌∙◌}
use Rattle.std.proofs.Math.Facts.{to_z-of_z}
use Rattle.tql_store_rows.specs.TableModel.{versions}
use Rattle.tql_store.proofs.Making.{on_err, kept-versions, kept-rest, ok-versions, ok-judged, noted-at}
use Rattle.tql_store.proofs.Numbers.{element-at}
use Rattle.tql_store.proofs.Turning.{turned}
use Rattle.tql_store.proofs.store.Delta.make.Goals as goal

pub returns-in_err-apply-clause-turned : goal.returns-in_err-apply-clause-turned
returns-in_err-apply-clause-turned g c =
    let at = c.from-number.ensures ∙ c.number.ensures.value in
    turned c.args.moment _ c.args.self.table c.from-number.result c.args.rows.now
    (slice_index_or c.args.rows.now c.from-number.result c.index-rows-number.result) c.apply.new.self
    (to_z-of_z c.ranges.moment) at c.requires.within
    (sym c.index-rows-number.is
    ∙ element-at c.args.rows.now c.from-number.result c.args.self.table c.index-rows-number.result
    c.index-rows-number.is at c.requires.within) c.apply.ensures.turn c.apply.ensures.since c.apply.ensures.keeps

pub returns-in_err-apply-clause-err : goal.returns-in_err-apply-clause-err
returns-in_err-apply-clause-err g c =
    let at = c.from-number.ensures ∙ c.number.ensures.value in
    on_err c.from_residual-in_err-apply.result
    (kept-versions c.from-number.result c.args.self.table c.args.rows.now
    (slice_index_or c.args.rows.now c.from-number.result c.index-rows-number.result) c.apply.new.self at
    (sym c.index-rows-number.is
    ∙ element-at c.args.rows.now c.from-number.result c.args.self.table c.index-rows-number.result
    c.index-rows-number.is at c.requires.within) (ap versions c.in_err-apply.ensures.err))

pub returns-in_err-apply-clause-err_rest : goal.returns-in_err-apply-clause-err_rest
returns-in_err-apply-clause-err_rest g c =
    let at = c.from-number.ensures ∙ c.number.ensures.value in
    on_err c.from_residual-in_err-apply.result
    (kept-rest _ c.from-number.result c.args.self.table c.args.rows.now
    (slice_index_or c.args.rows.now c.from-number.result c.index-rows-number.result) c.apply.new.self at
    c.requires.within
    (sym c.index-rows-number.is
    ∙ element-at c.args.rows.now c.from-number.result c.args.self.table c.index-rows-number.result
    c.index-rows-number.is at c.requires.within) c.apply.ensures.turn c.in_err-apply.ensures.err)

pub returns-clause-turned : goal.returns-clause-turned
returns-clause-turned g c =
    let at = c.from-number.ensures ∙ c.number.ensures.value in
    turned c.args.moment _ c.args.self.table c.from-number.result c.args.rows.now
    (slice_index_or c.args.rows.now c.from-number.result c.index-rows-number.result) c.apply.new.self
    (to_z-of_z c.ranges.moment) at c.requires.within
    (sym c.index-rows-number.is
    ∙ element-at c.args.rows.now c.from-number.result c.args.self.table c.index-rows-number.result
    c.index-rows-number.is at c.requires.within) c.apply.ensures.turn c.apply.ensures.since c.apply.ensures.keeps

pub returns-clause-noted : goal.returns-clause-noted
returns-clause-noted g c =
    noted-at c.from-number.result c.args.self.table c.reserve.new.self.items c.args.touched.now.items
    c.note.new.touched.items (c.from-number.ensures ∙ c.number.ensures.value) c.reserve.ensures.items c.note.ensures

pub returns-clause-versions : goal.returns-clause-versions
returns-clause-versions g c =
    let at = c.from-number.ensures ∙ c.number.ensures.value in
    ok-versions c.args.self.added.items c.args.moment _
    c.from-number.result c.args.self.table c.args.rows.now
    (slice_index_or c.args.rows.now c.from-number.result c.index-rows-number.result) c.apply.new.self
    c.args.self.removed.items c.deref.result.now
    (to_z-of_z c.ranges.moment) at c.requires.within
    (sym c.index-rows-number.is
    ∙ element-at c.args.rows.now c.from-number.result c.args.self.table c.index-rows-number.result
    c.index-rows-number.is at c.requires.within) c.deref.ensures.value c.in_ok-apply.ensures.versions

pub returns-clause-judged : goal.returns-clause-judged
returns-clause-judged g c =
    let at = c.from-number.ensures ∙ c.number.ensures.value in
    ok-judged c.args.self.added.items c.args.moment _
    c.from-number.result c.args.self.table c.args.rows.now
    (slice_index_or c.args.rows.now c.from-number.result c.index-rows-number.result) c.apply.new.self
    c.args.self.removed.items c.deref.result.now
    (to_z-of_z c.ranges.moment) at c.requires.within
    (sym c.index-rows-number.is
    ∙ element-at c.args.rows.now c.from-number.result c.args.self.table c.index-rows-number.result
    c.index-rows-number.is at c.requires.within) c.deref.ensures.value c.in_ok-apply.ensures.judged

-- The rows of the versions read that pass, over bags.
use Rattle.std.proofs.Common.{List, filter, map, subst}
use Rattle.tql_spec.specs.Bag.{SameBag}
use Rattle.tql_spec.specs.Definition.{Version}
use Rattle.tql_spec.specs.Query.{keep}
use Rattle.tql_spec.proofs.Bags.{same-map}
use Rattle.tql_expr.specs.Generated.{generated}
use Rattle.tql_expr.specs.Meaning.{cond}
use Rattle.tql_store_index.specs.Basis.{is_looked_at}
use Rattle.tql_versions.specs.Readings.{open_ones, version_shown as version_of}
use Rattle.tql_versions.specs.Views.{versions_of}
use Rattle.tql_exec_pairs.proofs.Regiven.{regiven, given, kept_same}
use Rattle.tql_plan.specs.Nodes.{Scan, source_of}
use Rattle.tql_exec_read.specs.Found.{bags_in, completed}
use Rattle.tql_exec_read.proofs.Looked.{looked_same, versions_for}
use Rattle.tql_exec_read.proofs.reading.read_where.Goals as goal

pub returns : goal.returns
returns g c copies working r wide =
    let conds = map (cond c.args.terms.now) c.args.filter.now in
    let s : Scan = source_of c.args.source in
    let found : List Version = map version_of c.in_ok-versions.versions.items in
    let rows = map (completed (generated c.args.source.system)) found in
    let all = bags_in c.args.snapshot.now copies working s in
    regiven (λ v. v.items) (keep conds rows) (keep conds all) c.passing_rows.result
    (looked_same c.joins_keep_no_order.ensures c.safe_part_decides.ensures.enough c.args.snapshot.now copies
    working s
    conds c.args.access.now c.requires.served wide found
    (subst (λ o. SameBag found (filter (λ (v : Version). is_looked_at o v.row.cells)
    (versions_for c.args.snapshot.now copies working s)))
    c.sought-sought.ensures (c.in_ok-versions.ensures.copies c.requires.readable.within copies working r)))
    (given (λ v. v.items) (keep conds rows) c.passing_rows.result
    (rw c.deref.ensures.value at c.passing_rows.ensures))

-- the same for all current rows
pub returns-then-are_read : goal.returns-then-are_read
returns-then-are_read g c copies working r wide =
    let conds = map (cond c.args.terms.now) c.args.filter.now in
    let rows = map (completed (generated c.args.source.system)) (open_ones (versions_of c.in-Some.versions.now)) in
    let all = bags_in c.args.snapshot.now copies working (source_of c.args.source) in
    regiven (λ v. v.items) (keep conds rows) (keep conds all) c.passing_open.result
    (kept_same c.joins_keep_no_order.ensures conds rows all
    (same-map (completed (generated c.args.source.system)) (c.in-Some.ensures copies working r)))
    (given (λ v. v.items) (keep conds rows) c.passing_open.result c.passing_open.ensures)

use Rattle.std.proofs.Common.{sym, ap, subst, ◌∙◌, List, ℕ, Option, Some}
use Rattle.tql_expr.specs.Shown.{shown_by}
use Rattle.tql_expr.specs.Evaluated.{Evaluated}
use Rattle.tql_dml.specs.Alters.{portion_in, work_in}
use Rattle.tql_dml.specs.Cutting.{left_cells}
use Rattle.tql_dml.specs.Parts.{Parts, parts_in, with_rows}
use Rattle.tql_dml.proofs.Touching.{touch_is}
use Rattle.tql_dml.proofs.modification.touch.Goals as goal

pub returns : goal.returns
returns c =
    let d = c.args.definition.now in
    let x = c.args.modification.now in
    let row = shown_by c.args.row.now in
    let p : Parts = parts_in c.args.changed.now in
    let q : Parts = parts_in c.add_left.new.changed in
    let s : Parts = parts_in c.add_made.new.changed in
    let first = ap (λ (ids : List ℕ). with_rows (record { gone = ids; come = p.come })
    (Some (left_cells d row c.args.cut.before))) (sym c.in_ok-push.ensures.items)
    ∙ c.in_ok-add_left.ensures in
    subst (λ (o : Option Parts). Evaluated {A = Unit {0}} (λ u. parts_in c.add_left-2.new.changed) o
    c.add_left-2.result)
    (touch_is d (portion_in x) (work_in x) c.args.id row c.args.cut c.requires p q s first c.in_ok-add_made.ensures)
    c.add_left-2.ensures

-- One group after another.
use Rattle.std.proofs.Common.{◌+◌, ◌<◌, ◌≤◌, [], ◌∷◌, arith, drop, length, map, rules}
use Rattle.std.specs.Prelude.{Some}
use Rattle.tql_spec.specs.Query.{scopes}
use Rattle.tql_spec.specs.QueryLaws.{shown}
use Rattle.tql_expr.proofs.Evaluations.{fails_with}
use Rattle.tql_expr.specs.Evaluated.{Fails, behind}
use Rattle.tql_expr.specs.Meaning.{cond, expr}
use Rattle.tql_value.specs.Views.{rows_of}
use Rattle.tql_exec_group.specs.Grouped.{keys_of, scope_at}
use Rattle.tql_exec_group.proofs.Groups.{all_shown, scopes_from, scopes_long}
use Rattle.tql_exec_group.proofs.Scopes.{one_more_shown, one_not_shown}
use Rattle.tql_exec_group.proofs.grouping.Grouping.told.Goals as goal

pub returns-in_err-add_numbered : goal.returns-in_err-add_numbered
returns-in_err-add_numbered c = λ rows h.
    let t = c.args.self.now.terms.now in
    let columns = c.args.self.now.columns.now in
    let conds = map (cond t) c.args.self.now.having.now in
    let exprs = map (expr t) c.args.self.now.items.now in
    let n = c.loop-number.number in
    let below : n < length (keys_of columns rows) =
    omega (arith, c.loop-number-test.true, c.count-groups.ensures rows h.grouped.keys) in
    let ss = scopes (Some columns) rows in
    let s = scope_at columns rows n in
    let done = rows_of c.loop-number.made.items in
    let all = shown conds exprs ss in
    let fails : Fails all c.in_err-add_numbered.field-0.0 =
    fails_with (behind done (shown conds exprs (s ∷ []))) all _
    (one_not_shown conds exprs s (drop (n + 1) ss) (drop n ss) done all (scopes_from columns rows n below)
    (c.loop-number.invariant rows h))
    (c.in_err-add_numbered.ensures rows h below) in
    search rules

pub loop-number-preserved : goal.loop-number-preserved
loop-number-preserved c = λ rows h.
    let t = c.args.self.now.terms.now in
    let columns = c.args.self.now.columns.now in
    let conds = map (cond t) c.args.self.now.having.now in
    let exprs = map (expr t) c.args.self.now.items.now in
    let n = c.loop-number.number in
    let below : n < length (keys_of columns rows) =
    omega (arith, c.loop-number-test.true, c.count-groups.ensures rows h.grouped.keys) in
    let ss = scopes (Some columns) rows in
    one_more_shown conds exprs (scope_at columns rows n) (drop (n + 1) ss) (drop n ss) (rows_of
    c.loop-number.made.items)
    (rows_of c.add_numbered.new.made.items) (shown conds exprs ss) (scopes_from columns rows n below)
    (c.in_ok-add_numbered.ensures rows h below) (c.loop-number.invariant rows h)

pub returns : goal.returns
returns c = λ rows h.
    let t = c.args.self.now.terms.now in
    let columns = c.args.self.now.columns.now in
    let conds = map (cond t) c.args.self.now.having.now in
    let exprs = map (expr t) c.args.self.now.items.now in
    let n = c.loop-number.number in
    let ss = scopes (Some columns) rows in
    let past : length ss ≤ n =
    omega (arith, c.loop-number-test.false, c.count-groups.ensures rows h.grouped.keys, scopes_long columns rows) in
    all_shown conds exprs ss n (rows_of c.loop-number.made.items) (shown conds exprs ss) past
    (c.loop-number.invariant rows h)

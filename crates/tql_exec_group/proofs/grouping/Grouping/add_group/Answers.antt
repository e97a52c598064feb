-- What a group shows.
use Rattle.std.proofs.Common.{◌+◌, All, ap, length, subst, sym, true, ◌∙◌}
use Rattle.std.specs.Prelude.{Some}
use Rattle.tql_spec.specs.Words.{map_all}
use Rattle.tql_expr.specs.Evaluated.{Evaluated, behind}
use Rattle.tql_expr.specs.declared.terms.CondId.{CondId}
use Rattle.tql_expr.specs.declared.terms.ExprId.{ExprId}
use Rattle.tql_value.specs.Views.{row_of, rows_of}
use Rattle.tql_exec_group.specs.Results.{AreResults}
use Rattle.tql_exec_group.specs.Sources.{source_value}
use Rattle.tql_exec_group.specs.Steps.{LiesIn, shown_if}
use Rattle.tql_exec_group.proofs.OnGroup.{group_shows}
use Rattle.tql_exec_group.proofs.Sourced.{direct_shows}
use Rattle.tql_exec_group.proofs.grouping.Grouping.add_group.Goals as goal

pub add_shown-requires-clause-having : goal.add_shown-requires-clause-having
add_shown-requires-clause-having c =
    let from = c.args.self.now.steps.from in
    subst (λ n. All (λ (x : CondId). LiesIn from (from + n) x.place) c.args.self.now.having.now)
    (sym (ap length c.as_slice.ensures.value ∙ c.in_ok-find_results.ensures.size)) c.requires.ready.having

pub add_shown-requires-clause-items : goal.add_shown-requires-clause-items
add_shown-requires-clause-items c =
    let from = c.args.self.now.steps.from in
    subst (λ n. All (λ (x : ExprId). LiesIn from (from + n) x.place) c.args.self.now.items.now)
    (sym (ap length c.as_slice.ensures.value ∙ c.in_ok-find_results.ensures.size)) c.requires.ready.items

pub returns : goal.returns
returns c = λ rows row n h k.
    let t = c.args.self.now.terms.now in
    let columns = c.args.self.now.columns.now in
    let from = c.args.self.now.steps.from in
    let size = sym (ap length c.as_slice.ensures.value ∙ c.in_ok-find_results.ensures.size) in
    let results : AreResults t columns rows row from c.as_slice.result.now =
    subst (AreResults t columns rows row from) (sym c.as_slice.ensures.value)
    (c.in_ok-find_results.ensures.results rows row n h
    k) in
    subst (λ o. Evaluated (λ _. rows_of c.add_shown.new.made.items) (behind (rows_of c.args.made.now.items) o)
    c.add_shown.result)
    (group_shows t columns rows row from c.as_slice.result.now results c.args.self.now.having.now
    c.args.self.now.items.now
    (subst (λ n. All (λ (x : CondId). LiesIn from (from + n) x.place) c.args.self.now.having.now) size
    c.requires.ready.having)
    (subst (λ n. All (λ (x : ExprId). LiesIn from (from + n) x.place) c.args.self.now.items.now) size
    c.requires.ready.items)
    c.requires.named)
    c.add_shown.ensures

pub returns-then-is_direct : goal.returns-then-is_direct
returns-then-is_direct c = λ rows row n h k.
    let t = c.args.self.now.terms.now in
    let columns = c.args.self.now.columns.now in
    let key = row_of c.args.key.now in
    let count = c.args.count in
    let sources = c.args.self.now.sources.items in
    let having = c.args.self.now.having.now in
    let items = c.args.self.now.items.now in
    let direct = c.is_direct.ensures c.if-is_direct.true in
    subst (λ o. Evaluated (λ _. rows_of c.add_direct.new.made.items) (behind (rows_of c.args.made.now.items) o)
    c.add_direct.result)
    (ap (λ ss. shown_if (Some true) (map_all (source_value key count) ss)) c.deref.ensures.value
    ∙ direct_shows t columns key count rows row k n sources having items direct.having direct.items
    c.requires.ready.sources c.requires.named)
    c.add_direct.ensures

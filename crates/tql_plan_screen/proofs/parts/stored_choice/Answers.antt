use Rattle.std.proofs.Common.{◌∙◌, sym}
use Rattle.std.proofs.lemmas.Bool.{and_left, and_right}
use Rattle.tql_expr.specs.Meaning.{cond}
use Rattle.tql_plan_access.specs.Choices.{is_choice}
use Rattle.tql_plan_screen.proofs.StoredColumns.{chosen_elsewhere, is_stored, none_to_choose}
use Rattle.tql_plan_screen.proofs.parts.stored_choice.Goals as goal

pub returns-then-not-is_stored-clause-none : goal.returns-then-not-is_stored-clause-none
returns-then-not-is_stored-clause-none c none =
    let d = c.args.definition.now in
    let here = cond c.args.terms.now c.args.c in
    let k = c.in-Some.column in
    chosen_elsewhere d here k c.in-Some.ensures
    (and_left (is_stored d k) (is_choice k here) (sym c.is_stored.ensures ∙ c.if-not-is_stored.true))

pub returns-else-is_choice-clause-none : goal.returns-else-is_choice-clause-none
returns-else-is_choice-clause-none c none =
    let d = c.args.definition.now in
    let here = cond c.args.terms.now c.args.c in
    let k = c.in-Some.column in
    chosen_elsewhere d here k c.in-Some.ensures
    (and_right (is_stored d k) (is_choice k here) (sym c.is_choice.ensures ∙ c.if-is_choice.false))

pub returns-in-None-clause-none : goal.returns-in-None-clause-none
returns-in-None-clause-none c none =
    none_to_choose c.args.definition.now (cond c.args.terms.now c.args.c) c.in-None.ensures

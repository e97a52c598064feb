use Rattle.std.proofs.Common.{◌≡◌, ◌∙◌, ap, sym, None}
use Rattle.std.specs.Prelude.{option_map}
use Rattle.tql_spec.specs.Refusal.{first}
use Rattle.tql_catalog.specs.Tables.{definitions_of}
use Rattle.tql_syntax_tree.specs.Statements.{statement_of}
use Rattle.tql_value.specs.Refusals.{refusal_of}
use Rattle.tql_bound.specs.Bounds.{bound_of}
use Rattle.tql_bind_table.proofs.Gathered.{told}
use Rattle.tql_bind.specs.Limited.{limits_of, bind_under}
use Rattle.tql_bind.proofs.Limited.{first_under, names_clean}
use Rattle.tql_bind.proofs.Placed.{sound_where_clean}
use Rattle.tql_bind.proofs.binder.faultless.Goals as goal

pub returns-in-Some-clause-binds : goal.returns-in-Some-clause-binds
returns-in-Some-clause-binds c =
    let l = limits_of c.args.limits.now in
    let defs = definitions_of c.args.tables.now in
    let s = statement_of c.args.statement.now in
    told bound_of (bind_under l defs s) c.in-Some.refusal
    (first_under l defs s _ _ _ (bound_of c.in_ok-bound.bound) c.none-faults.ensures c.in_ok-bound.ensures.bound
    c.refuse_by_limits.ensures
    ∙ sym c.least.ensures ∙ ap (option_map refusal_of) c.in-Some.is)

pub returns-in-None-clause-binds : goal.returns-in-None-clause-binds
returns-in-None-clause-binds c =
    let l = limits_of c.args.limits.now in
    let defs = definitions_of c.args.tables.now in
    let s = statement_of c.args.statement.now in (
      first_under l defs s _ _ _ (bound_of c.in_ok-bound.bound) c.none-faults.ensures c.in_ok-bound.ensures.bound
          c.refuse_by_limits.ensures
          ∙ sym c.least.ensures ∙ ap (option_map refusal_of) c.in-None.is,
      sym c.in_ok-bound.ensures.bound.value,
    )

pub returns-in-None-clause-sound : goal.returns-in-None-clause-sound
returns-in-None-clause-sound c =
    let l = limits_of c.args.limits.now in
    let defs = definitions_of c.args.tables.now in
    let s = statement_of c.args.statement.now in
    let none : first (bind_under l defs s).faults ≡ None =
    first_under l defs s _ _ _ (bound_of c.in_ok-bound.bound) c.none-faults.ensures c.in_ok-bound.ensures.bound
    c.refuse_by_limits.ensures
    ∙ sym c.least.ensures ∙ ap (option_map refusal_of) c.in-None.is in
    sound_where_clean defs s c.in_ok-bound.bound c.requires.other (names_clean l defs s none)
    (sym c.in_ok-bound.ensures.bound.value) c.in_ok-bound.ensures.within

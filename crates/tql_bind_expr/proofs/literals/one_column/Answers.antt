use Rattle.std.proofs.Common.{◌≡◌, ap, sym, ◌∙◌, option_map, Some, None}
use Rattle.tql_spec.specs.Expression.{Column}
use Rattle.tql_spec.specs.Names.{one_column, typed}
use Rattle.tql_value.specs.Views.{plain_kind}
use Rattle.tql_bind_expr.specs.Bounds.{typed_of}
use Rattle.tql_bind_expr.specs.Columns.{numbered, sole_column}
use Rattle.tql_bind_expr.specs.Scopes.{things_of}
use Rattle.tql_bind_expr.proofs.Gathering.{sound_ok}
use Rattle.tql_bind_expr.proofs.LiteralLaws.{a_column, no_column_is}
use Rattle.tql_bind_expr.proofs.literals.one_column.Goals as goal

pub returns-in-Some-clause-bound : goal.returns-in-Some-clause-bound
returns-in-Some-clause-bound c =
    let all = things_of c.args.things.now in
    let x = typed (Column c.in-Some.number) (plain_kind c.in-Some.kind) in
    let found : sole_column all ≡ Some x = sym c.sole_column.ensures ∙ ap (option_map numbered) c.in-Some.is in
    sound_ok (one_column all) x (typed_of c.column_at.new.terms) _ c.column_at.result (a_column all x found)
    c.column_at.ensures.bound

pub returns-in-None-clause-bound : goal.returns-in-None-clause-bound
returns-in-None-clause-bound c =
    let all = things_of c.args.things.now in
    let found : sole_column all ≡ None = sym c.sole_column.ensures ∙ ap (option_map numbered) c.in-None.is in
    no_column_is c.null.new.terms c.null.result all _ _ found c.refuse_if.ensures c.null.ensures.bound

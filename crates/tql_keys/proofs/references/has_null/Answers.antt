use Rattle.std.proofs.Common.{rules, tests}
use Rattle.std.proofs.lemmas.Iterator.{YieldsList-from_slice}
use Rattle.std.proofs.lemmas.Iterator.Search.{any_from_yields_List}
use Rattle.tql_spec.specs.Datum.{is_null}
use Rattle.tql_spec.specs.Definition.{cell}
use Rattle.tql_expr.specs.Shown.{shown_by}
use Rattle.tql_keys.proofs.references.has_null.Goals as goal

pub returns : goal.returns
returns c =
    any_from_yields_List (λ i. is_null (cell (shown_by c.args.row.now) i)) c.any.new.self _ c.any.result
    c.any.ensures.ran (YieldsList-from_slice c.args.columns.now cc) (λ x b q k. search (rules, tests))

use Rattle.std.proofs.Common.{rules, tests, sym, ap, ◌∙◌, Bool, map}
use Rattle.std.specs.List.{list_any}
use Rattle.std.proofs.lemmas.Iterator.{YieldsList-from_slice}
use Rattle.std.proofs.lemmas.Iterator.Search.{any_from_yields_List}
use Rattle.tql_spec.specs.Datum.{Row}
use Rattle.tql_expr.specs.Shown.{shown_by}
use Rattle.tql_expr.specs.declared.stored.StoredRow.{StoredRow}
use Rattle.tql_value.specs.Views.{datum_of_view}
use Rattle.tql_key_rows.specs.Touched.{has_tuple}
use Rattle.tql_key_rows.proofs.Agreeing.{any_map}
use Rattle.tql_key_rows.proofs.Bools.{and_yes}
use Rattle.tql_keys.proofs.references.some_comes.Goals as goal

pub returns : goal.returns
returns c =
    let has : Row → Bool = has_tuple c.args.columns.now (map datum_of_view c.args.tuple.now) in
    any_from_yields_List (λ (r : StoredRow). has (shown_by r)) c.any.new.self _ c.any.result
    c.any.ensures.ran (YieldsList-from_slice c.args.coming.now cc) (λ x b q k. search (rules, tests))
    ∙ sym (any_map has shown_by c.args.coming.now)
    ∙ ap (λ (p : Row → Bool). list_any p (map shown_by c.args.coming.now)) (λ i r. (sym (and_yes (has r))) i)

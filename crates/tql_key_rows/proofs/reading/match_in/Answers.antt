use Rattle.std.proofs.Common.{◌≡◌, refl, rules, tests, ◌∙◌, ap, ℕ, List, [], ◌∷◌, Bool}
use Rattle.std.specs.Prelude.{◌&&◌}
use Rattle.std.specs.List.{list_all}
use Rattle.std.proofs.lemmas.Iterator.{YieldsList-from_slice}
use Rattle.std.proofs.lemmas.Iterator.Search.{all_from_yields_List}
use Rattle.tql_spec.specs.Datum.{Row, Equals, compare}
use Rattle.tql_spec.specs.Definition.{cell}
use Rattle.tql_spec.specs.Truth.{is_true}
use Rattle.tql_spec.specs.Constraint.{match_on}
use Rattle.tql_expr.specs.Shown.{shown_by}
use Rattle.tql_key_rows.proofs.reading.match_in.Goals as goal

each_is : (r s : Row) (cs : List ℕ)
    → list_all (λ c. is_true (compare Equals (cell r c) (cell s c))) cs ≡ match_on cs r cs s
each_is r s [] = refl
each_is r s (c ∷ cs) = ap (λ (b : Bool). is_true (compare Equals (cell r c) (cell s c)) && b) (each_is r s cs)

pub returns : goal.returns
returns c =
    let r = shown_by c.args.r.now in
    let s = shown_by c.args.s.now in
    all_from_yields_List (λ i. is_true (compare Equals (cell r i) (cell s i))) c.all.new.self _ c.all.result
    c.all.ensures.ran (YieldsList-from_slice c.args.columns.now cc) (λ x b q k. search (rules, tests))
    ∙ each_is r s c.args.columns.now

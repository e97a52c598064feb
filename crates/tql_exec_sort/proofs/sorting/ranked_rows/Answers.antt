-- One more row has its rank.
use Rattle.std.proofs.Common.{ap, map, subst, sym, ◌++◌, ◌∙◌, ◌∷◌, ◌≡◌, []}
use Rattle.std.specs.Prelude.{All, List}
use Rattle.std.proofs.lemmas.List.{map-append}
use Rattle.std.proofs.lemmas.List.Elements.{All-push}
use Rattle.tql_spec.specs.Bag.{SameBag}
use Rattle.tql_spec.specs.Datum.{Row}
use Rattle.tql_spec.specs.Definition.{cell}
use Rattle.tql_spec.proofs.Bags.{same-trans}
use Rattle.tql_value.specs.Views.{row_of, rows_of}
use Rattle.tql_exec_sort.specs.declared.sorting.Ranked.{Ranked}
use Rattle.tql_exec_sort.specs.Rank.{IsRank, row_in, HasRank}
use Rattle.tql_exec_sort.proofs.RankedRows.{moved_over}
use Rattle.tql_exec_sort.proofs.sorting.ranked_rows.Goals as goal

pub loop-row-preserved : goal.loop-row-preserved
loop-row-preserved c =
    let column = c.args.column in
    let before : List Ranked = c.loop-row.ranked.items in
    let made : Ranked = record { rank = c.of-rank.result; row = c.in-Some.row } in
    let row : Row = row_in made in
    let left : List Row = rows_of c.pop.new.self.items in
    let all : List Row = rows_of c.args.rows.now.items in
    let pushed : c.push.new.self.items ≡ before ++ made ∷ [] = c.in_ok-push.ensures.items in
    let rank : HasRank column made = subst (λ d. IsRank d c.of-rank.result)
    (c.cell_at.ensures ∙ ap (λ vs. cell (row_of vs) column) c.deref.ensures.value) c.of-rank.ensures in
    let done : map row_in c.push.new.self.items ≡ map row_in before ++ row ∷ []
    = ap (map row_in) pushed ∙ map-append row_in before (made ∷ []) in
    let were : rows_of c.loop-row.rows.items ≡ left ++ row ∷ []
    = ap rows_of c.in-Some.ensures.items ∙ map-append (λ v. row_of v.items) c.pop.new.self.items
    (c.in-Some.row ∷ []) in (
      subst (All (HasRank column)) (sym pushed)
          (All-push (HasRank column) before made c.loop-row.invariant.0 rank),
      subst (λ rs. SameBag (rs ++ left) all) (sym done)
          (same-trans (moved_over (map row_in before) left row)
          (subst (λ rs. SameBag (map row_in before ++ rs) all) were c.loop-row.invariant.1)),
    )

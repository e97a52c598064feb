-- The values at the sources of the items are those of the items on the group.
use Rattle.std.specs.Prelude.{◌≡◌, refl, ℕ, ◌+◌, ◌<◌, true, not, IsTrue, List, [], ◌∷◌, ◌++◌, length, map, pos}
use Rattle.std.specs.Prelude.{take, Option, Some, slice_index_or}
use Rattle.std.specs.List.{AllZip, list_all}
use Rattle.std.proofs.Common.{sym, ap, subst, ◌∙◌, arith}
use Rattle.std.proofs.lemmas.Bool.{and_parts}
use Rattle.std.proofs.lemmas.List.{take_all, take_more}
use Rattle.std.proofs.lemmas.Slice.Zip.{all_zipped_more}
use Rattle.tql_spec.specs.Words.{map_all, with_front}
use Rattle.tql_spec.specs.Binding.{is_loose}
use Rattle.tql_spec.specs.Creation.{has_number}
use Rattle.tql_spec.specs.Datum.{Datum, Row, exact}
use Rattle.tql_spec.specs.Expression.{eval}
use Rattle.tql_spec.specs.QueryLaws.{NamesGroups, shown}
use Rattle.tql_expr.specs.Meaning.{cond, expr}
use Rattle.tql_expr.specs.declared.terms.CondId.{CondId}
use Rattle.tql_expr.specs.declared.terms.ExprId.{ExprId}
use Rattle.tql_expr.specs.declared.terms.Terms.{Terms}
use Rattle.tql_exec_group.specs.Counted.{kept_count}
use Rattle.tql_exec_group.specs.Places.{cell_in}
use Rattle.tql_exec_group.specs.Results.{IsKeyOf}
use Rattle.tql_exec_group.specs.Sources.{source_value, AreSources, IsSource}
use Rattle.tql_exec_group.specs.Steps.{shown_if}
use Rattle.tql_exec_group.specs.declared.direct.Source.{Source}
use Rattle.tql_exec_group.specs.declared.direct.Source.TheVariants.{Key, Count}
use Rattle.tql_exec_group.proofs.OnGroup.{count_is, not_not, shown_is}

-- one more source of the first items
pub one_more_source : (t : Terms) (columns : List ℕ) (old new : List Source) (s : Source) (items : List ExprId) (i : ℕ)
    (d : ExprId) → i < length items → new ≡ old ++ s ∷ [] → IsSource t columns s (slice_index_or items i d)
    → AllZip (IsSource t columns) old (take i items) → AllZip (IsSource t columns) new (take (i + 1) items)
one_more_source t columns old new s items i d inside pushed is h =
    subst (AllZip (IsSource t columns) new) (sym (take_more items i d inside))
    (subst (λ ss. AllZip (IsSource t columns) ss (take i items ++ slice_index_or items i d ∷ [])) (sym pushed)
    (all_zipped_more (IsSource t columns) old (take i items) s (slice_index_or items i d) h is))

module _ (t : Terms) (columns : List ℕ) (key : Row) (count : ℕ) (rows : List Row) (row : Row)
    (is_key : IsKeyOf columns key row) (is_count : count ≡ kept_count (length rows)) where
  source_is : (s : Source) (x : ExprId) → IsSource t columns s x → not (is_loose columns (expr t x)) ≡ true
      → source_value key count s ≡ eval rows row (expr t x)
  source_is (Key place) x h named =
      let is = h.1 in
      let among : has_number h.0 columns ≡ true =
      not_not (has_number h.0 columns) (subst (λ e. not (is_loose columns e) ≡ true) is named) in
      ap {B = Option Datum} (λ o. Some (cell_in key o)) (sym h.2) ∙ ap {B = Option Datum} Some (is_key h.0 among)
      ∙ ap (eval rows row) (sym is)
  source_is Count x is named =
      ap (λ m. exact (pos m)) is_count ∙ count_is (length rows) ∙ ap (eval rows row) (sym is)

  sources_are : (sources : List Source) (items : List ExprId) → AllZip (IsSource t columns) sources items
      → IsTrue (list_all (λ e. not (is_loose columns e)) (map (expr t) items))
      → map_all (source_value key count) sources ≡ map_all (eval rows row) (map (expr t) items)
  sources_are [] [] h named = refl
  sources_are [] (x ∷ items) h named = absurd h
  sources_are (s ∷ sources) [] h named = absurd h
  sources_are (s ∷ sources) (x ∷ items) h named =
      let p = and_parts (not (is_loose columns (expr t x)))
      (list_all (λ e. not (is_loose columns e)) (map (expr t) items)) named in
      λ i. with_front (source_is s x h.0 p.0 i) (sources_are sources items h.1 p.1 i)

  -- what a group shows, if all items stand in it and there is no HAVING
  pub direct_shows : (sources : List Source) (having : List CondId) (items : List ExprId) → having ≡ []
      → length sources ≡ length items → AreSources t columns sources items
      → NamesGroups (Some columns) (map (cond t) having) (map (expr t) items)
      → shown_if (Some true) (map_all (source_value key count) sources)
      ≡ shown (map (cond t) having) (map (expr t) items) (record { row = row; group = rows } ∷ [])
  direct_shows sources having items none long are named =
      let all : AllZip (IsSource t columns) sources items =
      subst (AllZip (IsSource t columns) sources) (take_all (length sources) items (omega (arith, long))) are in
      ap (shown_if (Some true)) (sources_are sources items all named.0)
      ∙ shown_is [] (map (expr t) items) (record { row = row; group = rows })
      ∙ ap (λ cs. shown (map (cond t) cs) (map (expr t) items) (record { row = row; group = rows } ∷ [])) (sym none)

-- The effect on the current rows of a table, version by version of the list in which they are stored.
use Rattle.std.proofs.Common.{◌≡◌, ℕ, ◌+◌, ◌<◌, Bool, true, false, List, ◌∷◌, length, drop}
use Rattle.std.proofs.Common.{refl, sym, ap, ◌∙◌, Option, Some, None}
use Rattle.std.specs.Prelude.{slice_index_or, if◌then◌else◌}
use Rattle.std.proofs.lemmas.List.{drop_more}
use Rattle.tql_spec.specs.Words.{◌>>=◌}
use Rattle.tql_spec.specs.Period.{Period}
use Rattle.tql_spec.specs.Definition.{TableDef, shown}
use Rattle.tql_spec.specs.Expression.{Cond}
use Rattle.tql_spec.specs.Change.{Work}
use Rattle.tql_value.specs.declared.when.When.TheVariants.{Now}
use Rattle.tql_versions.specs.Readings.{is_answer}
use Rattle.tql_versions.specs.Views.{version_of}
use Rattle.tql_versions.specs.declared.kept.Kept.{Kept}
use Rattle.tql_dml.specs.Current.{open_from, shown_as}
use Rattle.tql_dml.specs.Parts.{Parts, before, no_part, part_where, part_of, parts}
use Rattle.tql_dml.proofs.Fates.{joined}

nothing_before : (o : Option Parts) → before no_part o ≡ o
nothing_before None = refl
nothing_before (Some q) = refl

module _ (d : TableDef) (portion : Option Period) (work : Work) (conds : List Cond) (ks : List Kept) (i : ℕ) (k : Kept)
    (p : Parts) where
  -- the effect on this version, and on the open ones after it
  abbrev this : Option Parts
  this = part_of d portion work conds i (shown d (version_of k).row)

  abbrev later : Option Parts
  later = parts d portion work conds (open_from (i + 1) (drop (i + 1) ks))

  -- the effect from this version on
  from_here : i < length ks → k ≡ slice_index_or ks i k
      → parts d portion work conds (open_from i (drop i ks)) ≡ part_where (is_answer Now (version_of k)) this
      >>= λ q. before q later
  from_here l is =
      ap (λ xs. parts d portion work conds (open_from i xs))
      (drop_more ks i k l ∙ ap {B = List Kept} (λ x. x ∷ drop (i + 1) ks) (sym is))
      ∙ either (is_answer Now (version_of k))
    where
      either : (b : Bool)
          → parts d portion work conds (if b then shown_as i k ∷ open_from (i + 1) (drop (i + 1) ks)
          else open_from (i + 1) (drop (i + 1) ks))
          ≡ part_where b this >>= λ q. before q later
      either true = refl
      either false = sym (nothing_before later)

  -- one more version
  pub one_more_open : (n : Parts) (all : Option Parts) → i < length ks → k ≡ slice_index_or ks i k
      → before p (part_where (is_answer Now (version_of k)) this) ≡ Some n
      → before p (parts d portion work conds (open_from i (drop i ks))) ≡ all
      → before n (parts d portion work conds (open_from (i + 1) (drop (i + 1) ks))) ≡ all
  one_more_open n all l is e h =
      ap (λ o. o >>= λ x. before x later) (sym e)
      ∙ sym (joined p (part_where (is_answer Now (version_of k)) this) later)
      ∙ ap (before p) (sym (from_here l is)) ∙ h

  -- an evaluation of this version is out of range
  pub open_out_of_range : (all : Option Parts) → i < length ks → k ≡ slice_index_or ks i k
      → before p (part_where (is_answer Now (version_of k)) this) ≡ None
      → before p (parts d portion work conds (open_from i (drop i ks))) ≡ all → all ≡ None
  open_out_of_range all l is e h =
      sym h ∙ ap (before p) (from_here l is)
      ∙ joined p (part_where (is_answer Now (version_of k)) this) later
      ∙ ap (λ o. o >>= λ x. before x later) e

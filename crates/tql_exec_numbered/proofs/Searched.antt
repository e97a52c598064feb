-- A row is found in a run by halving.
use Rattle.std.specs.Prelude.{◌≡◌, ◌≢◌, ℕ, ◌<◌, true, false, List, [], length}
use Rattle.std.specs.Prelude.{Some, slice_get, nat_eq}
use Rattle.std.proofs.Common.{sym, ap, subst, ◌∙◌, arith, get_or, ⊎_elim}
use Rattle.std.specs.List.{HoldsAt}
use Rattle.std.specs.List.Sorted.{IsNonDecreasingBy, IsPartitionPoint}
use Rattle.std.specs.Ordering.{ordering_index}
use Rattle.std.specs.declared.cmp.Ordering.{Ordering}
use Rattle.std.specs.declared.cmp.Ordering.TheVariants.{Less, Equal, Greater}
use Rattle.std.proofs.lemmas.Cmp.{tied_itself}
use Rattle.std.proofs.lemmas.Bool.{cases_lt, eqb-true}
use Rattle.std.proofs.lemmas.List.{get_or_default}
use Rattle.std.proofs.lemmas.List.Folds.{list_any_none}
use Rattle.std.proofs.lemmas.List.Sorted.{searchable_from_sorted}
use Rattle.std.proofs.lemmas.Option.{get_or_from_slice_get, slice_get-get_or}
use Rattle.tql_spec.specs.Datum.{Row}
use Rattle.tql_spec.specs.Query.{by_columns}
use Rattle.tql_spec.proofs.Members.{by_bool}
use Rattle.tql_spec.proofs.Orders.{by_columns-total, by_columns-ties}
use Rattle.tql_exec_numbered.specs.Runs.{has_number, row_at, IsRun}

-- the place of a number's row by a row
abbrev pub by_row : List Row → Row → ℕ → Ordering
by_row rows x n = by_columns (row_at rows n) x

own_turn : (o : Ordering) → o ≡ Equal → o ≡ Less → ⊥
own_turn Less e h = cc
own_turn Equal e h = cc
own_turn Greater e h = cc

own_turn_back : (o : Ordering) → o ≡ Equal → o ≡ Greater → ⊥
own_turn_back Less e h = cc
own_turn_back Equal e h = cc
own_turn_back Greater e h = cc

module _ (rows : List Row) (x : Row) (run : List ℕ) (is : IsRun rows run) where
  rising : IsNonDecreasingBy (λ n. ordering_index (by_row rows x n)) run
  rising = searchable_from_sorted by_columns-total (row_at rows) run x is.1

  -- the row of the number at an index where the search found an equal one
  pub found : (i n : ℕ) → i < length run → n ≡ get_or run i n → HoldsAt (λ m. by_row rows x m ≡ Equal) run i
      → slice_get rows n ≡ Some x
  found i n within at equal =
      let tie : by_row rows x n ≡ Equal = subst (λ m. by_row rows x m ≡ Equal) (sym at) (equal n) in
      let below : n < length rows = subst (λ m. m < length rows) (sym at) (is.0 i n within) in
      slice_get-get_or rows n [] below ∙ ap Some (by_columns-ties (row_at rows n) x tie)

  tied : (n : ℕ) → slice_get rows n ≡ Some x → by_row rows x n ≡ Equal
  tied n got = ap (λ y. by_columns y x) (get_or_from_slice_get rows n x [] got) ∙ tied_itself by_columns-total x

  -- no number of the row is between the lesser and the greater ones
  pub absent : (i : ℕ)
      → (IsNonDecreasingBy (λ m. ordering_index (by_row rows x m)) run
      → IsPartitionPoint (λ m. by_row rows x m ≡ Less) (λ m. by_row rows x m ≡ Greater) run i)
      → (n : ℕ) → has_number n run ≡ true → slice_get rows n ≢ Some x
  absent i parted n has = λ got. never (sym has ∙ none got)
    where
      never : true ≡ false → ⊥
      never e = cc

      other : slice_get rows n ≡ Some x → (k d : ℕ) → k < length run → nat_eq n (get_or run k d) ≡ false
      other got k d within = by_bool (nat_eq n (get_or run k d))
          (λ same.
          let tie : by_row rows x (get_or run k d) ≡ Equal =
          subst (λ m. by_row rows x m ≡ Equal) (eqb-true n (get_or run k d) same) (tied n got) in
          absurd (⊎_elim
          (λ below. own_turn (by_row rows x (get_or run k d)) tie ((parted rising).0 k d (omega arith) below))
          (λ above. own_turn_back (by_row rows x (get_or run k d)) tie ((parted rising).1 k d above within))
          (cases_lt k i)))
          (λ e. e)

      none : slice_get rows n ≡ Some x → has_number n run ≡ false
      none got = list_any_none (nat_eq n) run (other got)

  pub found_at : (i : ℕ) → i < length run → HoldsAt (λ m. by_row rows x m ≡ Equal) run i
      → slice_get rows (get_or run i 0) ≡ Some x
  found_at i within equal = found i (get_or run i 0) within (get_or_default run i 0 (get_or run i 0) within) equal

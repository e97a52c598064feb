-- Rows without repeats, of which one more comes.
use Rattle.std.specs.Prelude.{◌≡◌, refl, Bool, true, false, not, if◌then◌else◌, List, [], ◌∷◌, ◌++◌}
use Rattle.std.specs.Prelude.{filter, map}
use Rattle.std.specs.Prelude.{Option, Some, None, option_map, Result, Ok, Err, MatchResult, ◌||◌}
use Rattle.std.specs.List.{list_any}
use Rattle.std.proofs.Common.{sym, ap, subst, append_assoc, append-nil, ◌∙◌}
use Rattle.std.proofs.lemmas.List.{map-append}
use Rattle.tql_spec.specs.Datum.{Row, same_row}
use Rattle.tql_spec.specs.Expression.{Cond, Expr}
use Rattle.tql_spec.specs.Query.{alone, distinct_rows}
use Rattle.tql_spec.specs.QueryLaws.{shown}
use Rattle.tql_spec.specs.Words.{◌>>=◌}
use Rattle.tql_spec.proofs.Members.{by_bool, same_row-self, same_row-is}
use Rattle.tql_value.specs.declared.refusal.Refusal.{Refusal}
use Rattle.tql_expr.specs.Evaluated.{behind, Evaluated, Fails}
use Rattle.tql_expr.proofs.Evaluations.{fails_with}
use Rattle.tql_exec_numbered.specs.Numbered.{with_row, with_rows}
use Rattle.tql_exec_numbered.proofs.Known.{any_first, any_later, row_known, row_new}
use Rattle.tql_exec_group.proofs.Scopes.{last_shown}

no_contradiction : true ≡ false → ⊥
no_contradiction e = cc

-- a row that differs from another, in either direction
differs_back : (x y : Row) → same_row x y ≡ false → same_row y x ≡ false
differs_back x y e = by_bool (same_row y x)
    (λ k. absurd (no_contradiction (sym (same_row-self x) ∙ subst (λ z. same_row x z ≡ false) (same_row-is y x k) e)))
    (λ k. k)

same_back : (x y : Row) → same_row x y ≡ true → same_row y x ≡ true
same_back x y e = subst (λ z. same_row z x ≡ true) (same_row-is x y e) (same_row-self x)

keeps : (p : Row → Bool) (x : Row) (xs : List Row) → p x ≡ true → filter p (x ∷ xs) ≡ x ∷ filter p xs
keeps p x xs e = ap (λ b. if b then x ∷ filter p xs else filter p xs) e

drops : (p : Row → Bool) (x : Row) (xs : List Row) → p x ≡ false → filter p (x ∷ xs) ≡ filter p xs
drops p x xs e = ap (λ b. if b then x ∷ filter p xs else filter p xs) e

-- the others than a row
abbrev others : Row → List Row → List Row
others q xs = filter (λ s. not (same_row q s)) xs

-- a row that differs from q is among the others if it is among all
any_others : (q r : Row) (xs : List Row) → same_row q r ≡ false
    → list_any (same_row r) (others q xs) ≡ list_any (same_row r) xs
any_others q r [] apart = refl
any_others q r (x ∷ xs) apart = by_bool (same_row q x)
    (λ is.
    let far : same_row r x ≡ false =
    subst (λ z. same_row r z ≡ false) (same_row-is q x is) (differs_back q r apart) in
    ap (list_any (same_row r)) (drops (λ s. not (same_row q s)) x xs (ap not is)) ∙ any_others q r xs apart
    ∙ sym (any_later r x xs far))
    (λ is. ap (list_any (same_row r)) (keeps (λ s. not (same_row q s)) x xs (ap not is))
    ∙ ap (λ b. same_row r x || b) (any_others q r xs apart))

others_behind : (q r : Row) (xs : List Row) → same_row q r ≡ false → others q (xs ++ r ∷ []) ≡ others q xs ++ r ∷ []
others_behind q r [] apart = keeps (λ s. not (same_row q s)) r [] (ap not apart)
others_behind q r (x ∷ xs) apart = by_bool (same_row q x)
    (λ is. drops (λ s. not (same_row q s)) x (xs ++ r ∷ []) (ap not is) ∙ others_behind q r xs apart
    ∙ sym (ap (λ zs. zs ++ r ∷ []) (drops (λ s. not (same_row q s)) x xs (ap not is))))
    (λ is. keeps (λ s. not (same_row q s)) x (xs ++ r ∷ []) (ap not is)
    ∙ ap (λ zs. x ∷ zs) (others_behind q r xs apart)
    ∙ sym (ap (λ zs. zs ++ r ∷ []) (keeps (λ s. not (same_row q s)) x xs (ap not is))))

others_without : (q r : Row) (xs : List Row) → same_row q r ≡ true → others q (xs ++ r ∷ []) ≡ others q xs
others_without q r [] is = drops (λ s. not (same_row q s)) r [] (ap not is)
others_without q r (x ∷ xs) is = by_bool (same_row q x)
    (λ k. drops (λ s. not (same_row q s)) x (xs ++ r ∷ []) (ap not k) ∙ others_without q r xs is
    ∙ sym (drops (λ s. not (same_row q s)) x xs (ap not k)))
    (λ k. keeps (λ s. not (same_row q s)) x (xs ++ r ∷ []) (ap not k) ∙ ap (λ zs. x ∷ zs) (others_without q r xs is)
    ∙ sym (keeps (λ s. not (same_row q s)) x xs (ap not k)))

-- ---- with a row

others_with : (q r : Row) (rows : List Row) → q ∷ others q (with_row rows r) ≡ with_row (q ∷ others q rows) r
others_with q r rows = by_bool (same_row q r)
    (λ is. ap (λ zs. q ∷ zs) (unchanged is)
    ∙ sym (row_known (q ∷ others q rows) r (any_first r q (others q rows) (same_back q r is))))
    (λ apart. changed apart)
  where
    unchanged : same_row q r ≡ true → others q (with_row rows r) ≡ others q rows
    unchanged is = by_bool (list_any (same_row r) rows)
        (λ known. ap (others q) (row_known rows r known))
        (λ new. ap (others q) (row_new rows r new) ∙ others_without q r rows is)

    changed : same_row q r ≡ false → q ∷ others q (with_row rows r) ≡ with_row (q ∷ others q rows) r
    changed apart =
        let far : same_row r q ≡ false = differs_back q r apart in
        let any : list_any (same_row r) (q ∷ others q rows) ≡ list_any (same_row r) rows =
        any_later r q (others q rows) far ∙ any_others q r rows apart in
        by_bool (list_any (same_row r) rows)
        (λ known. ap (λ zs. q ∷ others q zs) (row_known rows r known)
        ∙ sym (row_known (q ∷ others q rows) r (any ∙ known)))
        (λ new. ap (λ zs. q ∷ others q zs) (row_new rows r new) ∙ ap (λ zs. q ∷ zs) (others_behind q r rows apart)
        ∙ sym (row_new (q ∷ others q rows) r (any ∙ new)))

-- one more row
pub distinct_with : (rows : List Row) (r : Row) → distinct_rows (rows ++ r ∷ []) ≡ with_row (distinct_rows rows) r
distinct_with [] r = refl
distinct_with (q ∷ rows) r = ap (λ zs. q ∷ others q zs) (distinct_with rows r) ∙ others_with q r (distinct_rows rows)

-- several more rows
pub distinct_more : (rows more : List Row) → distinct_rows (rows ++ more) ≡ with_rows (distinct_rows rows) more
distinct_more rows [] = ap distinct_rows (append-nil rows)
distinct_more rows (r ∷ more) = ap distinct_rows (sym (append_assoc rows (r ∷ []) more))
    ∙ distinct_more (rows ++ r ∷ []) more ∙ ap (λ zs. with_rows zs more) (distinct_with rows r)

-- ---- the rows of a query

module _ (having : List Cond) (items : List Expr) (r : Row) (old new : List Row) where
  taken : (o p : Option (List Row)) → option_map distinct_rows o ≡ Some old
      → option_map (with_rows old) p ≡ Some new → option_map distinct_rows (o >>= λ xs. behind xs p) ≡ Some new
  taken None p h is = cc
  taken (Some xs) None h is = cc
  taken (Some xs) (Some ys) h is =
      ap Some (distinct_more xs ys ∙ ap (λ zs. with_rows zs ys) (within h)) ∙ is
    where
      within : Some (distinct_rows xs) ≡ Some old → distinct_rows xs ≡ old
      within k = cc

  none_back : (o : Option (List Row)) → option_map (with_rows old) o ≡ None → o ≡ None
  none_back None e = refl
  none_back (Some xs) e = cc

  -- one more row of a query without groups
  pub distinct_if : {U : Type 0} (result : Result U Refusal)
      → Evaluated (λ _. new) (option_map (with_rows old) (shown having items (alone r ∷ []))) result
      → MatchResult result (λ _. (rows : List Row)
      → option_map distinct_rows (shown having items (map alone rows)) ≡ Some old
      → option_map distinct_rows (shown having items (map alone (rows ++ r ∷ []))) ≡ Some new)
      (Fails (shown having items (alone r ∷ [])))
  distinct_if (Ok u) is = λ rows h.
      ap (λ ss. option_map distinct_rows (shown having items ss)) (map-append alone rows (r ∷ []))
      ∙ ap (option_map distinct_rows) (last_shown having items (map alone rows) (alone r))
      ∙ taken (shown having items (map alone rows)) (shown having items (alone r ∷ [])) h is
  distinct_if (Err e) fails =
      fails_with (option_map (with_rows old) (shown having items (alone r ∷ []))) (shown having items (alone r ∷ [])) e
      (none_back (shown having items (alone r ∷ []))) fails

-- ---- rows that are without repeats

again_with : (rows : List Row) (r : Row) → distinct_rows rows ≡ rows → distinct_rows (with_row rows r) ≡ with_row rows r
again_with rows r e = by_bool (list_any (same_row r) rows)
    (λ known. ap distinct_rows (row_known rows r known) ∙ e ∙ sym (row_known rows r known))
    (λ new. ap distinct_rows (row_new rows r new) ∙ distinct_with rows r ∙ ap (λ zs. with_row zs r) e)

again_more : (rows more : List Row) → distinct_rows rows ≡ rows
    → distinct_rows (with_rows rows more) ≡ with_rows rows more
again_more rows [] e = e
again_more rows (r ∷ more) e = again_more (with_row rows r) more (again_with rows r e)

pub distinct_again : (rows : List Row) → distinct_rows (distinct_rows rows) ≡ distinct_rows rows
distinct_again rows = ap distinct_rows (distinct_more [] rows) ∙ again_more [] rows refl ∙ sym (distinct_more [] rows)

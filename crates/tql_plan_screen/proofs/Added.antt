-- One more test.
use Rattle.std.proofs.Common.{◌≡◌, ◌∙◌, refl, sym, ap, ℕ, ◌==◌, true, false, ◌&&◌, List, [], ◌∷◌, ◌++◌, map}
use Rattle.std.proofs.Common.{append_assoc, length, arith, subst, suc}
use Rattle.std.proofs.lemmas.Bool.{ne_eqb}
use Rattle.std.proofs.lemmas.List.{length-append, map-append}
use Rattle.std.proofs.lemmas.List.Folds.{list_all-append}
use Rattle.tql_spec.specs.Datum.{Row}
use Rattle.tql_plan_access.specs.declared.alternatives.Alternatives.{Alternatives}
use Rattle.tql_plan_screen.specs.Coded.{Admits, among_test, compared_test, tests_of}
use Rattle.tql_plan_screen.specs.Screens.{Test, is_admitted, is_met}
use Rattle.tql_plan_screen.specs.declared.compared.Compared.{Compared}
use Rattle.tql_plan_screen.proofs.Booleans.{and_back, and_three, and_true}

admitted-append : (xs ys : List Test) (cells : Row)
    → is_admitted (xs ++ ys) cells ≡ (is_admitted xs cells && is_admitted ys cells)
admitted-append xs ys cells = list_all-append (λ t. is_met t cells) xs ys

-- a test is added between others
between : (xs ys : List Test) (t : Test) → Admits t (xs ++ ys) ((xs ++ t ∷ []) ++ ys)
between xs ys t = record {
  both = λ cells.
      let a = is_admitted xs cells in
      let b = is_admitted ys cells in
      let m = is_met t cells in
      admitted-append (xs ++ t ∷ []) ys cells
      ∙ ap (λ k. k && b) (admitted-append xs (t ∷ []) cells ∙ ap (λ k. a && k) (and_true m))
      ∙ and_three a m b
      ∙ ap (λ k. a && k) (and_back m b)
      ∙ sym (and_three a b m)
      ∙ ap (λ k. k && m) (sym (admitted-append xs ys cells));
  count =
      let e = length-append (xs ++ t ∷ []) ys in
      let f = length-append xs (t ∷ []) in
      let g = length-append xs ys in
      omega (arith, e, f, g);
}

-- a test is added at the end
behind : (xs ys : List Test) (t : Test) → Admits t (xs ++ ys) (xs ++ (ys ++ t ∷ []))
behind xs ys t = record {
  both = λ cells.
      ap (λ zs. is_admitted zs cells) (sym (append_assoc xs ys (t ∷ [])))
      ∙ admitted-append (xs ++ ys) (t ∷ []) cells
      ∙ ap (λ k. is_admitted (xs ++ ys) cells && k) (and_true (is_met t cells));
  count =
      let e = length-append xs (ys ++ t ∷ []) in
      let f = length-append ys (t ∷ []) in
      let g = length-append xs ys in
      omega (arith, e, f, g);
}

pub with_comparison : (cs : List Compared) (sets : List Alternatives) (c : Compared)
    → Admits (compared_test c) (tests_of cs sets) (tests_of (cs ++ c ∷ []) sets)
with_comparison cs sets c =
    subst (λ ts. Admits (compared_test c) (tests_of cs sets) (ts ++ map among_test sets))
    (sym (map-append compared_test cs (c ∷ [])))
    (between (map compared_test cs) (map among_test sets) (compared_test c))

pub with_set : (cs : List Compared) (sets : List Alternatives) (a : Alternatives)
    → Admits (among_test a) (tests_of cs sets) (tests_of cs (sets ++ a ∷ []))
with_set cs sets a =
    subst (λ ts. Admits (among_test a) (tests_of cs sets) (map compared_test cs ++ ts))
    (sym (map-append among_test sets (a ∷ [])))
    (behind (map compared_test cs) (map among_test sets) (among_test a))

-- the tests of both kinds are met
pub both_met : (cs : List Compared) (sets : List Alternatives) (cells : Row)
    → is_admitted (tests_of cs sets) cells
    ≡ (is_admitted (map compared_test cs) cells && is_admitted (map among_test sets) cells)
both_met cs sets cells = admitted-append (map compared_test cs) (map among_test sets) cells

longer : (n : ℕ) → (suc n == 0) ≡ false
longer n = ne_eqb (suc n) 0 (λ e. omega (arith, e))

-- whether there is no test
pub none_there : (cs : List Compared) (sets : List Alternatives)
    → (length (tests_of cs sets) == 0) ≡ ((length cs == 0) && (length sets == 0))
none_there [] [] = refl
none_there [] (s ∷ ss) =
    longer (length (map among_test ss)) ∙ sym (ap (λ b. true && b) (longer (length ss)))
none_there (c ∷ cs) sets =
    longer (length (map compared_test cs ++ map among_test sets))
    ∙ sym (ap (λ b. b && (length sets == 0)) (longer (length cs)))

-- A table put in place of another, or after the last.
use Rattle.std.proofs.Common.{◌≡◌, ◌≢◌, ℕ, zero, suc, ◌<◌, false, List, [], ◌∷◌, ◌++◌, get_or, set, length, refl}
use Rattle.std.proofs.Common.{ap, ◌∙◌, arith}
use Rattle.std.specs.Prelude.{nat_eq}
use Rattle.std.proofs.lemmas.Bool.Decides.{nat_tests}
use Rattle.std.proofs.lemmas.List.{get_or-set_same, get_or-set_other}
use Rattle.tql_store_rows.specs.TableModel.{TableModel}
use Rattle.tql_store.specs.Orderly.{IsPut, empty}

apart : (t n : ℕ) → nat_eq t n ≡ false → t ≢ n
apart t n e = λ q. grind (arith, nat_tests)

pub set-put : (n : ℕ) (x : TableModel) (rows : List TableModel) → n < length rows → IsPut n x rows (set rows n x)
set-put n x rows l = record {
  here = get_or-set_same rows n x (empty false) l;
  others = λ t e. get_or-set_other rows n t x (empty false) (apart t n e);
}

pub push-put : (n : ℕ) (x : TableModel) (rows new : List TableModel) → n ≡ length rows → new ≡ rows ++ x ∷ []
    → IsPut n x rows new
push-put n x rows new e is = rw is (record {
  here = ap (λ i. get_or (rows ++ x ∷ []) i (empty false)) e ∙ last rows;
  others = λ t f. same rows t (λ q. apart t n f (q ∙ back e));
})
  where
    back : {i j : ℕ} → i ≡ j → j ≡ i
    back {i} {j} q = omega (arith, q)

    last : (ts : List TableModel) → get_or (ts ++ x ∷ []) (length ts) (empty false) ≡ x
    last [] = refl
    last (t ∷ ts) = last ts

    same : (ts : List TableModel) (k : ℕ) → k ≢ length ts
        → get_or (ts ++ x ∷ []) k (empty false) ≡ get_or ts k (empty false)
    same [] zero f = absurd (f refl)
    same [] (suc k) f = refl
    same (t ∷ ts) zero f = refl
    same (t ∷ ts) (suc k) f = same ts k (λ q. f (ap suc q))

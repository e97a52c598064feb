-- The lists of columns by which rows are looked up, one after another.
use Rattle.std.proofs.Common.{◌≡◌, ◌<◌, sym, ap, subst, ◌∙◌, ℕ, ◌+◌, zero, suc, Bool, true, List, [], ◌∷◌, ◌++◌}
use Rattle.std.proofs.Common.{map, length, take, get_or, append_assoc, arith}
use Rattle.std.specs.Prelude.{Vec}
use Rattle.std.specs.List.{list_all, AllZip}
use Rattle.std.proofs.lemmas.List.{map_push, take_more}
use Rattle.std.proofs.lemmas.List.Elements.{AllZip-push}
use Rattle.tql_spec.specs.Definition.{TableDef}
use Rattle.tql_spec.proofs.Members.{both}
use Rattle.tql_catalog.specs.Rows.{AreStoredAt}
use Rattle.tql_catalog.specs.Sought.{lists_of}

-- a test that the models of all elements pass is passed by each
pub test_of : {A B : Type 0} (P : B → Bool) (f : A → B) (xs : List A) (i : ℕ) (x : A) → i < length xs
    → x ≡ get_or xs i x → list_all P (map f xs) ≡ true → P (f x) ≡ true
test_of P f [] i x l e h = absurd (omega arith)
test_of P f (y ∷ xs) zero x l e h = ap (λ z. P (f z)) e ∙ (both (P (f y)) (list_all P (map f xs)) h).0
test_of P f (y ∷ xs) (suc i) x l e h =
    test_of P f xs i x (omega arith) e (both (P (f y)) (list_all P (map f xs)) h).1

-- one more element
columns_more : {A B : Type 0} (columns : B → List ℕ) (f : A → B) (xs : List A) (i : ℕ) (x : A) → i < length xs
    → x ≡ get_or xs i x
    → map columns (map f (take (i + 1) xs)) ≡ map columns (map f (take i xs)) ++ columns (f x) ∷ []
columns_more columns f xs i x l e =
    ap (λ ys. map columns (map f ys)) (take_more xs i x l ∙ ap (λ y. take i xs ++ y ∷ []) (sym e))
    ∙ ap (map columns) (map_push f (take i xs) x)
    ∙ map_push columns (map f (take i xs)) (f x)

-- one more element, with the list of its stored columns
pub one_list_more : {A B M : Type 0} (d : TableDef) (before : List (List ℕ)) (columns : B → List ℕ) (f : A → B)
    (xs : List A) (i : ℕ) (x : A) (lists : List (Vec ℕ M)) (stored : Vec ℕ M) → i < length xs → x ≡ get_or xs i x
    → AreStoredAt d (columns (f x)) stored.items
    → AllZip (AreStoredAt d) (before ++ map columns (map f (take i xs))) (lists_of lists)
    → AllZip (AreStoredAt d) (before ++ map columns (map f (take (i + 1) xs))) (lists_of (lists ++ stored ∷ []))
one_list_more {M = M} d before columns f xs i x lists stored l e at so_far =
    let asked = before ++ map columns (map f (take i xs)) in
    let more : asked ++ columns (f x) ∷ [] ≡ before ++ map columns (map f (take (i + 1) xs)) =
    append_assoc before (map columns (map f (take i xs))) (columns (f x) ∷ [])
    ∙ ap (λ cs. before ++ cs) (sym (columns_more columns f xs i x l e)) in
    let told : lists_of lists ++ stored.items ∷ [] ≡ lists_of (lists ++ stored ∷ []) =
    sym (map_push (λ (v : Vec ℕ M). v.items) lists stored) in
    subst (λ cs. AllZip (AreStoredAt d) cs (lists_of (lists ++ stored ∷ []))) more
    (subst (λ ks. AllZip (AreStoredAt d) (asked ++ columns (f x) ∷ []) ks) told
    (AllZip-push (AreStoredAt d) asked (lists_of lists) (columns (f x)) stored.items so_far at))

-- Lists whose elements are changed in place, one after another: the remaining changes give what all changes give.
use Rattle.std.proofs.Common.{◌≡◌, refl, ap, ◌∙◌, ℕ, zero, suc, List, [], ◌∷◌, length, map}
use Rattle.std.proofs.Common.{◌+◌, ◌<◌, ◌≤◌, arith}
use Rattle.std.specs.Prelude.{slice_index_or, slice_set, Vec}
use Rattle.tql_spec.specs.Definition.{TableDef, table_at}
use Rattle.tql_catalog.specs.Referring.{refers_to, noted_if, noted}
use Rattle.tql_catalog.specs.Sought.{lists_of}

-- the list after a function was applied from this position on
abbrev pub rest : {X : Type 0} → (X → X) → ℕ → List X → List X
rest f zero xs = map f xs
rest f (suc n) [] = []
rest f (suc n) (x ∷ xs) = x ∷ rest f n xs

rest_suc : {X : Type 0} (f : X → X) (n : ℕ) (xs : List X) (y z : X) → n < length xs
    → y ≡ f (slice_index_or xs n z) → rest f (suc n) (slice_set xs n y) ≡ rest f n xs
rest_suc f n [] y z l e = absurd (omega arith)
rest_suc f zero (x ∷ xs) y z l e = ap (λ w. w ∷ map f xs) e
rest_suc f (suc n) (x ∷ xs) y z l e = ap (λ ws. x ∷ ws) (rest_suc f n xs y z (omega arith) e)

pub rest_step : {X : Type 0} (f : X → X) (n : ℕ) (xs : List X) (y z : X) → n < length xs
    → y ≡ f (slice_index_or xs n z) → rest f (n + 1) (slice_set xs n y) ≡ rest f n xs
rest_step f n xs y z l e =
    let next : n + 1 ≡ suc n = omega arith in
    ap (λ m. rest f m (slice_set xs n y)) next ∙ rest_suc f n xs y z l e

pub rest_end : {X : Type 0} (f : X → X) (n : ℕ) (xs : List X) → length xs ≤ n → rest f n xs ≡ xs
rest_end f zero [] l = refl
rest_end f (suc n) [] l = refl
rest_end f zero (x ∷ xs) l = absurd (omega arith)
rest_end f (suc n) (x ∷ xs) l = ap (λ ws. x ∷ ws) (rest_end f n xs (omega arith))

-- the lists after the position of a table was added from this list on
abbrev pub rest_noted : TableDef → ℕ → ℕ → List TableDef → List (List ℕ) → List (List ℕ)
rest_noted d p zero ts lists = noted d p ts lists
rest_noted d p (suc n) (t ∷ ts) (list ∷ lists) = list ∷ rest_noted d p n ts lists
rest_noted d p (suc n) _ lists = lists

noted_suc : (d : TableDef) (p n : ℕ) (ts : List TableDef) (lists : List (List ℕ)) (y z : List ℕ) → n < length lists
    → n < length ts → y ≡ noted_if (refers_to (table_at ts n).name d) p (slice_index_or lists n z)
    → rest_noted d p (suc n) ts (slice_set lists n y) ≡ rest_noted d p n ts lists
noted_suc d p n [] lists y z l m e = absurd (omega arith)
noted_suc d p n (t ∷ ts) [] y z l m e = absurd (omega arith)
noted_suc d p zero (t ∷ ts) (x ∷ lists) y z l m e = ap (λ w. w ∷ noted d p ts lists) e
noted_suc d p (suc n) (t ∷ ts) (x ∷ lists) y z l m e =
    ap (λ ws. x ∷ ws) (noted_suc d p n ts lists y z (omega arith) (omega arith) e)

pub noted_step : (d : TableDef) (p n : ℕ) (ts : List TableDef) (lists : List (List ℕ)) (y z : List ℕ) → n < length lists
    → n < length ts → y ≡ noted_if (refers_to (table_at ts n).name d) p (slice_index_or lists n z)
    → rest_noted d p (n + 1) ts (slice_set lists n y) ≡ rest_noted d p n ts lists
noted_step d p n ts lists y z l m e =
    let next : n + 1 ≡ suc n = omega arith in
    ap (λ k. rest_noted d p k ts (slice_set lists n y)) next ∙ noted_suc d p n ts lists y z l m e

pub noted_end : (d : TableDef) (p n : ℕ) (ts : List TableDef) (lists : List (List ℕ)) → length lists ≤ n
    → rest_noted d p n ts lists ≡ lists
noted_end d p zero [] [] l = refl
noted_end d p zero (t ∷ ts) [] l = refl
noted_end d p zero ts (x ∷ lists) l = absurd (omega arith)
noted_end d p (suc n) [] lists l = refl
noted_end d p (suc n) (t ∷ ts) [] l = refl
noted_end d p (suc n) (t ∷ ts) (x ∷ lists) l = ap (λ ws. x ∷ ws) (noted_end d p n ts lists (omega arith))

-- ---- lists that are changed in place

-- the positions in a list
pub places_of : {A : Type 0} (lists : List (Vec ℕ A)) (n : ℕ) (v : Vec ℕ A) (z : List ℕ) → n < length lists
    → (slice_index_or lists n v).items ≡ slice_index_or (lists_of lists) n z
places_of [] n v z l = absurd (omega arith)
places_of (x ∷ lists) zero v z l = refl
places_of (x ∷ lists) (suc n) v z l = places_of lists n v z (omega arith)

-- a list is replaced by one with the same positions
pub same_places : {A : Type 0} (lists : List (Vec ℕ A)) (n : ℕ) (v new : Vec ℕ A) → n < length lists
    → new.items ≡ (slice_index_or lists n v).items → lists_of (slice_set lists n new) ≡ lists_of lists
same_places [] n v new l e = absurd (omega arith)
same_places (x ∷ lists) zero v new l e = ap (λ (w : List ℕ). w ∷ lists_of lists) e
same_places (x ∷ lists) (suc n) v new l e =
    ap (λ (ws : List (List ℕ)). x.items ∷ ws) (same_places lists n v new (omega arith) e)

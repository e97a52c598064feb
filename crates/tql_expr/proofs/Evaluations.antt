-- Evaluations one after another: the values so far, and the remaining expressions.
use Rattle.std.specs.Prelude.{◌≡◌, refl, ℕ, ◌+◌, ◌<◌, ◌≤◌, List, [], ◌∷◌, ◌++◌, map, length, slice_index_or, Option}
use Rattle.std.specs.Prelude.{Some, None}
use Rattle.std.proofs.Common.{sym, ap, subst, append_assoc, ◌∙◌, drop}
use Rattle.std.proofs.lemmas.List.{drop_more, drop_all, append-nil}
use Rattle.tql_spec.specs.Words.{with_front, map_all}
use Rattle.tql_value.specs.declared.refusal.Refusal.{Refusal}
use Rattle.tql_value.specs.declared.refusal.Refusal.TheVariants as r
use Rattle.tql_expr.specs.Evaluated.{Fails, behind}

-- ---- why there is no value

pub no_memory : {A : Type 0} (o : Option A) (e : Refusal) → e ≡ r.OutOfMemory → Fails o e
no_memory o e is = subst (Fails o) (sym is) tt

pub out_of_range : {A : Type 0} (o : Option A) (e : Refusal) → e ≡ r.ValueOutOfRange → o ≡ None → Fails o e
out_of_range o e is none = subst (Fails o) (sym is) none

-- if a part has no value, the whole has none
pub fails_with : {A B : Type 0} (o : Option A) (whole : Option B) (e : Refusal) → (o ≡ None → whole ≡ None)
    → Fails o e → Fails whole e
fails_with o whole r.OutOfMemory h f = tt
fails_with o whole r.ValueOutOfRange h f = h f
fails_with o whole _ h f = f

-- ---- lists

front_moved : {A : Type 0} (done : List A) (y : A) (rest : Option (List A))
    → behind (done ++ y ∷ []) rest ≡ behind done (with_front (Some y) rest)
front_moved done y None = refl
front_moved done y (Some ys) = ap {B = Option (List _)} (λ zs. Some zs) (append_assoc done (y ∷ []) ys)

-- the remaining expressions at an index
left_at : {X Y A : Type 0} (f : Y → Option A) (h : X → Y) (xs : List X) (i : ℕ) (x : X) → i < length xs
    → x ≡ slice_index_or xs i x
    → map_all f (map h (drop i xs)) ≡ with_front (f (h x)) (map_all f (map h (drop (i + 1) xs)))
left_at f h xs i x l is = ap (λ ys. map_all f (map h ys)) (drop_more xs i x l)
    ∙ ap (λ y. with_front (f (h y)) (map_all f (map h (drop (i + 1) xs)))) (sym is)

-- one more expression has a value
pub one_more : {X Y A : Type 0} (f : Y → Option A) (h : X
    → Y) (done made : List A) (xs : List X) (i : ℕ) (x : X) (y : A) (all : Option (List A)) → i < length xs
    → x ≡ slice_index_or xs i x
    → f (h x) ≡ Some y → made ≡ done ++ y ∷ [] → behind done (map_all f (map h (drop i xs))) ≡ all
    → behind made (map_all f (map h (drop (i + 1) xs))) ≡ all
one_more f h done made xs i x y all l is value push so_far =
    let rest = map_all f (map h (drop (i + 1) xs)) in
    ap (λ ys. behind ys rest) push ∙ front_moved done y rest ∙ (λ j. behind done (with_front (sym value j) rest))
    ∙ sym (ap (behind done) (left_at f h xs i x l is)) ∙ so_far

-- an expression has no value
pub one_lacks : {X Y A : Type 0} (f : Y → Option A) (h : X
    → Y) (done : List A) (xs : List X) (i : ℕ) (x : X) (all : Option (List A)) → i < length xs
    → x ≡ slice_index_or xs i x
    → behind done (map_all f (map h (drop i xs))) ≡ all → f (h x) ≡ None → all ≡ None
one_lacks f h done xs i x all l is so_far none =
    let rest = map_all f (map h (drop (i + 1) xs)) in
    sym so_far ∙ ap (behind done) (left_at f h xs i x l is) ∙ (λ j. behind done (with_front (none j) rest))

-- no expression remains
pub all_made : {X Y A : Type 0} (f : Y → Option A) (h : X
    → Y) (done : List A) (xs : List X) (i : ℕ) (all : Option (List A)) → length xs ≤ i
    → behind done (map_all f (map h (drop i xs))) ≡ all → all ≡ Some done
all_made f h done xs i all past so_far =
    sym so_far ∙ (λ j. behind done (map_all f (map h (drop_all i xs past j))))
    ∙ ap {B = Option (List _)} (λ ys. Some ys) (append-nil done)

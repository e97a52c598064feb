-- The rest of a line of a box, starting at one of its columns.
use Rattle.std.proofs.Common.{◌≡◌, ℕ, zero, suc, ◌+◌, ◌-◌, ◌<◌, List, [], ◌∷◌, ◌++◌, refl, sym, ◌∙◌, ap, map}
use Rattle.std.proofs.Common.{drop, length, get_or, arith, append_assoc, subst, ◌≤◌}
use Rattle.std.proofs.lemmas.List.{drop_more, drop_all}
use Rattle.std.specs.List.{concat, flat_map}
use Rattle.std.specs.Prelude.{Bool, true, false, codes}
use Rattle.tql_spec.specs.Datum.{Datum}
use Rattle.tql_spec.specs.Definition.{Name}
use Rattle.tql_result.specs.Devices.{Held}
use Rattle.tql_result.proofs.Pushing.{Sent}
use Rattle.tql_result_box.specs.declared.layout.Layout.{Layout}
use Rattle.tql_result_box.specs.Box.{laid, joined, bar, times, shown, value_width, filled}
use Rattle.tql_result_box.specs.Layouts.{first_layout}

pub laid_more : {A B : Type 0} (f : Layout → A → B) (ls : List Layout) (x : A) (xs : List A)
    → laid f ls (x ∷ xs) ≡ f (first_layout ls) x ∷ laid f (drop 1 ls) xs
laid_more f [] x xs = refl
laid_more f (l ∷ ls) x xs = refl

-- the texts from column i on are the text of that column and those of the next columns
pub laid_next : {A X : Type 0} (f : Layout → A → List ℕ) (v : X → A) (ls others : List Layout) (xs : List X) (i : ℕ)
    (x : X) (piece : List ℕ) → i < length xs → x ≡ get_or xs i x → others ≡ drop 1 ls
    → f (first_layout ls) (v x) ≡ piece
    → concat (laid f ls (map v (drop i xs))) ≡ piece ++ concat (laid f others (map v (drop (i + 1) xs)))
laid_next f v ls others xs i x piece h e d p =
    ap (λ l. concat (laid f ls (map v l))) (drop_more xs i x h ∙ ap (λ y. y ∷ drop (i + 1) xs) (sym e))
    ∙ ap concat (laid_more f ls (v x) (map v (drop (i + 1) xs)))
    ∙ ap (λ t. t ++ concat (laid f (drop 1 ls) (map v (drop (i + 1) xs)))) p
    ∙ ap (λ l. piece ++ concat (laid f l (map v (drop (i + 1) xs)))) (sym d)

-- `joined`, with `front` before the first text
abbrev pub joined_after : List ℕ → List ℕ → List (List ℕ) → List ℕ
joined_after front between [] = []
joined_after front between (t ∷ ts) = (front ++ t) ++ flat_map (λ u. between ++ u) ts

pub joined_after_none : (between : List ℕ) (ts : List (List ℕ)) → joined_after [] between ts ≡ joined between ts
joined_after_none between [] = refl
joined_after_none between (t ∷ ts) = refl

after_between : (between : List ℕ) (ts : List (List ℕ))
    → flat_map (λ u. between ++ u) ts ≡ joined_after between between ts
after_between between [] = refl
after_between between (t ∷ ts) = refl

pub joined_next : {A X : Type 0} (f : Layout → A → List ℕ) (v : X → A) (front between : List ℕ)
    (ls others : List Layout) (xs : List X) (i : ℕ) (x : X) (piece : List ℕ) → i < length xs → others ≡ drop 1 ls
    → front ++ f (first_layout ls) (v (get_or xs i x)) ≡ piece
    → joined_after front between (laid f ls (map v (drop i xs)))
    ≡ piece ++ joined_after between between (laid f others (map v (drop (i + 1) xs)))
joined_next f v front between ls others xs i x piece h d p =
    ap (λ l. joined_after front between (laid f ls (map v l))) (drop_more xs i x h)
    ∙ ap (joined_after front between) (laid_more f ls (v (get_or xs i x)) (map v (drop (i + 1) xs)))
    ∙ ap (λ t. t ++ flat_map (λ u. between ++ u) (laid f (drop 1 ls) (map v (drop (i + 1) xs)))) p
    ∙ ap (λ t. piece ++ t) (after_between between (laid f (drop 1 ls) (map v (drop (i + 1) xs))))
    ∙ ap (λ l. piece ++ joined_after between between (laid f l (map v (drop (i + 1) xs)))) (sym d)

-- equal separators give equal bars
pub bars_same : {a b : List ℕ} (ls : List Layout) (hs : List Name) → a ≡ b
    → joined a (laid (λ l h. bar l.width) ls hs) ≡ joined b (laid (λ l h. bar l.width) ls hs)
bars_same ls hs e = ap (λ t. joined t (laid (λ l h. bar l.width) ls hs)) e

-- n repetitions are one repetition and n - 1 more
pub times_more : (n : ℕ) (t : List ℕ) → 0 < n → times n t ≡ t ++ times (n - 1) t
times_more zero t h = absurd (omega arith)
times_more (suc n) t h = let same : n ≡ suc n - 1 = omega arith in ap (λ (k : ℕ). t ++ times k t) same

-- two repetitions and n more are n + 2
pub times_two : (n : ℕ) (t : List ℕ) → (t ++ t) ++ times n t ≡ times (n + 2) t
times_two n t =
    let one : n + 2 - 1 ≡ n + 1 = omega arith in
    let none : n + 1 - 1 ≡ n = omega arith in
    append_assoc t t (times n t)
    ∙ ap (λ (l : List ℕ). t ++ l)
    (ap (λ (k : ℕ). t ++ times k t) (sym none) ∙ sym (times_more (n + 1) t (omega arith)))
    ∙ ap (λ (k : ℕ). t ++ times k t) (sym one)
    ∙ sym (times_more (n + 2) t (omega arith))

-- equal remainders can be replaced
pub sent_as : {text rest others : List ℕ} {o n : Held} {b k : ℕ} → rest ≡ others → Sent text rest o n b k
    → Sent text others o n b k
sent_as {text} {o = o} {n = n} {b = b} {k = k} e s =
    let P : List ℕ → Type 0 = λ l. Sent text l o n b k in subst P e s

-- no column, no text
pub laid_none : {A B : Type 0} (f : Layout → A → B) (ls : List Layout) → laid f ls [] ≡ []
laid_none f [] = refl
laid_none f (l ∷ ls) = refl

pub laid_end : {A X B : Type 0} (f : Layout → A → B) (v : X → A) (ls : List Layout) (xs : List X) (i : ℕ)
    → length xs ≤ i → laid f ls (map v (drop i xs)) ≡ []
laid_end f v ls xs i h = ap (λ l. laid f ls (map v l)) (drop_all i xs h) ∙ laid_none f ls

-- some element of a list that is longer than i
pub some_of : {X : Type 0} (xs : List X) (i : ℕ) → i < length xs → X
some_of [] i h = absurd (omega arith)
some_of (x ∷ xs) i h = x

-- a value in its column, with the blanks on the left or on the right
pub filled_right : (w n : ℕ) (r : Bool) (d : Datum) → r ≡ true → n ≡ w - value_width d
    → times n (codes " ") ++ shown d ≡ filled w r d
filled_right w n r d side e =
    ap (λ (k : ℕ). times k (codes " ") ++ shown d) e ∙ ap (λ (b : Bool). filled w b d) (sym side)

pub filled_left : (w n : ℕ) (r : Bool) (d : Datum) → r ≡ false → n ≡ w - value_width d
    → shown d ++ times n (codes " ") ≡ filled w r d
filled_left w n r d side e =
    ap (λ (k : ℕ). shown d ++ times k (codes " ")) e ∙ ap (λ (b : Bool). filled w b d) (sym side)

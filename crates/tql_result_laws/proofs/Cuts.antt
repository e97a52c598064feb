-- Where one text ends and the next begins.
use Rattle.std.proofs.Common.{◌≡◌, ℕ, ◌<◌, List, [], ◌∷◌, ◌++◌, Bool, true, false, refl, sym, ◌∙◌, ap, inl, inr, arith}
use Rattle.std.proofs.Common.{append_assoc, length, map}
use Rattle.std.proofs.lemmas.Bool.{eqb-true, eq-eqb, cases_Bool}
use Rattle.std.specs.Prelude.{◌==◌, ◌&&◌, All}
use Rattle.std.proofs.lemmas.List.Elements.{All-head, All-rest}
use Rattle.std.specs.List.{flat_map, join_with_byte, list_all}
use Rattle.tql_spec.specs.Text.{doubled, quoted}
use Rattle.tql_result.proofs.Joining.{joined_map}

-- the parts of a conjunction of two tests
pub and_left : (a b : Bool) → (a && b) ≡ true → a ≡ true
and_left true b h = refl
and_left false b h = h

pub and_right : (a b : Bool) → (a && b) ≡ true → b ≡ true
and_right true b h = h
and_right false b h = absurd (cc)

-- the conjunction of two tests that succeed
pub and_both : (a b : Bool) → a ≡ true → b ≡ true → (a && b) ≡ true
and_both true b h k = k
and_both false b h k = h

-- a property of each element of a list
abbrev pub Each : {A : Type 0} → (A → Type 0) → List A → Type 0
Each P [] = Unit {0}
Each P (x ∷ xs) = P x × Each P xs

pub each : {A : Type 0} (P : A → Type 0) (xs : List A) → All P xs → Each P xs
each P [] h = tt
each P (x ∷ xs) h = (All-head P x xs h, each P xs (All-rest P x xs (x ∷ xs) refl h))

pub each_weaker : {A : Type 0} (P Q : A → Type 0) (weaker : (x : A) → P x → Q x) (xs : List A) → Each P xs → Each Q xs
each_weaker P Q weaker [] h = tt
each_weaker P Q weaker (x ∷ xs) h = (weaker x h.0, each_weaker P Q weaker xs h.1)

pub each_both : {A : Type 0} (P Q : A → Type 0) (xs : List A) → Each P xs → Each Q xs → Each (λ x. P x × Q x) xs
each_both P Q [] h k = tt
each_both P Q (x ∷ xs) h k = ((h.0, k.0), each_both P Q xs h.1 k.1)

-- the first byte exists and passes a test
abbrev pub begins : (ℕ → Bool) → List ℕ → Bool
begins p [] = false
begins p (b ∷ bs) = p b

pub begins_append : (p : ℕ → Bool) (w u : List ℕ) → 0 < length w → list_all p w ≡ true → begins p (w ++ u) ≡ true
begins_append p [] u some h = absurd (omega arith)
begins_append p (b ∷ w) u some h = and_left _ _ h

-- equal prefixes can be cancelled
pub cancel : (w u v : List ℕ) → w ++ u ≡ w ++ v → u ≡ v
cancel [] u v e = e
cancel (b ∷ w) u v e = let rest : w ++ u ≡ w ++ v = cc in cancel w u v rest

-- words whose bytes pass a test, each before a byte that does not
pub word_cut : (p stop : ℕ → Bool) (apart : (b : ℕ) → p b ≡ true → stop b ≡ true → ⊥) (w x u v : List ℕ)
    → list_all p w ≡ true → list_all p x ≡ true → begins stop u ≡ true → begins stop v ≡ true → w ++ u ≡ x ++ v
    → (w ≡ x) × (u ≡ v)
word_cut p stop apart [] [] u v hw hx su sv e = (refl, e)
word_cut p stop apart [] (b ∷ x) u v hw hx su sv e =
    absurd (apart b (and_left _ _ hx) (ap (begins stop) (sym e) ∙ su))
word_cut p stop apart (a ∷ w) [] u v hw hx su sv e = absurd (apart a (and_left _ _ hw) (ap (begins stop) e ∙ sv))
word_cut p stop apart (a ∷ w) (b ∷ x) u v hw hx su sv e =
    let heads : a ≡ b = cc in
    let tails : w ++ u ≡ x ++ v = cc in
    let cut = word_cut p stop apart w x u v (and_right _ _ hw) (and_right _ _ hx) su sv tails in
    let words : w ≡ x = cut.0 in
    let whole : (a ∷ w) ≡ (b ∷ x) = cc in (whole, cut.1)

-- ---- texts in quotes

-- bytes that do not begin with the quote
abbrev pub NoQuote : ℕ → List ℕ → Type 0
NoQuote q u = (w : List ℕ) → u ≡ q ∷ w → ⊥

-- bytes that begin with a different byte
pub no_quote : (stop : ℕ → Bool) (q : ℕ) → stop q ≡ false → (u : List ℕ) → begins stop u ≡ true → NoQuote q u
no_quote stop q other u s w e = let yes : stop q ≡ true = ap (begins stop) (sym e) ∙ s in absurd (cc)

doubled_hit : (q x : ℕ) (xs u : List ℕ) → (x == q) ≡ true → doubled q (x ∷ xs) ++ u ≡ x ∷ x ∷ (doubled q xs ++ u)
doubled_hit q x xs u e = rw e refl

doubled_miss : (q x : ℕ) (xs u : List ℕ) → (x == q) ≡ false → doubled q (x ∷ xs) ++ u ≡ x ∷ (doubled q xs ++ u)
doubled_miss q x xs u e = rw e refl

-- a text cannot end where the other continues
doubled_ends : (q y : ℕ) (ys u v : List ℕ) → NoQuote q u → q ∷ u ≡ doubled q (y ∷ ys) ++ (q ∷ v) → ⊥
doubled_ends q y ys u v nu e = elim (cases_Bool (y == q)) [
  | inl hit ↦
      let same : y ≡ q = eqb-true y q hit in
      let long : q ∷ u ≡ y ∷ y ∷ (doubled q ys ++ (q ∷ v)) = e ∙ doubled_hit q y ys (q ∷ v) hit in
      nu (doubled q ys ++ (q ∷ v)) (cc)
  | inr miss ↦
      let long : q ∷ u ≡ y ∷ (doubled q ys ++ (q ∷ v)) = e ∙ doubled_miss q y ys (q ∷ v) miss in
      let same : y ≡ q = cc in
      let hit : (y == q) ≡ true = eq-eqb y q same in absurd (cc)
]

-- one more byte on both sides
doubled_more : (q x y : ℕ) (xs ys u v : List ℕ) → NoQuote q u → NoQuote q v
    → doubled q (x ∷ xs) ++ (q ∷ u) ≡ doubled q (y ∷ ys) ++ (q ∷ v)
    → (x ≡ y) × (doubled q xs ++ (q ∷ u) ≡ doubled q ys ++ (q ∷ v))
doubled_more q x y xs ys u v nu nv e = elim (cases_Bool (x == q)) [
  | inl hit ↦ elim (cases_Bool (y == q)) [
    | inl also ↦
        let long : x ∷ x ∷ (doubled q xs ++ (q ∷ u)) ≡ y ∷ y ∷ (doubled q ys ++ (q ∷ v)) =
        sym (doubled_hit q x xs (q ∷ u) hit) ∙ e ∙ doubled_hit q y ys (q ∷ v) also in
        (cc, cc)
    | inr miss ↦
        let long : x ∷ x ∷ (doubled q xs ++ (q ∷ u)) ≡ y ∷ (doubled q ys ++ (q ∷ v)) =
        sym (doubled_hit q x xs (q ∷ u) hit) ∙ e ∙ doubled_miss q y ys (q ∷ v) miss in
        let same : x ≡ y = cc in
        let tests : (x == q) ≡ (y == q) = ap (λ (b : ℕ). b == q) same in absurd (cc)
  ]
  | inr miss ↦ elim (cases_Bool (y == q)) [
    | inl hit ↦
        let long : x ∷ (doubled q xs ++ (q ∷ u)) ≡ y ∷ y ∷ (doubled q ys ++ (q ∷ v)) =
        sym (doubled_miss q x xs (q ∷ u) miss) ∙ e ∙ doubled_hit q y ys (q ∷ v) hit in
        let same : x ≡ y = cc in
        let tests : (x == q) ≡ (y == q) = ap (λ (b : ℕ). b == q) same in absurd (cc)
    | inr also ↦
        let long : x ∷ (doubled q xs ++ (q ∷ u)) ≡ y ∷ (doubled q ys ++ (q ∷ v)) =
        sym (doubled_miss q x xs (q ∷ u) miss) ∙ e ∙ doubled_miss q y ys (q ∷ v) also in
        (cc, cc)
  ]
]

-- texts with doubled quotes, each closed by a quote, can be cut off
pub doubled_cut : (q : ℕ) (xs ys u v : List ℕ) → NoQuote q u → NoQuote q v
    → doubled q xs ++ (q ∷ u) ≡ doubled q ys ++ (q ∷ v) → (xs ≡ ys) × (u ≡ v)
doubled_cut q [] [] u v nu nv e = (refl, cc)
doubled_cut q [] (y ∷ ys) u v nu nv e = absurd (doubled_ends q y ys u v nu e)
doubled_cut q (x ∷ xs) [] u v nu nv e = absurd (doubled_ends q x xs v u nv (sym e))
doubled_cut q (x ∷ xs) (y ∷ ys) u v nu nv e =
    let more = doubled_more q x y xs ys u v nu nv e in
    let cut = doubled_cut q xs ys u v nu nv more.1 in
    let first : x ≡ y = more.0 in
    let others : xs ≡ ys = cut.0 in
    let whole : (x ∷ xs) ≡ (y ∷ ys) = cc in (whole, cut.1)

-- quoted texts, each before a byte other than the quote, can be cut off
pub quoted_cut : (q : ℕ) (s t u v : List ℕ) → NoQuote q u → NoQuote q v → quoted q s ++ u ≡ quoted q t ++ v
    → (s ≡ t) × (u ≡ v)
quoted_cut q s t u v nu nv e =
    let long : q ∷ (doubled q s ++ (q ∷ u)) ≡ q ∷ (doubled q t ++ (q ∷ v)) =
    ap (λ l. q ∷ l) (sym (append_assoc (doubled q s) (q ∷ []) u)) ∙ e
    ∙ ap (λ l. q ∷ l) (append_assoc (doubled q t) (q ∷ []) v) in
    let rest : doubled q s ++ (q ∷ u) ≡ doubled q t ++ (q ∷ v) = cc in
    doubled_cut q s t u v nu nv rest

-- ---- texts of the elements of a list

-- texts that can be cut off, each before a byte that ends them
abbrev pub Cuts : {A : Type 0} → (A → Type 0) → (A → List ℕ) → (ℕ → Bool) → Type 0
Cuts {A} P f stop = (a b : A) (u v : List ℕ) → P a → P b → begins stop u ≡ true → begins stop v ≡ true
    → f a ++ u ≡ f b ++ v → (a ≡ b) × (u ≡ v)

-- the bytes after a text begin with a byte that ends it
tail_stops : {A : Type 0} (f : A → List ℕ) (stop : ℕ → Bool) (s e : ℕ) → stop s ≡ true → stop e ≡ true
    → (xs : List A) (u : List ℕ) → begins stop (flat_map (λ y. s ∷ f y) xs ++ (e ∷ u)) ≡ true
tail_stops f stop s e hs he [] u = he
tail_stops f stop s e hs he (x ∷ xs) u = hs

-- texts, each after a separator, with a different byte at the end
pub tails_cut : {A : Type 0} (P : A → Type 0) (f : A → List ℕ) (stop : ℕ → Bool) (s e : ℕ) → stop s ≡ true
    → stop e ≡ true → (s ≡ e → ⊥) → Cuts P f stop → (xs ys : List A) (u v : List ℕ) → Each P xs → Each P ys
    → flat_map (λ y. s ∷ f y) xs ++ (e ∷ u) ≡ flat_map (λ y. s ∷ f y) ys ++ (e ∷ v) → (xs ≡ ys) × (u ≡ v)
tails_cut P f stop s e hs he ne cut [] [] u v hx hy eq = (refl, cc)
tails_cut P f stop s e hs he ne cut [] (y ∷ ys) u v hx hy eq = let same : s ≡ e = cc in absurd (ne same)
tails_cut P f stop s e hs he ne cut (x ∷ xs) [] u v hx hy eq = let same : s ≡ e = cc in absurd (ne same)
tails_cut P f stop s e hs he ne cut (x ∷ xs) (y ∷ ys) u v hx hy eq =
    let after = flat_map (λ z. s ∷ f z) in
    let long : s ∷ (f x ++ (after xs ++ (e ∷ u))) ≡ s ∷ (f y ++ (after ys ++ (e ∷ v))) =
    ap (λ l. s ∷ l) (sym (append_assoc (f x) (after xs) (e ∷ u))) ∙ eq
    ∙ ap (λ l. s ∷ l) (append_assoc (f y) (after ys) (e ∷ v)) in
    let rest : f x ++ (after xs ++ (e ∷ u)) ≡ f y ++ (after ys ++ (e ∷ v)) = cc in
    let here = cut x y (after xs ++ (e ∷ u)) (after ys ++ (e ∷ v)) hx.0 hy.0 (tail_stops f stop s e hs he xs u)
    (tail_stops f stop s e hs he ys v) rest in
    let behind = tails_cut P f stop s e hs he ne cut xs ys u v hx.1 hy.1 here.1 in
    let first : x ≡ y = here.0 in
    let others : xs ≡ ys = behind.0 in
    let whole : (x ∷ xs) ≡ (y ∷ ys) = cc in (whole, behind.1)

-- a non-empty list of separated texts
pub joined_cut : {A : Type 0} (P : A → Type 0) (f : A → List ℕ) (stop : ℕ → Bool) (s e : ℕ) → stop s ≡ true
    → stop e ≡ true → (s ≡ e → ⊥) → Cuts P f stop → (xs ys : List A) (u v : List ℕ) → 0 < length xs → 0 < length ys
    → Each P xs → Each P ys
    → join_with_byte s (map f xs) ++ (e ∷ u) ≡ join_with_byte s (map f ys) ++ (e ∷ v) → (xs ≡ ys) × (u ≡ v)
joined_cut P f stop s e hs he ne cut [] ys u v lx ly hx hy eq = absurd (omega arith)
joined_cut P f stop s e hs he ne cut (x ∷ xs) [] u v lx ly hx hy eq = absurd (omega arith)
joined_cut P f stop s e hs he ne cut (x ∷ xs) (y ∷ ys) u v lx ly hx hy eq =
    let after = flat_map (λ z. s ∷ f z) in
    let rest : f x ++ (after xs ++ (e ∷ u)) ≡ f y ++ (after ys ++ (e ∷ v)) =
    sym (append_assoc (f x) (after xs) (e ∷ u)) ∙ ap (λ l. l ++ (e ∷ u)) (sym (joined_map f s x xs)) ∙ eq
    ∙ ap (λ l. l ++ (e ∷ v)) (joined_map f s y ys) ∙ append_assoc (f y) (after ys) (e ∷ v) in
    let here = cut x y (after xs ++ (e ∷ u)) (after ys ++ (e ∷ v)) hx.0 hy.0 (tail_stops f stop s e hs he xs u)
    (tail_stops f stop s e hs he ys v) rest in
    let behind = tails_cut P f stop s e hs he ne cut xs ys u v hx.1 hy.1 here.1 in
    let first : x ≡ y = here.0 in
    let others : xs ≡ ys = behind.0 in
    let whole : (x ∷ xs) ≡ (y ∷ ys) = cc in (whole, behind.1)

-- ---- lines

-- the line of a row, with its end
abbrev pub line_of : {A : Type 0} → (A → List ℕ) → ℕ → List ℕ → List A → List ℕ
line_of f s ending r = join_with_byte s (map f r) ++ ending

-- a non-empty row whose values can each be cut off
abbrev pub IsRow : {A : Type 0} → (A → Type 0) → List A → Type 0
IsRow P r = (0 < length r) × Each P r

-- bytes with which no line begins
abbrev pub NoLine : {A : Type 0} → (A → Type 0) → (A → List ℕ) → ℕ → List ℕ → List ℕ → Type 0
NoLine {A} P f s ending c = (r : List A) (u : List ℕ) → IsRow P r → line_of f s ending r ++ u ≡ c → ⊥

pub lines_cut : {A : Type 0} (P : A → Type 0) (f : A → List ℕ) (stop : ℕ → Bool) (s e : ℕ) (end : List ℕ)
    → stop s ≡ true → stop e ≡ true → (s ≡ e → ⊥) → Cuts P f stop → (rs qs : List (List A)) (c d : List ℕ)
    → Each (IsRow P) rs → Each (IsRow P) qs → NoLine P f s (e ∷ end) c → NoLine P f s (e ∷ end) d
    → flat_map (line_of f s (e ∷ end)) rs ++ c ≡ flat_map (line_of f s (e ∷ end)) qs ++ d → (rs ≡ qs) × (c ≡ d)
lines_cut P f stop s e end hs he ne cut [] [] c d hr hq nc nd eq = (refl, eq)
lines_cut P f stop s e end hs he ne cut [] (q ∷ qs) c d hr hq nc nd eq =
    absurd (nc q (flat_map (line_of f s (e ∷ end)) qs ++ d) hq.0
    (sym (append_assoc (line_of f s (e ∷ end) q) (flat_map (line_of f s (e ∷ end)) qs) d) ∙ sym eq))
lines_cut P f stop s e end hs he ne cut (r ∷ rs) [] c d hr hq nc nd eq =
    absurd (nd r (flat_map (line_of f s (e ∷ end)) rs ++ c) hr.0
    (sym (append_assoc (line_of f s (e ∷ end) r) (flat_map (line_of f s (e ∷ end)) rs) c) ∙ eq))
lines_cut P f stop s e end hs he ne cut (r ∷ rs) (q ∷ qs) c d hr hq nc nd eq =
    let lines = flat_map (line_of f s (e ∷ end)) in
    let after_r = lines rs ++ c in
    let after_q = lines qs ++ d in
    let join_r = join_with_byte s (map f r) in
    let join_q = join_with_byte s (map f q) in
    let rest : join_r ++ (e ∷ (end ++ after_r)) ≡ join_q ++ (e ∷ (end ++ after_q)) =
    sym (append_assoc (join_r ++ (e ∷ end)) (lines rs) c ∙ append_assoc join_r (e ∷ end) after_r) ∙ eq
    ∙ append_assoc (join_q ++ (e ∷ end)) (lines qs) d ∙ append_assoc join_q (e ∷ end) after_q in
    let here = joined_cut P f stop s e hs he ne cut r q (end ++ after_r) (end ++ after_q) hr.0.0 hq.0.0 hr.0.1 hq.0.1
    rest in
    let others : after_r ≡ after_q = cancel end after_r after_q here.1 in
    let behind = lines_cut P f stop s e end hs he ne cut rs qs c d hr.1 hq.1 nc nd others in
    let first : r ≡ q = here.0 in
    let more : rs ≡ qs = behind.0 in
    let whole : (r ∷ rs) ≡ (q ∷ qs) = cc in (whole, behind.1)

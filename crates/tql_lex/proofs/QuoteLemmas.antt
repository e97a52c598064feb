-- Where a quote ends.
use Rattle.std.proofs.Common.{◌≡◌, ℕ, suc, ◌+◌, ◌<◌, ◌==◌, Bool, true, false, List, length, get_or, drop, Option}
use Rattle.std.proofs.Common.{Some, None, refl, ap, ◌∙◌, arith, drop-cons, add-one, sym, ◌≢◌, ◌≤◌, [], ◌∷◌, ◌++◌}
use Rattle.std.proofs.Common.{append_assoc}
use Rattle.std.proofs.lemmas.Bool.{eq-eqb, eqb-true, ne_eqb}
use Rattle.tql_spec.specs.FirstToken.{quote_end, one_more, content_from, without_quote}

abbrev pub plus : ℕ → Option ℕ → Option ℕ
plus i None = None
plus i (Some n) = Some (i + n)

plus_more : (i : ℕ) (o : Option ℕ) → plus i (one_more o) ≡ plus (i + 1) o
plus_more i None = refl
plus_more i (Some n) = ap Some (omega arith)

pub quote_goes_on : (whole : Option ℕ) (q : ℕ) (bs : List ℕ) (i : ℕ) → i < length bs
    → whole ≡ plus i (quote_end q false (drop i bs))
    → whole ≡ plus (i + 1) (quote_end q (get_or bs i 0 == q) (drop (i + 1) bs))
quote_goes_on whole q bs i lt h = h ∙ ap (λ (z : List ℕ). plus i (quote_end q false z)) (drop-cons bs i 0 lt)
    ∙ plus_more i (quote_end q (get_or bs i 0 == q) (drop (suc i) bs)) ∙ rw add-one refl

pub quote_doubled : (whole : Option ℕ) (q : ℕ) (bs : List ℕ) (i : ℕ) → i < length bs → (get_or bs i 0 == q) ≡ true
    → whole ≡ plus i (quote_end q true (drop i bs)) → whole ≡ plus (i + 1) (quote_end q false (drop (i + 1) bs))
quote_doubled whole q bs i lt e h = h ∙ ap (λ (z : List ℕ). plus i (quote_end q true z)) (drop-cons bs i 0 lt)
    ∙ rw e (plus_more i (quote_end q false (drop (suc i) bs)) ∙ rw add-one refl)

-- ---- the content of quotes

pub without_none : (q : ℕ) (bs : List ℕ) → ((rest : List ℕ) → bs ≡ q ∷ rest → ⊥) → bs ≡ without_quote q bs
without_none q [] h = refl
without_none q (b ∷ bs) h = rw (ne_eqb b q (λ e. h bs (ap (λ (z : ℕ). z ∷ bs) e))) refl

content_front : (q : ℕ) (before behind : List ℕ) → ((i : ℕ) → i < length before → get_or before i 0 ≡ q → ⊥)
    → content_from q false (before ++ q ∷ behind) ≡ before ++ content_from q true behind
content_front q [] behind h = rw (eq-eqb q q refl) refl
content_front q (b ∷ before) behind h =
    let here : (b == q) ≡ false = ne_eqb b q (h 0 (omega arith)) in
    let later : (i : ℕ) → i < length before → get_or before i 0 ≡ q → ⊥ = λ i lt e. h (suc i) (omega arith) e in
    rw here (ap (λ (z : List ℕ). b ∷ z) (content_front q before behind later))

content_end : (q : ℕ) (rest : List ℕ) → ((i : ℕ) → i < length rest → get_or rest i 0 ≡ q → ⊥)
    → content_from q false rest ≡ rest
content_end q [] h = refl
content_end q (b ∷ rest) h =
    let here : (b == q) ≡ false = ne_eqb b q (h 0 (omega arith)) in
    let later : (i : ℕ) → i < length rest → get_or rest i 0 ≡ q → ⊥ = λ i lt e. h (suc i) (omega arith) e in
    rw here (ap (λ (z : List ℕ). b ∷ z) (content_end q rest later))

content_doubled : (q : ℕ) (behind : List ℕ) → length (without_quote q behind) < length behind
    → content_from q true behind ≡ q ∷ content_from q false (without_quote q behind)
content_doubled q [] lt = absurd (omega arith)
content_doubled q (b ∷ bs) lt = by (b == q) refl lt where
  by : (t : Bool) → (b == q) ≡ t → length (without_quote q (b ∷ bs)) < length (b ∷ bs)
      → b ∷ content_from q false bs ≡ q ∷ content_from q false (without_quote q (b ∷ bs))
  by true e lt = rw e (ap (λ (z : ℕ). z ∷ content_from q false bs) (eqb-true b q e))
  by false e lt = absurd (let no : suc (length bs) < suc (length bs) = rw e at lt in omega arith)

content_single : (q : ℕ) (behind : List ℕ) → length behind ≤ length (without_quote q behind)
    → content_from q true behind ≡ content_from q false (without_quote q behind)
content_single q [] le = refl
content_single q (b ∷ bs) le = by (b == q) refl le where
  by : (t : Bool) → (b == q) ≡ t → length (b ∷ bs) ≤ length (without_quote q (b ∷ bs))
      → b ∷ content_from q false bs ≡ content_from q false (without_quote q (b ∷ bs))
  by true e le = absurd (let no : suc (length bs) ≤ length bs = rw e at le in omega arith)
  by false e le = rw (e, e) refl

-- the quote that ends a part was the first of a doubled quote
pub goes_on_doubled : (q : ℕ) (whole done rest before behind : List ℕ) → whole ≡ done ++ content_from q false rest
    → (rest ≡ before ++ q ∷ behind) × ((i : ℕ) → i < length before → get_or before i 0 ≢ q)
    → length (without_quote q behind) < length behind
    → whole ≡ ((done ++ before) ++ q ∷ []) ++ content_from q false (without_quote q behind)
goes_on_doubled q whole done rest before behind e split lt =
    e ∙ ap (λ (z : List ℕ). done ++ content_from q false z) split.0
    ∙ ap (λ (z : List ℕ). done ++ z) (content_front q before behind split.1
    ∙ ap (λ (z : List ℕ). before ++ z) (content_doubled q behind lt))
    ∙ sym (append_assoc done before (q ∷ content_from q false (without_quote q behind)))
    ∙ sym (append_assoc (done ++ before) (q ∷ []) (content_from q false (without_quote q behind)))

-- the quote that ends a part was a single quote
pub goes_on_single : (q : ℕ) (whole done rest before behind : List ℕ) → whole ≡ done ++ content_from q false rest
    → (rest ≡ before ++ q ∷ behind) × ((i : ℕ) → i < length before → get_or before i 0 ≢ q)
    → length behind ≤ length (without_quote q behind)
    → whole ≡ (done ++ before) ++ content_from q false (without_quote q behind)
goes_on_single q whole done rest before behind e split le =
    e ∙ ap (λ (z : List ℕ). done ++ content_from q false z) split.0
    ∙ ap (λ (z : List ℕ). done ++ z) (content_front q before behind split.1
    ∙ ap (λ (z : List ℕ). before ++ z) (content_single q behind le))
    ∙ sym (append_assoc done before (content_from q false (without_quote q behind)))

pub all_content : (q : ℕ) (whole done rest : List ℕ) → whole ≡ done ++ content_from q false rest
    → ((i : ℕ) → i < length rest → get_or rest i 0 ≢ q) → done ++ rest ≡ whole
all_content q whole done rest e none = sym (e ∙ ap (λ (z : List ℕ). done ++ z) (content_end q rest none))

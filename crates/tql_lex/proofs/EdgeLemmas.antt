-- A token begins and ends with an ASCII byte, so a text may be cut there.
use Rattle.std.proofs.Common.{◌≡◌, ℕ, ◌+◌, ◌<◌, ◌≤◌, ◌==◌, Bool, true, false, List, [], ◌∷◌, ◌++◌, length, get_or}
use Rattle.std.proofs.Common.{take, drop, refl, sym, ap, ◌∙◌, subst, arith, append_assoc, length-append, length-drop}
use Rattle.std.proofs.Common.{length-take, ◌-◌, inl, inr}
use Rattle.std.specs.Prelude.{nat_le, ◌&&◌, ◌||◌, slice_range}
use Rattle.std.specs.List.{list_all}
use Rattle.std.specs.Str.{IsUtf8, IsCharBoundary}
use Rattle.std.proofs.lemmas.Str.{IsCharBoundary-before_ascii, IsCharBoundary-after_ascii}
use Rattle.std.proofs.lemmas.List.{get_or-drop, get_or_at}
use Rattle.std.proofs.lemmas.Bool.{leb-true, eqb-true, and_parts, or_cases}
use Rattle.tql_spec.specs.Calendar.{is_digit}
use Rattle.tql_spec.specs.Text.{doubled}
use Rattle.tql_spec.specs.Token.{Open, Close, Comma, Dot, PlusSign, MinusSign, Star, EqualSign, UnequalSign, LessSign}
use Rattle.tql_spec.specs.Token.{AtMostSign, MoreSign, AtLeastSign, Spells, is_letter, is_word_byte}
use Rattle.tql_spec.specs.FirstToken.{Sort, WordSort, NameSort, NumberSort, QuoteSort, SignSort, content, token_with}
use Rattle.tql_spec.specs.FirstToken.{first_token}
use Rattle.tql_spec.proofs.TokenLaws.{read, first_token_sound}

-- a text with a first and a last byte, both ASCII
record HasAsciiEnds (text : List ℕ) : Type 0 where
  first : ℕ
  behind : List ℕ
  front : List ℕ
  last : ℕ
  from_first : text ≡ first ∷ behind
  to_last : text ≡ front ++ last ∷ []
  first_small : first < 128
  last_small : last < 128

letter_small : (b : ℕ) → is_letter b ≡ true → b < 128
letter_small b e =
    elim (or_cases ((nat_le 65 b && nat_le b 90) || (nat_le 97 b && nat_le b 122)) (b == 95) e) [
      | inr u ↦ let h = eqb-true b 95 u in omega arith
      | inl x ↦ elim (or_cases (nat_le 65 b && nat_le b 90) (nat_le 97 b && nat_le b 122) x) [
        | inl u ↦ let h = leb-true b 90 (and_parts (nat_le 65 b) (nat_le b 90) u).1 in omega arith
        | inr l ↦ let h = leb-true b 122 (and_parts (nat_le 97 b) (nat_le b 122) l).1 in omega arith
      ]
    ]

digit_small : (b : ℕ) → is_digit b ≡ true → b < 128
digit_small b e = let h = leb-true b 57 (and_parts (nat_le 48 b) (nat_le b 57) e).1 in omega arith

word_byte_small : (b : ℕ) → is_word_byte b ≡ true → b < 128
word_byte_small b e = elim (or_cases (is_letter b) (is_digit b) e)
    [ inl l ↦ letter_small b l | inr d ↦ digit_small b d ]

record Last (p : ℕ → Bool) (text : List ℕ) : Type 0 where
  front : List ℕ
  last : ℕ
  to_last : text ≡ front ++ last ∷ []
  passes : p last ≡ true

last_of_run : (p : ℕ → Bool) (b : ℕ) (bs : List ℕ) → p b ≡ true → list_all p bs ≡ true → Last p (b ∷ bs)
last_of_run p b [] e all = record { front = []; last = b; to_last = refl; passes = e }
last_of_run p b (c ∷ bs) e all =
    let h = and_parts (p c) (list_all p bs) all in
    let r = last_of_run p c bs h.0 h.1 in
    record { front = b ∷ r.front; last = r.last; to_last = ap (λ (z : List ℕ). b ∷ z) r.to_last; passes = r.passes }

symbol_ends : (a b : ℕ) → a < 128 → b < 128 → HasAsciiEnds (a ∷ b ∷ [])
symbol_ends a b la lb = record {
  first = a;
  behind = b ∷ [];
  front = a ∷ [];
  last = b;
  from_first = refl;
  to_last = refl;
  first_small = la;
  last_small = lb;
}

single_ends : (a : ℕ) → a < 128 → HasAsciiEnds (a ∷ [])
single_ends a la = record {
  first = a;
  behind = [];
  front = [];
  last = a;
  from_first = refl;
  to_last = refl;
  first_small = la;
  last_small = la;
}

quote_ends : (q : ℕ) (t : List ℕ) → q < 128 → HasAsciiEnds (q ∷ doubled q t ++ q ∷ [])
quote_ends q t l = record {
  first = q;
  behind = doubled q t ++ q ∷ [];
  front = q ∷ doubled q t;
  last = q;
  from_first = refl;
  to_last = refl;
  first_small = l;
  last_small = l;
}

ascii_ends : (s : Sort) (text : List ℕ) → Spells (token_with s text) text → HasAsciiEnds text
ascii_ends WordSort [] h = absurd (let no : false ≡ true = h.0 in cc)
ascii_ends WordSort (b ∷ bs) h =
    let k = and_parts (is_letter b) (list_all is_word_byte bs) h.0 in
    let r = last_of_run is_word_byte b bs (rw k.0 refl) k.1 in
    record {
      first = b;
      behind = bs;
      front = r.front;
      last = r.last;
      from_first = refl;
      to_last = r.to_last;
      first_small = letter_small b k.0;
      last_small = word_byte_small r.last r.passes;
    }
ascii_ends NumberSort [] h = absurd (let no : false ≡ true = h.0 in cc)
ascii_ends NumberSort (b ∷ bs) h =
    let k = and_parts (is_digit b) (list_all is_digit bs) h.0 in
    let r = last_of_run is_digit b bs k.0 k.1 in
    record {
      first = b;
      behind = bs;
      front = r.front;
      last = r.last;
      from_first = refl;
      to_last = r.to_last;
      first_small = digit_small b k.0;
      last_small = digit_small r.last r.passes;
    }
ascii_ends NameSort text h = subst HasAsciiEnds (sym h.1) (quote_ends 34 (content 34 text) (omega arith))
ascii_ends QuoteSort text h = subst HasAsciiEnds (sym h) (quote_ends 39 (content 39 text) (omega arith))
ascii_ends (SignSort Open) text h = subst HasAsciiEnds (sym h) (single_ends 40 (omega arith))
ascii_ends (SignSort Close) text h = subst HasAsciiEnds (sym h) (single_ends 41 (omega arith))
ascii_ends (SignSort Comma) text h = subst HasAsciiEnds (sym h) (single_ends 44 (omega arith))
ascii_ends (SignSort Dot) text h = subst HasAsciiEnds (sym h) (single_ends 46 (omega arith))
ascii_ends (SignSort PlusSign) text h = subst HasAsciiEnds (sym h) (single_ends 43 (omega arith))
ascii_ends (SignSort MinusSign) text h = subst HasAsciiEnds (sym h) (single_ends 45 (omega arith))
ascii_ends (SignSort Star) text h = subst HasAsciiEnds (sym h) (single_ends 42 (omega arith))
ascii_ends (SignSort EqualSign) text h = subst HasAsciiEnds (sym h) (single_ends 61 (omega arith))
ascii_ends (SignSort UnequalSign) text h = subst HasAsciiEnds (sym h) (symbol_ends 60 62 (omega arith) (omega arith))
ascii_ends (SignSort LessSign) text h = subst HasAsciiEnds (sym h) (single_ends 60 (omega arith))
ascii_ends (SignSort AtMostSign) text h = subst HasAsciiEnds (sym h) (symbol_ends 60 61 (omega arith) (omega arith))
ascii_ends (SignSort MoreSign) text h = subst HasAsciiEnds (sym h) (single_ends 62 (omega arith))
ascii_ends (SignSort AtLeastSign) text h = subst HasAsciiEnds (sym h) (symbol_ends 62 61 (omega arith) (omega arith))

-- the edges of a token in a text
pub record TokenEdges (text : List ℕ) (start n : ℕ) : Type 0 where
  pub some : 0 < n
  pub within : start + n ≤ length text
  pub before : IsCharBoundary text start
  pub behind : IsCharBoundary text (start + n)

pub token_edges : (text : List ℕ) (start : ℕ) (s : Sort) (n : ℕ) → IsUtf8 text → start ≤ length text
    → first_token (drop start text) ≡ read s n → TokenEdges text start n
token_edges text start s n utf8 le e =
    let r = first_token_sound (drop start text) s n e in
    let a = ascii_ends s r.text r.spelled in
    let size : length a.front + 1 ≡ n =
    omega (arith, length-append a.front (a.last ∷ []), ap length a.to_last, r.size) in
    let fits : start + n ≤ length text =
    omega (arith, length-drop start text, ap length r.parts, length-append r.text r.rest, r.size) in
    let here : get_or text (start + 0) 0 ≡ a.first = sym (get_or-drop start text 0 0)
    ∙ ap (λ (z : List ℕ). get_or z 0 0) (r.parts ∙ ap (λ (z : List ℕ). z ++ r.rest) a.from_first) in
    let there : get_or text (start + length a.front) 0 ≡ a.last =
    sym (get_or-drop start text (length a.front) 0)
    ∙ ap (λ (z : List ℕ). get_or z (length a.front) 0) (r.parts ∙ ap (λ (z : List ℕ). z ++ r.rest) a.to_last
    ∙ append_assoc a.front (a.last ∷ []) r.rest)
    ∙ get_or_at a.front a.last r.rest 0 (length a.front) refl in
    let at : start + 0 ≡ start = omega arith in
    let small : get_or text start 0 < 128 =
    subst (λ (k : ℕ). get_or text k 0 < 128) at (subst (λ (k : ℕ). k < 128) (sym here) a.first_small) in
    let small_too : get_or text (start + length a.front) 0 < 128 =
    subst (λ (k : ℕ). k < 128) (sym there) a.last_small in
    let end : (start + length a.front) + 1 ≡ start + n = omega arith in
    record {
      some = omega arith;
      within = fits;
      before = IsCharBoundary-before_ascii text start (omega arith) small;
      behind = subst (IsCharBoundary text) end
          (IsCharBoundary-after_ascii text (start + length a.front) utf8 (omega arith) small_too);
    }

pub edges_of : (text bytes left : List ℕ) (start : ℕ) (s : Sort) (n : ℕ) → IsUtf8 text → start ≤ length text
    → bytes ≡ text → left ≡ drop start bytes → read s n ≡ first_token left → TokenEdges text start n
edges_of text bytes left start s n utf8 le same back e =
    token_edges text start s n utf8 le (sym (e ∙ ap first_token (back ∙ ap (drop start) same)))

pub token_text : (text bytes left result : List ℕ) (start : ℕ) (s : Sort) (n : ℕ) → TokenEdges text start n
    → bytes ≡ text → left ≡ drop start bytes → read s n ≡ first_token left → result ≡ slice_range text start (start + n)
    → (0 < length result) × (start + length result ≤ length text) × (result ≡ take (length result) (drop start text))
    × (first_token (drop start text) ≡ read s (length result))
token_text text bytes left result start s n p same back e is =
    let d : (start + n) - start ≡ n = omega arith in
    let whole : result ≡ take n (drop start text) = is ∙ ap (λ (k : ℕ). take k (drop start text)) d in
    let size : length result ≡ n =
    omega (arith, ap length whole, length-take n (drop start text), length-drop start text, p.within) in (
      omega (arith, p.some),
      omega (arith, p.within),
      whole ∙ ap (λ (k : ℕ). take k (drop start text)) (sym size),
      sym (e ∙ ap first_token (back ∙ ap (drop start) same)) ∙ ap (read s) (sym size),
    )
